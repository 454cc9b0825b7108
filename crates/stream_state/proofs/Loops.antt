-- What the loops that let messages go have left after each turn.
use Rattle.std.proofs.Common.{◌≡◌, ℕ, ◌+◌, ◌<◌, ◌≤◌, ◌==◌, ◌&&◌, not, Bool, true, false, Option, Some, None, List, [], length, get_or, take, refl, sym, ap, ◌∙◌, arith, subst}
use Rattle.std.specs.Prelude.{find, is_some, nat_le, option_map}
use Rattle.std.specs.Option.{option_or}
use Rattle.std.proofs.lemmas.List.{take_more}
use Rattle.js_base.specs.Bytes.{Bytes}
use Rattle.js_model.specs.declared.stream.Message.{Message}
use Rattle.js_model.specs.declared.stream.Stream.{Stream}
use Rattle.js_model.specs.Advance.{young}
use Rattle.js_model.specs.Events.{message_at}
use Rattle.js_model.specs.Streams.{only}
use Rattle.js_model.specs.Trim.{trim}
use Rattle.retention.specs.Over.{is_over_on, next_over, over_stream, over_subject}
use Rattle.retention.specs.Laws.{LawWithin, LawWithout}
use Rattle.followed_stream.specs.Attended.{without_seq, without_seqs, IsAttended}
use Rattle.js_model.proofs.Members.{IsIn, in_part}
use Rattle.js_model.proofs.Parts.{filter_part}
use Rattle.stored_stream.specs.Selecting.{next_passing}
use Rattle.stored_stream.proofs.Finding.{fails_before, find_from}
use Rattle.stored_stream.proofs.Limiting.{no_subject, over_on_less}
use Rattle.followed_stream.proofs.Attending.{coherent, leaves_none, leaves_more, Leaves}
use Rattle.followed_stream.proofs.Going.{trim_without, without_none, without_one_more}
use Rattle.stored_stream.proofs.Purges.{take_long}

-- messages that are too old have gone
pub record Ages (now : ℕ) (old new : Stream) : Type 0 where
  pub leaves : Leaves old new
  pub young : young new now ≡ young old now

pub ages_none : (now : ℕ) (s : Stream) → IsAttended s → Ages now s s
ages_none now s attended = record { leaves = leaves_none s attended; young = refl }

pub ages_more : (now n : ℕ) (old mid new : Stream) → Ages now old mid → young (without_seq n mid) now ≡ young mid now → new ≡ without_seq n mid → IsAttended new → Ages now old new
ages_more now n old mid new h same is attended = record {
  leaves = leaves_more n old mid new h.leaves is attended;
  young = ap (λ (s : Stream). young s now) is ∙ same ∙ h.young;
}

pub ages_all : (now : ℕ) (old new : Stream) → Ages now old new → young new now ≡ new.messages → new ≡ only old (young old now)
ages_all now old new h all = h.leaves.rest ∙ ap (only old) (sym all ∙ h.young)

-- messages over the limits have gone
pub record Trims (old new : Stream) : Type 0 where
  pub sound : IsAttended new
  pub same : trim new ≡ trim old

pub trims_none : (s : Stream) → IsAttended s → Trims s s
trims_none s sound = record { sound = sound; same = refl }

pub trims_more : LawWithout → (n : ℕ) (old mid new : Stream) → Trims old mid → next_over mid ≡ Some n → new ≡ without_seq n mid → IsAttended new → Trims old new
trims_more law n old mid new h over is sound = record { sound = sound; same = ap trim is ∙ (trim_without law mid n h.sound over).1 ∙ h.same }

pub trims_all : LawWithin → (old new : Stream) → Trims old new → next_over new ≡ None → new ≡ trim old
trims_all law old new h over = sym (law new (coherent new h.sound) over) ∙ h.same

pub over_found : LawWithout → (n : ℕ) (s : Stream) → IsAttended s → next_over s ≡ Some n → is_some (message_at s n) ≡ true
over_found law n s sound over = (trim_without law s n sound over).0

-- messages have gone whose subjects had too many, and none is left before a sequence
pub record Thins (from : ℕ) (old new : Stream) : Type 0 where
  pub sound : IsAttended new
  pub same : trim new ≡ trim old
  pub before : (m : Message) → IsIn m new.messages → m.seq < from → is_over_on new m.subject ≡ false

pub thins_none : (s : Stream) → IsAttended s → Thins 0 s s
thins_none s sound = record { sound = sound; same = refl; before = λ m i l. absurd (omega arith) }

module _ (from : ℕ) (old mid : Stream) (h : Thins from old mid) where
  over_on : Message → Bool
  over_on m = is_over_on mid m.subject

  found_over : find (λ m. nat_le from m.seq && is_over_on mid m.subject) mid.messages ≡ over_subject mid
  found_over = find_from (λ m. is_over_on mid m.subject) from mid.messages h.before

  pub over_next : (n : ℕ) → Some n ≡ next_passing (λ m. is_over_on mid m.subject) mid.messages from → next_over mid ≡ Some n
  over_next n e = go (over_subject mid) (e ∙ ap (option_map (λ (m : Message). m.seq)) found_over)
    where
      go : (o : Option Message) → Some n ≡ option_map (λ m. m.seq) o → option_map (λ m. m.seq) (option_or o (over_stream mid)) ≡ Some n
      go None k = absurd cc
      go (Some m) k = sym k

  pub thins_more : LawWithout → (n : ℕ) (new : Stream) → Some n ≡ next_passing (λ m. is_over_on mid m.subject) mid.messages from → new ≡ without_seq n mid → IsAttended new → Thins n old new
  thins_more law n new e is sound = record {
    sound = sound;
    same = ap trim is ∙ (trim_without law mid n h.sound (over_next n e)).1 ∙ h.same;
    before = λ m i l. ap (λ (s : Stream). is_over_on s m.subject) is ∙ go (over_subject mid) refl (e ∙ ap (option_map (λ (x : Message). x.seq)) found_over) m (subst (λ (s : Stream). IsIn m s.messages) is i) l;
  }
    where
      go : (o : Option Message) → over_subject mid ≡ o → Some n ≡ option_map (λ m. m.seq) o → (m : Message) → IsIn m (without_seq n mid).messages → m.seq < n → is_over_on (without_seq n mid) m.subject ≡ false
      go None f k m i l = absurd cc
      go (Some first) f k m i l =
          let one : n ≡ first.seq = cc in
          let member : IsIn m mid.messages = in_part (filter_part (λ x. not (x.seq == n)) mid.messages) i in
          over_on_less mid (filter_part (λ x. not (x.seq == n)) mid.messages) m.subject (fails_before (λ x. is_over_on mid x.subject) 1 (mid.last + 1) first m mid.messages h.sound.sound.ascends f member (omega arith))

  pub thins_all : None ≡ next_passing (λ m. is_over_on mid m.subject) mid.messages from → (t : Bytes) → is_over_on mid t ≡ false
  thins_all e = no_subject mid (none_mapped (over_subject mid) (e ∙ ap (option_map (λ (m : Message). m.seq)) found_over))
    where
      none_mapped : (o : Option Message) → None ≡ option_map (λ m. m.seq) o → o ≡ None
      none_mapped None k = refl
      none_mapped (Some m) k = absurd cc

-- the messages of the first sequences have gone
pub record Removes (gone : List ℕ) (old new : Stream) : Type 0 where
  pub sound : IsAttended new
  pub left : new ≡ without_seqs gone old

pub removes_none : (s : Stream) → IsAttended s → Removes [] s s
removes_none s sound = record { sound = sound; left = sym (without_none s sound) }

pub removes_more : (all : List ℕ) (i : ℕ) (old mid new : Stream) → Removes (take i all) old mid → i < length all → new ≡ without_seq (get_or all i 0) mid → IsAttended new → Removes (take (i + 1) all) old new
removes_more all i old mid new h l is sound = record {
  sound = sound;
  left = is ∙ ap (without_seq (get_or all i 0)) h.left ∙ without_one_more (take i all) (get_or all i 0) old ∙ ap (λ (ns : List ℕ). without_seqs ns old) (sym (take_more all i 0 l));
}

pub removes_all : (all : List ℕ) (i : ℕ) (old new : Stream) → Removes (take i all) old new → length all ≤ i → new ≡ without_seqs all old
removes_all all i old new h l = h.left ∙ ap (λ (ns : List ℕ). without_seqs ns old) (take_long i all l)
