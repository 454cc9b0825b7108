-- Messages that the retention does not keep go one by one.
use Rattle.std.proofs.Common.{◌≡◌, ℕ, ◌+◌, ◌<◌, ◌==◌, ◌&&◌, Bool, true, false, cond, not, List, [], ◌∷◌, Option, Some, None, refl, sym, ap, subst, ◌∙◌, arith}
use Rattle.std.specs.Prelude.{filter, find, is_some, nat_le, option_map}
use Rattle.std.proofs.lemmas.Bool.{true≢false, and_parts, eqb-true, leb-false, lt-leb}
use Rattle.js_model.specs.declared.stream_config.Retention.TheVariants.{Limits}
use Rattle.js_model.specs.declared.stream.Message.{Message}
use Rattle.js_model.specs.declared.stream.Stream.{Stream}
use Rattle.js_model.specs.Events.{message_at}
use Rattle.js_model.specs.Lists.{IsPart}
use Rattle.js_model.specs.Retention.{is_kept, kept}
use Rattle.js_model.specs.Streams.{only, seqs}
use Rattle.js_model.proofs.Members.{IsIn, here, there, all_in, found_in, in_part}
use Rattle.js_model.proofs.Named.{some_is}
use Rattle.js_model.proofs.Parts.{filter_part}
use Rattle.retention.proofs.Confining.{only_own, only_within}
use Rattle.stored_stream.specs.Selecting.{next_passing}
use Rattle.stored_stream.proofs.Finding.{fails_before, find_from, member_found}
use Rattle.stored_stream.proofs.Limiting.{none_found}
use Rattle.stored_stream.proofs.Lists.{filter_all}
use Rattle.followed_stream.specs.Attended.{without_seq, IsAttended}
use Rattle.followed_stream.specs.Spans.{spans, IsKeptOutside}
use Rattle.followed_stream.specs.declared.span.Span.{Span}
use Rattle.followed_stream.proofs.Holding.{all_from_in, filter_agree_on}
use Rattle.followed_stream.proofs.Needing.{kept_same, seq_in}

-- what is kept of a stream
abbrev pub keeps : Stream → Message → Bool
keeps s m = is_kept s.config.retention s.consumers m

-- a stream with some of its messages keeps those that it kept
pub keeps_less : (s : Stream) {ms : List Message} → IsPart ms s.messages → (m : Message) → IsIn m ms → keeps (only s ms) m ≡ keeps s m
keeps_less s {ms} part m i = kept_same (seqs ms) m (seq_in m ms i) s.config.retention s.consumers

pub outside_less : (span : Span) (s : Stream) {ms : List Message} → IsPart ms s.messages → IsKeptOutside span s → IsKeptOutside span (only s ms)
outside_less span s {ms} part h = record {
  kept = all_from_in (λ m. spans span m.seq ≡ false → keeps (only s ms) m ≡ true) ms
      (λ m i e. keeps_less s part m i ∙ all_in (λ m. spans span m.seq ≡ false → keeps s m ≡ true) s.messages h.kept (in_part part i) e);
}

-- ---- one goes

-- what fails goes with no loss to what passes
filter_less : (p : Message → Bool) (n : ℕ) (ms : List Message) → ((m : Message) → IsIn m ms → m.seq ≡ n → p m ≡ false) → filter p (filter (λ m. not (m.seq == n)) ms) ≡ filter p ms
filter_less p n [] h = refl
filter_less p n (m ∷ ms) h = go (m.seq == n) refl (filter_less p n ms (λ x i. h x (there i)))
  where
    rest : List Message
    rest = filter (λ x. not (x.seq == n)) ms

    go : (b : Bool) → (m.seq == n) ≡ b → filter p rest ≡ filter p ms → filter p (cond (not b) (m ∷ rest) rest) ≡ cond (p m) (m ∷ filter p ms) (filter p ms)
    go true e k = k ∙ sym (ap (λ b. cond b (m ∷ filter p ms) (filter p ms)) (h m here (eqb-true m.seq n e)))
    go false e k = ap (λ (l : List Message). cond (p m) (m ∷ l) l) k

-- without a message that it does not keep, the retention keeps the same
pub kept_without : (s : Stream) (n : ℕ) → ((m : Message) → IsIn m s.messages → m.seq ≡ n → keeps s m ≡ false) → kept (without_seq n s) ≡ kept s
unfolding kept
kept_without s n h =
    ap (λ (list : List Message). only (only s left) list) (alike ∙ filter_less (keeps s) n s.messages h)
    ∙ ap (λ (list : List Message). only (only s left) list) (sym (filter_less (keeps s) n s.messages h))
    ∙ only_within (filter_part (keeps s) left) s ∙ ap (only s) (filter_less (keeps s) n s.messages h)
  where
    left : List Message
    left = filter (λ m. not (m.seq == n)) s.messages

    alike : filter (keeps (only s left)) left ≡ filter (keeps s) left
    alike = filter_agree_on (keeps (only s left)) (keeps s) left (all_from_in (λ m. keeps (only s left) m ≡ keeps s m) left (keeps_less s (filter_part (λ m. not (m.seq == n)) s.messages)))

-- a stream of which all is kept stays as it is
pub all_kept : (s : Stream) → IsAttended s → ((m : Message) → IsIn m s.messages → keeps s m ≡ true) → kept s ≡ s
unfolding kept
all_kept s attended h = ap (only s) (filter_all (keeps s) s.messages (all_from_in (λ m. keeps s m ≡ true) s.messages h)) ∙ only_own s attended.held

-- limits alone let none go
pub limits_keep_all : (s : Stream) → IsAttended s → s.config.retention ≡ Limits → kept s ≡ s
limits_keep_all s attended e = all_kept s attended (λ m i. ap (λ policy. is_kept policy s.consumers m) e)

-- ---- one after the other

-- messages have gone that the retention does not keep, and it keeps those that are left before a sequence, or behind another
pub record Releases (from last : ℕ) (old new : Stream) : Type 0 where
  pub sound : IsAttended new
  pub same : kept new ≡ kept old
  pub before : (m : Message) → IsIn m new.messages → m.seq < from → keeps new m ≡ true
  pub behind : (m : Message) → IsIn m new.messages → last < m.seq → keeps new m ≡ true

pub releases_none : (span : Span) (s : Stream) → IsAttended s → IsKeptOutside span s → Releases span.first span.last s s
releases_none span s attended h = record {
  sound = attended;
  same = refl;
  before = λ m i l. all_in (λ m. spans span m.seq ≡ false → keeps s m ≡ true) s.messages h.kept i (ap (λ b. b && nat_le m.seq span.last) (lt-leb span.first m.seq l));
  behind = λ m i l. all_in (λ m. spans span m.seq ≡ false → keeps s m ≡ true) s.messages h.kept i (ap (λ b. nat_le span.first m.seq && b) (lt-leb m.seq span.last l) ∙ and_false (nat_le span.first m.seq));
}
  where
    and_false : (b : Bool) → (b && false) ≡ false
    and_false true = refl
    and_false false = refl

-- what goes next
abbrev pub is_loose : Stream → ℕ → Message → Bool
is_loose s last m = nat_le m.seq last && not (keeps s m)

module _ (from last : ℕ) (old mid : Stream) (h : Releases from last old mid) where
  not_loose : (m : Message) → keeps mid m ≡ true → is_loose mid last m ≡ false
  not_loose m e = ap (λ b. nat_le m.seq last && not b) e ∙ and_false (nat_le m.seq last)
    where
      and_false : (b : Bool) → (b && false) ≡ false
      and_false true = refl
      and_false false = refl

  found_loose : find (λ m. nat_le from m.seq && is_loose mid last m) mid.messages ≡ find (is_loose mid last) mid.messages
  found_loose = find_from (is_loose mid last) from mid.messages (λ m i l. not_loose m (h.before m i l))

  kept_or_loose : (m : Message) → IsIn m mid.messages → is_loose mid last m ≡ false → keeps mid m ≡ true
  kept_or_loose m i e = go (keeps mid m) refl (nat_le m.seq last) refl e
    where
      go : (c : Bool) → keeps mid m ≡ c → (b : Bool) → nat_le m.seq last ≡ b → (b && not c) ≡ false → keeps mid m ≡ true
      go true q b f k = q
      go false q true f k = absurd (true≢false k)
      go false q false f k = h.behind m i (leb-false m.seq last f)

  -- the message that goes next
  record IsNextLoose (n : ℕ) (first : Message) : Type 0 where
    found : find (is_loose mid last) mid.messages ≡ Some first
    seq : first.seq ≡ n
    member : IsIn first mid.messages
    fails : keeps mid first ≡ false

  next_loose : (n : ℕ) → Some n ≡ next_passing (is_loose mid last) mid.messages from → (first : Message) × IsNextLoose n first
  next_loose n e = go (find (is_loose mid last) mid.messages) refl (e ∙ ap (option_map (λ (m : Message). m.seq)) found_loose)
    where
      unkept : (b : Bool) → not b ≡ true → b ≡ false
      unkept true k = absurd (true≢false (sym k))
      unkept false k = refl

      go : (o : Option Message) → find (is_loose mid last) mid.messages ≡ o → Some n ≡ option_map (λ m. m.seq) o → (first : Message) × IsNextLoose n first
      go None f k = absurd cc
      go (Some first) f k =
          let i = found_in (is_loose mid last) first mid.messages f in
          (first, record { found = f; seq = cc; member = i.0; fails = unkept (keeps mid first) (and_parts _ _ i.1).1 })

  pub loose_there : (n : ℕ) → Some n ≡ next_passing (is_loose mid last) mid.messages from → is_some (message_at mid n) ≡ true
  loose_there n e =
      let w = next_loose n e in
      ap is_some (ap (λ k. find (λ x. x.seq == k) mid.messages) (sym w.1.seq) ∙ member_found 1 (mid.last + 1) w.0 mid.messages h.sound.sound.ascends w.1.member)

  pub releases_more : (n : ℕ) (new : Stream) → Some n ≡ next_passing (is_loose mid last) mid.messages from → new ≡ without_seq n mid → IsAttended new → Releases n last old new
  releases_more n new e is attended = record {
    sound = attended;
    same = ap kept is ∙ kept_without mid n alone ∙ h.same;
    before = λ m i l. go m i (λ j k. kept_or_loose m j (fails_before (is_loose mid last) 1 (mid.last + 1) first m mid.messages h.sound.sound.ascends next.found j (let q : first.seq ≡ n = next.seq in omega arith)));
    behind = λ m i l. go m i (λ j k. h.behind m j l);
  }
    where
      first : Message
      first = (next_loose n e).0

      next : IsNextLoose n first
      next = (next_loose n e).1

      -- there is no other of its sequence
      alone : (m : Message) → IsIn m mid.messages → m.seq ≡ n → keeps mid m ≡ false
      alone m i k =
          let own = member_found 1 (mid.last + 1) m mid.messages h.sound.sound.ascends i in
          let one = member_found 1 (mid.last + 1) first mid.messages h.sound.sound.ascends next.member in
          ap (keeps mid) (some_is (sym own ∙ ap (λ j. find (λ x. x.seq == j) mid.messages) (k ∙ sym next.seq) ∙ one)) ∙ next.fails

      go : (m : Message) → IsIn m new.messages → ((j : IsIn m mid.messages) → IsIn m (without_seq n mid).messages → keeps mid m ≡ true) → keeps new m ≡ true
      go m i f =
          let j : IsIn m (without_seq n mid).messages = subst (λ (s : Stream). IsIn m s.messages) is i in
          ap (λ (s : Stream). keeps s m) is ∙ keeps_less mid (filter_part (λ x. not (x.seq == n)) mid.messages) m j ∙ f (in_part (filter_part (λ x. not (x.seq == n)) mid.messages) j) j

  pub releases_all : None ≡ next_passing (is_loose mid last) mid.messages from → mid ≡ kept old
  releases_all e = sym (all_kept mid h.sound (λ m i. kept_or_loose m i (none_found (is_loose mid last) mid.messages none m i))) ∙ h.same
    where
      none_mapped : (o : Option Message) → None ≡ option_map (λ m. m.seq) o → o ≡ None
      none_mapped None k = refl
      none_mapped (Some m) k = absurd cc

      none : find (is_loose mid last) mid.messages ≡ None
      none = none_mapped (find (is_loose mid last) mid.messages) (e ∙ ap (option_map (λ (m : Message). m.seq)) found_loose)
