-- What the loops that take messages out of a stream have left and noted after each turn.
use Rattle.std.proofs.Common.{◌≡◌, ℕ, zero, suc, ◌+◌, ◌<◌, ◌≤◌, ◌==◌, ◌&&◌, ◌||◌, not, Bool, true, false, cond, Option, Some, None, List, [], ◌∷◌, ◌++◌, length, get_or, refl, sym, ap, ◌∙◌, arith, subst}
use Rattle.std.specs.Prelude.{⊤, All, filter, find, is_some, nat_le, option_map, unwrap_or}
use Rattle.std.proofs.lemmas.Bool.{true≢false, and_parts, eq-eqb, eqb-true, le-leb, leb-true, ne_eqb}
use Rattle.std.proofs.lemmas.List.Elements.{All-get_or}
use Rattle.js_base.specs.Bytes.{has, is_empty}
use Rattle.js_model.specs.Counts.{first_message}
use Rattle.js_model.specs.Events.{is_below, message_at}
use Rattle.js_model.specs.Lists.{Between}
use Rattle.js_model.specs.Streams.{only, seqs}
use Rattle.js_model.specs.Trim.{trim, trim_bytes, trim_count, trim_subjects}
use Rattle.js_model.specs.declared.stream.Message.{Message}
use Rattle.js_model.specs.declared.stream.Stream.{Stream}
use Rattle.js_model.proofs.Members.{IsIn, here, found_in, in_bounds}
use Rattle.js_model.proofs.Named.{some_is}
use Rattle.model_laws.proofs.SoundParts.{map-filter}
use Rattle.effects.specs.Ranges.{Range}
use Rattle.effects.proofs.Agreeing.{append_assoc, filter_all, in_mapped}
use Rattle.effects.proofs.Removing.{in_has}
use Rattle.retention.specs.Over.{next_over}
use Rattle.retention.proofs.Following.{law_trimmed}
use Rattle.stored_stream.specs.Selecting.{next_passing}
use Rattle.followed_stream.specs.Attended.{without_seq, IsAttended}
use Rattle.followed_stream.proofs.Attending.{coherent, leaves_none, leaves_more, Leaves}
use Rattle.removals.specs.Leaving.{follows, is_of, leaving, trim_ranges}
use Rattle.removals.specs.Removed.{extends, HasPlace, Notes, NotesOne, Removed}
use Rattle.removals.proofs.Placing.{below_less, has_less}
use Rattle.removals.proofs.Steps.{noting_all, noting_more, noting_none, noting_some, IsAbove, Noting}
use Rattle.stream_state.specs.Removing.{HasRoom}

pub record Drops (start : Removed) (last : Option ℕ) (old now : Stream) (gone : Removed) : Type 0 where
  pub leaves : Leaves old now
  pub noting : Noting start last old.messages now.messages gone

pub drops_none : (start : Removed) (s : Stream) → IsAttended s → Drops start None s s start
drops_none start s h = record { leaves = leaves_none s h; noting = noting_none start s.messages }

there_in : (n : ℕ) (ms : List Message) → is_some (find (λ m. m.seq == n) ms) ≡ true → IsIn n (seqs ms)
there_in n ms e = go (find (λ m. m.seq == n) ms) refl e
  where
    go : (o : Option Message) → find (λ m. m.seq == n) ms ≡ o → is_some o ≡ true → IsIn n (seqs ms)
    go None f k = absurd (true≢false (sym k))
    go (Some m) f k = let w = found_in (λ x. x.seq == n) m ms f in subst (λ j. IsIn j (seqs ms)) (eqb-true m.seq n w.1) (in_mapped (λ x. x.seq) w.0)

pub drops_more : (start : Removed) (last : Option ℕ) (old mid new : Stream) (gone after : Removed) (n : ℕ) → IsAttended old → Drops start last old mid gone → is_some (message_at mid n) ≡ true → IsAbove last n
    → new ≡ without_seq n mid → IsAttended new → NotesOne n (follows last mid.messages n) gone after → Drops start (Some n) old new after
drops_more start last old mid new gone after n whole h there_is above is attended one = record {
  leaves = leaves_more n old mid new h.leaves is attended;
  noting = subst (λ (s : Stream). Noting start (Some n) old.messages s.messages after) (sym is)
      (noting_more 1 (old.last + 1) start last old.messages mid.messages gone after n whole.sound.ascends h.noting (there_in n mid.messages there_is) above one);
}

-- the messages that are left
pub drops_left : (start : Removed) (last : Option ℕ) (old new : Stream) (gone : Removed) (ms : List Message) → Drops start last old new gone → new.messages ≡ ms → new ≡ only old ms
drops_left start last old new gone ms h e = h.leaves.rest ∙ ap (only old) e

pub drops_noted : (start : Removed) (last : Option ℕ) (old new : Stream) (gone : Removed) (ms : List Message) → Drops start last old new gone → new.messages ≡ ms → Notes start (leaving start.below old.messages ms) gone
drops_noted start last old new gone ms h e = subst (λ (l : List Message). Notes start (leaving start.below old.messages l) gone) e (noting_all start last old.messages new.messages gone h.noting)

-- nothing went
pub nothing_noted : (start : Removed) (old : Stream) (ms : List Message) → IsAttended old → old.messages ≡ ms → Notes start (leaving start.below old.messages ms) start
nothing_noted start old ms h e = drops_noted start None old old start ms (drops_none start old h) e

-- ---- room

some_there : (n : ℕ) (ms : List Message) → is_some (find (λ m. m.seq == n) ms) ≡ true → 1 ≤ length ms
some_there n [] e = absurd (true≢false (sym e))
some_there n (m ∷ ms) e = omega arith

pub has_place : (s : Stream) (n : ℕ) (joins : Bool) (gone : Removed) → is_some (message_at s n) ≡ true → HasRoom s gone → HasPlace joins gone
has_place s n joins gone e room k = let one : 1 ≤ length s.messages = some_there n s.messages e in omega (arith, room)

pub room_less : (mid new : Stream) (n : ℕ) (joins : Bool) (gone after : Removed) → HasRoom mid gone → length new.messages < length mid.messages → NotesOne n joins gone after → HasRoom new after
room_less mid new n joins gone after room less one = let s = one.spare in omega (arith, room, less, s)

-- ---- it is above the one that left last

not_last : (start : Removed) (l : ℕ) (old now : Stream) (gone : Removed) (m : Message) → Drops start (Some l) old now gone → IsIn m now.messages → m.seq ≡ l → ⊥
not_last start l old now gone m h i e =
    true≢false (sym (in_has m.seq (seqs now.messages) (in_mapped (λ x. x.seq) i)) ∙ ap (has (seqs now.messages)) e ∙ h.noting.left_last.1)

-- from the last on, or from the beginning
pub from_last : (start : Removed) (last : Option ℕ) (from : ℕ) (old now : Stream) (gone : Removed) (m : Message) → Drops start last old now gone → IsIn m now.messages → unwrap_or last from ≤ m.seq → IsAbove last m.seq
from_last start None from old now gone m h i l = tt
from_last start (Some n) from old now gone m h i l = let apart : m.seq ≡ n → ⊥ = not_last start n old now gone m h i in omega (arith, l, apart)

-- the next that passes a test
pub next_above : (start : Removed) (last : Option ℕ) (from n : ℕ) (test : Message → Bool) (old now : Stream) (gone : Removed) → Drops start last old now gone → Some n ≡ next_passing test now.messages (unwrap_or last from) → IsAbove last n
next_above start last from n test old now gone h e = go (find passes now.messages) refl e
  where
    passes : Message → Bool
    passes m = nat_le (unwrap_or last from) m.seq && test m

    go : (o : Option Message) → find passes now.messages ≡ o → Some n ≡ option_map (λ m. m.seq) o → IsAbove last n
    go None f k = absurd cc
    go (Some m) f k =
        let w = found_in passes m now.messages f in
        subst (IsAbove last) (sym (some_is k)) (from_last start last from old now gone m h w.0 (leb-true (unwrap_or last from) m.seq (and_parts _ _ w.1).0))

-- all that is left is above it
abbrev pub AllAbove : Option ℕ → List Message → Type 0
AllAbove last ms = (m : Message) → IsIn m ms → IsAbove last m.seq

pub above_none : (ms : List Message) → AllAbove None ms
above_none ms m i = tt

-- ---- the first message goes

pub record Pop (n : ℕ) (ms : List Message) : Type 0 where
  pub first : Message
  pub rest : List Message
  pub whole : ms ≡ first ∷ rest
  pub seq : first.seq ≡ n
  pub left : filter (λ m. not (m.seq == n)) ms ≡ rest
  pub above : (m : Message) → IsIn m rest → n < m.seq

pub pop : (low high n : ℕ) (ms : List Message) → Between (λ m. m.seq) low high ms → option_map (λ m. m.seq) (first_message ms) ≡ Some n → Pop n ms
pop low high n [] t e = absurd cc
pop low high n (x ∷ xs) t e = record {
  first = x;
  rest = xs;
  whole = refl;
  seq = is;
  left = ap (λ b. cond (not b) (x ∷ filter (λ m. not (m.seq == n)) xs) (filter (λ m. not (m.seq == n)) xs)) (eq-eqb x.seq n is)
      ∙ filter_all (λ m. not (m.seq == n)) xs (λ m i. ap not (ne_eqb m.seq n (λ q. let l = over m i in omega (arith, l, q))));
  above = over;
}
  where
    is : x.seq ≡ n
    is = some_is e

    over : (m : Message) → IsIn m xs → n < m.seq
    over m i = let l : x.seq + 1 ≤ m.seq = (in_bounds (λ (y : Message). y.seq) (x.seq + 1) high m xs t.1 i).0 in omega (arith, is)

-- it is above the last, there, and below what is left
pub record Pops (last : Option ℕ) (n : ℕ) (old new : Stream) : Type 0 where
  pub there : is_some (message_at old n) ≡ true
  pub above : IsAbove last n
  pub rest : List Message
  pub first : Message
  pub whole : old.messages ≡ first ∷ rest
  pub left : new.messages ≡ rest
  pub others : AllAbove (Some n) new.messages

pub pops : (last : Option ℕ) (n : ℕ) (old : Stream) → IsAttended old → AllAbove last old.messages → option_map (λ m. m.seq) (first_message old.messages) ≡ Some n → Pops last n old (without_seq n old)
pops last n old h above e =
    let w = pop 1 (old.last + 1) n old.messages h.sound.ascends e in
    record {
      there = ap (λ (ms : List Message). is_some (find (λ m. m.seq == n) ms)) w.whole ∙ ap (λ b. is_some (cond b (Some w.first) (find (λ m. m.seq == n) w.rest))) (eq-eqb w.first.seq n w.seq);
      above = subst (IsAbove last) w.seq (above w.first (subst (IsIn w.first) (sym w.whole) here));
      rest = w.rest;
      first = w.first;
      whole = w.whole;
      left = w.left;
      others = λ m i. w.above m (subst (IsIn m) w.left i);
    }

-- ---- one filter after the other

pub notes_both : (a b c : Removed) (xs ys : List Range) → Notes a xs b → Notes b ys c → Notes a (xs ++ ys) c
notes_both a b c xs ys h k = record {
  all = k.all ∙ ap (λ rs. rs ++ ys) h.all ∙ append_assoc a.ranges xs ys;
  below_same = k.below_same ∙ h.below_same;
}

pub three_left : (s t u v : Stream) → t ≡ trim_subjects s → u ≡ trim_count t → v ≡ trim_bytes u → v ≡ trim s
unfolding trim
three_left s t u v x y z = z ∙ ap trim_bytes (y ∙ ap trim_count x)

pub three_noted : (s t u v : Stream) (a b c d : Removed) → t ≡ trim_subjects s → u ≡ trim_count t → v ≡ trim_bytes u → Notes a (leaving a.below s.messages (trim_subjects s).messages) b
    → Notes b (leaving b.below t.messages (trim_count t).messages) c → Notes c (leaving c.below u.messages (trim_bytes u).messages) d → Notes a (trim_ranges a.below s) d
unfolding trim
three_noted s t u v a b c d x y z h k l =
    notes_both a b d first (second ++ third) h
    (notes_both b c d second third (subst (λ rs. Notes b rs c) second_is k) (subst (λ rs. Notes c rs d) third_is l))
  where
    first : List Range
    first = leaving a.below s.messages (trim_subjects s).messages

    second : List Range
    second = leaving a.below (trim_subjects s).messages (trim_count (trim_subjects s)).messages

    third : List Range
    third = leaving a.below (trim_count (trim_subjects s)).messages (trim_bytes (trim_count (trim_subjects s))).messages

    second_is : leaving b.below t.messages (trim_count t).messages ≡ second
    second_is = ap (λ n. leaving n t.messages (trim_count t).messages) h.below_same ∙ ap (λ (w : Stream). leaving a.below w.messages (trim_count w).messages) x

    third_is : leaving c.below u.messages (trim_bytes u).messages ≡ third
    third_is = ap (λ n. leaving n u.messages (trim_bytes u).messages) (k.below_same ∙ h.below_same) ∙ ap (λ (w : Stream). leaving a.below w.messages (trim_bytes w).messages) (y ∙ ap trim_count x)

-- nothing of it is over
pub trimmed_within : (s t : Stream) → IsAttended s → t ≡ trim s → next_over t ≡ None
trimmed_within s t h e = ap next_over e ∙ (law_trimmed s (coherent s h)).0

-- ---- these sequences go

between_at : (low high k : ℕ) (ns : List ℕ) → Between (λ n. n) low high ns → k < length ns → low ≤ get_or ns k 0
between_at low high k [] t l = absurd (omega arith)
between_at low high zero (n ∷ ns) t l = t.0
between_at low high (suc k) (n ∷ ns) t l = let a : low ≤ n = t.0 in let b : n + 1 ≤ get_or ns k 0 = between_at (n + 1) high k ns t.1 (omega arith) in omega arith

between_apart : (low high j k : ℕ) (ns : List ℕ) → Between (λ n. n) low high ns → j < k → k < length ns → get_or ns j 0 < get_or ns k 0
between_apart low high j k [] t l g = absurd (omega arith)
between_apart low high j zero (n ∷ ns) t l g = absurd (omega arith)
between_apart low high zero (suc k) (n ∷ ns) t l g = let b : n + 1 ≤ get_or ns k 0 = between_at (n + 1) high k ns t.1 (omega arith) in omega arith
between_apart low high (suc j) (suc k) (n ∷ ns) t l g = between_apart (n + 1) high j k ns t.1 (omega arith) (omega arith)

-- the sequences from a place on are there, and above the one that left last
pub record Waits (i : ℕ) (last : Option ℕ) (all : List ℕ) (now : Stream) : Type 0 where
  pub there : (k : ℕ) → i ≤ k → k < length all → has (seqs now.messages) (get_or all k 0) ≡ true
  pub above : (k : ℕ) → i ≤ k → k < length all → IsAbove last (get_or all k 0)

pub waits_none : (all : List ℕ) (s : Stream) → All (λ n. has (seqs s.messages) n ≡ true) all → Waits 0 None all s
waits_none all s h = record { there = λ k l g. All-get_or (λ n. has (seqs s.messages) n ≡ true) all k 0 g h; above = λ k l g. tt }

pub waits_more : (low high i : ℕ) (last : Option ℕ) (all : List ℕ) (mid new : Stream) → Between (λ n. n) low high all → i < length all → Waits i last all mid → new ≡ without_seq (get_or all i 0) mid → Waits (i + 1) (Some (get_or all i 0)) all new
waits_more low high i last all mid new t within h is = record {
  there = λ k l g.
      ap (λ (s : Stream). has (seqs s.messages) (get_or all k 0)) is
      ∙ ap (λ ns. has ns (get_or all k 0)) (map-filter (λ m. m.seq) (λ j. not (j == get_or all i 0)) mid.messages)
      ∙ has_less (get_or all i 0) (get_or all k 0) (seqs mid.messages) (λ q. let b = between_apart low high i k all t (omega (arith, l)) g in omega (arith, b, q))
      ∙ h.there k (omega (arith, l)) g;
  above = λ k l g. between_apart low high i k all t (omega (arith, l)) g;
}

-- the message of one that is there
pub has_there : (n : ℕ) (ms : List Message) → has (seqs ms) n ≡ true → is_some (find (λ m. m.seq == n) ms) ≡ true
has_there n [] e = e
has_there n (m ∷ ms) e = go (m.seq == n) e (has_there n ms)
  where
    go : (b : Bool) → (b || has (seqs ms) n) ≡ true → (has (seqs ms) n ≡ true → is_some (find (λ x. x.seq == n) ms) ≡ true) → is_some (cond b (Some m) (find (λ x. x.seq == n) ms)) ≡ true
    go true k more = refl
    go false k more = more k

-- ---- messages that are too old

-- only for the first one memory is wanted
abbrev pub HasFirst : Option ℕ → Removed → Type 0
HasFirst None gone = 1 ≤ gone.spare
HasFirst (Some last) gone = ⊤

pub first_place : (start : Removed) (last : Option ℕ) (n : ℕ) (old mid : Stream) (gone : Removed) → Drops start last old mid gone → AllAbove last mid.messages → option_map (λ m. m.seq) (first_message mid.messages) ≡ Some n → HasFirst last gone
    → is_below gone.below n ≡ true → HasPlace (follows last mid.messages n) gone
first_place start None n old mid gone h above e spare b k = spare
first_place start (Some l) n old mid gone h above e spare b k = absurd (true≢false (sym joins ∙ k))
  where
    w : Pops (Some l) n mid (without_seq n mid)
    w = pops (Some l) n mid h.leaves.attended above e

    under : l < n
    under = w.above

    first_seq : w.first.seq ≡ n
    first_seq = some_is (ap (λ (ms : List Message). option_map (λ (m : Message). m.seq) (first_message ms)) (sym w.whole) ∙ e)

    follows_it : follows (Some l) mid.messages n ≡ true
    follows_it =
        ap (λ (ms : List Message). follows (Some l) ms n) w.whole
        ∙ ap (λ b. is_of n (cond b (Some w.first) (find (λ m. nat_le l m.seq) w.rest))) (le-leb l w.first.seq (omega (arith, under, first_seq)))
        ∙ eq-eqb w.first.seq n first_seq

    some : is_empty gone.ranges ≡ false
    some = noting_some start l old.messages mid.messages gone h.noting (below_less start.below n l (subst (λ o. is_below o n ≡ true) h.noting.below_same b) (omega (arith, under)))

    joins : extends (follows (Some l) mid.messages n) gone.ranges ≡ true
    joins = ap (λ b. b && not (is_empty gone.ranges)) follows_it ∙ ap not some
