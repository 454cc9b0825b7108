-- The spots that a table has, looked at one after the other.
use Rattle.std.proofs.Common.{◌≡◌, ◌<◌, ◌≤◌, ℕ, ◌+◌, ◌^◌, Bool, true, false, cond, List, [], ◌∷◌, ◌++◌, Option, None, Some, filter, find, get_or, is_some, length, map, not, option_map, take, refl, sym, ap, subst, ◌∙◌, arith, append_assoc}
use Rattle.std.specs.Prelude.{nat_le, IfSome, SomeIff}
use Rattle.std.specs.List.{AllByRecursion}
use Rattle.std.specs.List.Sorted.{IsStrictlySortedBy}
use Rattle.std.specs.Ordering.{MatchOrdering, nat_cmp}
use Rattle.std.specs.declared.cmp.Ordering.{Ordering}
use Rattle.std.specs.declared.cmp.Ordering.TheVariants.{Less}
use Rattle.std.proofs.lemmas.Bool.{true≢false, le-leb, leb-true, lt-leb}
use Rattle.std.proofs.lemmas.Cmp.{ranked}
use Rattle.std.proofs.lemmas.List.{append-nil, get_or-map, length-map, take_all, take_more}
use Rattle.js_model.specs.Streams.{seqs}
use Rattle.js_model.specs.declared.stream.Message.{Message}
use Rattle.js_model.proofs.Named.{none_some, some_is}
use Rattle.block_table.specs.declared.placed.Placed.{Placed}
use Rattle.block_table.specs.Tables.{AreRising}

abbrev pub placed_seqs : List Placed → List ℕ
placed_seqs ps = map (λ p. p.seq) ps

-- those from a sequence on
abbrev pub from_on : ℕ → List Placed → List Placed
from_on from ps = filter (λ p. nat_le from p.seq) ps

less : (m n : ℕ) → nat_cmp m n ≡ Less → m < n
less m n h = subst (λ (o : Ordering). MatchOrdering o (m < n) (m ≡ n) (n < m)) h (ranked m n (nat_cmp m n) refl)

all_behind : (n from : ℕ) (ps : List Placed) → from ≤ n + 1 → AllByRecursion (λ k. nat_cmp n k ≡ Less) (placed_seqs ps) → from_on from ps ≡ ps
all_behind n from [] le h = refl
all_behind n from (p ∷ ps) le h =
    let behind = less n p.seq h.0 in
    ap (λ (t : Bool). cond t (p ∷ from_on from ps) (from_on from ps)) (le-leb from p.seq (omega (arith, le, behind)))
    ∙ ap (λ (l : List Placed). p ∷ l) (all_behind n from ps le h.1)

pub all_from : (ps : List Placed) → from_on 0 ps ≡ ps
all_from [] = refl
all_from (p ∷ ps) = ap (λ (t : Bool). cond t (p ∷ from_on 0 ps) (from_on 0 ps)) (le-leb 0 p.seq (omega arith)) ∙ ap (λ (l : List Placed). p ∷ l) (all_from ps)

-- ---- the first from a sequence on

first_at : (from : ℕ) (ps : List Placed) (p : Placed) → find (λ q. nat_le from q.seq) ps ≡ Some p → from ≤ p.seq
first_at from [] p is = absurd (none_some is)
first_at from (q ∷ qs) p is = go (first_at from qs p) (nat_le from q.seq) refl is
  where
    go : (find (λ r. nat_le from r.seq) qs ≡ Some p → from ≤ p.seq) → (t : Bool) → nat_le from q.seq ≡ t → cond t (Some q) (find (λ r. nat_le from r.seq) qs) ≡ Some p → from ≤ p.seq
    go more true e found = subst (λ (r : Placed). from ≤ r.seq) (some_is found) (leb-true from q.seq e)
    go more false e found = more found

first_from : (from : ℕ) (ps : List Placed) (p : Placed) → AreRising ps → find (λ q. nat_le from q.seq) ps ≡ Some p → from_on from ps ≡ p ∷ from_on (p.seq + 1) ps
unfolding IsStrictlySortedBy
first_from from [] p h is = absurd (none_some is)
first_from from (q ∷ qs) p h is = go (first_from from qs p h.1) (nat_le from q.seq) refl is
  where
    go : (find (λ r. nat_le from r.seq) qs ≡ Some p → from_on from qs ≡ p ∷ from_on (p.seq + 1) qs) → (t : Bool) → nat_le from q.seq ≡ t → cond t (Some q) (find (λ r. nat_le from r.seq) qs) ≡ Some p
        → cond t (q ∷ from_on from qs) (from_on from qs) ≡ p ∷ cond (nat_le (p.seq + 1) q.seq) (q ∷ from_on (p.seq + 1) qs) (from_on (p.seq + 1) qs)
    go more true e found =
        let low = leb-true from q.seq e in
        let both = all_behind q.seq from qs (omega (arith, low)) h.0 ∙ sym (all_behind q.seq (q.seq + 1) qs (omega arith) h.0) in
        subst (λ (r : Placed). q ∷ from_on from qs ≡ r ∷ cond (nat_le (r.seq + 1) q.seq) (q ∷ from_on (r.seq + 1) qs) (from_on (r.seq + 1) qs)) (some_is found)
        (ap (λ (l : List Placed). q ∷ l) both
        ∙ sym (ap (λ (t : Bool). q ∷ cond t (q ∷ from_on (q.seq + 1) qs) (from_on (q.seq + 1) qs)) (lt-leb (q.seq + 1) q.seq (omega arith))))
    go more false e found =
        let low = first_at from qs p found in
        let before : ¬ (from ≤ q.seq) = λ le. true≢false (sym (le-leb from q.seq le) ∙ e) in
        more found ∙ sym (ap (λ (t : Bool). p ∷ cond t (q ∷ from_on (p.seq + 1) qs) (from_on (p.seq + 1) qs)) (lt-leb (p.seq + 1) q.seq (omega (arith, low, before))))

none_from : (from : ℕ) (ps : List Placed) → find (λ q. nat_le from q.seq) ps ≡ None → from_on from ps ≡ []
none_from from [] is = refl
none_from from (q ∷ qs) is = go (none_from from qs) (nat_le from q.seq) is
  where
    go : (find (λ r. nat_le from r.seq) qs ≡ None → from_on from qs ≡ []) → (t : Bool) → cond t (Some q) (find (λ r. nat_le from r.seq) qs) ≡ None → cond t (q ∷ from_on from qs) (from_on from qs) ≡ []
    go more true found = absurd (none_some (sym found))
    go more false found = more found

-- ---- message by message

counted : (ms : List Message) → length (seqs ms) ≡ length ms
counted ms = length-map ms (λ (m : Message). m.seq)

-- the first messages have their spots, and the others are told from there on
abbrev pub AreSpotsTo : List Placed → List Message → ℕ → ℕ → Type 0
AreSpotsTo ps ms i from = placed_seqs ps ≡ take i (seqs ms) ++ placed_seqs (from_on from ps)

pub spots_none : (ps : List Placed) (ms : List Message) → AreSpotsTo ps ms 0 0
spots_none ps ms = sym (ap placed_seqs (all_from ps))

pub spots_more : (ps : List Placed) (ms : List Message) (i from next : ℕ) (m : Message) → AreRising ps → i < length ms → m ≡ get_or ms i m → AreSpotsTo ps ms i from
    → option_map (λ p. p.seq) (find (λ p. nat_le from p.seq) ps) ≡ Some m.seq → next ≡ m.seq + 1 → AreSpotsTo ps ms (i + 1) next
spots_more ps ms i from next m rising within is so_far told behind = go (find (λ p. nat_le from p.seq) ps) refl told
  where
    seq_at : get_or (seqs ms) i m.seq ≡ m.seq
    seq_at = get_or-map (λ (x : Message). x.seq) ms i m m.seq within ∙ sym (ap (λ (x : Message). x.seq) is)

    front : take i (seqs ms) ++ m.seq ∷ [] ≡ take (i + 1) (seqs ms)
    front = ap (λ (n : ℕ). take i (seqs ms) ++ n ∷ []) (sym seq_at) ∙ sym (take_more (seqs ms) i m.seq (omega (arith, within, counted ms)))

    go : (o : Option Placed) → find (λ p. nat_le from p.seq) ps ≡ o → option_map (λ p. p.seq) o ≡ Some m.seq → AreSpotsTo ps ms (i + 1) next
    go None found none = absurd (none_some none)
    go (Some p) found some =
        let seq : p.seq ≡ m.seq = some_is some in
        let after : p.seq + 1 ≡ next = ap (λ (n : ℕ). n + 1) seq ∙ sym behind in
        so_far ∙ ap (λ (l : List Placed). take i (seqs ms) ++ placed_seqs l) (first_from from ps p rising found)
        ∙ sym (append_assoc (take i (seqs ms)) (p.seq ∷ []) (placed_seqs (from_on (p.seq + 1) ps)))
        ∙ ap (λ (l : List ℕ). l ++ placed_seqs (from_on (p.seq + 1) ps)) (ap (λ (n : ℕ). take i (seqs ms) ++ n ∷ []) seq ∙ front)
        ∙ ap (λ (n : ℕ). take (i + 1) (seqs ms) ++ placed_seqs (from_on n ps)) after

pub spots_all : (ps : List Placed) (ms : List Message) (i from : ℕ) → length ms ≤ i → AreSpotsTo ps ms i from → find (λ p. nat_le from p.seq) ps ≡ None → placed_seqs ps ≡ seqs ms
spots_all ps ms i from past so_far none =
    so_far ∙ ap (λ (l : List Placed). take i (seqs ms) ++ placed_seqs l) (none_from from ps none) ∙ append-nil (take i (seqs ms)) ∙ take_all i (seqs ms) (omega (arith, past, counted ms))

-- none is left
pub none_left : (o found : Option Placed) (r : Bool) → is_some o ≡ not r → o ≡ found → r ≡ true → found ≡ None
none_left None found r is same none = sym same
none_left (Some p) found r is same none = absurd (true≢false (is ∙ ap not none))

-- the sequence behind the message that was looked for
pub behind_found : (o : Option ℕ) (seq : ℕ) (found : Option Placed) (p : Placed) → SomeIff o (seq + 1 < 2 ^ 64) (seq + 1) → Some p ≡ found → p.seq ≡ seq
    → IfSome o (λ next. (next ≡ seq + 1) × (option_map (λ q. q.seq) found ≡ Some seq))
behind_found None seq found p told there same = tt
behind_found (Some next) seq found p told there same = (told.1, sym (ap (option_map (λ (q : Placed). q.seq)) there) ∙ ap Some same)
