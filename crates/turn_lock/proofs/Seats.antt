-- What a seat that is idle and one that is inside have for a view, and what the steps of a call come to.
use Rattle.std.proofs.Common.{◌≡◌, append-nil, ℕ, zero, suc, ◌<◌, ◌≤◌, List, [], ◌∷◌, ◌++◌, length, length-append, arith, true, refl, sym, ap, ◌∙◌, subst, Option, Some, None}
use Rattle.atomic_table.specs.Table.{Me, rest}
use Rattle.atomic_table.specs.Seated.{TableId}
use Rattle.js_base.specs.Bytes.{has}
use Rattle.histories.specs.Entries.{Entry, Opening}
use Rattle.histories.specs.Fronts.{Grows, OneBegins}
use Rattle.turn_lock.specs.Views.{View, Idle, Inside, at_stage, with_ticket, met, note, first_of}
use Rattle.turn_lock.specs.declared.kept.Kept.{Kept}
use Rattle.turn_lock.specs.Ruled.{last_ticket, IsNumbered, Meeting}
use Rattle.turn_lock.specs.Seats.{shown, view_of, IsIdle, IsInside}
use Rattle.turn_lock.specs.Calls.{Comes, HasMet, IsJoined}
use Rattle.turn_lock.proofs.Lists.{numbered-append}
use Rattle.turn_lock.specs.Steps.{Enters, Taken}

-- ---- the views of a seat

-- a seat whose one view is this
pub idle_of : (legal : Opening → List Entry → Type 0) (vs : List View) (v : View) → vs ≡ v ∷ [] → v.stage ≡ Idle → IsNumbered v → legal v.opening v.front → IsIdle legal vs
idle_of legal vs v is idle numbered lawful = subst (IsIdle legal) (sym is) record { one = refl; idle = idle; numbered = numbered; lawful = lawful }

pub record Idles (legal : Opening → List Entry → Type 0) (v : View) : Type 0 where
  pub idle : v.stage ≡ Idle
  pub numbered : IsNumbered v
  pub lawful : legal v.opening v.front

-- what is known of the one view of a seat
pub idle_at : (legal : Opening → List Entry → Type 0) (vs : List View) (v : View) → vs ≡ v ∷ [] → IsIdle legal vs → Idles legal v
idle_at legal vs v is h = subst (Idles legal) (ap view_of is) record { idle = h.idle; numbered = h.numbered; lawful = h.lawful }

-- ---- what a slot has

head_of : {S : Type 0} → List (ℕ × Option (Kept S)) → Option (Kept S)
head_of [] = None
head_of (x ∷ xs) = x.1

kept_or : {S : Type 0} → Kept S → Option (Kept S) → Kept S
kept_or a None = a
kept_or a (Some x) = x

pub same_head : {S : Type 0} (a b : Option (Kept S)) (l xs ys : List (ℕ × Option (Kept S))) → l ≡ (0, a) ∷ xs → l ≡ (0, b) ∷ ys → a ≡ b
unfolding head_of
same_head a b l xs ys e f = ap head_of (sym e ∙ f)

pub some_same : {S : Type 0} (a b : Kept S) → Some a ≡ Some b → a ≡ b
unfolding kept_or
some_same a b e = ap (kept_or a) e

pub not_none : {S : Type 0} (a : Kept S) → Some a ≡ None → ⊥
not_none a e = absurd (cc)

opt_of : {S : Type 0} → List (Option (Kept S)) → Option (Kept S)
opt_of [] = None
opt_of (x ∷ xs) = x

pub last_one : {S : Type 0} (xs : List (Option (Kept S))) (a b : Kept S) → Some b ∷ [] ≡ xs ++ Some a ∷ [] → a ≡ b
unfolding kept_or opt_of
last_one [] a b e = sym (ap (λ l. kept_or a (opt_of l)) e)
last_one (x ∷ xs) a b e = let n : suc zero ≡ length (x ∷ (xs ++ Some a ∷ [])) = ap length e in let m = length-append xs (Some a ∷ []) in absurd (omega arith)

-- ---- coming in

-- the value that was taken out of the slot is the one that the look told of
pub taken_of : {S : Type 0} (stands : Opening → List Entry → S → Type 0) (legal : Opening → List Entry → Type 0) (t : ℕ) (m m' : Me (Option (Kept S)) View) (e : Enters S stands legal t m m') (x : Kept S)
    → m'.1 ≡ (0, Some x) ∷ rest m'.1 → Taken S stands m.0 m'.0 x.value
taken_of stands legal t m m' e x is = record {
  opening = ap (λ (v : View). v.opening) e.inside;
  numbers = ap (λ (v : View). v.numbers) e.inside;
  drawn = ap (λ (v : View). v.drawn) e.inside;
  grows = e.grows;
  stands_for = subst (λ (k : Kept _). stands m.0.opening m'.0.front k.value) (some_same e.kept x (same_head (Some e.kept) (Some x) m'.1 m.1 (rest m'.1) e.has_it is)) e.stands_for;
}

-- a seat that has come in holds the slot, once the value is out of it
pub inside_then : {S : Type 0} (stands : Opening → List Entry → S → Type 0) (legal : Opening → List Entry → Type 0) (t : ℕ) (m m' n : Me (Option (Kept S)) View) → Enters S stands legal t m m' → IsNumbered m.0 → m.1 ≡ []
    → n ≡ (m'.0, (0, None) ∷ rest m'.1) → IsInside legal n
inside_then stands legal t m m' n e numbered bare is = subst (IsInside legal) (sym is) record {
  ticket = t;
  inside = ap (λ (v : View). v.stage) e.inside;
  numbered = subst (λ (l : List ℕ). has l (first_of l) ≡ true) (sym (ap (λ (v : View). v.numbers) e.inside)) numbered;
  empty = ap (λ l. (0, None) ∷ rest l) e.has_it ∙ ap (λ l. (0, None) ∷ l) bare;
  lawful = subst (λ (x : Opening). legal x m'.0.front) (sym (ap (λ (v : View). v.opening) e.inside)) e.lawful;
}

-- ---- leaving

-- the value is put into the slot that a seat holds
pub record Puts {S : Type 0} (v : View) (k : Kept S) (m : Me (Option (Kept S)) View) : Type 0 where
  pub same : m.0 ≡ v
  pub ticket : ℕ
  pub inside : m.0.stage ≡ Inside ticket
  pub carried : m.1 ≡ (0, Some k) ∷ []

pub puts : {S : Type 0} (legal : Opening → List Entry → Type 0) (v : View) (c : List (ℕ × Option (Kept S))) (k : Kept S) (m : Me (Option (Kept S)) View) → IsInside legal (v, c) → m ≡ (v, (0, Some k) ∷ rest c) → Puts v k m
puts legal v c k m h e = record {
  same = ap (λ x. x.0) e;
  ticket = h.ticket;
  inside = ap (λ x. x.0.stage) e ∙ h.inside;
  carried = ap (λ x. x.1) e ∙ ap (λ l. (0, Some k) ∷ rest l) h.empty;
}

-- ---- what the calls come to

-- a seat that drew a ticket and came in
pub comes_of : {S : Type 0} (stands : Opening → List Entry → S → Type 0) (lock lock' : TableId) (v u w : View) (t : ℕ) (x : S) → lock' ≡ lock → u ≡ with_ticket v t → v.drawn ≤ t → t < last_ticket → Taken S stands u w x
    → Comes stands (shown lock v) (shown lock' w) x
comes_of stands lock lock' v u w t x same is few low k = let drawn : w.drawn ≡ suc t = k.drawn ∙ ap (λ (z : View). z.drawn) is in record {
  lock = same;
  opening = k.opening ∙ ap (λ (z : View). z.opening) is;
  numbers = k.numbers ∙ ap (λ (z : View). z.numbers) is;
  grows = subst (λ (z : View). Grows z.numbers z.front w.front) is k.grows;
  stands_for = subst (λ (o : Opening). stands o w.front x) (sym k.opening) k.stands_for;
  ticket = omega arith;
  low = omega arith;
}

pub joined_of : (lock lock' : TableId) (r j v w : View) (other : TableId) → lock' ≡ lock → r ≡ at_stage j Idle → j ≡ met v w → Meeting j.front v.front v.numbers w.front w.numbers
    → IsJoined (shown lock v) (shown other w) (shown lock' r)
joined_of lock lock' r j v w other same is both m = let all = is ∙ ap (λ (z : View). at_stage z Idle) both in let fronts : j.front ≡ r.front = sym (ap (λ (z : View). z.front) is) in record {
  lock = same;
  opening = ap (λ (z : View). z.opening) all;
  numbers = ap (λ (z : View). z.numbers) all;
  apart = m.two;
  drawn = ap (λ (z : View). z.drawn) all;
  first = subst (Grows v.numbers v.front) fronts m.first;
  second = subst (Grows w.numbers w.front) fronts m.second;
  one_begins = m.one_begins;
}

-- w is the copy of u
pub met_of : (lock lock' : TableId) (r j v w u : View) (other : TableId) → lock' ≡ lock → r ≡ at_stage j Idle → j ≡ met v w → w ≡ note u → Meeting j.front v.front v.numbers w.front w.numbers
    → HasMet (shown lock v) (shown other u) (shown lock' r)
met_of lock lock' r j v w u other same is both copied m =
    let all = is ∙ (ap (λ (z : View). at_stage z Idle) both ∙ ap (λ (z : View). at_stage (met v z) Idle) copied) in let fronts : j.front ≡ r.front = sym (ap (λ (z : View). z.front) is) in
    let seen : w.front ≡ u.front = ap (λ (z : View). z.front) copied in
    let second : Grows w.numbers u.front r.front = subst (λ (z : List Entry × List Entry). Grows w.numbers z.0 z.1) (λ i. (seen i, fronts i)) m.second in record {
      lock = same;
      opening = ap (λ (z : View). z.opening) all;
      numbers = ap (λ (z : View). z.numbers) all ∙ append-nil v.numbers;
      drawn = ap (λ (z : View). z.drawn) all;
      grows = subst (Grows v.numbers v.front) fronts m.first;
      begins = record { later = second.later; behind = second.behind };
      one_begins = subst (OneBegins v.front) seen m.one_begins;
    }

-- a seat that was compared with another is idle again
pub idle_met : (legal : Opening → List Entry → Type 0) (vs : List View) (r j v w : View) → vs ≡ r ∷ [] → r ≡ at_stage j Idle → j ≡ met v w → IsNumbered v → legal j.opening j.front → IsIdle legal vs
idle_met legal vs r j v w one is both numbered lawful =
    let all = is ∙ ap (λ (z : View). at_stage z Idle) both in
    idle_of legal vs (at_stage j Idle) (one ∙ ap (λ (z : View). z ∷ []) is) refl (subst (λ (l : List ℕ). has l (first_of l) ≡ true) (ap (λ (z : View). z.numbers) (sym both)) (numbered-append v.numbers w.numbers numbered)) lawful
