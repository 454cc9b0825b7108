-- Where messages lie whose sequences are those of a table.
use Rattle.std.proofs.Common.{◌≡◌, ℕ, zero, suc, ◌<◌, Bool, false, ◌==◌, cond, List, [], ◌∷◌, length, get_or, map, Some, refl, sym, ap, subst, ◌∙◌, arith}
use Rattle.std.specs.Prelude.{find, option_map}
use Rattle.std.specs.List.{AllByRecursion}
use Rattle.std.specs.List.Sorted.{IsStrictlySortedBy}
use Rattle.std.specs.Ordering.{nat_cmp}
use Rattle.std.specs.declared.cmp.Ordering.TheVariants.{Less}
use Rattle.std.proofs.lemmas.Bool.{eq-eqb}
use Rattle.std.proofs.lemmas.Bool.Decides.{nat_tests}
use Rattle.js_base.specs.declared.spot.Spot.{Spot}
use Rattle.js_model.specs.Streams.{seqs}
use Rattle.js_model.specs.declared.stream.Message.{Message}
use Rattle.js_model.proofs.Named.{some_is}
use Rattle.block_table.specs.Blocks.{spot_of}
use Rattle.block_table.specs.Tables.{AreRising}
use Rattle.block_table.specs.declared.placed.Placed.{Placed}
use Rattle.state_snapshot.specs.Snapshots.{stored_in}
use Rattle.state_snapshot.specs.declared.snapshot.StoredMessage.{StoredMessage}

abbrev stored : ℕ → ℕ → Spot → StoredMessage
stored seq at spot = record { seq = seq; at = at; spot = spot }

abbrev pub with_spot : Message → Spot → StoredMessage
with_spot m spot = stored m.seq m.at spot

-- the message at this index has a spot, with which it is told there
pub record SpotAt (ps : List Placed) (ms : List Message) (i : ℕ) (m : Message) : Type 0 where
  pub spot : Spot
  pub found : spot_of ps m.seq ≡ Some spot
  pub within : i < length (stored_in ps ms)
  pub told : get_or (stored_in ps ms) i (with_spot m spot) ≡ with_spot m spot

-- all of the sequences are above this one, and so is each
above : (n : ℕ) (ms : List Message) (i : ℕ) (m : Message) → AllByRecursion (λ k. nat_cmp n k ≡ Less) (seqs ms) → i < length ms → m ≡ get_or ms i m → nat_cmp n m.seq ≡ Less
above n [] i m h lt is = absurd (omega (arith, lt))
above n (x ∷ ms) zero m h lt is = subst (λ (y : Message). nat_cmp n y.seq ≡ Less) (sym is) h.0
above n (x ∷ ms) (suc i) m h lt is = above n ms i m h.1 (omega (arith, lt)) is

apart : (n k : ℕ) → nat_cmp n k ≡ Less → (n == k) ≡ false
apart n k h = grind (arith, nat_tests, h)

pub spot_at : (ps : List Placed) (ms : List Message) (i : ℕ) (m : Message) → AreRising ps → map (λ (p : Placed). p.seq) ps ≡ seqs ms → i < length ms → m ≡ get_or ms i m → SpotAt ps ms i m
unfolding IsStrictlySortedBy
spot_at ps [] i m rising e lt is = absurd (omega (arith, lt))
spot_at [] (x ∷ ms) i m rising e lt is = absurd (cc)
spot_at (p ∷ ps) (x ∷ ms) zero m rising e lt is =
    let first : p.seq ≡ x.seq = cc in
    let same : p.seq ≡ m.seq = first ∙ ap (λ (y : Message). y.seq) (sym is) in
    record {
      spot = p.spot;
      found = ap (λ (b : Bool). option_map (λ (q : Placed). q.spot) (cond b (Some p) (find (λ (q : Placed). q.seq == m.seq) ps))) (eq-eqb p.seq m.seq same);
      within = omega arith;
      told = ap (λ (y : Message). with_spot y p.spot) (sym is);
    }
spot_at (p ∷ ps) (x ∷ ms) (suc i) m rising e lt is =
    let rest : map (λ (q : Placed). q.seq) ps ≡ seqs ms = cc in
    let more = spot_at ps ms i m rising.1 rest (omega (arith, lt)) is in
    let less = above p.seq ms i m (subst (AllByRecursion (λ k. nat_cmp p.seq k ≡ Less)) rest rising.0) (omega (arith, lt)) is in
    record {
      spot = more.spot;
      found =
          ap (λ (b : Bool). option_map (λ (q : Placed). q.spot) (cond b (Some p) (find (λ (q : Placed). q.seq == m.seq) ps))) (apart p.seq m.seq less)
          ∙ more.found;
      within = omega (arith, more.within);
      told = more.told;
    }

-- the message with the spot that the table has for it stands there
pub told_at : (ps : List Placed) (ms : List Message) (i : ℕ) (m : Message) (x : StoredMessage) → SpotAt ps ms i m → Some x.spot ≡ spot_of ps m.seq → x.seq ≡ m.seq → x.at ≡ m.at → x ≡ get_or (stored_in ps ms) i x
told_at ps ms i m x here spot seq at =
    let same : x.spot ≡ here.spot = some_is (spot ∙ here.found) in
    let is : x ≡ with_spot m here.spot = ap (λ (n : ℕ). stored n x.at x.spot) seq ∙ ap (λ (n : ℕ). stored m.seq n x.spot) at ∙ ap (with_spot m) same in
    subst (λ (y : StoredMessage). y ≡ get_or (stored_in ps ms) i y) (sym is) (sym here.told)

-- there are as many as messages
pub as_many : (ps : List Placed) (ms : List Message) → map (λ (p : Placed). p.seq) ps ≡ seqs ms → length (stored_in ps ms) ≡ length ms
as_many ps [] e = refl
as_many [] (m ∷ ms) e = absurd (cc)
as_many (p ∷ ps) (m ∷ ms) e = let rest : map (λ (q : Placed). q.seq) ps ≡ seqs ms = cc in ap suc (as_many ps ms rest)
