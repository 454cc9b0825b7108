-- The ranges of what leaves an ascending list have just that of its elements.
use Rattle.std.proofs.Common.{◌≡◌, ℕ, ◌+◌, ◌<◌, ◌≤◌, Bool, true, false, ◌&&◌, not, cond, List, [], ◌∷◌, refl, sym, ap, ◌∙◌, subst, arith, ◌⊎◌, inl, inr}
use Rattle.std.specs.Prelude.{nat_le, ◌==◌}
use Rattle.std.proofs.lemmas.Bool.{true≢false, eqb-true, le-leb, lt-leb, and_parts, and_left, and_right, or_cases}
use Rattle.js_base.specs.Bytes.{has}
use Rattle.js_model.specs.Lists.{Between}
use Rattle.model_laws.proofs.SoundTime.{has_between}
use Rattle.effects.specs.Ranges.{Range, is_within, is_outside, first_leaves, widened, with_leaving, ranges}

-- the first range begins with this sequence
pub record Begins (m : ℕ) (rs : List Range) : Type 0 where
  pub range : Range
  pub rest : List Range
  pub parts : rs ≡ range ∷ rest
  pub low : range.low ≡ m
  pub high : m ≤ range.high

pub record Covers (leaves : ℕ → Bool) (low : ℕ) (ns : List ℕ) (rs : List Range) : Type 0 where
  -- of these sequences the ranges have those that leave
  pub agrees : (n : ℕ) → has ns n ≡ true → is_outside rs n ≡ not (leaves n)
  pub below : (n : ℕ) → n < low → is_outside rs n ≡ true
  pub first : (m : ℕ) (ms : List ℕ) → ns ≡ m ∷ ms → leaves m ≡ true → Begins m rs

-- ---- one range

within_at : (low high n : ℕ) → low ≤ n → n ≤ high → is_within low high n ≡ true
within_at low high n l h = rw (le-leb low n l, le-leb n high h) refl

within_under : (low high n : ℕ) → n < low → is_within low high n ≡ false
within_under low high n l = and_left (nat_le low n) (nat_le n high) (lt-leb low n l)

within_over : (low high n : ℕ) → high < n → is_within low high n ≡ false
within_over low high n h = and_right (nat_le low n) (nat_le n high) (lt-leb n high h)

-- a range that begins lower has the same of what comes after
within_wider : (low new high n : ℕ) → new ≤ n → low ≤ n → is_within new high n ≡ is_within low high n
within_wider low new high n l k = ap (λ (b : Bool). b && nat_le n high) (le-leb new n l ∙ sym (le-leb low n k))

outside_first : (r : Range) (rs : List Range) (n : ℕ) (b : Bool) → is_within r.low r.high n ≡ b → is_outside (r ∷ rs) n ≡ (not b && is_outside rs n)
outside_first r rs n b e = ap (λ (b : Bool). not b && is_outside rs n) e

-- ---- all of them

nil_cons : {X : Type 0} {x : X} {xs : List X} → [] ≡ x ∷ xs → ⊥
nil_cons e = cc

head_is : {X : Type 0} {x y : X} {xs ys : List X} → x ∷ xs ≡ y ∷ ys → x ≡ y
head_is e = cc

module _ (leaves : ℕ → Bool) (n low high : ℕ) (ns : List ℕ) (lower : low ≤ n) (later : Between (λ m. m) (n + 1) high ns) (rs : List Range) (k : Covers leaves (n + 1) ns rs) where
  above : (m : ℕ) → has ns m ≡ true → n + 1 ≤ m
  above m e = has_between m (n + 1) high ns later e

  -- the first one stays
  stays : leaves n ≡ false → Covers leaves low (n ∷ ns) rs
  stays e = record {
    agrees = λ m h. cases m (or_cases (n == m) (has ns m) h);
    below = λ m l. k.below m (omega arith);
    first = λ m ms q w. absurd (true≢false (sym w ∙ sym (ap leaves (head_is q)) ∙ e));
  }
    where
      cases : (m : ℕ) → ((n == m) ≡ true) ⊎ (has ns m ≡ true) → is_outside rs m ≡ not (leaves m)
      cases m (inl q) = subst (λ (l : ℕ). is_outside rs l ≡ not (leaves l)) (eqb-true n m q) (k.below n (omega arith) ∙ sym (ap not e))
      cases m (inr q) = k.agrees m q

  -- it leaves alone
  alone : leaves n ≡ true → Covers leaves low (n ∷ ns) (record { low = n; high = n } ∷ rs)
  alone e = record {
    agrees = λ m h. cases m (or_cases (n == m) (has ns m) h);
    below = λ m l. outside_first (record { low = n; high = n }) rs m false (within_under n n m (omega arith)) ∙ k.below m (omega arith);
    first = λ m ms q w. record { range = record { low = n; high = n }; rest = rs; parts = refl; low = head_is q; high = let p : n ≡ m = head_is q in omega arith };
  }
    where
      cases : (m : ℕ) → ((n == m) ≡ true) ⊎ (has ns m ≡ true) → is_outside (record { low = n; high = n } ∷ rs) m ≡ not (leaves m)
      cases m (inl q) =
          subst (λ (l : ℕ). is_outside (record { low = n; high = n } ∷ rs) l ≡ not (leaves l)) (eqb-true n m q)
          (outside_first (record { low = n; high = n }) rs n true (within_at n n n (omega arith) (omega arith)) ∙ sym (ap not e))
      cases m (inr q) = outside_first (record { low = n; high = n }) rs m false (within_over n n m (let a : n + 1 ≤ m = above m q in omega arith)) ∙ k.agrees m q

  -- it leaves with the next
  joined : leaves n ≡ true → (m : ℕ) → n + 1 ≤ m → ((l : ℕ) → has ns l ≡ true → m ≤ l) → Begins m rs → Covers leaves low (n ∷ ns) (widened n rs)
  joined e m up least b = subst (λ (l : List Range). Covers leaves low (n ∷ ns) (widened n l)) (sym b.parts) (wider b.range b.rest b.parts b.low b.high)
    where
      wider : (r : Range) (rest : List Range) → rs ≡ r ∷ rest → r.low ≡ m → m ≤ r.high → Covers leaves low (n ∷ ns) (record { low = n; high = r.high } ∷ rest)
      wider r rest p f g = record {
        agrees = λ l h. cases l (or_cases (n == l) (has ns l) h);
        below = λ l q. outside_first new rest l false (within_under n r.high l (omega arith)) ∙ (and_parts (not (is_within r.low r.high l)) (is_outside rest l) (sym (ap (λ (x : List Range). is_outside x l) p) ∙ k.below l (omega arith))).1;
        first = λ l ls q w. record { range = new; rest = rest; parts = refl; low = head_is q; high = let y : n ≡ l = head_is q in omega arith };
      }
        where
          new : Range
          new = record { low = n; high = r.high }

          cases : (l : ℕ) → ((n == l) ≡ true) ⊎ (has ns l ≡ true) → is_outside (new ∷ rest) l ≡ not (leaves l)
          cases l (inl q) = subst (λ (l : ℕ). is_outside (new ∷ rest) l ≡ not (leaves l)) (eqb-true n l q) (outside_first new rest n true (within_at n r.high n (omega arith) (omega arith)) ∙ sym (ap not e))
          cases l (inr q) =
              let a : m ≤ l = least l q in
              ap (λ (b : Bool). not b && is_outside rest l) (within_wider r.low n r.high l (omega arith) (omega arith))
              ∙ sym (ap (λ (x : List Range). is_outside x l) p) ∙ k.agrees l q

  leaving : leaves n ≡ true → Covers leaves low (n ∷ ns) (with_leaving n (first_leaves leaves ns) rs)
  leaving e = go ns refl
    where
      go : (ms : List ℕ) → ns ≡ ms → Covers leaves low (n ∷ ns) (with_leaving n (first_leaves leaves ms) rs)
      go [] q = alone e
      go (m ∷ ms) q = next (leaves m) refl
        where
          least : Between (λ m. m) (n + 1) high (m ∷ ms) → (l : ℕ) → has (m ∷ ms) l ≡ true → m ≤ l
          least b l h = has_between l m high (m ∷ ms) (omega arith, b.1) h

          next : (b : Bool) → leaves m ≡ b → Covers leaves low (n ∷ ns) (cond b (widened n rs) (record { low = n; high = n } ∷ rs))
          next true w = let b = subst (Between (λ m. m) (n + 1) high) q later in joined e m b.0 (λ l h. least b l (subst (λ (x : List ℕ). has x l ≡ true) q h)) (k.first m ms q w)
          next false w = alone e

pub covers : (leaves : ℕ → Bool) (low high : ℕ) (ns : List ℕ) → Between (λ n. n) low high ns → Covers leaves low ns (ranges leaves ns)
covers leaves low high [] h = record { agrees = λ n e. absurd (true≢false (sym e)); below = λ n l. refl; first = λ m ms q w. absurd (nil_cons q) }
covers leaves low high (n ∷ ns) h = go (leaves n) refl (covers leaves (n + 1) high ns h.1)
  where
    go : (b : Bool) → leaves n ≡ b → Covers leaves (n + 1) ns (ranges leaves ns) → Covers leaves low (n ∷ ns) (cond b (with_leaving n (first_leaves leaves ns) (ranges leaves ns)) (ranges leaves ns))
    go true e k = leaving leaves n low high ns h.0 h.1 (ranges leaves ns) k e
    go false e k = stays leaves n low high ns h.0 h.1 (ranges leaves ns) k e
