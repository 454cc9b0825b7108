-- A walk through messages up to a sequence.
use Rattle.std.proofs.Common.{◌≡◌, ℕ, ◌+◌, ◌<◌, ◌≤◌, ◌&&◌, Bool, true, false, cond, List, [], ◌∷◌, Some, None, refl, sym, ap, ◌∙◌, arith}
use Rattle.std.specs.Prelude.{find, nat_le, option_map}
use Rattle.std.proofs.lemmas.Bool.{lt-leb}
use Rattle.js_model.specs.declared.stream.Message.{Message}
use Rattle.js_model.specs.Lists.{Between}
use Rattle.js_model.proofs.Named.{some_is}
use Rattle.stored_stream.specs.Selecting.{next_passing}

module _ (t : Message → Bool) (last from : ℕ) where
  -- at most the last, and it passes
  abbrev passes : Message → Bool
  passes m = nat_le from m.seq && (nat_le m.seq last && t m)

  fails : (m : Message) → last < m.seq → passes m ≡ false
  fails m l = ap (λ b. nat_le from m.seq && (b && t m)) (lt-leb m.seq last l) ∙ and_false (nat_le from m.seq)
    where
      and_false : (b : Bool) → (b && false) ≡ false
      and_false true = refl
      and_false false = refl

  none_above : (low high : ℕ) (ms : List Message) → Between (λ m. m.seq) low high ms → last < low → find passes ms ≡ None
  none_above low high [] h l = refl
  none_above low high (m ∷ ms) h l =
      let q : low ≤ m.seq = h.0 in
      ap (λ b. cond b (Some m) (find passes ms)) (fails m (omega arith)) ∙ none_above (m.seq + 1) high ms h.1 (omega arith)

  none_past : (low high : ℕ) (m : Message) (ms : List Message) → Between (λ m. m.seq) low high ms → find (λ x. nat_le from x.seq) ms ≡ Some m → last < m.seq → find passes ms ≡ None
  none_past low high m [] h e l = refl
  none_past low high m (x ∷ ms) h e l = go (nat_le from x.seq) refl e (none_past (x.seq + 1) high m ms h.1)
    where
      go : (b : Bool) → nat_le from x.seq ≡ b → cond b (Some x) (find (λ y. nat_le from y.seq) ms) ≡ Some m → (find (λ y. nat_le from y.seq) ms ≡ Some m → last < m.seq → find passes ms ≡ None)
          → cond (b && (nat_le x.seq last && t x)) (Some x) (find passes ms) ≡ None
      go true q k r =
          let is : x.seq ≡ m.seq = ap (λ (y : Message). y.seq) (some_is k) in
          ap (λ b. cond (b && t x) (Some x) (find passes ms)) (lt-leb x.seq last (omega arith)) ∙ none_above (x.seq + 1) high ms h.1 (omega arith)
      go false q k r = r k l

-- behind the last one nothing is found
pub past_last : (t : Message → Bool) (last from low high : ℕ) (m : Message) (ms : List Message) → Between (λ m. m.seq) low high ms → Some m ≡ find (λ x. nat_le from x.seq) ms → last < m.seq → None ≡ next_passing (λ x. nat_le x.seq last && t x) ms from
past_last t last from low high m ms h e l = sym (ap (option_map (λ (x : Message). x.seq)) (none_past t last from low high m ms h (sym e) l))
