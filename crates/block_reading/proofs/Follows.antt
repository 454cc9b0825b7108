-- How messages stand one behind the other in bytes.
use Rattle.std.proofs.Common.{◌≡◌, ◌≤◌, ℕ, ◌+◌, List, [], ◌∷◌, ◌++◌, Ok, refl, sym, ap, subst, ◌∙◌, arith}
use Rattle.js_base.specs.Bytes.{Bytes}
use Rattle.js_model.specs.Lists.{Between}
use Rattle.js_model.specs.declared.stream.Message.{Message}
use Rattle.op_records.specs.Blocks.{message_at, Follow}
use Rattle.op_records.proofs.Steps.{place_is}
use Rattle.block_reading.proofs.Order.{message_on}

module _ (bytes : Bytes) where
  pub follow_push : (ms : List Message) (here at behind : ℕ) (m : Message) → Follow bytes here ms at → message_at bytes at ≡ Ok (m, behind) → Follow bytes here (ms ++ m ∷ []) behind
  follow_push [] here at behind m f is = (behind, subst (λ (k : ℕ). message_at bytes k ≡ Ok (m, behind)) (sym f) is, refl)
  follow_push (x ∷ xs) here at behind m f is = (f.0, f.1, follow_push xs f.0 at behind m f.2 is)

  pub follow_last : (ms : List Message) (here at behind : ℕ) (m : Message) → Follow bytes here ms at → Follow bytes here (ms ++ m ∷ []) behind → message_at bytes at ≡ Ok (m, behind)
  follow_last [] here at behind m f g = subst (λ (k : ℕ). message_at bytes k ≡ Ok (m, behind)) f (g.1 ∙ ap (λ (e : ℕ). Ok (m, e)) g.2)
  follow_last (x ∷ xs) here at behind m f g =
      let same = place_is x g.0 x f.0 (sym g.1 ∙ f.1) in
      follow_last xs f.0 at behind m f.2 (subst (λ (k : ℕ). Follow bytes k (xs ++ m ∷ []) behind) same g.2)

  pub follow_on : (ms : List Message) (here end : ℕ) → Follow bytes here ms end → here ≤ end
  follow_on [] here end f = omega (arith, f)
  follow_on (x ∷ xs) here end f = omega (arith, message_on bytes here x f.0 f.1, follow_on xs f.0 end f.2)

-- the least sequence that the next message may have
abbrev pub next_seq : ℕ → List Message → ℕ
next_seq low [] = low
next_seq low (m ∷ ms) = next_seq (m.seq + 1) ms

pub next_push : (low : ℕ) (ms : List Message) (m : Message) → next_seq low (ms ++ m ∷ []) ≡ m.seq + 1
next_push low [] m = refl
next_push low (x ∷ xs) m = next_push (x.seq + 1) xs m

pub between_push : (low high top : ℕ) (ms : List Message) (m : Message) → Between (λ m. m.seq) low high ms → next_seq low ms ≤ m.seq → m.seq + 1 ≤ top → Between (λ m. m.seq) low top (ms ++ m ∷ [])
between_push low high top [] m b le below = (le, below)
between_push low high top (x ∷ xs) m b le below = (b.0, between_push (x.seq + 1) high top xs m b.1 le below)

pub between_last : (low high : ℕ) (ms : List Message) (m : Message) → Between (λ m. m.seq) low high (ms ++ m ∷ []) → (next_seq low ms ≤ m.seq) × (m.seq + 1 ≤ high)
between_last low high [] m b = (b.0, b.1)
between_last low high (x ∷ xs) m b = between_last (x.seq + 1) high xs m b.1
