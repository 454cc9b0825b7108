-- Until when nothing is due to pulls, as pulls come.
use Rattle.std.proofs.Common.{◌≡◌, ℕ, Bool, true, false, ◌||◌, List, [], ◌∷◌, ◌++◌, Option, refl, sym, ◌∙◌}
use Rattle.std.specs.Prelude.{All}
use Rattle.std.proofs.lemmas.List.Elements.{All-append, All-cons, All-nil}
use Rattle.js_model.specs.declared.consumer.Pull.{Pull}
use Rattle.pull_queue.specs.Quiet.{is_due, is_reached, IsQuietUntil}

pub neither : (a b : Bool) → (a || b) ≡ false → (a ≡ false) × (b ≡ false)
neither true b h = cc
neither false b h = (refl, h)

-- a pull more
pub quiet_more : (old one next : Option ℕ) (pulls : List Pull) (p : Pull) → IsQuietUntil old pulls → ((now : ℕ) → is_reached now one ≡ is_due now p)
    → ((now : ℕ) → is_reached now next ≡ (is_reached now old || is_reached now one)) → IsQuietUntil next (pulls ++ p ∷ [])
quiet_more old one next pulls p quiet is earlier = record { none_due = λ now not_yet. none now (neither (is_reached now old) (is_reached now one) (sym (earlier now) ∙ not_yet)) }
  where
    none : (now : ℕ) → (is_reached now old ≡ false) × (is_reached now one ≡ false) → All (λ q. is_due now q ≡ false) (pulls ++ p ∷ [])
    none now parts =
        All-append (λ q. is_due now q ≡ false) pulls (p ∷ []) (quiet.none_due now parts.0)
        (All-cons (λ q. is_due now q ≡ false) p [] (sym (is now) ∙ parts.1) (All-nil (λ q. is_due now q ≡ false)))
