-- Laws of links that are out.
use Rattle.std.proofs.Common.{ℕ, List, [], ◌∷◌, Option, None, Some, arith, length-append}
use Rattle.link_edge.specs.declared.answers.Accept.TheVariants.{Got}
use Rattle.link_edge.specs.Told.{grown}
use Rattle.link_edge.specs.Accepts.{gave_after}
use Rattle.link_edge.specs.Reports.{Report, HasOut, IsBalanced}

-- the link that was just given out is out
pub HasOut-gave_after : {L : Type 0} (gave : Option ℕ) (back : Option (List Report)) (link : L) →
    IsBalanced gave back → HasOut (gave_after gave (Got link)) back
HasOut-gave_after None back link h = tt
HasOut-gave_after (Some n) None link h = tt
HasOut-gave_after (Some n) (Some reports) link h = omega arith

-- a link that was out came back
pub IsBalanced-grown : (gave : Option ℕ) (back : Option (List Report)) (report : Report) → HasOut gave back →
    IsBalanced gave (grown back (report ∷ []))
IsBalanced-grown None back report h = tt
IsBalanced-grown (Some n) None report h = tt
IsBalanced-grown (Some n) (Some reports) report h = omega (arith, length-append reports (report ∷ []))
