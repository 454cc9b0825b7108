-- Laws of what a door answers.
use Rattle.std.proofs.Common.{◌≡◌, ◌<◌, ◌∙◌, ℕ, List, [], ◌∷◌, Option, None, Some, option_map, ap, refl, replicate, subst, sym}
use Rattle.std.specs.Prelude.{IfSome}
use Rattle.link_edge.specs.Told.{grown, emptied}
use Rattle.link_edge.specs.Accepts.{accepted_of}
use Rattle.link_edge.specs.Failings.{HasNoneStarved, after_accept, with_accept, with_starved_accept}
use Rattle.link_edge.specs.declared.answers.Accept.{Accept}
use Rattle.link_edge.specs.declared.answers.Accept.TheVariants as accepts
use Rattle.link_edge.specs.declared.answers.Accepted.{Accepted}
use Rattle.link_edge.specs.declared.answers.Accepted.TheVariants as accepted
use Rattle.link_edge.specs.declared.failings.Starved.{Starved}
use Rattle.link_edge.proofs.FirstFailing.{first_accept, first_starved}
use Rattle.link_edge.proofs.Told.{grown_on}
use Rattle.server.specs.Accepting.{Arrives, IsAccepted, NoneStarves, Starves}

accepted_last : (last : List Accepted) (n : ℕ) (a0 a1 a2 : Option (List Accepted)) → n < 1000000 → a1 ≡ grown a0 (replicate n accepted.Quiet) → a2 ≡ grown a1 last → IsAccepted a0 a2 last
accepted_last last n a0 a1 a2 few e f = record { quiets = n; few = few; answered = grown_on a0 a1 a2 (replicate n accepted.Quiet) last e f }

-- the first answer that is not quiet
pub arrives : {L : Type 0} (accept : Accept L) (n : ℕ) (a0 a1 a2 : Option (List Accepted)) → (accept ≡ accepts.Quiet → ⊥) → n < 1000000
    → a1 ≡ grown a0 (replicate n accepted.Quiet) → a2 ≡ grown a1 (accepted_of accept) → Arrives accept a0 a2
arrives (accepts.Got link) n a0 a1 a2 not few e f = accepted_last (accepted.Got ∷ []) n a0 a1 a2 few e f
arrives accepts.Quiet n a0 a1 a2 not few e f = absurd (not refl)
arrives accepts.Closed n a0 a1 a2 not few e f = accepted_last (accepted.Closed ∷ []) n a0 a1 a2 few e f
arrives accepts.Failed n a0 a1 a2 not few e f = accepted_last (accepted.Failed ∷ []) n a0 a1 a2 few e f
arrives accepts.NoMemory n a0 a1 a2 not few e f = accepted_last [] n a0 a1 a2 few e f

-- an accept that found memory, behind others that did
pub none_starves : (s0 s1 s2 : Option Starved) → NoneStarves s0 s1 → s2 ≡ option_map with_accept s1 → NoneStarves s0 s2
none_starves s0 s1 s2 e f none = f ∙ first_accept s1 (subst HasNoneStarved (sym (e none)) none) ∙ e none

-- any accept, behind others that found memory
pub starves : {L : Type 0} (accept : Accept L) (s0 s1 s2 : Option Starved) → NoneStarves s0 s1 → s2 ≡ after_accept accept s1 → Starves accept s0 s2
starves (accepts.Got link) s0 s1 s2 e f = none_starves s0 s1 s2 e f
starves accepts.Quiet s0 s1 s2 e f = none_starves s0 s1 s2 e f
starves accepts.Closed s0 s1 s2 e f = none_starves s0 s1 s2 e f
starves accepts.Failed s0 s1 s2 e f = none_starves s0 s1 s2 e f
starves accepts.NoMemory s0 s1 s2 e f = λ none.
    f ∙ first_starved with_starved_accept s1 (subst HasNoneStarved (sym (e none)) none) ∙ ap (option_map with_starved_accept) (e none)

-- what was told from nothing on is told whole
pub told_whole : {X : Type 0} (old new : Option (List X)) (xs : List X) → old ≡ emptied old → new ≡ grown old xs → IfSome new (λ ys. ys ≡ xs)
told_whole None new xs e f = rw f tt
told_whole (Some old) new xs e f =
    let k : old ≡ [] = cc in
    rw (f, k) refl
