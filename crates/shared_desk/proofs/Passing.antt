-- Passes that become one, the last ones first.
use Rattle.std.proofs.Common.{◌≡◌, ◌++◌, ◌<◌, ℕ, true, List, [], ◌∷◌, Option, None, Some, refl, sym, ap, subst, ◌∙◌, arith, length}
use Rattle.std.specs.Prelude.{IfSome, is_some}
use Rattle.std.specs.List.{AllByRecursion}
use Rattle.std.proofs.lemmas.List.{append_assoc}
use Rattle.js_base.specs.Bytes.{has}
use Rattle.js_model.specs.declared.desk.PlaceAt.{PlaceAt}
use Rattle.turn_lock.specs.Seats.{LockView, SeatView}
use Rattle.hub_fronts.specs.Fronts.{SharedScene}
use Rattle.shared_desk.specs.Hubs.{HubView, IsHub}
use Rattle.shared_desk.specs.Joining.{IsPassJoined}
use Rattle.shared_desk.specs.Passes.{AreAllPasses, IsPassOf}
use Rattle.shared_desk.specs.Seats.{IsSeated}
use Rattle.shared_desk.proofs.Joined.{GathersPass, gathers_pass, gathers_pass_more}

-- each hub has one
pub some_passes : (hub : HubView) (passes : List SharedScene) → IsHub hub → AreAllPasses hub passes → 0 < length passes
some_passes hub [] is all = absurd (none (all.catalog 0 is.some))
  where
    none : has [] 0 ≡ true → ⊥
    none e = cc
some_passes hub (pass ∷ passes) is all = omega arith

-- the passes behind the others are this one, and the others are still of the hub
pub record ArePassesJoined (hub : HubView) (passes rest : List SharedScene) (all : SharedScene) : Type 0 where
  pub taken : List SharedScene
  pub passes_are : passes ≡ rest ++ taken
  pub gathers : GathersPass taken all
  pub others : AllByRecursion (IsPassOf hub) rest
  pub own : IsPassOf hub all

last_own : (hub : HubView) (rest : List SharedScene) (pass : SharedScene) → AllByRecursion (IsPassOf hub) (rest ++ pass ∷ []) → AllByRecursion (IsPassOf hub) rest × IsPassOf hub pass
last_own hub [] pass h = (tt, h.0)
last_own hub (p ∷ rest) pass h = let more = last_own hub rest pass h.1 in ((h.0, more.0), more.1)

pub last_pass : (hub : HubView) (passes rest : List SharedScene) (pass : SharedScene) → passes ≡ rest ++ pass ∷ [] → AllByRecursion (IsPassOf hub) passes → AllByRecursion (IsPassOf hub) rest × IsPassOf hub pass
last_pass hub passes rest pass e h = last_own hub rest pass (subst (AllByRecursion (IsPassOf hub)) e h)

pub one_pass : (hub : HubView) (passes rest : List SharedScene) (pass : SharedScene) → passes ≡ rest ++ pass ∷ [] → AllByRecursion (IsPassOf hub) passes → ArePassesJoined hub passes rest pass
one_pass hub passes rest pass e each =
    let last = last_pass hub passes rest pass e each in
    record { taken = pass ∷ []; passes_are = e; gathers = gathers_pass pass; others = last.0; own = last.1 }

pub more_passes : (hub : HubView) (passes mid rest : List SharedScene) (pass all new : SharedScene) → ArePassesJoined hub passes mid all → mid ≡ rest ++ pass ∷ [] → IsPassJoined pass all new → IsPassOf hub new
    → ArePassesJoined hub passes rest new
more_passes hub passes mid rest pass all new h e joined own = record {
  taken = pass ∷ h.taken;
  passes_are = h.passes_are ∙ (ap (λ (ps : List SharedScene). ps ++ h.taken) e ∙ append_assoc rest (pass ∷ []) h.taken);
  gathers = gathers_pass_more pass h.taken all new joined h.gathers;
  others = (last_pass hub mid rest pass e h.others).0;
  own = own;
}

pub all_passes : (hub : HubView) (passes rest : List SharedScene) (all : SharedScene) → ArePassesJoined hub passes rest all → rest ≡ [] → GathersPass passes all
all_passes hub passes rest all h none = subst (λ (ps : List SharedScene). GathersPass ps all) (sym (h.passes_are ∙ ap (λ (ps : List SharedScene). ps ++ h.taken) none)) h.gathers

-- ---- one pass of two

pub is_seated : (of : LockView) (seat : Option SeatView) → IsSeated of seat → is_some seat ≡ true
is_seated of None seated = absurd seated
is_seated of (Some seat) seated = refl

pub still_within : (last : Option PlaceAt) (were are : ℕ) → are ≡ were → IfSome last (λ (at : PlaceAt). at.place < were) → IfSome last (λ (at : PlaceAt). at.place < are)
still_within last were are same within = subst (λ (n : ℕ). IfSome last (λ (at : PlaceAt). at.place < n)) (sym same) within
