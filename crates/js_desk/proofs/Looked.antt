-- Look-ups and calls of the catalog, as the entries that they make.
use Rattle.std.proofs.Common.{◌≡◌, ◌≤◌, ℕ, Bool, false, List, [], ◌∷◌, Option, Ok, refl, subst}
use Rattle.js_model.specs.declared.event.What.{What}
use Rattle.js_model.specs.declared.stream.State.{State}
use Rattle.js_model.specs.declared.desk.PlaceAt.{PlaceAt}
use Rattle.js_model.specs.Router.{Router}
use Rattle.js_model.specs.Catalog as catalog
use Rattle.js_model.specs.Catalog.{Catalog, CatCall, CatTold, IsCatalogCall}
use Rattle.js_model.specs.PlaceStates.{PlaceIn}
use Rattle.js_api.specs.Calls.{Resumes, Turns}
use Rattle.js_api.specs.Entries.{Looked, Turned, Resumed}
use Rattle.js_api.specs.Leading.{Makes}
use Rattle.js_api.specs.Stages.{LooksUp}
use Rattle.js_api.specs.Worlds.{place_or}
use Rattle.desk_ground.specs.Grounds as phases
use Rattle.desk_places.specs.declared.turn.Turn.{Turn}
use Rattle.desk_places.specs.declared.turn.Turn.TheVariants as turns
use Rattle.place_engine.specs.Stepping.{Image}
use Rattle.js_desk.specs.Kept.{kept_none}
use Rattle.js_desk.specs.Outlasting.{outlast_quiet}
use Rattle.desk_places.specs.Turns.{phase_of}
use Rattle.desk_places.proofs.Turns.{outside_is, within_is}
use Rattle.js_desk.specs.Grounds.{AreSingle, IsGrounded, SoloMade, standing}

module _ {V : Type 0} (keeps : V → V → Type 0) (none : (v : V) → keeps v v) (holds : Image → State → Type 0) (left : V → ℕ → Image → Type 0) (clock : V → ℕ) (base : Option ℕ → V → State → Type 0) (outgrows : State → What → Type 0) (earlier : (v : V) (t u : ℕ) (image : Image) → t ≤ u → left v u image → left v t image) (r : Router) (places : List PlaceIn) (vols : List V) (ticked : ℕ) (last : Option PlaceAt) where
  -- one call
  pub looked : (c d : Catalog) (before after : Turn) (joined : Bool) (call : CatCall) (told : CatTold) → IsCatalogCall c call told d
      → SoloMade keeps holds left clock base outgrows (standing r c places vols ticked last before) (Looked joined call told ∷ []) (standing r d places vols ticked last after)
  looked c d before after joined call told h = (((standing r d places vols ticked last after).scene, (h, refl), refl), kept_none keeps none vols, outlast_quiet holds left clock base earlier (Looked joined call told ∷ []) (record { places = places; vols = vols }) (λ number. refl), (tt, tt))

-- a look-up
pub looked_up : {V : Type 0} (keeps : V → V → Type 0) (none : (v : V) → keeps v v) (holds : Image → State → Type 0) (left : V → ℕ → Image → Type 0) (clock : V → ℕ) (base : Option ℕ → V → State → Type 0) (outgrows : State → What → Type 0) (earlier : (v : V) (t u : ℕ) (image : Image) → t ≤ u → left v u image → left v t image) (r : Router) (c : Catalog) (places : List PlaceIn) (vols : List V) (ticked : ℕ) (last : Option PlaceAt) (turn : Turn) (call : CatCall) (found : Option PlaceAt) → IsCatalogCall c call (catalog.At found) c
    → Makes (SoloMade keeps holds left clock base outgrows) (LooksUp call (Ok found)) (standing r c places vols ticked last turn) (standing r c places vols ticked last turn)
looked_up keeps none holds left clock base outgrows earlier r c places vols ticked last turn call found h = record { entries = Looked false call (catalog.At found) ∷ []; are = refl; led = looked keeps none holds left clock base outgrows earlier r places vols ticked last c c turn turn false call (catalog.At found) h }

-- ---- turns

pub outside_single : (turn : Turn) (c : Catalog) → phase_of turn ≡ phases.Outside → AreSingle turn c → AreSingle turns.Outside c
outside_single turn c e h = subst (λ (t : Turn). AreSingle t c) (outside_is turn e) h

-- a turn is entered or ended
pub begun_grounded : (c : Catalog) (places : List PlaceIn) (last : Option PlaceAt) (turn : Turn) → phase_of turn ≡ phases.Outside → IsGrounded c places last turn → IsGrounded c places last turns.Within
begun_grounded c places last turn e g =
    let out = subst (λ (t : Turn). IsGrounded c places last t) (outside_is turn e) g in
    record { few = out.few; same = out.same; single = out.single; agreed = out.agreed; within = out.within }

pub ended_grounded : (c : Catalog) (places : List PlaceIn) (last : Option PlaceAt) (turn : Turn) → phase_of turn ≡ phases.Within → IsGrounded c places last turn → IsGrounded c places last turns.Outside
ended_grounded c places last turn e g =
    let in_turn = subst (λ (t : Turn). IsGrounded c places last t) (within_is turn e) g in
    record { few = in_turn.few; same = in_turn.same; single = in_turn.single; agreed = in_turn.agreed; within = in_turn.within }

pub begun_up : {V : Type 0} (keeps : V → V → Type 0) (none : (v : V) → keeps v v) (holds : Image → State → Type 0) (left : V → ℕ → Image → Type 0) (clock : V → ℕ) (base : Option ℕ → V → State → Type 0) (outgrows : State → What → Type 0) (earlier : (v : V) (t u : ℕ) (image : Image) → t ≤ u → left v u image → left v t image) (r : Router) (c : Catalog) (places : List PlaceIn) (vols : List V) (ticked : ℕ) (last : Option PlaceAt) (turn : Turn) (call : CatCall) (found : Option PlaceAt) → IsCatalogCall c call (catalog.At found) c
    → Makes (SoloMade keeps holds left clock base outgrows) (LooksUp call (Ok found)) (standing r c places vols ticked last turn) (standing r c places vols ticked last turns.Within)
begun_up keeps none holds left clock base outgrows earlier r c places vols ticked last turn call found h = record { entries = Looked false call (catalog.At found) ∷ []; are = refl; led = looked keeps none holds left clock base outgrows earlier r places vols ticked last c c turn turns.Within false call (catalog.At found) h }

-- ---- a tick's look-up, and the place of the last hold

pub turned : {V : Type 0} (keeps : V → V → Type 0) (none : (v : V) → keeps v v) (holds : Image → State → Type 0) (left : V → ℕ → Image → Type 0) (clock : V → ℕ) (base : Option ℕ → V → State → Type 0) (outgrows : State → What → Type 0) (earlier : (v : V) (t u : ℕ) (image : Image) → t ≤ u → left v u image → left v t image) (r : Router) (c : Catalog) (places : List PlaceIn) (vols : List V) (ticked : ℕ) (last : Option PlaceAt) (turn : Turn) (found : Option PlaceAt) → IsCatalogCall c (catalog.NextUsed ticked) (catalog.At found) c
    → Makes (SoloMade keeps holds left clock base outgrows) (Turns (Ok found)) (standing r c places vols ticked last turn) (standing r c places vols (place_or ticked found) last turn)
turned keeps none holds left clock base outgrows earlier r c places vols ticked last turn found h = record {
  entries = Turned ticked found ∷ [];
  are = (ticked, refl);
  led = (((standing r c places vols (place_or ticked found) last turn).scene, (refl, h, refl), refl), kept_none keeps none vols, outlast_quiet holds left clock base earlier (Turned ticked found ∷ []) (record { places = places; vols = vols }) (λ number. refl), (tt, tt));
}

pub resumed : {V : Type 0} (keeps : V → V → Type 0) (none : (v : V) → keeps v v) (holds : Image → State → Type 0) (left : V → ℕ → Image → Type 0) (clock : V → ℕ) (base : Option ℕ → V → State → Type 0) (outgrows : State → What → Type 0) (earlier : (v : V) (t u : ℕ) (image : Image) → t ≤ u → left v u image → left v t image) (r : Router) (c : Catalog) (places : List PlaceIn) (vols : List V) (ticked : ℕ) (last : Option PlaceAt) (turn : Turn)
    → Makes (SoloMade keeps holds left clock base outgrows) (Resumes (Ok last)) (standing r c places vols ticked last turn) (standing r c places vols ticked last turn)
resumed keeps none holds left clock base outgrows earlier r c places vols ticked last turn = record {
  entries = Resumed last ∷ [];
  are = refl;
  led = (((standing r c places vols ticked last turn).scene, (refl, refl), refl), kept_none keeps none vols, outlast_quiet holds left clock base earlier (Resumed last ∷ []) (record { places = places; vols = vols }) (λ number. refl), (tt, tt));
}
