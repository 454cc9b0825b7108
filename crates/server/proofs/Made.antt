-- What entries make of a desk: of none, and of some behind others.
use Rattle.std.proofs.Common.{◌≤◌, ℕ, List, [], ◌++◌, Option}
use Rattle.js_model.specs.declared.event.What.{What}
use Rattle.js_model.specs.declared.stream.State.{State}
use Rattle.place_engine.specs.Stepping.{Image}
use Rattle.js_api.specs.Entries.{DeskEntry}
use Rattle.js_api.specs.Leading.{leads_more, leads_nothing}
use Rattle.js_api.specs.Worlds.{SoloStep}
use Rattle.js_desk.specs.Kept.{kept_more, kept_none}
use Rattle.js_desk.specs.Outgrown.{outgrown_more}
use Rattle.js_desk.specs.Outlasting.{outlast_more, outlast_none}
use Rattle.js_desk.specs.Solo.{DeskMade, Solo, row_in}

module _ {V : Type 0} (keeps : V → V → Type 0) (holds : Image → State → Type 0) (left : V → ℕ → Image → Type 0) (clock : V → ℕ) (base : Option ℕ → V → State → Type 0) (outgrows : State → What → Type 0) where
  pub made_none : ((v : V) → keeps v v) → ((v : V) (t u : ℕ) (image : Image) → t ≤ u → left v u image → left v t image) → (desk : Solo V) → DeskMade keeps holds left clock base outgrows desk [] desk
  made_none none earlier desk = (leads_nothing SoloStep desk.scene, kept_none keeps none desk.vols, outlast_none holds left clock base earlier (row_in desk), tt)

  pub made_more : ((a b c : V) → keeps a b → keeps b c → keeps a c) → (a b c : Solo V) (first more : List DeskEntry) → DeskMade keeps holds left clock base outgrows a first b → DeskMade keeps holds left clock base outgrows b more c
      → DeskMade keeps holds left clock base outgrows a (first ++ more) c
  made_more keep a b c first more h k =
      (leads_more SoloStep a.scene b.scene c.scene first more h.0 k.0, kept_more keeps keep a.vols b.vols c.vols h.1 k.1, outlast_more holds left clock base first more (row_in a) (row_in b) (row_in c) h.2 k.2, outgrown_more outgrows first more h.3 k.3)
