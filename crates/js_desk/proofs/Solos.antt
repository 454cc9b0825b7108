-- What the ground of the desk makes, the desk makes.
use Rattle.std.proofs.Common.{◌≡◌, ◌≤◌, ℕ, true, List, Option, sym, ap, subst, ◌∙◌}
use Rattle.std.specs.List.{AllZip}
use Rattle.std.proofs.lemmas.Slice.Zip.{AllZip-long}
use Rattle.js_api.specs.Entries.{DeskEntry}
use Rattle.js_api.specs.Leading.{Makes}
use Rattle.desk_ground.specs.declared.caller.Caller.{Caller}
use Rattle.js_model.specs.declared.event.What.{What}
use Rattle.js_model.specs.declared.stream.State.{State}
use Rattle.js_model.specs.Router.{is_open}
use Rattle.place_engine.specs.Stepping.{Image}
use Rattle.desk_ground.specs.Grounds.{Outside, Setting}
use Rattle.js_desk.specs.Grounds.{SoloMade, Standing, setting_of}
use Rattle.js_desk.specs.Solo.{DeskMade, IsConsistent, solo}

pub desk_made : {V : Type 0} (keeps : V → V → Type 0) (holds : Image → State → Type 0) (left : V → ℕ → Image → Type 0) (clock : V → ℕ) (base : Option ℕ → V → State → Type 0) (outgrows : State → What → Type 0) (P : List DeskEntry → Type 0) (old new : Standing V) (before after : Caller) → Makes (SoloMade keeps holds left clock base outgrows) P old new
    → Makes (DeskMade keeps holds left clock base outgrows) P (solo old before) (solo new after)
desk_made keeps holds left clock base outgrows P old new before after h = record { entries = h.entries; are = h.are; led = h.led }

-- a call that ends outside of a turn leaves the desk consistent, if its session is open in the router then
pub ended_consistent : {V : Type 0} (keeps : V → V → Type 0) (old new : Standing V) (before after : Caller) (vols : List V) (capacity : ℕ) → IsConsistent old before vols capacity → new.phase ≡ Outside
    → AllZip keeps old.vols new.vols → (after.is_open ≡ true → is_open new.scene.world.router after.session ≡ true) → IsConsistent new after vols capacity
ended_consistent keeps old new before after vols capacity k outside own opened = record {
  outside = outside;
  opened = opened;
  empty = k.empty;
  room = subst (λ (n : ℕ). n ≤ capacity) (sym (AllZip-long keeps old.vols new.vols own)) k.room;
}

-- one that opens and closes no session does
pub kept_consistent : {V : Type 0} (keeps : V → V → Type 0) (old new : Standing V) (before after : Caller) (vols : List V) (capacity : ℕ) → IsConsistent old before vols capacity → setting_of new.scene ≡ setting_of old.scene
    → new.phase ≡ Outside → AllZip keeps old.vols new.vols → after.session ≡ before.session → after.is_open ≡ before.is_open → IsConsistent new after vols capacity
kept_consistent keeps old new before after vols capacity k same outside own session state =
    ended_consistent keeps old new before after vols capacity k outside own
    (λ yes. ap (λ (s : Setting). s.opened after.session) same ∙ ap (λ (n : ℕ). is_open old.scene.world.router n) session ∙ k.opened (sym state ∙ yes))
