-- What an event or a delivery makes of a place before any of it is brought to the volume.
use Rattle.std.specs.Prelude.{◌≡◌, ℕ, Bool, List, Option, Result}
use Rattle.js_base.specs.declared.out.Out.{Out}
use Rattle.js_model.specs.declared.entry.Delivery.{Delivery}
use Rattle.js_model.specs.declared.event.What.{What}
use Rattle.js_model.specs.declared.reply.Reply.{Reply}
use Rattle.effects.specs.declared.effect.Effect.{Effect}
use Rattle.place_engine.specs.Following.{followed}
use Rattle.memory_place.specs.Answers.{PlaceAnswersIn}
use Rattle.memory_place.specs.Recording.{TellsEventIn, TellsSent}
use Rattle.place_engine.specs.declared.faults.Left.{Left}
use Rattle.volume_place.specs.Contents.{Contents}
use Rattle.volume_place.specs.Rooms.{IsCounted, room_in, stored_by}

-- all but what stands, what waits since when, how many messages count, and how long its texts are is as it was
abbrev pub KeepsStore : {V : Type 0} → Contents V → Contents V → Type 0
KeepsStore old new = new ≡ record old { state = new.state; waiting = new.waiting; since = new.since; stored = new.stored; fixed = new.fixed }

-- whether the place has room for what is asked of it
abbrev pub has_room_for : {V : Type 0} → Contents V → What → Bool
has_room_for place what = room_in place.stopped place.fixed place.store place.state place.waiting what

-- it answers what is asked at a moment
abbrev pub Answers : {V : Type 0} → What → ℕ → Reply → List Out → List Out → Contents V → Contents V → Type 0
Answers what now reply outs_old outs_new old new = PlaceAnswersIn (has_room_for old what) old.state what now reply outs_old outs_new new.state

-- the records of an event wait behind those from before, and a message that they store counts
pub record RecordsEvent {V : Type 0} (result : Result Reply Left) (what : What) (now : ℕ) (old new : Contents V) : Type 0 where
  pub effects : List Effect
  pub told : TellsEventIn (has_room_for old what) result old.state what now effects
  pub waiting : new.waiting ≡ followed old.waiting effects
  pub counted : IsCounted old.stored (stored_by effects) new.stored

-- and so do those of a delivery, which stores none
pub record RecordsDelivery {V : Type 0} (result : Result (Option Delivery) Left) (now : ℕ) (old new : Contents V) : Type 0 where
  pub effects : List Effect
  pub told : TellsSent result old.state now new.state effects
  pub waiting : new.waiting ≡ followed old.waiting effects
  pub counted : new.stored ≡ old.stored
