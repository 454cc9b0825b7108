-- The entries of the making of a stream, and those of a session, lead its desk on.
use Rattle.std.proofs.Common.{ℕ, List, Option, Some, None, Result, sym}
use mathlib.Core.Logic.{inl, inr}
use Rattle.js_base.specs.declared.out.ApiError.{ApiError}
use Rattle.js_model.specs.PlaceStates.{PlaceIn}
use Rattle.js_api.specs.declared.fault.DeskFault.{DeskFault}
use Rattle.js_api.specs.Leading.{Leads}
use Rattle.js_api.specs.Worlds.{Scene, SoloStep, opening}
use Rattle.server.specs.declared.words.NamedStream.{NamedStream}
use Rattle.server.specs.Attending.{prepared_entries, session_entries}
use Rattle.server.specs.Outside.{DoorTold}
use Rattle.server.specs.Preparing.{Prepares}
use Rattle.server.specs.Running.{Waits}

pub prepared_led : (opened : List PlaceIn) (stream : Option NamedStream) (result : Result (Option ApiError) DeskFault) (clock_old clock_new : Option (List ℕ)) (after : Scene)
    → (p : Prepares opened stream result clock_old clock_new after) → Leads SoloStep (opening opened) (prepared_entries opened stream result clock_old clock_new after p) after
prepared_led opened None result clock_old clock_new after p = sym p.1
prepared_led opened (Some stream) result clock_old clock_new after p = p.led

pub session_led : (scene after : Scene) (status : ℕ) (old new : DoorTold) (clock_old clock_new : Option (List ℕ))
    → (w : Waits scene after status old new clock_old clock_new) → Leads SoloStep scene (session_entries scene after status old new clock_old clock_new w) after
session_led scene after status old new clock_old clock_new (inl none) = sym none.idle
session_led scene after status old new clock_old clock_new (inr link) = link.given_back.served.led
