-- All entries that a run makes over its desk, from the opening to the end of the session, and what is made of the desk by them.
use Rattle.std.specs.Prelude.{◌≡◌, ℕ, List, [], ◌++◌, Option, Some, None, Result, Ok}
use mathlib.Core.Logic.{inl, inr}
use Rattle.js_base.specs.declared.out.ApiError.{ApiError}
use Rattle.js_model.specs.PlaceStates.{PlaceIn}
use Rattle.link_edge.specs.Reports.{Report}
use Rattle.js_api.specs.declared.fault.DeskFault.{DeskFault}
use Rattle.js_api.specs.Entries.{DeskEntry}
use Rattle.js_api.specs.Worlds.{Scene}
use Rattle.js_desk.specs.Solo.{Solo}
use Rattle.session.specs.Talk.{entries_of}
use Rattle.session.specs.declared.ending.Limits.{Limits}
use Rattle.server.specs.declared.serving.Outcome.{Outcome}
use Rattle.server.specs.declared.words.NamedStream.{NamedStream}
use Rattle.server.specs.Outside.{DoorTold, Outside}
use Rattle.server.specs.Preparing.{Prepares}
use Rattle.server.specs.Running.{IsGivenBack, Waits, Attends, Unmade, Awaited, is_link_served, is_session}

-- those of the making of the stream that the command line names; none if it names none
abbrev pub prepared_entries : (opened : List PlaceIn) (stream : Option NamedStream) (result : Result (Option ApiError) DeskFault) (clock_old clock_new : Option (List ℕ)) (after : Scene)
    → Prepares opened stream result clock_old clock_new after → List DeskEntry
prepared_entries opened None result clock_old clock_new after p = []
prepared_entries opened (Some stream) result clock_old clock_new after p = p.entries

-- those of the session; none if no link came
abbrev pub session_entries : (scene after : Scene) (status : ℕ) (old new : DoorTold) (clock_old clock_new : Option (List ℕ)) → Waits scene after status old new clock_old clock_new → List DeskEntry
session_entries scene after status old new clock_old clock_new (inl none) = []
session_entries scene after status old new clock_old clock_new (inr link) = entries_of link.given_back.served.journal

abbrev pub run_entries : (opened : List PlaceIn) (stream : Option NamedStream) (after : Scene) (status : ℕ) (old new : Outside) → Attends opened stream after status old new → List DeskEntry
run_entries opened stream after status old new (Unmade u) = prepared_entries opened stream u.result old.clock new.clock after u.prepared
run_entries opened stream after status old new (Awaited a) =
    prepared_entries opened stream (Ok None) old.clock a.rest a.scene a.prepared
    ++ session_entries a.scene after status old.door new.door a.rest new.clock a.waits

-- Over desks of one kind, of which it is known what entries make of them:
module _ {V : Type 0} (Made : Solo V → List DeskEntry → Solo V → Type 0) where
  -- the stream that the command line names was made, or was not, and the entries of that made this of the desk
  pub record IsPrepared (before after : Solo V) (stream : Option NamedStream) (result : Result (Option ApiError) DeskFault) (clock_old clock_new : Option (List ℕ)) : Type 0 where
    pub prepares : Prepares before.scene.world.places stream result clock_old clock_new after.scene
    pub made : Made before (prepared_entries before.scene.world.places stream result clock_old clock_new after.scene prepares) after

  -- a link was served and given back, and the entries of its session made this of the desk
  pub record IsServedOver (limits : Limits) (before after : Solo V) (status : ℕ) (gave : Option ℕ) (old new : Option (List Report)) (clock_old clock_new : Option (List ℕ)) : Type 0 where
    pub given_back : IsGivenBack limits before.scene after.scene status gave old new clock_old clock_new
    pub made : Made before (entries_of given_back.served.journal) after

  -- a link was waited for, which is told by the outcome, and the entries of its session made this of the desk
  pub record IsAwaitedOver (before after : Solo V) (outcome : Outcome) (old new : DoorTold) (clock_old clock_new : Option (List ℕ)) : Type 0 where
    pub waits : Waits before.scene after.scene outcome.status old new clock_old clock_new
    pub served_is : outcome.served ≡ is_link_served waits
    pub made : Made before (session_entries before.scene after.scene outcome.status old new clock_old clock_new waits) after

  -- all this was done over the desk from its opening on, which is told by the outcome, and its entries made this of the desk
  pub record IsAttendedOver (before after : Solo V) (stream : Option NamedStream) (outcome : Outcome) (old new : Outside) : Type 0 where
    pub attends : Attends before.scene.world.places stream after.scene outcome.status old new
    pub served_is : outcome.served ≡ is_session attends
    pub made : Made before (run_entries before.scene.world.places stream after.scene outcome.status old new attends) after
