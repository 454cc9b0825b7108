-- What a stream is asked that leaves the catalog as it is.
use Rattle.std.proofs.Common.{◌≡◌, ℕ, Bool, List, [], ◌++◌, Option, Result, Ok, refl, sym, subst}
use Rattle.js_base.specs.Bytes.{Bytes}
use Rattle.js_model.specs.declared.desk.PlaceAt.{PlaceAt}
use Rattle.js_model.specs.Proper.{reply_of}
use Rattle.js_model.specs.Catalog as catalog
use Rattle.api_calls.specs.declared.call.ApiCall.{ApiCall}
use Rattle.api_calls.specs.Names.{name_of}
use Rattle.js_api.specs.declared.fault.DeskFault.{DeskFault}
use Rattle.js_api.specs.declared.outcome.Became.{Became}
use Rattle.js_api.specs.declared.outcome.Outcome.{Outcome}
use Rattle.js_api.specs.Entries.{DeskEntry}
use Rattle.js_api.specs.Holding.{Holds}
use Rattle.js_api.specs.Leading.{Makes}
use Rattle.js_api.specs.OneStream.{IsAbsent, IsAsking, IsEnded, IsNamed, IsOnStream, unchanged}
use Rattle.js_api.specs.Stages.{Ending, LooksUp}
use Rattle.desk_ground.specs.Grounds.{Phase}
use Rattle.desk_ground.specs.Named.{GoesOnNamed}
use Rattle.desk_ground.specs.Outcomes.{MayHold, phase_after}
use Rattle.desk_ground.proofs.OneStream.{named, on_stream}
use Rattle.desk_streams.specs.declared.asking.Asking.{Asking}
use Rattle.desk_streams.specs.declared.asking.Asking.TheVariants.{Info, Purge, Get, Delete, MakeConsumer, ConsumerInfo, DropConsumer, ConsumerNames, ConsumerList}
use Rattle.desk_streams.specs.Asking.{call_of, what_of}

-- ---- a hold

pub replies_to : (asking : Asking) (to : Option Bytes) → reply_of (what_of asking to) ≡ to
replies_to Info to = refl
replies_to (Purge filter below keep) to = refl
replies_to (Get by) to = refl
replies_to (Delete seq) to = refl
replies_to (MakeConsumer name config update) to = refl
replies_to (ConsumerInfo name) to = refl
replies_to (DropConsumer name) to = refl
replies_to (ConsumerNames offset) to = refl
replies_to (ConsumerList offset) to = refl

-- it is asked in any phase, and leaves it
pub may_hold : (asking : Asking) (to : Option Bytes) (phase : Phase) → MayHold (what_of asking to) phase
may_hold Info to phase = tt
may_hold (Purge filter below keep) to phase = tt
may_hold (Get by) to phase = tt
may_hold (Delete seq) to phase = tt
may_hold (MakeConsumer name config update) to phase = tt
may_hold (ConsumerInfo name) to phase = tt
may_hold (DropConsumer name) to phase = tt
may_hold (ConsumerNames offset) to phase = tt
may_hold (ConsumerList offset) to phase = tt

pub same_phase : (asking : Asking) (to : Option Bytes) (at : PlaceAt) (became : Became) (phase : Phase) → phase_after (what_of asking to) at became phase ≡ phase
same_phase Info to at became phase = refl
same_phase (Purge filter below keep) to at became phase = refl
same_phase (Get by) to at became phase = refl
same_phase (Delete seq) to at became phase = refl
same_phase (MakeConsumer name config update) to at became phase = refl
same_phase (ConsumerInfo name) to at became phase = refl
same_phase (DropConsumer name) to at became phase = refl
same_phase (ConsumerNames offset) to at became phase = refl
same_phase (ConsumerList offset) to at became phase = refl

-- ---- the call

-- the hold, and the end of the call, which is this one
pub asked_there : {D : Type 0} (made : D → List DeskEntry → D → Type 0) (more : (a b c : D) (first more : List DeskEntry) → made a first b → made b more c → made a (first ++ more) c) (asking : Asking) (to : Option Bytes)
    (now : ℕ) (call : ApiCall) (at : PlaceAt) (outcome : Outcome) (result : Result Bool DeskFault) (a b c : D) → made b [] b → call ≡ call_of asking → Makes made (Holds at (what_of asking to) now outcome) a b
    → Makes made (Ending outcome.fault (IsEnded (name_of call) to outcome.became) result) b c → Makes made (IsOnStream (name_of (call_of asking)) at (what_of asking to) now unchanged result) a c
asked_there made more asking to now call at outcome result a b c none is h e =
    subst (λ (k : ApiCall). Makes made (IsOnStream (name_of k) at (what_of asking to) now unchanged result) a c) is
    (on_stream made more (name_of call) at (what_of asking to) now unchanged outcome result a b b c h none
    (subst (λ (subject : Option Bytes). Makes made (Ending outcome.fault (IsEnded (name_of call) subject outcome.became) result) b c) (sym (replies_to asking to)) e))

-- the look-up, and what follows it
pub asked_named : {D : Type 0} (made : D → List DeskEntry → D → Type 0) (more : (a b c : D) (first more : List DeskEntry) → made a first b → made b more c → made a (first ++ more) c) (asking : Asking) (to : Option Bytes)
    (now : ℕ) (stream : Bytes) (told : Result (Option PlaceAt) DeskFault) (found : Option PlaceAt) (result : Result Bool DeskFault) (a b c : D) → told ≡ Ok found → Makes made (LooksUp (catalog.ByName stream) told) a b
    → Makes made (GoesOnNamed (IsAbsent (name_of (call_of asking)) to) (λ at. IsOnStream (name_of (call_of asking)) at (what_of asking to) now unchanged) found result) b c
    → Makes made (IsAsking (name_of (call_of asking)) stream (what_of asking to) now result) a c
asked_named made more asking to now stream told found result a b c is h k =
    let name = name_of (call_of asking) in
    let there : PlaceAt → Result Bool DeskFault → List DeskEntry → Type 0 = λ at. IsOnStream name at (what_of asking to) now unchanged in
    subst (λ (subject : Option Bytes). Makes made (IsNamed stream (IsAbsent name subject) there result) a c) (sym (replies_to asking to)) (named made more stream (IsAbsent name to) there told found result a b c is h k)
