-- What a stream or a place answers; where nothing is said of room, there is room for all that is asked.
use Rattle.std.specs.Prelude.{◌≡◌, ℕ, Bool, true, false, List, [], ◌++◌, Option, Some, None, Result, Ok, Err}
use Rattle.js_base.specs.Bytes.{Bytes}
use Rattle.js_base.specs.declared.out.Out.{Out}
use Rattle.js_model.specs.declared.stream.Stream.{Stream}
use Rattle.js_model.specs.declared.stream.State.{State}
use Rattle.js_model.specs.declared.stream.State.TheVariants.{Vacant, Live}
use Rattle.js_model.specs.declared.entry.Delivery.{Delivery}
use Rattle.js_model.specs.declared.event.What.{What}
use Rattle.js_model.specs.declared.event.What.TheVariants.{Tick}
use Rattle.js_model.specs.declared.reply.Reply.{Reply}
use Rattle.js_model.specs.declared.reply.Reply.TheVariants.{Silent}
use Rattle.js_model.specs.declared.reply.Answer.{Answer}
use Rattle.js_model.specs.Advance.{advance_outs}
use Rattle.js_model.specs.Deliver.{IsDelivered}
use Rattle.js_model.specs.Events.{answered, stream_answer, vacant_answer, completed, settled, settled_state}
use Rattle.js_model.specs.Ready.{some_ready}
use Rattle.place_engine.specs.declared.faults.Left.{Left}
use Rattle.place_engine.specs.declared.faults.Left.TheVariants.{Nothing, Ticked, Unsaid}

-- the answer's reply is told, its outputs are added, and its state is left
pub record Gives (answer : Answer) (reply : Reply) (outs_old outs_new : List Out) (new : State) : Type 0 where
  pub reply_is : reply ≡ answer.reply
  pub outs_are : outs_new ≡ outs_old ++ answer.outs
  pub state_is : new ≡ answer.state

-- the same of a stream that is left so once its limits and its retention have let messages go
pub record Acts (answer : Answer) (reply : Reply) (outs_old outs_new : List Out) (new : Stream) : Type 0 where
  pub reply_is : reply ≡ answer.reply
  pub outs_are : outs_new ≡ outs_old ++ answer.outs
  pub leaves : Live (settled new) ≡ settled_state answer.state

-- and nothing is added
abbrev pub ActsQuietly : Answer → Reply → Stream → Type 0
ActsQuietly answer reply new = (outs : List Out) → Acts answer reply outs outs new

-- the stream answers what is asked at its own moment
abbrev pub StreamAnswers : Stream → What → Reply → List Out → List Out → State → Type 0
StreamAnswers s what reply outs_old outs_new new = Gives (completed [] (stream_answer s what true)) reply outs_old outs_new new

-- the place answers what is asked at a moment, if time has come to that moment there; `room` is whether there is room for it
abbrev pub AnswersThenIn : Bool → State → What → ℕ → Reply → List Out → List Out → State → Type 0
AnswersThenIn room (Vacant last) what now reply outs_old outs_new new = Gives (completed [] (vacant_answer last what now room)) reply outs_old outs_new new
AnswersThenIn room (Live s) what now reply outs_old outs_new new = Gives (completed [] (stream_answer s what room)) reply outs_old outs_new new

-- the same where there is
abbrev pub AnswersThen : State → What → ℕ → Reply → List Out → List Out → State → Type 0
AnswersThen = AnswersThenIn true

-- the place answers what is asked, whatever incarnation was named
abbrev pub PlaceAnswersIn : Bool → State → What → ℕ → Reply → List Out → List Out → State → Type 0
PlaceAnswersIn room old what now reply outs_old outs_new new = (incarnation : ℕ) → Gives (answered old (record { incarnation = incarnation; what = what }) now room) reply outs_old outs_new new

-- the same where there is
abbrev pub PlaceAnswers : State → What → ℕ → Reply → List Out → List Out → State → Type 0
PlaceAnswers = PlaceAnswersIn true

-- what is sent by a moment
abbrev pub outs_by : State → ℕ → List Out
outs_by (Vacant last) now = []
outs_by (Live s) now = advance_outs s now

-- what a call leaves that finds no memory: all as it was, or what a tick leaves
abbrev pub LeftBy : Left → State → ℕ → List Out → List Out → State → Type 0
LeftBy Nothing old now outs_old outs_new new = (new ≡ old) × (outs_new ≡ outs_old)
LeftBy Ticked old now outs_old outs_new new = PlaceAnswers old Tick now Silent outs_old outs_new new
LeftBy (Unsaid refused) old now outs_old outs_new new = ⊥

-- a delivery is made
pub record DeliversSome (old : State) (now : ℕ) (listening : List Bytes) (delivery : Delivery) (outs_old outs_new : List Out) (new : State) : Type 0 where
  pub sent : List Out
  pub delivered : IsDelivered old now listening delivery sent new
  pub outs_are : outs_new ≡ outs_old ++ sent

-- no consumer is ready, and all is as it was
pub record DeliversNone (old : State) (now : ℕ) (listening : List Bytes) (outs_old outs_new : List Out) (new : State) : Type 0 where
  pub none : some_ready old now listening ≡ false
  pub same : new ≡ old
  pub outs_same : outs_new ≡ outs_old

abbrev pub MayDeliver : Result (Option Delivery) Left → State → ℕ → List Bytes → List Out → List Out → State → Type 0
MayDeliver (Ok (Some delivery)) old now listening outs_old outs_new new = DeliversSome old now listening delivery outs_old outs_new new
MayDeliver (Ok None) old now listening outs_old outs_new new = DeliversNone old now listening outs_old outs_new new
MayDeliver (Err left) old now listening outs_old outs_new new = LeftBy left old now outs_old outs_new new
