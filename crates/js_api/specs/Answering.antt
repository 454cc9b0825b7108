-- The calls of a desk and what they answer.
use Rattle.std.specs.Prelude.{ℕ, Bool, List, Option, Result, Ok, Err}
use Rattle.js_base.specs.Bytes.{Bytes}
use Rattle.js_base.specs.declared.out.Out.{Out}
use Rattle.js_base.specs.declared.frame.Frame.{Frame}
use Rattle.js_model.specs.declared.desk.Taken.{Taken}
use Rattle.js_model.specs.declared.desk.Collected.{Collected}
use Rattle.js_model.specs.declared.desk.Collected.TheVariants as collected
use Rattle.js_api.specs.declared.fault.DeskFault.{DeskFault}

pub data DeskCall : Type 0 where
  Open : DeskCall
  Options : (echo headers no_responders : Bool) → DeskCall
  Sub : (subject : Bytes) (queue : Option Bytes) (sid : Bytes) → DeskCall
  Unsub : (sid : Bytes) (max : Option ℕ) → DeskCall
  Publish : (message : Out) (now : ℕ) → DeskCall
  Tick : (now : ℕ) → DeskCall
  Settle : (now : ℕ) → DeskCall
  Collect : (max : ℕ) → DeskCall
  Close : DeskCall

pub data DeskAnswer : Type 0 where
  Opened : (session : ℕ) → DeskAnswer
  Done : DeskAnswer
  Took : Taken → DeskAnswer
  Settled : (ready : Bool) → DeskAnswer
  Gave : (list : List Frame) (more : Bool) → DeskAnswer
  Slow : (length : ℕ) → DeskAnswer

-- ---- what the results of the calls say

abbrev pub answered_by : {X : Type 0} → (X → DeskAnswer) → Result X DeskFault → Result DeskAnswer DeskFault
answered_by says (Ok value) = Ok (says value)
answered_by says (Err fault) = Err fault

abbrev pub opened : Result ℕ DeskFault → Result DeskAnswer DeskFault
opened result = answered_by Opened result

abbrev pub done : Result (Unit {0}) DeskFault → Result DeskAnswer DeskFault
done result = answered_by (λ (u : Unit {0}). Done) result

abbrev pub took : Result Taken DeskFault → Result DeskAnswer DeskFault
took result = answered_by Took result

abbrev pub settled : Result Bool DeskFault → Result DeskAnswer DeskFault
settled result = answered_by Settled result

abbrev pub gives : Collected → DeskAnswer
gives (collected.Frames list more) = Gave list more
gives (collected.Slow length) = Slow length

abbrev pub gave : Result Collected DeskFault → Result DeskAnswer DeskFault
gave result = answered_by gives result
