-- Memory runs out before a message of the server's own is made, or there is no subject for it.
use Rattle.std.proofs.Common.{◌≡◌, ◌<◌, Bool, true, false, not, List, [], ◌∷◌, length, Option, Some, None, Result, Ok, Err, refl, inl, inr, arith}
use Rattle.std.specs.Option.{is_some}
use Rattle.js_base.specs.Bytes.{Bytes}
use Rattle.js_base.specs.declared.out.Out.{Out}
use Rattle.api_replies.specs.declared.reply.ApiReply.{ApiReply}
use Rattle.js_api.specs.declared.fault.DeskFault.{DeskFault}
use Rattle.js_api.specs.declared.fault.DeskFault.TheVariants as faults
use Rattle.js_api.specs.Entries.{DeskEntry}
use Rattle.js_api.specs.Stages.{Then, Sends}
use Rattle.js_api.specs.OneStream.{Answers, answer}

-- no message is sent, since memory ran out before the first one
pub unsent : (outs : List Out) → 0 < length outs → Sends outs (Err faults.NoMemory) []
unsent [] few = absurd (omega (arith, few))
unsent (out ∷ outs) few = inl (record { fault = faults.NoMemory; result_is = refl; ended = inl refl })

pub unsent_then : {Y : Type 0} (outs : List Out) (next : Unit {0} → Result Y DeskFault → List DeskEntry → Type 0) → 0 < length outs → Then (Sends outs) next (Err faults.NoMemory) []
unsent_then outs next few = inl (record { fault = faults.NoMemory; result_is = refl; ended = unsent outs few })

-- there is nothing to send
pub unanswered : (to : Option Bytes) (reply : ApiReply) → to ≡ None → Answers (answer to reply) (Ok true) []
unanswered None reply is = inr (record { given = tt; before = []; more = []; entries_are = refl; first_is = record { result_is = refl; entries_are = refl }; next_is = record { result_is = refl; entries_are = refl } })
unanswered (Some to) reply is = absurd (cc)

pub one_answer : (to : Option Bytes) (reply : ApiReply) → (to ≡ None → ⊥) → 0 < length (answer to reply)
one_answer None reply some = absurd (some refl)
one_answer (Some to) reply some = omega arith

-- what `is_none` answered
pub none_so : {X : Type 0} (o : Option X) (answer : Bool) → is_some o ≡ not answer → answer ≡ true → o ≡ None
none_so None answer is e = refl
none_so (Some x) true is e = absurd (cc)
none_so (Some x) false is e = absurd (cc)

pub some_so : {X : Type 0} (o : Option X) (answer : Bool) → is_some o ≡ not answer → answer ≡ false → o ≡ None → ⊥
some_so (Some x) answer is e none = cc
some_so None true is e none = cc
some_so None false is e none = cc
