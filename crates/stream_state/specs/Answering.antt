-- What a call makes of its stream, as the machine answers it, by the JetStream API.
use Rattle.std.specs.Prelude.{◌≡◌, ℕ, Bool, false, List, ◌++◌, Option, Some, None}
use Rattle.js_base.specs.declared.out.Out.{Out}
use Rattle.js_model.specs.declared.ack.AckKind.{AckKind}
use Rattle.js_model.specs.declared.consumer.Consumer.{Consumer}
use Rattle.js_model.specs.declared.stream.Stream.{Stream}
use Rattle.js_model.specs.declared.stream.State.TheVariants.{Live}
use Rattle.js_model.specs.declared.reply.Reply.{Reply}
use Rattle.js_model.specs.declared.reply.Answer.{Answer}
use Rattle.consumer_state.specs.DueAgain.{changed_due}
use Rattle.consumer_state.specs.Ending.{ack_ends}
use Rattle.followed_stream.specs.Asked.{ends_some}

-- the answer's reply is told, its outputs are added, and its stream is left
pub record Answers (answer : Answer) (told : Reply) (outs_old outs_new : List Out) (new : Stream) : Type 0 where
  pub reply : told ≡ answer.reply
  pub outs : outs_new ≡ outs_old ++ answer.outs
  pub state : answer.state ≡ Live new

-- some delivery of the consumer ends, if there is one
abbrev pub ends_if : ℕ → AckKind → Option Consumer → Bool
ends_if n kind None = false
ends_if n kind (Some c) = ends_some (ack_ends c n kind) c

-- the moment at which its delivery is due again, if that was another one before
abbrev pub due_if : ℕ → ℕ → AckKind → Option Consumer → Option ℕ
due_if now n kind None = None
due_if now n kind (Some c) = changed_due now n kind c
