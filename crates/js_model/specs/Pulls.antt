-- What a pull request does to a consumer and what it sends, by JetStream's pull consumers.
use Rattle.std.specs.Prelude.{ℕ, nat_le, ◌||◌, ◌==◌, List, [], ◌∷◌, ◌++◌, length, if◌then◌else◌, Option, Some, None, codes}
use Rattle.js_base.specs.Bytes.{Bytes}
use Rattle.js_base.specs.Moments.{plus}
use Rattle.js_base.specs.Status.{status}
use Rattle.js_base.specs.declared.out.Out.{Out}
use Rattle.js_model.specs.declared.ack.Ask.{Ask}
use Rattle.js_model.specs.declared.consumer.Pull.{Pull}
use Rattle.js_model.specs.declared.consumer.Consumer.{Consumer}
use Rattle.js_model.specs.Streams.{is_push}
use Rattle.js_model.specs.Advance.{status_out}

-- the pull that waits. One that does not wait for messages has no end
abbrev pub pull_of : ℕ → Bytes → Ask → Pull
pull_of now reply ask = record {
  reply = reply;
  batch = ask.batch;
  bytes = ask.max_bytes;
  end = if ask.no_wait || ask.expires == 0 then None else Some (plus now ask.expires);
  no_wait = ask.no_wait;
  heartbeat = ask.heartbeat;
  mark = now;
}

abbrev pub push_based : Bytes
push_based = status 409 (codes "Consumer is push based") []

abbrev pub bad_request : Bytes
bad_request = status 400 (codes "Bad Request") []

abbrev pub exceeded_waiting : Bytes
exceeded_waiting = status 409 (codes "Exceeded MaxWaiting") []

-- why a pull is not taken: the status that it gets
abbrev pub pull_refusal : Consumer → Option Ask → Option Bytes
pull_refusal c None = Some (if is_push c then push_based else bad_request)
pull_refusal c (Some ask) =
    if is_push c then Some push_based else (if nat_le c.config.max_waiting (length c.waiting) then Some exceeded_waiting else None)

abbrev pub with_pull : ℕ → Bytes → Option Ask → Consumer → Consumer
with_pull now reply None c = c
with_pull now reply (Some ask) c = record c { waiting = c.waiting ++ pull_of now reply ask ∷ [] }

-- the consumer after a pull, by whether it was refused
abbrev pub pulled_unless : Option Bytes → ℕ → Bytes → Option Ask → Consumer → Consumer
pulled_unless None now reply ask c = with_pull now reply ask c
pulled_unless (Some block) now reply ask c = c

-- a pull without a reply subject does nothing
abbrev pub pulled : ℕ → Option Bytes → Option Ask → Consumer → Consumer
pulled now None ask c = c
pulled now (Some reply) ask c = pulled_unless (pull_refusal c ask) now reply ask c

abbrev pub refusal_outs : Bytes → Option Bytes → List Out
refusal_outs reply None = []
refusal_outs reply (Some block) = status_out reply block ∷ []

abbrev pub pull_outs : Option Bytes → Option Ask → Consumer → List Out
pull_outs None ask c = []
pull_outs (Some reply) ask c = refusal_outs reply (pull_refusal c ask)
