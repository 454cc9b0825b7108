-- Making streams and consumers, by JetStream's stream and consumer creation and its rules on work queues.
use Rattle.std.specs.Prelude.{ℕ, min, nat_le, nat_lt, Bool, ◌&&◌, ◌||◌, not, List, [], ◌∷◌, ◌++◌, length, if◌then◌else◌, unwrap_or, codes}
use Rattle.std.specs.List.{list_any}
use Rattle.std.specs.Cmp.Lexicographic.{slice_cmp}
use Rattle.std.specs.Ordering.{is_lt, nat_cmp}
use Rattle.js_base.specs.Bytes.{Bytes, same, is_empty}
use Rattle.js_base.specs.Subjects.{tokens, meets}
use Rattle.js_model.specs.declared.stream_config.Retention.TheVariants.{WorkQueue}
use Rattle.js_model.specs.declared.stream_config.StreamConfig.{StreamConfig}
use Rattle.js_model.specs.declared.consumer_config.AckPolicy.TheVariants.{Explicit}
use Rattle.js_model.specs.declared.consumer_config.DeliverPolicy.TheVariants.{All as FromAll}
use Rattle.js_model.specs.declared.consumer_config.ConsumerConfig.{ConsumerConfig}
use Rattle.js_model.specs.declared.stream.Stream.{Stream}
use Rattle.js_model.specs.declared.consumer.Consumer.{Consumer}
use Rattle.js_model.specs.Configs.{same_retention, same_ack_policy, same_deliver_policy}
use Rattle.js_model.specs.Start.{picks_at, cursor_at}
use Rattle.js_model.specs.Refusals.{Check, work_queue_rule, too_many_subjects, max_consumers_reached}

abbrev pub empty_stream : ℕ → StreamConfig → ℕ → Stream
empty_stream incarnation config now = record {
  incarnation = incarnation;
  made = now;
  config = config;
  messages = [];
  last = 0;
  moment = now;
  ids = [];
  consumers = [];
}

abbrev pub new_consumer : Stream → Bytes → ConsumerConfig → Consumer
new_consumer s name config = record {
  name = name;
  made = s.moment;
  config = config;
  picks = picks_at config.deliver_policy config.filter_subject s;
  cursor = cursor_at config.deliver_policy config.filter_subject s;
  dseq = 0;
  pending = [];
  given_up = [];
  waiting = [];
  mark = s.moment;
}

-- a name before another
abbrev pub is_before : Bytes → Bytes → Bool
is_before a b = is_lt (slice_cmp nat_cmp a b)

-- the consumers with one more, at its place in the order of names
abbrev pub with_new : List Consumer → Consumer → List Consumer
with_new [] new = new ∷ []
with_new (c ∷ cs) new = if is_before c.name new.name then c ∷ with_new cs new else new ∷ c ∷ cs

-- two filters match a common subject; the empty one matches all
abbrev pub filters_meet : Bytes → Bytes → Bool
filters_meet a b = is_empty a || (is_empty b || meets (tokens a) (tokens b))

-- another consumer with a filter that meets this one
abbrev pub is_rival : Bytes → ConsumerConfig → Consumer → Bool
is_rival name config c = not (same c.name name) && filters_meet c.config.filter_subject config.filter_subject

abbrev pub is_work_queue : Stream → Bool
is_work_queue s = same_retention s.config.retention WorkQueue

-- the rules of a work queue
abbrev pub queue_checks : Stream → Bytes → ConsumerConfig → List Check
queue_checks s name config =
    (is_work_queue s && not (same_ack_policy config.ack_policy Explicit), work_queue_rule (codes "ack_policy"))
    ∷ (is_work_queue s && not (same_deliver_policy config.deliver_policy FromAll), work_queue_rule (codes "deliver_policy"))
    ∷ (is_work_queue s && list_any (is_rival name config) s.consumers, work_queue_rule (codes "filter_subject"))
    ∷ []

-- the checks that a new consumer meets, in their order
abbrev pub making_checks : Stream → Bytes → ConsumerConfig → List Check
making_checks s name config =
    queue_checks s name config
    ++ (nat_lt 65536 (length (picks_at config.deliver_policy config.filter_subject s)), too_many_subjects)
    ∷ (nat_le (min (unwrap_or s.config.max_consumers 256) 256) (length s.consumers), max_consumers_reached)
    ∷ []
