-- A new consumer, and which of its refusals need no other consumer, by JetStream's rules on work queues.
use Rattle.std.specs.Prelude.{◌≡◌, ℕ, nat_lt, ◌&&◌, not, List, [], ◌∷◌, ◌++◌, Some, codes, length, ⊤}
use Rattle.std.specs.List.{list_any}
use Rattle.js_base.specs.Bytes.{Bytes}
use Rattle.js_model.specs.declared.stream.Stream.{Stream}
use Rattle.js_model.specs.declared.consumer.Consumer.{Consumer}
use Rattle.js_model.specs.declared.consumer_config.ConsumerConfig.{ConsumerConfig}
use Rattle.js_model.specs.declared.consumer_config.AckPolicy.TheVariants.{Explicit}
use Rattle.js_model.specs.declared.consumer_config.DeliverPolicy.TheVariants.{All as FromAll}
use Rattle.js_model.specs.Configs.{same_ack_policy, same_deliver_policy}
use Rattle.js_model.specs.Consumers.{is_rival, is_work_queue, queue_checks}
use Rattle.js_model.specs.Refusals.{Check, first_refusal, work_queue_rule, too_many_subjects}
use Rattle.js_model.specs.Start.{picks_at}
use Rattle.consumer_state.specs.declared.fault.MakeFault.{MakeFault}
use Rattle.consumer_state.specs.declared.fault.MakeFault.TheVariants.{Refused, NoMemory}

-- a consumer that was made at a moment and begins with these picks and this cursor
abbrev pub made_at : ℕ → Bytes → ConsumerConfig → List ℕ → ℕ → Consumer
made_at now name config picks cursor = record {
  name = name;
  made = now;
  config = config;
  picks = picks;
  cursor = cursor;
  dseq = 0;
  pending = [];
  given_up = [];
  waiting = [];
  mark = now;
}

-- the rules of a work queue on its consumers' policies
abbrev pub policy_checks : Stream → ConsumerConfig → List Check
policy_checks s config =
    (is_work_queue s && not (same_ack_policy config.ack_policy Explicit), work_queue_rule (codes "ack_policy"))
    ∷ (is_work_queue s && not (same_deliver_policy config.deliver_policy FromAll), work_queue_rule (codes "deliver_policy"))
    ∷ []

-- all checks that need no other consumer
abbrev pub own_checks : Stream → ConsumerConfig → List Check
own_checks s config = policy_checks s config ++ (nat_lt 65536 (length (picks_at config.deliver_policy config.filter_subject s)), too_many_subjects) ∷ []

-- the fault is the refusal of the first check that fails, or memory ran out
abbrev pub IsRefusal : List Check → MakeFault → Type 0
IsRefusal checks (Refused e) = first_refusal checks ≡ Some e
IsRefusal checks NoMemory = ⊤

-- the rules of a work queue are those on policies, and then the one on other consumers
abbrev pub LawQueueChecks : Type 0
LawQueueChecks = (s : Stream) (name : Bytes) (config : ConsumerConfig)
    → queue_checks s name config ≡ policy_checks s config ++ (is_work_queue s && list_any (is_rival name config) s.consumers, work_queue_rule (codes "filter_subject")) ∷ []
