-- The fields of a consumer's configuration in ascending order of their names, by JetStream's consumer configuration, with what each may hold.
use Rattle.std.specs.Prelude.{pos, negsuc, List, [], ◌∷◌, codes}
use Rattle.std.specs.Borrow.{Bor}
use Rattle.js_base.specs.Bytes.{Bytes}
use Rattle.consumer_config.specs.declared.rule.Rule.{Rule}
use Rattle.consumer_config.specs.declared.rule.Rule.TheVariants.{Flag, Text, Number, Count, Nothing, Group, Heartbeat, StartSequence, StartTime}
use Rattle.consumer_config.specs.declared.rule.TextRule.TheVariants as texts
use Rattle.consumer_config.specs.Standings.{most}

-- a field, and what it may hold
pub record Line : Type 0 where
  pub name : Bytes
  pub rule : Rule

abbrev pub line : Bor Bytes × Rule → Line
line (name, rule) = record { name = name.now; rule = rule }

abbrev pub field : Bytes → Rule → Line
field name rule = record { name = name; rule = rule }

unfoldable pub table : List Line
table =
    field (codes "ack_policy") (Text texts.AckPolicy)
    ∷ field (codes "ack_wait") (Number (pos 0) (pos most))
    ∷ field (codes "backoff") Nothing
    ∷ field (codes "deliver_group") Group
    ∷ field (codes "deliver_policy") (Text texts.DeliverPolicy)
    ∷ field (codes "deliver_subject") (Text texts.DeliverSubject)
    ∷ field (codes "description") (Text texts.Description)
    ∷ field (codes "durable_name") (Text texts.Name)
    ∷ field (codes "filter_subject") (Text texts.Filter)
    ∷ field (codes "filter_subjects") Nothing
    ∷ field (codes "flow_control") Flag
    ∷ field (codes "headers_only") Flag
    ∷ field (codes "idle_heartbeat") Heartbeat
    ∷ field (codes "inactive_threshold") (Count 0)
    ∷ field (codes "max_ack_pending") (Number (negsuc 0) (pos 65536))
    ∷ field (codes "max_batch") (Count 0)
    ∷ field (codes "max_bytes") (Count 0)
    ∷ field (codes "max_deliver") (Number (negsuc 0) (pos most))
    ∷ field (codes "max_expires") (Count 0)
    ∷ field (codes "max_waiting") (Number (pos 0) (pos 65536))
    ∷ field (codes "mem_storage") Flag
    ∷ field (codes "name") (Text texts.Name)
    ∷ field (codes "num_replicas") (Count 1)
    ∷ field (codes "opt_start_seq") StartSequence
    ∷ field (codes "opt_start_time") StartTime
    ∷ field (codes "pause_until") Nothing
    ∷ field (codes "rate_limit_bps") (Count 0)
    ∷ field (codes "replay_policy") (Text texts.ReplayPolicy)
    ∷ field (codes "sample_freq") Nothing
    ∷ []
