-- The fields of a stream's configuration in ascending order of their names, by JetStream's stream configuration, with what each may hold.
use Rattle.std.specs.Prelude.{ℕ, ◌-◌, ◌^◌, List, [], ◌∷◌, codes}
use Rattle.std.specs.Borrow.{Bor}
use Rattle.js_base.specs.Bytes.{Bytes}
use Rattle.stream_config.specs.declared.rule.Rule.{Rule}
use Rattle.stream_config.specs.declared.rule.Rule.TheVariants.{Flag, Text, Number, Count, NoParts, Nothing, Subjects}
use Rattle.stream_config.specs.declared.rule.TextRule.TheVariants.{Description, Retention, Discard, Storage, Compression, Name}
use Rattle.stream_config.specs.declared.rule.NumberRule.TheVariants.{Limit, Nanos, Window}

-- a field, and what it may hold
pub record Line : Type 0 where
  pub name : Bytes
  pub rule : Rule

abbrev pub line : Bor Bytes × Rule → Line
line (name, rule) = record { name = name.now; rule = rule }

abbrev pub field : Bytes → Rule → Line
field name rule = record { name = name; rule = rule }

abbrev pub most : ℕ
most = 2 ^ 62 - 1

unfoldable pub table : List Line
table =
    field (codes "allow_direct") Flag
    ∷ field (codes "allow_msg_ttl") Flag
    ∷ field (codes "allow_rollup_hdrs") Flag
    ∷ field (codes "compression") (Text Compression)
    ∷ field (codes "consumer_limits") NoParts
    ∷ field (codes "deny_delete") Flag
    ∷ field (codes "deny_purge") Flag
    ∷ field (codes "description") (Text Description)
    ∷ field (codes "discard") (Text Discard)
    ∷ field (codes "discard_new_per_subject") Flag
    ∷ field (codes "duplicate_window") (Number Window)
    ∷ field (codes "first_seq") (Count 0)
    ∷ field (codes "max_age") (Number Nanos)
    ∷ field (codes "max_bytes") (Number (Limit most))
    ∷ field (codes "max_consumers") (Number (Limit 256))
    ∷ field (codes "max_msg_size") (Number (Limit most))
    ∷ field (codes "max_msgs") (Number (Limit most))
    ∷ field (codes "max_msgs_per_subject") (Number (Limit most))
    ∷ field (codes "mirror") Nothing
    ∷ field (codes "mirror_direct") Flag
    ∷ field (codes "name") (Text Name)
    ∷ field (codes "no_ack") Flag
    ∷ field (codes "num_replicas") (Count 1)
    ∷ field (codes "placement") Nothing
    ∷ field (codes "republish") Nothing
    ∷ field (codes "retention") (Text Retention)
    ∷ field (codes "sealed") Flag
    ∷ field (codes "sources") Nothing
    ∷ field (codes "storage") (Text Storage)
    ∷ field (codes "subject_transform") Nothing
    ∷ field (codes "subjects") Subjects
    ∷ field (codes "template_owner") Nothing
    ∷ []
