-- What a value is for its field, by JetStream's consumer configuration: one that the field may hold, an invalid one, or one that this server leaves
-- out.
use Rattle.std.specs.Prelude.{ℕ, ◌-◌, ◌^◌, ℤ, pos, int_lt, int_le, Bool, ◌&&◌, ◌||◌, not, codes, if◌then◌else◌}
use Rattle.js_base.specs.Bytes.{Bytes, is_empty, same}
use Rattle.js_base.specs.Subjects.{is_pattern_text}
use Rattle.js_model.specs.Configs.{is_description, is_deliver_subject, is_queue_name}
use Rattle.consumer_config.specs.declared.rule.Standing.{Standing}
use Rattle.consumer_config.specs.declared.rule.Standing.TheVariants.{Held, Invalid, LeftOut}
use Rattle.consumer_config.specs.declared.rule.TextRule.{TextRule}
use Rattle.consumer_config.specs.declared.rule.TextRule.TheVariants as texts

-- a value that is wrong unless the field may hold it
abbrev pub allowed : Bool → Standing
allowed may = if may then Held else Invalid

-- ---- flags

abbrev pub flag_standing : Bool → Standing
flag_standing flag = if flag then LeftOut else Held

-- ---- numbers

-- the greatest number
abbrev pub most : ℕ
most = 2 ^ 62 - 1

-- from the one to the other
abbrev pub within : ℤ → ℤ → ℤ → Bool
within low high number = int_le low number && int_le number high

abbrev pub number_standing : ℤ → ℤ → ℤ → Standing
number_standing low high number = allowed (within low high number)

-- a number that is left out above the greatest
abbrev pub count_standing : ℕ → ℤ → Standing
count_standing greatest number = if within (pos 0) (pos greatest) number then Held else LeftOut

-- nanoseconds, which are 0 if no deliver subject is given
abbrev pub heartbeat_standing : Bool → ℤ → Standing
heartbeat_standing lacks number = allowed (within (pos 0) (pos most) number && not (lacks && int_lt (pos 0) number))

-- ---- texts

abbrev pub is_ack_policy : Bytes → Bool
is_ack_policy text = same text (codes "none") || same text (codes "all") || same text (codes "explicit")

abbrev pub is_deliver_policy : Bytes → Bool
is_deliver_policy text =
    same text (codes "all") || same text (codes "last") || same text (codes "new") || same text (codes "by_start_sequence")
    || same text (codes "by_start_time") || same text (codes "last_per_subject")

abbrev pub replay_standing : Bytes → Standing
replay_standing text = if same text (codes "instant") then Held else if same text (codes "original") then LeftOut else Invalid

-- the rule for a text
abbrev pub text_standing : TextRule → Bytes → Standing
text_standing texts.AckPolicy text = allowed (is_ack_policy text)
text_standing texts.DeliverPolicy text = allowed (is_deliver_policy text)
text_standing texts.ReplayPolicy text = replay_standing text
text_standing texts.Description text = allowed (is_description text)
text_standing texts.Filter text = allowed (is_empty text || is_pattern_text text)
text_standing texts.DeliverSubject text = allowed (is_empty text || is_deliver_subject text)
text_standing texts.Name text = Held

-- a queue name, which is empty if no deliver subject is given
abbrev pub group_standing : Bool → Bytes → Standing
group_standing lacks text = allowed (is_empty text || is_queue_name text && not lacks)
