-- What a value is for its field, by JetStream's stream configuration: one that the field may hold, an invalid one, or one that this server leaves
-- out.
use Rattle.std.specs.Prelude.{ℕ, ◌-◌, ◌^◌, nat_lt, nat_le, ℤ, pos, negsuc, int_lt, int_le, Bool, ◌&&◌, ◌||◌, List, length, codes, if◌then◌else◌}
use Rattle.std.specs.List.{list_all}
use Rattle.js_base.specs.Bytes.{Bytes, same}
use Rattle.js_model.specs.Configs.{is_description, is_stream_subject}
use Rattle.stream_config.specs.declared.rule.Standing.{Standing}
use Rattle.stream_config.specs.declared.rule.Standing.TheVariants.{Held, Invalid, LeftOut}
use Rattle.stream_config.specs.declared.rule.TextRule.{TextRule}
use Rattle.stream_config.specs.declared.rule.TextRule.TheVariants.{Description, Retention, Discard, Storage, Compression, Name}
use Rattle.stream_config.specs.declared.rule.NumberRule.{NumberRule}
use Rattle.stream_config.specs.declared.rule.NumberRule.TheVariants.{Limit, Nanos, Window}

-- a value that is wrong unless the field may hold it
abbrev pub allowed : Bool → Standing
allowed may = if may then Held else Invalid

-- ---- flags

abbrev pub flag_standing : Bool → Standing
flag_standing flag = if flag then LeftOut else Held

-- ---- numbers

-- from the one to the other
abbrev pub within : ℤ → ℤ → ℤ → Bool
within low high number = int_le low number && int_le number high

-- -1 and 0 are no limit
abbrev pub limit_standing : ℕ → ℤ → Standing
limit_standing greatest number = allowed (within (negsuc 0) (pos greatest) number)

-- nanoseconds
abbrev pub nanos_standing : ℤ → Standing
nanos_standing number = allowed (within (pos 0) (pos (2 ^ 62 - 1)) number)

-- nanoseconds too, and not above an age that is not 0
abbrev pub window_standing : ℕ → ℤ → Standing
window_standing max_age number = if nat_lt 0 max_age && int_lt (pos max_age) number then Invalid else nanos_standing number

-- a number that is left out above the greatest
abbrev pub count_standing : ℕ → ℤ → Standing
count_standing greatest number = if within (pos 0) (pos greatest) number then Held else LeftOut

-- the rule for a number if messages stay that long
abbrev pub number_standing : NumberRule → ℕ → ℤ → Standing
number_standing (Limit greatest) max_age number = limit_standing greatest number
number_standing Nanos max_age number = nanos_standing number
number_standing Window max_age number = window_standing max_age number

-- ---- texts

abbrev pub description_standing : Bytes → Standing
description_standing text = allowed (is_description text)

abbrev pub retention_standing : Bytes → Standing
retention_standing text = allowed (same text (codes "limits") || same text (codes "interest") || same text (codes "workqueue"))

abbrev pub discard_standing : Bytes → Standing
discard_standing text = allowed (same text (codes "old") || same text (codes "new"))

abbrev pub storage_standing : Bytes → Standing
storage_standing text = if same text (codes "file") then Held else if same text (codes "memory") then LeftOut else Invalid

abbrev pub compression_standing : Bytes → Standing
compression_standing text = if same text (codes "none") then Held else LeftOut

-- the rule for a text
abbrev pub text_standing : TextRule → Bytes → Standing
text_standing Description text = description_standing text
text_standing Retention text = retention_standing text
text_standing Discard text = discard_standing text
text_standing Storage text = storage_standing text
text_standing Compression text = compression_standing text
text_standing Name text = Held

-- ---- subjects

-- a pattern that meets no subject of the server's own
unfoldable pub is_subject : Bytes → Bool
is_subject text = is_stream_subject text

-- at most 256 of them
abbrev pub are_subjects : List Bytes → Bool
are_subjects subjects = nat_le (length subjects) 256 && list_all is_subject subjects

-- none stand for the stream's name
abbrev pub subjects_standing : List Bytes → Standing
subjects_standing subjects = allowed (are_subjects subjects)
