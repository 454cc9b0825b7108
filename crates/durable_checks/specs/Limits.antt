-- Which limits of a stream drop none of its messages, computed.
use Rattle.std.specs.Prelude.{◌≡◌, ◌+◌, ℕ, nat_lt, nat_le, Bool, true, ◌&&◌, List, [], ◌∷◌, length, Option, Some, None, unwrap_or, cond, count_by, sum_by}
use Rattle.std.specs.Borrow.{Bor}
use Rattle.std.specs.BTreeMap.{BTreeMap, get_by}
use Rattle.std.specs.Cmp.Lexicographic.{slice_cmp}
use Rattle.std.specs.Ordering.{nat_cmp}
use Rattle.js_base.specs.Bytes.{Bytes, same}
use Rattle.js_model.specs.declared.stream.Message.{Message}
use Rattle.js_model.specs.declared.stream_config.StreamConfig.{StreamConfig}
use Rattle.js_model.specs.Streams.{size}

-- each message is among the last n of its subject
abbrev pub are_newest : ℕ → List Message → Bool
are_newest n [] = true
are_newest n (m ∷ later) = nat_lt (count_by (λ x. same x.subject m.subject) later) n && are_newest n later

abbrev pub are_newest_at : Option ℕ → List Message → Bool
are_newest_at None messages = true
are_newest_at (Some n) messages = are_newest n messages

-- a number is at most the limit, if there is one
abbrev pub is_within_limit : ℕ → Option ℕ → Bool
is_within_limit n None = true
is_within_limit n (Some limit) = nat_le n limit

-- the limits keep each message, if there are not more than any stream may have
abbrev pub are_within : StreamConfig → List Message → Bool
are_within config messages =
    are_newest_at config.max_msgs_per_subject messages && is_within_limit (length messages) config.max_msgs
    && is_within_limit (sum_by size messages) config.max_bytes

-- how often a subject was counted
abbrev pub count_in : BTreeMap (Bor (List ℕ)) ℕ → Bytes → ℕ
count_in counts subject = unwrap_or (get_by (λ k. slice_cmp nat_cmp subject k.now) counts) 0

-- one message more of this subject, and of no other
abbrev pub CountsOne : Bytes → BTreeMap (Bor (List ℕ)) ℕ → BTreeMap (Bor (List ℕ)) ℕ → Type 0
CountsOne subject old new = (other : Bytes) → count_in new other ≡ cond (same subject other) (count_in old subject + 1) (count_in old other)
