-- The subscriptions, and which of them take a message.
use Rattle.std.specs.Prelude.{ℕ, Bool, false, not, ◌==◌, ◌&&◌, List, map, filter, Option, Some, None}
use Rattle.js_base.specs.Bytes.{Bytes, same_option}
use Rattle.js_model.specs.Router.{Subscription, is_match, is_sub, is_plain, is_in_group, limited, counted, without_spent}

-- the subscriptions after an UNSUB
abbrev pub without_sub : ℕ → Bytes → Option ℕ → List Subscription → List Subscription
without_sub n sid None subs = filter (λ sub. not (is_sub n sid sub)) subs
without_sub n sid (Some max) subs = without_spent n sid (map (limited n sid max) subs)

-- the subscriptions after a message was sent to one of them
abbrev pub after_one_sent : ℕ → Bytes → List Subscription → List Subscription
after_one_sent n sid subs = without_spent n sid (map (counted n sid) subs)

abbrev pub is_number : Option ℕ → ℕ → Bool
is_number None n = false
is_number (Some m) n = m == n

-- its pattern matches the subject, and it is none of the deaf publisher's own
abbrev pub hears : Bytes → Option ℕ → Subscription → Bool
hears subject deaf sub = is_match subject sub && not (is_number deaf sub.session)

-- they are in one queue group
abbrev pub are_together : Subscription → Subscription → Bool
are_together sub other = not (is_plain sub) && same_option sub.queue other.queue

-- it may be sent the message, and is in no queue group
abbrev pub is_plain_taker : Bytes → Option ℕ → Subscription → Bool
is_plain_taker subject deaf sub = hears subject deaf sub && is_plain sub

abbrev pub plain_takers : Bytes → Option ℕ → List Subscription → List Subscription
plain_takers subject deaf subs = filter (is_plain_taker subject deaf) subs

-- there is one, and it is in this queue group, or in any if none is named
abbrev pub is_member : Option Bytes → Option Subscription → Bool
is_member group None = false
is_member group (Some sub) = is_in_group group sub
