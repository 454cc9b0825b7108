-- Which subjects are calls on a consumer, by the JetStream API reference: `$JS.API.`, the words of the call, a token for the stream's name, a dot, and a
-- token for the consumer's name. Behind a dot a creation may have a filter there, of one or more tokens; any other subject with more tokens is none.
use Rattle.std.specs.Prelude.{nat_eq, Bool, true, false, ◌==◌, ◌+◌, ◌||◌, take, drop, length, position, Option, Some, None, option_map, option_and_then, is_none, if◌then◌else◌}
use Rattle.std.specs.List.{starts_with}
use Rattle.std.specs.Option.{option_or}
use Rattle.js_base.specs.Bytes.{Bytes}
use Rattle.api_requests.specs.declared.consumer_call.ConsumerCall.{ConsumerCall}
use Rattle.api_requests.specs.declared.consumer_call.ConsumerCall.TheVariants as consumer
use Rattle.api_requests.specs.Words.{consumer_words}

-- the tokens of a stream and of a consumer, and the filter behind them, if there is one
pub record Tokens : Type 0 where
  pub stream : Bytes
  pub consumer : Bytes
  pub filter : Option Bytes

-- what stands before the first dot, and behind it
abbrev pub around_dot : Bytes → Option (Bytes × Bytes)
around_dot text = option_map (λ at. (take at text, drop (at + 1) text)) (position (λ byte. byte == 46) text)

-- without a further dot all that is left is the consumer's token
abbrev pub tokens_by : Bytes → Bytes → Option (Bytes × Bytes) → Tokens
tokens_by stream rest None = record { stream = stream; consumer = rest; filter = None }
tokens_by stream rest (Some parts) = record { stream = stream; consumer = parts.0; filter = Some parts.1 }

-- the tokens that the text is, if there are two at least
abbrev pub tokens_of : Bytes → Option Tokens
tokens_of text = option_map (λ parts. tokens_by parts.0 parts.1 (around_dot parts.1)) (around_dot text)

-- the call may have a filter in its subject
abbrev pub may_filter : ConsumerCall → Bool
may_filter consumer.Create = true
may_filter consumer.DurableCreate = false
may_filter consumer.Info = false
may_filter consumer.Delete = false
may_filter consumer.MsgNext = false

abbrev pub is_allowed : ConsumerCall → Tokens → Bool
is_allowed call tokens = is_none tokens.filter || may_filter call

-- the tokens, if the call may have them
abbrev pub allowed : ConsumerCall → Tokens → Option Tokens
allowed call tokens = if is_allowed call tokens then Some tokens else None

-- what stands behind these words
abbrev pub behind : Bytes → Bytes → Option Bytes
behind words subject = if starts_with nat_eq subject words then Some (drop (length words) subject) else None

-- the tokens behind the words of this call
unfoldable pub tokens_behind : ConsumerCall → Bytes → Option Tokens
tokens_behind call subject = option_and_then (allowed call) (option_and_then tokens_of (behind (consumer_words call) subject))

-- this call, and its tokens
abbrev pub called : ConsumerCall → Bytes → Option (ConsumerCall × Tokens)
called call subject = option_map (λ tokens. (call, tokens)) (tokens_behind call subject)

-- a call that makes a consumer
abbrev pub creation_call : Bytes → Option (ConsumerCall × Tokens)
creation_call subject = option_or (called consumer.Create subject) (called consumer.DurableCreate subject)

-- a call on a consumer
abbrev pub consumer_call : Bytes → Option (ConsumerCall × Tokens)
consumer_call subject =
    option_or (creation_call subject)
    (option_or (called consumer.Info subject)
    (option_or (called consumer.Delete subject)
    (called consumer.MsgNext subject)))
