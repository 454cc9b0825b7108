-- The laws of the subjects of calls, by the JetStream API reference: a subject is read as a call exactly if it is spelled as one.
use Rattle.std.specs.Prelude.{◌≡◌, ◌↔◌, false, ◌∷◌, ◌++◌, Option, Some, None, IsTrue}
use Rattle.js_base.specs.Bytes.{Bytes, has}
use Rattle.api_requests.specs.declared.call.GeneralCall.{GeneralCall}
use Rattle.api_requests.specs.declared.call.StreamCall.{StreamCall}
use Rattle.api_requests.specs.declared.consumer_call.ConsumerCall.{ConsumerCall}
use Rattle.api_requests.specs.Words.{general_words, stream_words, consumer_words}
use Rattle.api_requests.specs.Calls.{general_call, stream_call}
use Rattle.api_requests.specs.ConsumerCalls.{Tokens, is_allowed, consumer_call}

-- the subject is that of this call on the stream with this token, which has no dot
pub record IsCallOn (call : StreamCall) (token subject : Bytes) : Type 0 where
  pub spelled : subject ≡ stream_words call ++ token
  pub one : has token 46 ≡ false

-- a subject is read as a call exactly if it is the call's subject
abbrev pub LawGeneral : Type 0
LawGeneral = (subject : Bytes) (call : GeneralCall) → (general_call subject ≡ Some call) ↔ (subject ≡ general_words call)

abbrev pub LawOnStream : Type 0
LawOnStream = (subject token : Bytes) (call : StreamCall) → (stream_call subject ≡ Some (call, token)) ↔ IsCallOn call token subject

-- the consumer's token, and a dot and the filter behind it, if there is one
abbrev pub with_filter : Bytes → Option Bytes → Bytes
with_filter consumer None = consumer
with_filter consumer (Some filter) = consumer ++ 46 ∷ filter

-- the tokens in the subject
abbrev pub tokens_shown : Tokens → Bytes
tokens_shown tokens = tokens.stream ++ 46 ∷ with_filter tokens.consumer tokens.filter

-- the subject is that of this call with these tokens: those of the stream and of the consumer have no dot
pub record IsCallOnConsumer (call : ConsumerCall) (tokens : Tokens) (subject : Bytes) : Type 0 where
  pub spelled : subject ≡ consumer_words call ++ tokens_shown tokens
  pub one_stream : has tokens.stream 46 ≡ false
  pub one_consumer : has tokens.consumer 46 ≡ false
  pub allowed : IsTrue (is_allowed call tokens)

abbrev pub LawOnConsumer : Type 0
LawOnConsumer = (subject : Bytes) (call : ConsumerCall) (tokens : Tokens) → (consumer_call subject ≡ Some (call, tokens)) ↔ IsCallOnConsumer call tokens subject
