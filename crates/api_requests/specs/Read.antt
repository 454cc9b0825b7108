-- Requests as they are read, which the parts behind may rest on: names and configurations that are valid, numbers below 2 ^ 62, patterns, and
-- texts in UTF-8. The tokens of a question for messages may be any texts.
use Rattle.std.specs.Prelude.{◌≡◌, ℕ, Bool, ◌||◌, Option, IsTrue, IsUtf8}
use Rattle.js_base.specs.Bytes.{Bytes, is_empty}
use Rattle.js_base.specs.Subjects.{is_pattern_text, is_subject_text}
use Rattle.js_model.specs.Configs.{is_name, is_number, is_stream_config, is_consumer_config}
use Rattle.js_model.specs.Proper.{if_given, is_proper_ask}
use Rattle.js_model.specs.declared.event.GetBy.{GetBy}
use Rattle.js_model.specs.declared.event.GetBy.TheVariants.{Seq, LastBySubject}
use Rattle.js_model.specs.declared.consumer_config.ConsumerConfig.{ConsumerConfig}
use Rattle.js_model.specs.declared.stream_config.StreamConfig.{StreamConfig}
use Rattle.stream_config.specs.Printing.{IsPrinted}
use Rattle.consumer_config.specs.Printing.{IsPrinted as IsPrintedConsumer}
use Rattle.api_requests.specs.declared.fault.ApiFault.{ApiFault}
use Rattle.api_requests.specs.declared.fault.ApiFault.TheVariants.{Refused, NoMemory}
use Rattle.api_requests.specs.declared.request.ApiRequest.{ApiRequest}
use Rattle.api_requests.specs.declared.request.ApiRequest.TheVariants as requests

-- the name of a stream, or of a consumer
pub record IsStream (stream : Bytes) : Type 0 where
  pub name : IsTrue (is_name stream)
  pub utf8 : IsUtf8 stream

-- the stream's name, and its configuration
pub record IsSetup (stream : Bytes) (config : StreamConfig) : Type 0 where
  pub name : IsStream stream
  pub named : config.name ≡ stream
  pub valid : IsTrue (is_stream_config config)
  pub printed : IsPrinted config

-- the names of a stream and of its consumer
pub record IsConsumer (stream consumer : Bytes) : Type 0 where
  pub of_stream : IsStream stream
  pub of_consumer : IsStream consumer

-- the same, and the consumer's configuration
pub record IsCreation (stream consumer : Bytes) (config : ConsumerConfig) : Type 0 where
  pub names : IsConsumer stream consumer
  pub named : config.name ≡ consumer
  pub valid : IsTrue (is_consumer_config config)
  pub printed : IsPrintedConsumer config

-- the place and the pattern of a list
pub record IsListing (offset : ℕ) (subject : Option Bytes) : Type 0 where
  pub number : IsTrue (is_number offset)
  pub pattern : IsTrue (if_given is_pattern_text subject)

-- which messages are purged
pub record IsPurge (pattern : Bytes) (seq keep : Option ℕ) : Type 0 where
  pub matched : IsTrue (is_empty pattern || is_pattern_text pattern)
  pub below : IsTrue (if_given is_number seq)
  pub last : IsTrue (if_given is_number keep)

-- which message is asked for
abbrev pub is_by : GetBy → Bool
is_by (Seq n) = is_number n
is_by (LastBySubject subject) = is_subject_text subject

abbrev pub IsRead : ApiRequest → Type 0
IsRead requests.AccountInfo = Unit {0}
IsRead (requests.StreamCreate stream config) = IsSetup stream config
IsRead (requests.StreamUpdate stream config) = IsSetup stream config
IsRead (requests.StreamInfo stream) = IsStream stream
IsRead (requests.StreamDelete stream) = IsStream stream
IsRead (requests.StreamNames offset subject) = IsListing offset subject
IsRead (requests.StreamList offset subject) = IsListing offset subject
IsRead (requests.StreamPurge stream pattern seq keep) = IsStream stream × IsPurge pattern seq keep
IsRead (requests.StreamMsgGet stream by) = IsStream stream × IsTrue (is_by by)
IsRead (requests.StreamMsgDelete stream seq) = IsStream stream × IsTrue (is_number seq)
IsRead (requests.ConsumerCreate stream consumer config update) = IsCreation stream consumer config
IsRead (requests.ConsumerDurableCreate stream consumer config update) = IsCreation stream consumer config
IsRead (requests.ConsumerInfo stream consumer) = IsConsumer stream consumer
IsRead (requests.ConsumerDelete stream consumer) = IsConsumer stream consumer
IsRead (requests.ConsumerNames stream offset) = IsStream stream × IsTrue (is_number offset)
IsRead (requests.ConsumerList stream offset) = IsStream stream × IsTrue (is_number offset)
IsRead (requests.ConsumerMsgNext stream consumer ask) = IsTrue (if_given is_proper_ask ask)

-- the text of a refusal is UTF-8
abbrev pub IsShown : ApiFault → Type 0
IsShown (Refused refusal) = IsUtf8 refusal.text
IsShown NoMemory = Unit {0}
