-- What a publish to a subject of the JetStream API makes, by the JetStream API reference, and what an acknowledgement does: whether somebody took it.
use Rattle.std.specs.Prelude.{ℕ, Bool, true, List, Option, Some, None, MatchBool, Result, Ok, Err}
use Rattle.js_base.specs.declared.out.Out.{Out}
use Rattle.js_base.specs.declared.out.ApiError.{ApiError}
use Rattle.js_base.specs.Bytes.{Bytes}
use Rattle.js_model.specs.declared.desk.Taken.{Taken}
use Rattle.ack_parse.specs.Reading.{ack_of}
use Rattle.api_calls.specs.declared.call.ApiCall.TheVariants as calls
use Rattle.api_calls.specs.Names.{name_of}
use Rattle.api_requests.specs.declared.request.ApiRequest.{ApiRequest}
use Rattle.api_requests.specs.declared.request.ApiRequest.TheVariants as requests
use Rattle.api_requests.specs.Names.{call_name}
use Rattle.api_requests.specs.Requests.{request_of}
use Rattle.js_api.specs.declared.fault.DeskFault.{DeskFault}
use Rattle.js_api.specs.Clients.{Client}
use Rattle.js_api.specs.Entries.{DeskEntry}
use Rattle.js_api.specs.Stages.{Then, Gives, Reads}
use Rattle.js_api.specs.Publishing.{taken_by, PublishesToNobody}
use Rattle.js_api.specs.OneStream.{Answers, refusal, IsCreating, IsUpdating, IsShowing, IsDeleting, IsPurging, IsReading, IsErasing}
use Rattle.js_api.specs.OneConsumer.{IsMakingConsumer, IsShowingConsumer, IsDroppingConsumer, IsNamingConsumers, IsListingConsumers, IsPulling, IsAcknowledging}
use Rattle.js_api.specs.AllStreams.{IsOverAll, account, names, informations}

-- the call was carried out so, and gives whether somebody took it
abbrev pub Performs : ApiRequest → Option Bytes → ℕ → Result Bool DeskFault → List DeskEntry → Type 0
Performs requests.AccountInfo to now result entries = IsOverAll (name_of calls.AccountInfo) to now (account to) result entries
Performs (requests.StreamCreate stream config) to now result entries = IsCreating stream config to now result entries
Performs (requests.StreamUpdate stream config) to now result entries = IsUpdating stream config to now result entries
Performs (requests.StreamInfo stream) to now result entries = IsShowing stream to now result entries
Performs (requests.StreamDelete stream) to now result entries = IsDeleting stream to now result entries
Performs (requests.StreamPurge stream pattern below keep) to now result entries = IsPurging stream pattern below keep to now result entries
Performs (requests.StreamNames offset pattern) to now result entries = IsOverAll (name_of calls.StreamNames) to now (names to offset pattern) result entries
Performs (requests.StreamList offset pattern) to now result entries = IsOverAll (name_of calls.StreamList) to now (informations to offset pattern) result entries
Performs (requests.StreamMsgGet stream by) to now result entries = IsReading stream by to now result entries
Performs (requests.StreamMsgDelete stream seq) to now result entries = IsErasing stream seq to now result entries
Performs (requests.ConsumerCreate stream consumer config update) to now result entries = IsMakingConsumer stream consumer config update to now result entries
Performs (requests.ConsumerDurableCreate stream consumer config update) to now result entries = IsMakingConsumer stream consumer config update to now result entries
Performs (requests.ConsumerInfo stream consumer) to now result entries = IsShowingConsumer stream consumer to now result entries
Performs (requests.ConsumerDelete stream consumer) to now result entries = IsDroppingConsumer stream consumer to now result entries
Performs (requests.ConsumerNames stream offset) to now result entries = IsNamingConsumers stream offset to now result entries
Performs (requests.ConsumerList stream offset) to now result entries = IsListingConsumers stream offset to now result entries
Performs (requests.ConsumerMsgNext stream consumer ask) to now result entries = IsPulling stream consumer ask to now result entries

-- a call that is refused as it is read is answered so, and any other is carried out
abbrev pub CarriesOut : Result ApiRequest ApiError → Out → ℕ → Result Bool DeskFault → List DeskEntry → Type 0
CarriesOut (Ok request) message now result entries = Performs request message.reply now result entries
CarriesOut (Err e) message now result entries = Answers (refusal (call_name message.to) message.reply e) result entries

-- the API took the message, or nobody did
abbrev pub TakesByApi : Client → Out → Bool → Result Taken DeskFault → List DeskEntry → Type 0
TakesByApi client message taken result entries =
    MatchBool taken (Gives (taken_by 0 true) result entries) (PublishesToNobody client message result entries)

-- a subject of the API that is no call reaches nobody
abbrev pub IsAsked : Client → Out → ℕ → Option (Result ApiRequest ApiError) → Result Taken DeskFault → List DeskEntry → Type 0
IsAsked client message now None result entries = PublishesToNobody client message result entries
IsAsked client message now (Some reading) result entries = Then (CarriesOut reading message now) (TakesByApi client message) result entries

-- the call is read, and then carried out
abbrev pub PublishesToApi : Client → Out → ℕ → Result Taken DeskFault → List DeskEntry → Type 0
PublishesToApi client message now result entries = Then (Reads (request_of message.to message.payload)) (IsAsked client message now) result entries

-- ---- acknowledgements

-- the acknowledgement is read, and its stream told
abbrev pub PublishesAck : Client → Out → ℕ → Result Taken DeskFault → List DeskEntry → Type 0
PublishesAck client message now result entries =
    Then (Reads (ack_of message.to message.payload))
    (λ reading. Then (IsAcknowledging reading message.reply now) (TakesByApi client message)) result entries
