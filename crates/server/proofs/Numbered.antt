-- Laws of desk calls whose entries are fit: none answers that numbers are used up.
use Rattle.std.proofs.Common.{◌≡◌, ◌-◌, ◌^◌, ◌<◌, ℕ, Bool, true, false, List, [], ◌∷◌, ◌++◌, Option, Some, None, Result, Ok, Err, inl, inr, refl, sym, subst, arith}
use Rattle.std.proofs.lemmas.Bool.{false≢true}
use Rattle.std.specs.Prelude.{IfSome, MatchOption, MatchBool}
use Rattle.js_base.specs.Bytes.{Bytes}
use Rattle.js_base.specs.Names.{name_of as read_name}
use Rattle.js_base.specs.ServerSubjects.{is_api, is_acknowledgement}
use Rattle.js_base.specs.declared.out.Out.{Out}
use Rattle.js_base.specs.declared.out.ApiError.{ApiError}
use Rattle.js_model.specs.PlaceStates.{VolumeAt}
use Rattle.js_model.specs.declared.stream_config.StreamConfig.{StreamConfig}
use Rattle.js_model.specs.declared.ack.Ack.{Ack}
use Rattle.js_model.specs.declared.ack.Ask.{Ask}
use Rattle.js_model.specs.declared.event.What.{What}
use Rattle.js_model.specs.declared.event.What.TheVariants as whats
use Rattle.js_model.specs.declared.desk.PlaceAt.{PlaceAt}
use Rattle.js_model.specs.declared.desk.Taken.{Taken}
use Rattle.js_model.specs.Proper.{reply_of}
use Rattle.js_model.specs.Catalog as catalog
use Rattle.js_model.specs.Router as router
use Rattle.ack_parse.specs.Reading.{ack_of}
use Rattle.ack_parse.specs.declared.fault.AckFault.{AckFault}
use Rattle.ack_parse.specs.declared.fault.AckFault.TheVariants as misread
use Rattle.api_calls.specs.declared.call.ApiCall.TheVariants as calls
use Rattle.api_calls.specs.Names.{name_of}
use Rattle.api_requests.specs.Requests.{request_of}
use Rattle.api_requests.specs.declared.request.ApiRequest.{ApiRequest}
use Rattle.api_requests.specs.declared.request.ApiRequest.TheVariants as requests
use Rattle.js_api.specs.declared.fault.DeskFault.{DeskFault}
use Rattle.js_api.specs.declared.fault.DeskFault.TheVariants as faults
use Rattle.js_api.specs.declared.outcome.Became.{Became}
use Rattle.js_api.specs.declared.outcome.Became.TheVariants.{Made, Unsaid, Ticked, Nothing, Broke, Stopped, Gone}
use Rattle.js_api.specs.declared.outcome.Outcome.{Outcome}
use Rattle.js_api.specs.Answering.{DeskCall, Open, Options, Sub, Unsub, Publish, Tick, Settle, Collect, Close, DeskAnswer, Took, Settled, Done, answered_by}
use Rattle.js_api.specs.Calls as does
use Rattle.js_api.specs.Clients.{Client}
use Rattle.js_api.specs.Entries.{DeskEntry, Hold}
use Rattle.js_api.specs.Holding.{Holds, HoldsBy, Explains, IsLastGeneration, Unmakes}
use Rattle.js_api.specs.Stages.{Then, Gives, IsWorn, LooksUp, SendsOne, Sends, Reads, Ending}
use Rattle.js_api.specs.Publishing as publishing
use Rattle.js_api.specs.OneStream as one
use Rattle.js_api.specs.OneConsumer as consumers
use Rattle.js_api.specs.AllStreams as all
use Rattle.js_api.specs.Api as api
use Rattle.js_api.specs.Making as making
use Rattle.server.proofs.Untroubled.{AreFit, IsHoldFit, fit_front, fit_behind}

-- it does not say that numbers are used up
abbrev pub IsNumbered : DeskFault → Type 0
IsNumbered faults.NoMemory = Unit {0}
IsNumbered faults.TooManySubs = Unit {0}
IsNumbered (faults.Worn number) = ⊥
IsNumbered (faults.NoSession latest) = Unit {0}

abbrev pub NoWorn : {X : Type 0} → Result X DeskFault → Type 0
NoWorn (Ok given) = Unit {0}
NoWorn (Err fault) = IsNumbered fault

abbrev Stage : Type 0 → Type 1
Stage X = Result X DeskFault → List DeskEntry → Type 0

-- whoever makes fit entries ends by no such answer
abbrev Keeps : {X : Type 0} → (Result X DeskFault → List DeskEntry → Type 0) → Type 0
Keeps stage = (result : Result _ DeskFault) (entries : List DeskEntry) → stage result entries → AreFit entries → NoWorn result

-- ---- stages

then_keeps : {X Y : Type 0} (first : Result X DeskFault → List DeskEntry → Type 0) (next : X → Result Y DeskFault → List DeskEntry → Type 0)
    → Keeps first → ((x : X) → Keeps (next x)) → Keeps (Then first next)
then_keeps first next h k result entries (inl e) fit = subst NoWorn (sym e.result_is) (h (Err e.fault) entries e.ended fit)
then_keeps first next h k result entries (inr g) fit = k g.given result g.more g.next_is (fit_behind g.before g.more (subst AreFit g.entries_are fit))

gives_keeps : {X : Type 0} (value : X) → Keeps (Gives value)
gives_keeps value result entries h fit = subst NoWorn (sym h.result_is) tt

no_spent : (number : ℕ) (entries : List DeskEntry) → IsWorn number entries → AreFit entries → ⊥
no_spent number entries h fit = let k = subst AreFit h fit in k.0

looks_keeps : (call : catalog.CatCall) → Keeps (LooksUp call)
looks_keeps call (Ok found) entries h fit = tt
looks_keeps call (Err faults.NoMemory) entries h fit = tt
looks_keeps call (Err faults.TooManySubs) entries h fit = tt
looks_keeps call (Err (faults.Worn number)) entries h fit = no_spent number entries h fit
looks_keeps call (Err (faults.NoSession latest)) entries h fit = tt

sends_one_keeps : (out : Out) → Keeps (SendsOne out)
sends_one_keeps out (Ok sent) entries h fit = tt
sends_one_keeps out (Err faults.NoMemory) entries h fit = tt
sends_one_keeps out (Err faults.TooManySubs) entries h fit = tt
sends_one_keeps out (Err (faults.Worn number)) entries h fit = no_spent number entries h fit
sends_one_keeps out (Err (faults.NoSession latest)) entries h fit = tt

sends_keeps : (outs : List Out) → Keeps (Sends outs)
sends_keeps [] result entries h fit = gives_keeps tt result entries h fit
sends_keeps (out ∷ outs) result entries h fit = then_keeps (SendsOne out) (λ _. Sends outs) (sends_one_keeps out) (λ _. sends_keeps outs) result entries h fit

reads_keeps : {X : Type 0} (value : X) → Keeps (Reads value)
reads_keeps value (Ok given) entries h fit = tt
reads_keeps value (Err faults.NoMemory) entries h fit = tt
reads_keeps value (Err faults.TooManySubs) entries h fit = tt
reads_keeps value (Err (faults.Worn number)) entries h fit = h
reads_keeps value (Err (faults.NoSession latest)) entries h fit = tt

short_keeps : {X : Type 0} → Keeps {X = X} one.IsShort
short_keeps result entries h fit = subst NoWorn (sym h.0) tt

ending_keeps : {X : Type 0} (fault : Option DeskFault) (next : Result X DeskFault → List DeskEntry → Type 0) → IfSome fault IsNumbered → Keeps next → Keeps (Ending fault next)
ending_keeps None next n k result entries h fit = k result entries h fit
ending_keeps (Some fault) next n k result entries h fit = subst NoWorn (sym h.0) n

-- ---- holds

no_last : (number : ℕ) (volume : VolumeAt) → IsLastGeneration number volume → volume.generation < 2 ^ 62 - 1 → ⊥
no_last number volume h less = omega (arith, h.0, h.1, less)

explained : (fault : Option DeskFault) (unsaid : Bool) (hold : Hold) → Explains fault unsaid hold → IsHoldFit hold → IfSome fault IsNumbered
explained None unsaid hold h fit = tt
explained (Some faults.NoMemory) unsaid hold h fit = tt
explained (Some faults.TooManySubs) unsaid hold h fit = tt
explained (Some (faults.Worn number)) unsaid hold (inl h) fit = fit.sent number h
explained (Some (faults.Worn number)) unsaid hold (inr h) fit = no_last number hold.volume_after h.0 fit.generation
explained (Some (faults.NoSession latest)) unsaid hold h fit = tt

none_numbered : (fault : Option DeskFault) → fault ≡ None → IfSome fault IsNumbered
none_numbered fault e = subst (λ (f : Option DeskFault). IfSome f IsNumbered) (sym e) tt

unmade_numbered : (at : PlaceAt) (fault : Option DeskFault) (entries : List DeskEntry) → Unmakes at fault entries → AreFit entries → IfSome fault IsNumbered
unmade_numbered at None entries h fit = tt
unmade_numbered at (Some faults.NoMemory) entries h fit = tt
unmade_numbered at (Some faults.TooManySubs) entries h fit = tt
unmade_numbered at (Some (faults.Worn number)) entries (inl h) fit = no_spent number entries h fit
unmade_numbered at (Some (faults.Worn number)) entries (inr h) fit = let k = subst AreFit h.2 fit in no_last number h.1 h.3 k.0.1
unmade_numbered at (Some (faults.NoSession latest)) entries h fit = tt

became_numbered : (became : Became) (at : PlaceAt) (what : What) (now : ℕ) (ready : Bool) (fault : Option DeskFault) (entries : List DeskEntry)
    → HoldsBy became at what now ready fault entries → AreFit entries → IfSome fault IsNumbered
became_numbered (Made reply) at what now ready fault entries h fit = let k = subst AreFit h.1 fit in explained fault h.2.unsaid h.0 h.2.explained k.0
became_numbered (Unsaid refused) at what now ready fault entries h fit = let k = subst AreFit h.3 fit in explained fault h.2.unsaid h.0 h.2.explained k.0
became_numbered Ticked at what now ready fault entries h fit = subst (λ (f : Option DeskFault). IfSome f IsNumbered) (sym h.3) tt
became_numbered Nothing at what now ready fault entries h fit = unmade_numbered at fault entries h.1 fit
became_numbered (Broke stream) at what now ready fault entries h fit = none_numbered fault h.3.1
became_numbered (Stopped stream) at what now ready fault entries h fit = none_numbered fault h.3.1
became_numbered Gone at what now ready fault entries h fit = none_numbered fault h.2.1

holds_numbered : (at : PlaceAt) (what : What) (now : ℕ) (outcome : Outcome) (entries : List DeskEntry) → Holds at what now outcome entries → AreFit entries → IfSome outcome.fault IsNumbered
holds_numbered at what now outcome entries h fit =
    became_numbered outcome.became at what now outcome.ready outcome.fault h.more h.holds (fit_behind h.first h.more (subst AreFit h.entries_are fit))

-- ---- the server's own answers

answers_keeps : (outs : List Out) → Keeps (one.Answers outs)
answers_keeps outs = then_keeps (Sends outs) (λ _. Gives true) (sends_keeps outs) (λ _. gives_keeps true)

-- ---- one stream

ended_keeps : (name : Bytes) (to : Option Bytes) (became : Became) → Keeps (one.IsEnded name to became)
ended_keeps name to (Made reply) = gives_keeps (one.is_taken reply)
ended_keeps name to (Unsaid refused) = λ result entries h fit. absurd h
ended_keeps name to Ticked = λ result entries h fit. absurd h
ended_keeps name to Nothing = λ result entries h fit. absurd h
ended_keeps name to (Broke stream) = answers_keeps _
ended_keeps name to (Stopped stream) = answers_keeps _
ended_keeps name to Gone = answers_keeps _

on_stream_keeps : (name : Bytes) (at : PlaceAt) (what : What) (now : ℕ) (cataloged : Became → List DeskEntry) → Keeps (one.IsOnStream name at what now cataloged)
on_stream_keeps name at what now cataloged result entries h fit =
    let all = subst AreFit h.entries_are fit in
    let number = holds_numbered at what now h.outcome h.held h.holds (fit_front h.held (cataloged h.outcome.became ++ h.ended) all) in
    let behind = fit_behind (cataloged h.outcome.became) h.ended (fit_behind h.held (cataloged h.outcome.became ++ h.ended) all) in
    ending_keeps h.outcome.fault _ number (ended_keeps name _ h.outcome.became) result h.ended h.ends behind

found_keeps : {X : Type 0} (Absent : Result X DeskFault → List DeskEntry → Type 0) (Present : PlaceAt → Result X DeskFault → List DeskEntry → Type 0) (found : Option PlaceAt)
    → Keeps Absent → ((at : PlaceAt) → Keeps (Present at)) → Keeps (λ given more. MatchOption found (Absent given more) (λ at. Present at given more))
found_keeps Absent Present None a p result entries h fit = a result entries h fit
found_keeps Absent Present (Some at) a p result entries h fit = p at result entries h fit

named_keeps : {X : Type 0} (stream : Bytes) (Absent : Result X DeskFault → List DeskEntry → Type 0) (Present : PlaceAt → Result X DeskFault → List DeskEntry → Type 0)
    → Keeps Absent → ((at : PlaceAt) → Keeps (Present at)) → Keeps (one.IsNamed stream Absent Present)
named_keeps stream Absent Present a p =
    then_keeps (LooksUp (catalog.ByName stream)) (λ found given more. MatchOption found (Absent given more) (λ at. Present at given more)) (looks_keeps (catalog.ByName stream))
    (λ found. found_keeps Absent Present found a p)

adding_keeps : {X : Type 0} (stream : Bytes) (config : StreamConfig) (goes_on : catalog.CatTold → Result X DeskFault → List DeskEntry → Type 0)
    → ((told : catalog.CatTold) → Keeps (goes_on told)) → Keeps (one.IsAdding stream config goes_on)
adding_keeps stream config goes_on k result entries h fit =
    let all = subst AreFit h.entries_are fit in k h.added result h.more h.went_on all.1

added_keeps : (config : StreamConfig) (to : Option Bytes) (now : ℕ) (told : catalog.CatTold) → Keeps (one.GoesOnAdded config to now told)
added_keeps config to now (catalog.At (Some at)) = on_stream_keeps _ at _ now (one.free_unless_made at)
added_keeps config to now (catalog.At None) = λ result entries h fit. absurd h
added_keeps config to now (catalog.Refused e) = answers_keeps _
added_keeps config to now catalog.NoMemory = short_keeps
added_keeps config to now catalog.Done = λ result entries h fit. absurd h

changed_keeps : (at : PlaceAt) (config : StreamConfig) (to : Option Bytes) (now : ℕ) (told : catalog.CatTold) → Keeps (one.GoesOnChanged at config to now told)
changed_keeps at config to now catalog.Done = on_stream_keeps _ at _ now (one.keep_subjects at)
changed_keeps at config to now (catalog.Refused e) = answers_keeps _
changed_keeps at config to now catalog.NoMemory = short_keeps
changed_keeps at config to now (catalog.At found) = λ result entries h fit. absurd h

changing_keeps : (config : StreamConfig) (to : Option Bytes) (now : ℕ) (at : PlaceAt) → Keeps (one.IsChanging config to now at)
changing_keeps config to now at result entries h fit =
    let all = subst AreFit h.entries_are fit in changed_keeps at config to now h.changed result h.more h.went_on all.1

-- ---- all streams

walk_ends_keeps : (last : Option PlaceAt) → Keeps (all.WalkEnds last)
walk_ends_keeps last result entries (inl h) fit = subst NoWorn (sym h.3) tt
walk_ends_keeps last result entries (inr (inl h)) fit =
    let k : NoWorn {X = Option PlaceAt} (Err h.0) = looks_keeps (catalog.NextUsed (all.behind last)) (Err h.0) entries h.1 fit in subst NoWorn (sym h.2) k
walk_ends_keeps last result entries (inr (inr h)) fit = subst NoWorn (sym h.1) tt

walks_on_keeps : (more : List all.Visit) (fault : Option DeskFault) (failed : Option ApiError) (further : Result (Option ApiError) DeskFault → List DeskEntry → Type 0)
    → IfSome fault IsNumbered → Keeps further → Keeps (all.WalksOn more fault failed further)
walks_on_keeps more (Some fault) failed further n k result entries h fit = subst NoWorn (sym h.result_is) n
walks_on_keeps more None (Some e) further n k result entries h fit = subst NoWorn (sym h.result_is) tt
walks_on_keeps more None None further n k result entries h fit = k result entries h fit

walks_keeps : (now : ℕ) (visits : List all.Visit) (last : Option PlaceAt) → Keeps (all.Walks now last visits)
walks_keeps now [] last = walk_ends_keeps last
walks_keeps now (visit ∷ more) last = λ result entries h fit.
    let whole = subst AreFit h.3 fit in
    let behind = fit_behind h.0 (h.1 ++ h.2) whole in
    walks_on_keeps more visit.outcome.fault (all.failure visit.outcome.became) (all.Walks now (Some visit.at) more)
    (holds_numbered visit.at (whats.StreamInfo None) now visit.outcome h.1 h.6 (fit_front h.1 h.2 behind)) (walks_keeps now more (Some visit.at)) result h.2 h.7
    (fit_behind h.1 h.2 behind)

walked_keeps : (answering : Option ApiError → List Out) (told : Result (Option ApiError) DeskFault) → NoWorn told → Keeps (all.GoesOnWalked answering told)
walked_keeps answering (Ok failed) n = answers_keeps (answering failed)
walked_keeps answering (Err fault) n = λ result entries h fit. subst NoWorn (sym h.0) n

over_all_keeps : (name : Bytes) (to : Option Bytes) (now : ℕ) (answering : List _ → List Out) → Keeps (all.IsOverAll name to now answering)
over_all_keeps name to now answering result entries h fit =
    let whole = subst AreFit h.entries_are fit in
    walked_keeps (all.answer_or answering name to h.visits) h.told (walks_keeps now h.visits None h.told h.walked h.walks (fit_front h.walked h.ended whole)) result h.ended h.ends
    (fit_behind h.walked h.ended whole)

-- ---- the API

absent_keeps : (name : Bytes) (to : Option Bytes) → Keeps (one.IsAbsent name to)
absent_keeps name to = answers_keeps _

asking_keeps : (name stream : Bytes) (what : What) (now : ℕ) → Keeps (one.IsAsking name stream what now)
asking_keeps name stream what now =
    named_keeps stream (one.IsAbsent name (reply_of what)) (λ at. one.IsOnStream name at what now one.unchanged) (absent_keeps name (reply_of what)) (λ at. on_stream_keeps name at what now one.unchanged)

-- ---- what only the stream answers

heard_keeps : (became : Became) → Keeps (consumers.IsHeard became)
heard_keeps (Made reply) = gives_keeps (consumers.is_heard reply)
heard_keeps (Unsaid refused) = λ result entries h fit. absurd h
heard_keeps Ticked = λ result entries h fit. absurd h
heard_keeps Nothing = λ result entries h fit. absurd h
heard_keeps (Broke stream) = gives_keeps true
heard_keeps (Stopped stream) = gives_keeps true
heard_keeps Gone = gives_keeps false

told_at_keeps : (what : What) (now : ℕ) (at : PlaceAt) → Keeps (consumers.IsToldAt what now at)
told_at_keeps what now at result entries h fit =
    ending_keeps h.outcome.fault (consumers.IsHeard h.outcome.became) (holds_numbered at what now h.outcome entries h.holds fit) (heard_keeps h.outcome.became) result [] h.ends tt

told_keeps : (stream : Bytes) (what : What) (now : ℕ) → Keeps (consumers.IsTold stream what now)
told_keeps stream what now = named_keeps stream (Gives false) (consumers.IsToldAt what now) (gives_keeps false) (told_at_keeps what now)

by_test : {X : Type 0} (b : Bool) (P Q : Result X DeskFault → List DeskEntry → Type 0) → Keeps P → Keeps Q → Keeps (λ result entries. MatchBool b (P result entries) (Q result entries))
by_test true P Q p q result entries h fit = p result entries h fit
by_test false P Q p q result entries h fit = q result entries h fit

pulling_keeps : (stream consumer : Bytes) (ask : Option Ask) (to : Option Bytes) (now : ℕ) → Keeps (consumers.IsPulling stream consumer ask to now)
pulling_keeps stream consumer ask to now =
    then_keeps (Reads (consumers.are_names (read_name stream) (read_name consumer))) (λ named. consumers.IsPullingBy named stream consumer ask to now)
    (reads_keeps (consumers.are_names (read_name stream) (read_name consumer)))
    (λ named. by_test named (consumers.IsTold stream (whats.Pull to consumer ask) now) (Gives false) (told_keeps stream (whats.Pull to consumer ask) now) (gives_keeps false))

-- ---- each call

performs_keeps : (request : ApiRequest) (to : Option Bytes) (now : ℕ) → Keeps (api.Performs request to now)
performs_keeps requests.AccountInfo to now = over_all_keeps _ to now _
performs_keeps (requests.StreamCreate stream config) to now =
    named_keeps stream (one.IsAdding stream config (one.GoesOnAdded config to now)) (λ at. one.IsOnStream (name_of calls.StreamCreate) at (whats.Make to config) now one.unchanged)
    (adding_keeps stream config (one.GoesOnAdded config to now) (added_keeps config to now)) (λ at. on_stream_keeps _ at _ now one.unchanged)
performs_keeps (requests.StreamUpdate stream config) to now =
    named_keeps stream (one.IsAbsent (name_of calls.StreamUpdate) to) (one.IsChanging config to now) (absent_keeps (name_of calls.StreamUpdate) to) (changing_keeps config to now)
performs_keeps (requests.StreamInfo stream) to now = asking_keeps (name_of calls.StreamInfo) stream (whats.StreamInfo to) now
performs_keeps (requests.StreamDelete stream) to now =
    named_keeps stream (one.IsAbsent (name_of calls.StreamDelete) to) (λ at. one.IsOnStream (name_of calls.StreamDelete) at (whats.Drop to) now (one.free_if_dropped at))
    (absent_keeps (name_of calls.StreamDelete) to) (λ at. on_stream_keeps _ at _ now (one.free_if_dropped at))
performs_keeps (requests.StreamPurge stream pattern below keep) to now = asking_keeps (name_of calls.StreamPurge) stream (whats.Purge to pattern below keep) now
performs_keeps (requests.StreamNames offset pattern) to now = over_all_keeps _ to now _
performs_keeps (requests.StreamList offset pattern) to now = over_all_keeps _ to now _
performs_keeps (requests.StreamMsgGet stream by) to now = asking_keeps (name_of calls.StreamMsgGet) stream (whats.MessageGet to by) now
performs_keeps (requests.StreamMsgDelete stream seq) to now = asking_keeps (name_of calls.StreamMsgDelete) stream (whats.Delete to seq) now
performs_keeps (requests.ConsumerCreate stream consumer config update) to now =
    asking_keeps (name_of calls.ConsumerCreate) stream (whats.MakeConsumer to consumer config update) now
performs_keeps (requests.ConsumerDurableCreate stream consumer config update) to now =
    asking_keeps (name_of calls.ConsumerCreate) stream (whats.MakeConsumer to consumer config update) now
performs_keeps (requests.ConsumerInfo stream consumer) to now = asking_keeps (name_of calls.ConsumerInfo) stream (whats.ConsumerInfo to consumer) now
performs_keeps (requests.ConsumerDelete stream consumer) to now = asking_keeps (name_of calls.ConsumerDelete) stream (whats.DropConsumer to consumer) now
performs_keeps (requests.ConsumerNames stream offset) to now = asking_keeps (name_of calls.ConsumerNames) stream (whats.ConsumerNames to offset) now
performs_keeps (requests.ConsumerList stream offset) to now = asking_keeps (name_of calls.ConsumerList) stream (whats.ConsumerList to offset) now
performs_keeps (requests.ConsumerMsgNext stream consumer ask) to now = pulling_keeps stream consumer ask to now

carries_out_keeps : (reading : Result ApiRequest ApiError) (message : Out) (now : ℕ) → Keeps (api.CarriesOut reading message now)
carries_out_keeps (Ok request) message now = performs_keeps request message.reply now
carries_out_keeps (Err e) message now = answers_keeps _

-- ---- publishing

tells_keeps : (client : Client) (message : Out) (taken : Taken) → Keeps (publishing.Tells client message taken)
tells_keeps client message taken =
    then_keeps (Sends (publishing.untaken_outs client.told message taken)) (λ _. Gives taken) (sends_keeps (publishing.untaken_outs client.told message taken)) (λ _. gives_keeps taken)

takes_keeps : (client : Client) (message : Out) (taken : Bool) → Keeps (api.TakesByApi client message taken)
takes_keeps client message true = gives_keeps (publishing.taken_by 0 true)
takes_keeps client message false = tells_keeps client message publishing.nobody

asked_keeps : (client : Client) (message : Out) (now : ℕ) (reading : Option (Result ApiRequest ApiError)) → Keeps (api.IsAsked client message now reading)
asked_keeps client message now None = tells_keeps client message publishing.nobody
asked_keeps client message now (Some reading) =
    then_keeps (api.CarriesOut reading message now) (api.TakesByApi client message) (carries_out_keeps reading message now) (takes_keeps client message)

to_api_keeps : (client : Client) (message : Out) (now : ℕ) → Keeps (api.PublishesToApi client message now)
to_api_keeps client message now =
    then_keeps (Reads (request_of message.to message.payload)) (api.IsAsked client message now) (reads_keeps (request_of message.to message.payload)) (asked_keeps client message now)

offers_keeps : (client : Client) (message : Out) → Keeps (publishing.Offers client message)
offers_keeps client message (Ok count) entries h fit = tt
offers_keeps client message (Err faults.NoMemory) entries h fit = tt
offers_keeps client message (Err faults.TooManySubs) entries h fit = tt
offers_keeps client message (Err (faults.Worn number)) entries h fit = no_spent number entries h fit
offers_keeps client message (Err (faults.NoSession latest)) entries h fit = tt

reached_keeps : (message : Out) (became : Became) → Keeps (publishing.IsReached message became)
reached_keeps message (Made reply) = gives_keeps true
reached_keeps message (Unsaid refused) = λ result entries h fit. absurd h
reached_keeps message Ticked = λ result entries h fit. absurd h
reached_keeps message Nothing = λ result entries h fit. absurd h
reached_keeps message (Broke stream) = then_keeps (Sends _) (λ _. Gives true) (sends_keeps _) (λ _. gives_keeps true)
reached_keeps message (Stopped stream) = then_keeps (Sends _) (λ _. Gives true) (sends_keeps _) (λ _. gives_keeps true)
reached_keeps message Gone = gives_keeps false

reaches_keeps : (message : Out) (now : ℕ) (at : PlaceAt) → Keeps (publishing.Reaches message now at)
reaches_keeps message now at result entries h fit =
    let whole = subst AreFit h.entries_are fit in
    ending_keeps h.outcome.fault (publishing.IsReached message h.outcome.became) (holds_numbered at (publishing.published message) now h.outcome h.held h.holds (fit_front h.held h.rest whole))
    (reached_keeps message h.outcome.became) result h.rest h.ends (fit_behind h.held h.rest whole)

stores_keeps : (message : Out) (now : ℕ) (found : Option PlaceAt) → Keeps (publishing.Stores message now found)
stores_keeps message now None = gives_keeps false
stores_keeps message now (Some at) = reaches_keeps message now at

plain_keeps : (client : Client) (message : Out) (now : ℕ) → Keeps (publishing.PublishesPlain client message now)
plain_keeps client message now =
    then_keeps (publishing.Offers client message) _ (offers_keeps client message)
    (λ count. then_keeps (LooksUp (catalog.Find message.to)) _ (looks_keeps (catalog.Find message.to))
    (λ found. then_keeps (publishing.Stores message now found) _ (stores_keeps message now found)
    (λ other. tells_keeps client message (publishing.taken_by count other))))

acknowledging_keeps : (reading : Result Ack AckFault) (to : Option Bytes) (now : ℕ) → Keeps (consumers.IsAcknowledging reading to now)
acknowledging_keeps (Ok ack) to now = told_keeps ack.stream (whats.Ack to ack) now
acknowledging_keeps (Err misread.NotAck) to now = gives_keeps false
acknowledging_keeps (Err (misread.BadToken place)) to now = gives_keeps false
acknowledging_keeps (Err misread.BadBody) to now = gives_keeps true
acknowledging_keeps (Err misread.NoMemory) to now = λ result entries h fit. absurd h

ack_keeps : (client : Client) (message : Out) (now : ℕ) → Keeps (api.PublishesAck client message now)
ack_keeps client message now =
    then_keeps (Reads (ack_of message.to message.payload)) _ (reads_keeps (ack_of message.to message.payload))
    (λ reading. then_keeps (consumers.IsAcknowledging reading message.reply now) (api.TakesByApi client message) (acknowledging_keeps reading message.reply now) (takes_keeps client message))

publishes_keeps : (client : Client) (message : Out) (now : ℕ) → Keeps (does.Publishes client message now)
publishes_keeps client message now =
    by_test (is_api message.to) (api.PublishesToApi client message now) _ (to_api_keeps client message now)
    (by_test (is_acknowledgement message.to) (api.PublishesAck client message now) (publishing.PublishesPlain client message now)
    (ack_keeps client message now) (plain_keeps client message now))

-- ---- letting time pass

passes_keeps : (now : ℕ) (found : Option PlaceAt) → Keeps (does.Passes now found)
passes_keeps now None = gives_keeps false
passes_keeps now (Some at) = λ result entries h fit.
    ending_keeps h.outcome.fault (Gives h.outcome.ready) (holds_numbered at whats.Tick now h.outcome entries h.holds fit) (gives_keeps h.outcome.ready) result [] h.ends tt

turns_keeps : Keeps does.Turns
turns_keeps (Ok found) entries h fit = tt
turns_keeps (Err faults.NoMemory) entries h fit = tt
turns_keeps (Err faults.TooManySubs) entries h fit = tt
turns_keeps (Err (faults.Worn number)) entries h fit = no_spent number entries h fit
turns_keeps (Err (faults.NoSession latest)) entries h fit = tt

resumes_keeps : Keeps does.Resumes
resumes_keeps (Ok last) entries h fit = tt
resumes_keeps (Err fault) entries h fit = absurd h

ticks_keeps : (now : ℕ) → Keeps (does.Ticks now)
ticks_keeps now =
    then_keeps does.Turns _ turns_keeps (λ found. then_keeps (does.Passes now found) _ (passes_keeps now found) (λ ready. gives_keeps tt))

settles_keeps : (now : ℕ) → Keeps (does.Settles now)
settles_keeps now = then_keeps does.Resumes (does.Passes now) resumes_keeps (passes_keeps now)

-- ---- all calls

answered_keeps : {X : Type 0} (says : X → DeskAnswer) (stages : Result X DeskFault → List DeskEntry → Type 0) → Keeps stages → Keeps (does.Answered says stages)
answered_keeps says stages k result entries h fit = subst NoWorn (sym h.result_is) (by h.given (k h.given entries h.made fit))
  where
    by : (given : Result _ DeskFault) → NoWorn given → NoWorn (answered_by says given)
    by (Ok value) n = tt
    by (Err fault) n = n

-- of the router's calls the opening alone may answer that the numbers are used up
said_keeps : (call : router.RouteCall) (told : router.RouteTold) (result : Result DeskAnswer DeskFault) → (call ≡ router.Open → ⊥) → does.MaySay call told → does.Says told result → NoWorn result
said_keeps call router.Done result not may h = subst NoWorn (sym h) tt
said_keeps call (router.Opened number) result not may h = subst NoWorn (sym h) tt
said_keeps call (router.Taken count) result not may h = absurd h
said_keeps call (router.Listens heard) result not may h = absurd h
said_keeps call (router.Frames list more) result not may h = subst NoWorn (sym h) tt
said_keeps call (router.Slow length) result not may h = subst NoWorn (sym h) tt
said_keeps call (router.NoSession latest) result not may h = absurd h
said_keeps call router.TooManySubs result not may h = subst NoWorn (sym h) tt
said_keeps router.Open router.Worn result not may h = absurd (not refl)
said_keeps (router.Close n) router.Worn result not may h = absurd (false≢true may)
said_keeps (router.Options n echo headers) router.Worn result not may h = absurd (false≢true may)
said_keeps (router.Sub n pattern queue sid) router.Worn result not may h = absurd (false≢true may)
said_keeps (router.Unsub n sid max) router.Worn result not may h = absurd (false≢true may)
said_keeps (router.Publish out from) router.Worn result not may h = absurd (false≢true may)
said_keeps (router.Interest subject group) router.Worn result not may h = absurd (false≢true may)
said_keeps (router.Collect n max) router.Worn result not may h = absurd (false≢true may)
said_keeps call router.NoMemory result not may h = subst NoWorn (sym h) tt

routes_keeps : (call : router.RouteCall) → (call ≡ router.Open → ⊥) → Keeps (does.Routes call)
routes_keeps call not result entries (inl h) fit = said_keeps call h.0 result not h.2 h.3
routes_keeps call not result entries (inr h) fit = absurd (no_spent h.0 entries h.2 fit)

if_open_keeps : (client : Client) (done : Result DeskAnswer DeskFault → List DeskEntry → Type 0) → Keeps done → Keeps (does.IfOpen client done)
if_open_keeps client done k result entries h fit = by client.is_open h
  where
    by : (b : Bool) → MatchBool b (done result entries) ((result ≡ Err (faults.NoSession client.session)) × (entries ≡ [])) → NoWorn result
    by true h = k result entries h fit
    by false h = subst NoWorn (sym h.0) tt

-- a call of an open session
pub does_keeps : (client : Client) (call : DeskCall) → (call ≡ Open → ⊥) → Keeps (does.Does client call)
does_keeps client Open not = absurd (not refl)
does_keeps client (Options echo headers no_responders) not = if_open_keeps client _ (routes_keeps (router.Options client.session echo headers) (λ e. cc))
does_keeps client (Sub subject queue sid) not = if_open_keeps client _ (routes_keeps (router.Sub client.session subject queue sid) (λ e. cc))
does_keeps client (Unsub sid max) not = if_open_keeps client _ (routes_keeps (router.Unsub client.session sid max) (λ e. cc))
does_keeps client (Publish message now) not = if_open_keeps client _ (answered_keeps Took (does.Publishes client message now) (publishes_keeps client message now))
does_keeps client (Tick now) not = answered_keeps (λ (u : Unit {0}). Done) (does.Ticks now) (ticks_keeps now)
does_keeps client (Settle now) not = answered_keeps Settled (does.Settles now) (settles_keeps now)
does_keeps client (Collect max) not = if_open_keeps client _ (routes_keeps (router.Collect client.session max) (λ e. cc))
does_keeps client Close not = if_open_keeps client _ (routes_keeps (router.Close client.session) (λ e. cc))

-- ---- the making of the words' stream

making_keeps : (became : Became) → Keeps (making.IsMaking became)
making_keeps (Made reply) = gives_keeps (making.refusal_in reply)
making_keeps (Unsaid refused) = λ result entries h fit. absurd h
making_keeps Ticked = λ result entries h fit. absurd h
making_keeps Nothing = λ result entries h fit. absurd h
making_keeps (Broke stream) = gives_keeps _
making_keeps (Stopped stream) = gives_keeps _
making_keeps Gone = λ result entries h fit. absurd h

makes_at_keeps : (config : StreamConfig) (now : ℕ) (at : PlaceAt) → Keeps (making.MakesAt config now at)
makes_at_keeps config now at result entries h fit =
    let freed = one.free_unless_made at h.outcome.became in
    let whole = subst AreFit h.entries_are fit in
    ending_keeps h.outcome.fault (making.IsMaking h.outcome.became)
    (holds_numbered at (whats.Make None config) now h.outcome h.held h.holds (fit_front h.held (freed ++ h.ended) whole)) (making_keeps h.outcome.became) result h.ended h.ends
    (fit_behind freed h.ended (fit_behind h.held (freed ++ h.ended) whole))

taken_keeps : (config : StreamConfig) (now : ℕ) (told : catalog.CatTold) → Keeps (making.GoesOnTaken config now told)
taken_keeps config now (catalog.At (Some at)) = makes_at_keeps config now at
taken_keeps config now (catalog.At None) = λ result entries h fit. absurd h
taken_keeps config now (catalog.Refused e) = gives_keeps (Some e)
taken_keeps config now catalog.NoMemory = short_keeps
taken_keeps config now catalog.Done = λ result entries h fit. absurd h

pub makes_stream_keeps : (name : Bytes) (config : StreamConfig) (now : ℕ) → Keeps (making.MakesStream name config now)
makes_stream_keeps name config now =
    named_keeps name (making.IsPreparing name config now) (λ at. Gives None)
    (then_keeps (Reads config) (λ given. one.IsAdding name given (making.GoesOnTaken given now)) (reads_keeps config)
    (λ given. adding_keeps name given (making.GoesOnTaken given now) (taken_keeps given now))) (λ at. gives_keeps None)
