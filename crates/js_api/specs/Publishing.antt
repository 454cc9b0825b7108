-- A publish to a plain subject: it goes to the subscriptions, and then to the one stream whose subjects match. If nobody took it, the client is told.
use Rattle.std.specs.Prelude.{◌≡◌, ◌≤◌, ◌+◌, ◌==◌, length, IsTrue, IfSome, ℕ, Bool, true, false, not, ◌&&◌, List, [], ◌∷◌, ◌++◌, Option, Some, None, MatchOption, Result, Ok, Err}
use Rattle.js_base.specs.Bytes.{Bytes}
use Rattle.js_base.specs.Headers.{is_block}
use Rattle.js_base.specs.Status.{status}
use Rattle.js_base.specs.Subjects.{is_publish_text, is_subject_text}
use Rattle.js_base.specs.declared.out.Out.{Out}
use Rattle.js_base.specs.declared.out.ApiError.{ApiError}
use Rattle.js_model.specs.declared.event.What.{What}
use Rattle.js_model.specs.declared.event.What.TheVariants as whats
use Rattle.js_model.specs.declared.reply.Reply.TheVariants.{Refused}
use Rattle.js_model.specs.declared.desk.Taken.{Taken}
use Rattle.js_model.specs.declared.desk.PlaceAt.{PlaceAt}
use Rattle.js_model.specs.Refusals.{store_fault, stream_stopped}
use Rattle.js_model.specs.Router as router
use Rattle.js_model.specs.Catalog.{Find}
use Rattle.publish_wants.specs.Wants.{wants_of}
use Rattle.js_api.specs.declared.fault.DeskFault.{DeskFault}
use Rattle.js_api.specs.declared.fault.DeskFault.TheVariants as faults
use Rattle.js_api.specs.declared.outcome.Became.{Became}
use Rattle.js_api.specs.declared.outcome.Became.TheVariants.{Made, Unsaid, Ticked, Nothing, Broke, Stopped, Gone}
use Rattle.js_api.specs.declared.outcome.Outcome.{Outcome}
use Rattle.js_api.specs.Clients.{Client}
use Rattle.js_api.specs.Entries.{DeskEntry, Routed}
use Rattle.js_api.specs.Stages.{Then, Gives, IsWorn, LooksUp, Sends, Ending}
use Rattle.js_api.specs.Holding.{Holds}
use Rattle.api_replies.specs.PubAcks.{publish_text}
use Rattle.js_api.specs.Outputs.{sent_text}

-- ---- the message

-- what a published message asks of its stream
abbrev pub published : Out → What
published message =
    whats.Publish (record { reply = message.reply; subject = message.subject; headers = message.headers; payload = message.payload; wants = wants_of message.headers })

-- no block, or one that is a header block
abbrev pub is_headers : Bytes → Bool
is_headers [] = true
is_headers (byte ∷ more) = is_block (byte ∷ more)

-- a message that a client may publish
pub record IsMessage (message : Out) : Type 0 where
  pub same_subject : message.subject ≡ message.to
  pub to_text : IsTrue (is_publish_text message.to)
  pub reply_text : IfSome message.reply (λ text. IsTrue (is_subject_text text))
  pub block : IsTrue (is_headers message.headers)
  pub small : length message.headers + length message.payload ≤ 1048576

-- ---- the answer if nobody took a message

abbrev pub nobody : Taken
nobody = record { subscriptions = 0; other = false }

-- the block `NATS/1.0 503`, for the reply subject
abbrev pub no_responders : Bytes → Out
no_responders to = record { to = to; subject = to; reply = None; headers = status 503 [] []; payload = [] }

-- no subscription took it, and nothing else did
abbrev pub is_untaken : Taken → Bool
is_untaken taken = (taken.subscriptions == 0) && not taken.other

-- the answer to a reply subject, if it is to be told
abbrev pub told_nobody : Bool → Option Bytes → List Out
told_nobody true (Some to) = no_responders to ∷ []
told_nobody true None = []
told_nobody false to = []

-- what tells a client that nobody took its message, if it is told so
abbrev pub untaken_outs : Bool → Out → Taken → List Out
untaken_outs told message taken = told_nobody (told && is_untaken taken) message.reply

-- ---- the stages

-- the router's publish, for the session of the client
abbrev pub offer : Client → Out → router.RouteCall
offer client message = router.Publish message (Some client.session)

-- the message goes to the subscriptions, and so many took it
abbrev pub Offers : Client → Out → Result ℕ DeskFault → List DeskEntry → Type 0
Offers client message (Ok count) entries = entries ≡ Routed (offer client message) (router.Taken count) ∷ []
Offers client message (Err faults.NoMemory) entries = entries ≡ Routed (offer client message) router.NoMemory ∷ []
Offers client message (Err faults.TooManySubs) entries = ⊥
Offers client message (Err (faults.Worn number)) entries = IsWorn number entries
Offers client message (Err (faults.NoSession latest)) entries = ⊥

-- the server's own refusal of a publish to the stream of this name
abbrev pub publish_refusal : Option Bytes → Bytes → ApiError → List Out
publish_refusal to stream e = sent_text to (publish_text stream (Refused e))

-- whether a stream took the message, by what became of the hold. One that refuses it took it
abbrev pub IsReached : Out → Became → Result Bool DeskFault → List DeskEntry → Type 0
IsReached message (Made reply) result entries = Gives true result entries
IsReached message (Unsaid refused) result entries = ⊥
IsReached message Ticked result entries = ⊥
IsReached message Nothing result entries = ⊥
IsReached message (Broke stream) result entries = Then (Sends (publish_refusal message.reply stream store_fault)) (λ _. Gives true) result entries
IsReached message (Stopped stream) result entries = Then (Sends (publish_refusal message.reply stream stream_stopped)) (λ _. Gives true) result entries
IsReached message Gone result entries = Gives false result entries

-- a hold on the place that was found, with the message
pub record Reaches (message : Out) (now : ℕ) (at : PlaceAt) (result : Result Bool DeskFault) (entries : List DeskEntry) : Type 0 where
  pub outcome : Outcome
  pub held : List DeskEntry
  pub rest : List DeskEntry
  pub entries_are : entries ≡ held ++ rest
  pub holds : Holds at (published message) now outcome held
  pub ends : Ending outcome.fault (IsReached message outcome.became) result rest

-- the stream whose subjects match gets it, if there is one
abbrev pub Stores : Out → ℕ → Option PlaceAt → Result Bool DeskFault → List DeskEntry → Type 0
Stores message now found result entries = MatchOption found (Gives false result entries) (λ at. Reaches message now at result entries)

-- if nobody took it, its client is told, and this is who took it
abbrev pub Tells : Client → Out → Taken → Result Taken DeskFault → List DeskEntry → Type 0
Tells client message taken result entries = Then (Sends (untaken_outs client.told message taken)) (λ _. Gives taken) result entries

-- ---- the publish

abbrev pub taken_by : ℕ → Bool → Taken
taken_by count other = record { subscriptions = count; other = other }

abbrev pub PublishesPlain : Client → Out → ℕ → Result Taken DeskFault → List DeskEntry → Type 0
PublishesPlain client message now result entries =
    Then (Offers client message)
    (λ count. Then (LooksUp (Find message.to))
    (λ found. Then (Stores message now found)
    (λ other. Tells client message (taken_by count other)))) result entries

-- a message that reaches nobody
abbrev pub PublishesToNobody : Client → Out → Result Taken DeskFault → List DeskEntry → Type 0
PublishesToNobody client message result entries = Tells client message nobody result entries
