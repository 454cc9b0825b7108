-- The name of the stream behind each entry of a run, and what two runs in a row send.
use Rattle.std.proofs.Common.{◌≡◌, ◌+◌, ◌^◌, ℕ, Bool, true, false, List, [], ◌∷◌, ◌++◌, append_assoc, append-nil, length, Option, Some, None, refl, sym, ap, subst, ◌∙◌, if◌then◌else◌}
use Rattle.std.specs.Prelude.{◌==◌}
use Rattle.js_base.specs.Bytes.{Bytes}
use Rattle.js_base.specs.declared.out.Out.{Out}
use Rattle.js_base.specs.declared.out.ApiError.{ApiError}
use Rattle.js_model.specs.declared.stream.State.{State}
use Rattle.js_model.specs.declared.stream.State.TheVariants.{Vacant, Live}
use Rattle.js_model.specs.declared.stream.Stream.{Stream}
use Rattle.js_model.specs.declared.stream.Message.{Message}
use Rattle.js_model.specs.declared.stream_config.StreamConfig.{StreamConfig}
use Rattle.js_model.specs.declared.consumer.Consumer.{Consumer}
use Rattle.js_model.specs.declared.consumer_config.ConsumerConfig.{ConsumerConfig}
use Rattle.js_model.specs.declared.ack.Ask.{Ask}
use Rattle.js_model.specs.declared.ack.AckKind.{AckKind}
use Rattle.js_model.specs.declared.ack.AckKind.TheVariants as acks
use Rattle.js_model.specs.declared.event.Event.{Event}
use Rattle.js_model.specs.declared.event.Publish.{Publish}
use Rattle.js_model.specs.declared.event.What.{What}
use Rattle.js_model.specs.declared.event.What.TheVariants as whats
use Rattle.js_model.specs.declared.entry.Delivery.{Delivery}
use Rattle.js_model.specs.declared.entry.PlaceEntry.{PlaceEntry}
use Rattle.js_model.specs.declared.entry.PlaceEntry.TheVariants.{Step, Deliver, Broken}
use Rattle.js_model.specs.declared.reply.Answer.{Answer}
use Rattle.js_model.specs.declared.reply.Reply.{Reply}
use Rattle.js_model.specs.declared.reply.Reply.TheVariants.{Refused}
use Rattle.js_model.specs.declared.reply.Verdict.{Verdict}
use Rattle.js_model.specs.declared.reply.Verdict.TheVariants.{Take, Duplicate as TakenBefore, Refused as RefusedBy}
use Rattle.js_model.specs.Advance.{advance}
use Rattle.js_model.specs.Configs.{same_stream_config, same_consumer_config, same_retention}
use Rattle.js_model.specs.Consumers.{empty_stream, making_checks}
use Rattle.js_model.specs.Deliver.{IsDelivered}
use Rattle.js_model.specs.Events.{IsEvent, ack_answer, ack_done, ack_reply, answered, consumer_asked, consumer_dropped, consumer_made, consumer_told, deleted, message_at, message_by, message_told, or_no_room, published, pull_answer, refused, settled, settled_state, stream_answer, stream_made, stream_told, told_of, vacant_answer, vacantly, with_config, with_id}
use Rattle.js_model.specs.Acknowledge.{is_no_delivery}
use Rattle.js_model.specs.Refusals.{first_refusal, no_room, other_config, retention_cannot_change, numbers_used_up}
use Rattle.js_model.specs.Retention.{kept}
use Rattle.js_model.specs.Runs.{RunFrom, new_messages}
use Rattle.js_model.specs.Streams.{by_name}
use Rattle.js_model.specs.Trim.{trim}
use Rattle.js_model.specs.Verdict.{verdict}
use Rattle.js_api.specs.Outputs.{entry_outs, name_after, name_behind, name_told, outs_from, outs_of, stream_name}
use Rattle.js_api.specs.Worlds.{is_broken}
use Rattle.hub_fronts.specs.Naming.{named_behind}

-- ---- what is kept of a stream's configuration

settled_named : (state : State) → stream_name (settled_state state) ≡ stream_name state
unfolding kept trim
settled_named (Vacant i) = refl
settled_named (Live s) = refl

settled_config : (s : Stream) → (settled s).config ≡ s.config
unfolding kept trim
settled_config s = refl

advance_config : (s : Stream) (now : ℕ) → (advance s now).config ≡ s.config
unfolding advance
advance_config s now = refl

with_id_config : (s : Stream) (id : Bytes) → (with_id s id).config ≡ s.config
with_id_config s [] = refl
with_id_config s (byte ∷ more) = refl

-- ---- one event

-- the answer's state has the name that its reply tells, from this name on
abbrev IsNamed : Bytes → Answer → Type 0
IsNamed stream a = stream_name a.state ≡ name_told stream a.reply

either_named : (stream : Bytes) (b : Bool) (x y : Answer) → IsNamed stream x → IsNamed stream y → IsNamed stream (if b then x else y)
either_named stream true x y h k = h
either_named stream false x y h k = k

told_named : (s : Stream) (stream : Bytes) → IsNamed stream (stream_told s)
told_named s stream = ap (λ (config : StreamConfig). config.name) (sym (settled_config s))

published_named : (s : Stream) (p : Publish) (v : Verdict) → IsNamed s.config.name (published s p v)
published_named s p Take = ap (λ (config : StreamConfig). config.name) (with_id_config _ p.wants.id)
published_named s p (TakenBefore n) = refl
published_named s p (RefusedBy e) = refl

deleted_named : (s : Stream) (found : Option Message) → IsNamed s.config.name (deleted s found)
deleted_named s None = refl
deleted_named s (Some m) = refl

message_named : (s : Stream) (found : Option Message) → IsNamed s.config.name (message_told s found)
message_named s None = refl
message_named s (Some m) = refl

found_named : (s : Stream) (found : Option Consumer) → IsNamed s.config.name (told_of s found)
found_named s None = refl
found_named s (Some c) = refl

made_named : (s : Stream) (name : Bytes) (config : ConsumerConfig) (checked : Option ApiError) → IsNamed s.config.name (consumer_made s name config checked)
made_named s name config None = found_named _ (by_name (settled _).consumers name)
made_named s name config (Some e) = refl

asked_named : (s : Stream) (name : Bytes) (config : ConsumerConfig) (update room : Bool) (found : Option Consumer) → IsNamed s.config.name (consumer_asked s name config update room found)
asked_named s name config true room None = refl
asked_named s name config false room None = made_named s name config (or_no_room room (first_refusal (making_checks s name config)))
asked_named s name config update room (Some c) =
    either_named s.config.name (same_consumer_config config c.config) (consumer_told s name) (refused _ s) (found_named s (by_name (settled s).consumers name)) refl

gone_named : (s : Stream) (found : Option Consumer) → IsNamed s.config.name (consumer_dropped s found)
gone_named s None = refl
gone_named s (Some c) = refl

kind_named : (stream : Bytes) (kind : AckKind) → name_told stream (ack_reply kind) ≡ stream
kind_named stream acks.Ack = refl
kind_named stream (acks.Nak delay) = refl
kind_named stream acks.Wpi = refl
kind_named stream (acks.Next ask) = refl
kind_named stream acks.Term = refl

acked_named : (s : Stream) (reply : Option Bytes) (n : ℕ) (kind : AckKind) (found : Option Consumer) → IsNamed s.config.name (ack_answer s reply n kind found)
acked_named s reply n kind None = refl
acked_named s reply n kind (Some c) = either_named s.config.name (is_no_delivery c n) _ (ack_done s reply n kind c) refl (sym (kind_named s.config.name kind))

pulled_named : (s : Stream) (reply : Option Bytes) (ask : Option Ask) (found : Option Consumer) → IsNamed s.config.name (pull_answer s reply ask found)
pulled_named s reply ask None = refl
pulled_named s reply ask (Some c) = refl

config_named : (s : Stream) (config : StreamConfig) (room : Bool) → IsNamed s.config.name (with_config s config room)
config_named s config true = told_named (record s { config = config }) s.config.name
config_named s config false = either_named s.config.name (same_stream_config config s.config) (stream_told s) (refused no_room s) (told_named s s.config.name) refl

answer_named : (s : Stream) (what : What) (room : Bool) → stream_name (stream_answer s what room).state ≡ name_after s.config.name what (stream_answer s what room).reply
answer_named s (whats.Make reply config) room =
    either_named s.config.name (same_stream_config config s.config) (stream_told s) (refused other_config s) (told_named s s.config.name) refl
answer_named s (whats.Change reply config) room =
    either_named s.config.name (same_retention config.retention s.config.retention) (with_config s config room) (refused retention_cannot_change s) (config_named s config room) refl
answer_named s (whats.Drop reply) room = refl
answer_named s (whats.Publish p) room = published_named s p (verdict s p room)
answer_named s (whats.Purge reply filter below keep) room = refl
answer_named s (whats.Delete reply seq) room = deleted_named s (message_at s seq)
answer_named s (whats.MakeConsumer reply name config update) room = asked_named s name config update room (by_name s.consumers name)
answer_named s (whats.DropConsumer reply name) room = gone_named s (by_name s.consumers name)
answer_named s (whats.Ack reply ack) room = acked_named s reply ack.seq ack.kind (by_name s.consumers ack.consumer)
answer_named s (whats.Pull reply consumer ask) room = pulled_named s reply ask (by_name s.consumers consumer)
answer_named s whats.Tick room = refl
answer_named s (whats.StreamInfo reply) room = told_named s s.config.name
answer_named s (whats.MessageGet reply by) room = message_named s (message_by s by)
answer_named s (whats.ConsumerInfo reply name) room = found_named s (by_name (settled s).consumers name)
answer_named s (whats.ConsumerNames reply offset) room = refl
answer_named s (whats.ConsumerList reply offset) room = refl

stream_made_named : (i : ℕ) (config : StreamConfig) (now : ℕ) (room : Bool) → IsNamed [] (stream_made i config now room)
stream_made_named i config now true = told_named (empty_stream (i + 1) config now) []
stream_made_named i config now false = refl

vacant_named : (i : ℕ) (what : What) (now : ℕ) (room : Bool) → stream_name (vacant_answer i what now room).state ≡ name_after [] what (vacant_answer i what now room).reply
vacant_named i (whats.Make reply config) now room =
    either_named [] (i + 1 == 2 ^ 62) (vacantly (Refused numbers_used_up) i) (stream_made i config now room) refl (stream_made_named i config now room)
vacant_named i (whats.Change reply config) now room = refl
vacant_named i (whats.Drop reply) now room = refl
vacant_named i (whats.Publish p) now room = refl
vacant_named i (whats.Purge reply filter below keep) now room = refl
vacant_named i (whats.Delete reply seq) now room = refl
vacant_named i (whats.MakeConsumer reply name config update) now room = refl
vacant_named i (whats.DropConsumer reply name) now room = refl
vacant_named i (whats.Ack reply ack) now room = refl
vacant_named i (whats.Pull reply consumer ask) now room = refl
vacant_named i whats.Tick now room = refl
vacant_named i (whats.StreamInfo reply) now room = refl
vacant_named i (whats.MessageGet reply by) now room = refl
vacant_named i (whats.ConsumerInfo reply name) now room = refl
vacant_named i (whats.ConsumerNames reply offset) now room = refl
vacant_named i (whats.ConsumerList reply offset) now room = refl

event_named : (old : State) (e : Event) (now : ℕ) (room : Bool) → stream_name (answered old e now room).state ≡ name_after (stream_name old) e.what (answered old e now room).reply
unfolding answered
event_named (Vacant i) e now room = settled_named (vacant_answer i e.what now room).state ∙ vacant_named i e.what now room
event_named (Live s) e now room =
    settled_named (stream_answer (advance s now) e.what room).state
    ∙ (answer_named (advance s now) e.what room
    ∙ ap (λ (config : StreamConfig). name_after config.name e.what (stream_answer (advance s now) e.what room).reply) (advance_config s now))

step_named : (old : State) (e : Event) (now : ℕ) (reply : Reply) (outs : List Out) (new : State) → IsEvent old e now reply outs new
    → stream_name new ≡ name_after (stream_name old) e.what reply
step_named old e now reply outs new event =
    subst (λ (a : Answer). stream_name a.state ≡ name_after (stream_name old) e.what a.reply) event.answers (event_named old e now event.room)

-- ---- one delivery

delivery_named : (old : State) (now : ℕ) (listening : List Bytes) (d : Delivery) (outs : List Out) (new : State) → IsDelivered old now listening d outs new → stream_name new ≡ stream_name old
unfolding kept
delivery_named (Vacant i) now listening d outs new h = absurd h
delivery_named (Live s) now listening d outs new h = ap stream_name h.new_is ∙ ap (λ (config : StreamConfig). config.name) (advance_config s now)

-- ---- runs

pub run_named : (count : ℕ) (old : State) (entries : List PlaceEntry) (new : State) → RunFrom count old entries new → is_broken entries ≡ false
    → stream_name new ≡ named_behind (stream_name old) entries
run_named count old [] new run whole = ap stream_name (sym run)
run_named count old (Step seat e now reply outs unsaid ∷ entries) new (mid, step, rest) whole =
    run_named (count + length (new_messages old mid)) mid entries new rest whole
    ∙ ap (λ (name : Bytes). named_behind name entries) (step_named old e now reply outs mid step.event)
run_named count old (Deliver seat now listening d outs ∷ entries) new (mid, step, rest) whole =
    run_named (count + length (new_messages old mid)) mid entries new rest whole
    ∙ ap (λ (name : Bytes). named_behind name entries) (delivery_named old now listening d outs mid step.delivered)
run_named count old (Broken seat now call ∷ entries) new run whole = let no : ⊥ = cc in absurd no

-- an entry sends, and then those behind it
first_sends : (stream : Bytes) (entry : PlaceEntry) (more : List PlaceEntry) → outs_from stream (entry ∷ more) ≡ entry_outs stream entry ++ outs_from (name_behind stream entry) more
first_sends stream entry [] = sym (append-nil (entry_outs stream entry))
first_sends stream entry (next ∷ more) = refl

sends_on : (stream : Bytes) (entry : PlaceEntry) (first more : List PlaceEntry) (mid after : State) → stream_name mid ≡ name_behind stream entry
    → outs_of mid (first ++ more) ≡ outs_of mid first ++ outs_of after more → outs_from stream (entry ∷ (first ++ more)) ≡ outs_from stream (entry ∷ first) ++ outs_of after more
sends_on stream entry first more mid after named rest =
    first_sends stream entry (first ++ more)
    ∙ (ap (λ (outs : List Out). entry_outs stream entry ++ outs)
    (ap (λ (name : Bytes). outs_from name (first ++ more)) (sym named) ∙ (rest ∙ ap (λ (name : Bytes). outs_from name first ++ outs_of after more) named))
    ∙ (sym (append_assoc (entry_outs stream entry) (outs_from (name_behind stream entry) first) (outs_of after more))
    ∙ ap (λ (outs : List Out). outs ++ outs_of after more) (sym (first_sends stream entry first))))

pub run_sends : (count : ℕ) (old : State) (first : List PlaceEntry) (mid : State) (more : List PlaceEntry) → RunFrom count old first mid
    → (is_broken first ≡ true → more ≡ []) → outs_of old (first ++ more) ≡ outs_of old first ++ outs_of mid more
run_sends count old [] mid more run ends = ap (λ (s : State). outs_of s more) run
run_sends count old (Step seat e now reply outs unsaid ∷ first) mid more (next, step, rest) ends =
    sends_on (stream_name old) (Step seat e now reply outs unsaid) first more next mid (step_named old e now reply outs next step.event)
    (run_sends (count + length (new_messages old next)) next first mid more rest ends)
run_sends count old (Deliver seat now listening d outs ∷ first) mid more (next, step, rest) ends =
    sends_on (stream_name old) (Deliver seat now listening d outs) first more next mid (delivery_named old now listening d outs next step.delivered)
    (run_sends (count + length (new_messages old next)) next first mid more rest ends)
run_sends count old (Broken seat now call ∷ []) mid more run ends =
    subst (λ (l : List PlaceEntry). outs_of old (Broken seat now call ∷ l) ≡ [] ++ outs_of mid l) (sym (ends refl)) refl
run_sends count old (Broken seat now call ∷ entry ∷ entries) mid more run ends = absurd run
