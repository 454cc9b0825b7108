-- What a place answers if there is no stream, and as time passes.
use Rattle.std.proofs.Common.{◌≡◌, ◌≢◌, ℕ, ◌+◌, ◌^◌, List, [], ◌++◌, append-nil, Bool, true, if◌then◌else◌, Option, ap, sym, ◌∙◌, refl}
use Rattle.std.proofs.lemmas.Bool.{eq-eqb, ne_eqb}
use Rattle.js_base.specs.Bytes.{Bytes}
use Rattle.js_base.specs.declared.out.Out.{Out}
use Rattle.js_model.specs.declared.stream_config.StreamConfig.{StreamConfig}
use Rattle.js_model.specs.declared.stream.Stream.{Stream}
use Rattle.js_model.specs.declared.stream.State.{State}
use Rattle.js_model.specs.declared.stream.State.TheVariants.{Vacant, Live}
use Rattle.js_model.specs.declared.event.What.{What}
use Rattle.js_model.specs.declared.event.What.TheVariants.{Make, Change, Drop as DropStream, Publish as PublishIt, Purge, Delete, MakeConsumer, DropConsumer, Ack as AckIt, Pull as PullIt, Tick, StreamInfo as AskStream, MessageGet, ConsumerInfo as AskConsumer, ConsumerNames, ConsumerList}
use Rattle.js_model.specs.declared.reply.Answer.{Answer}
use Rattle.js_model.specs.declared.reply.Reply.{Reply}
use Rattle.js_model.specs.declared.reply.Reply.TheVariants.{Info, Silent, Refused}
use Rattle.js_model.specs.declared.reply.StreamInfo.{StreamInfo}
use Rattle.js_model.specs.Refusals.{numbers_used_up, no_stream}
use Rattle.js_model.specs.Consumers.{empty_stream}
use Rattle.js_model.specs.Counts.{stream_info}
use Rattle.js_model.specs.Events.{completed, kept_incarnation, settled, settled_state, stream_told, vacant_answer, vacantly}
use Rattle.place_engine.specs.Places.{IsVacant}
use Rattle.memory_place.specs.Answers.{AnswersThen, Gives}

-- an answer that sends nothing
gives : (answer : Answer) (reply : Reply) (new : State) (outs : List Out) → answer ≡ record { reply = reply; outs = []; state = new } → Gives answer reply outs outs new
gives answer reply new outs is = record {
  reply_is = sym (ap (λ (a : Answer). a.reply) is);
  outs_are = sym (append-nil outs) ∙ ap (λ (a : Answer). outs ++ a.outs) (sym is);
  state_is = sym (ap (λ (a : Answer). a.state) is);
}

-- ---- no stream

-- the stream is made
pub makes : (old : State) (subject : Option Bytes) (config : StreamConfig) (now incarnation : ℕ) (made new : Stream) (info : StreamInfo) (outs : List Out) → IsVacant old
    → incarnation ≡ kept_incarnation old → incarnation ≢ 2 ^ 62 → made ≡ empty_stream incarnation config now → new ≡ settled made → info ≡ stream_info new
    → AnswersThen old (Make subject config) now (Info info) outs outs (Live new)
makes (Vacant i) subject config now incarnation made new info outs vacant next free made_is new_is info_is =
    gives _ (Info info) (Live new) outs
    (ap (λ (b : Bool). completed [] (if b then vacantly (Refused numbers_used_up) i else stream_told (empty_stream (i + 1) config now)))
    (ne_eqb (i + 1) (2 ^ 62) (λ used. free (next ∙ used)))
    ∙ ap (λ (s : Stream). record { reply = Info (stream_info (settled s)); outs = []; state = Live (settled s) }) (ap (λ (n : ℕ). empty_stream n config now) (sym next) ∙ sym made_is)
    ∙ ap (λ (s : Stream). record { reply = Info (stream_info s); outs = []; state = Live s }) (sym new_is)
    ∙ ap (λ (told : StreamInfo). record { reply = Info told; outs = []; state = Live new }) (sym info_is))
makes (Live s) subject config now incarnation made new info outs vacant next free made_is new_is info_is = absurd vacant

-- the last incarnation is used up
pub makes_none : (old : State) (subject : Option Bytes) (config : StreamConfig) (now : ℕ) (outs : List Out) → IsVacant old → kept_incarnation old ≡ 2 ^ 62
    → AnswersThen old (Make subject config) now (Refused numbers_used_up) outs outs old
makes_none (Vacant i) subject config now outs vacant used =
    gives _ (Refused numbers_used_up) (Vacant i) outs
    (ap (λ (b : Bool). completed [] (if b then vacantly (Refused numbers_used_up) i else stream_told (empty_stream (i + 1) config now))) (eq-eqb (i + 1) (2 ^ 62) used))
makes_none (Live s) subject config now outs vacant used = absurd vacant

refused_is : (i : ℕ) (what : What) (now : ℕ) → ((subject : Option Bytes) (config : StreamConfig) → what ≢ Make subject config) → what ≢ Tick → vacant_answer i what now true ≡ vacantly (Refused no_stream) i
refused_is i (Make subject config) now other more = absurd (other subject config refl)
refused_is i (Change subject config) now other more = refl
refused_is i (DropStream subject) now other more = refl
refused_is i (PublishIt p) now other more = refl
refused_is i (Purge subject pattern below keep) now other more = refl
refused_is i (Delete subject seq) now other more = refl
refused_is i (MakeConsumer subject name config update) now other more = refl
refused_is i (DropConsumer subject name) now other more = refl
refused_is i (AckIt subject ack) now other more = refl
refused_is i (PullIt subject consumer ask) now other more = refl
refused_is i Tick now other more = absurd (more refl)
refused_is i (AskStream subject) now other more = refl
refused_is i (MessageGet subject by) now other more = refl
refused_is i (AskConsumer subject name) now other more = refl
refused_is i (ConsumerNames subject offset) now other more = refl
refused_is i (ConsumerList subject offset) now other more = refl

-- nothing else can be asked of a place without a stream, but that time passes
pub refuses : (old : State) (what : What) (now : ℕ) (outs : List Out) → IsVacant old → ((subject : Option Bytes) (config : StreamConfig) → what ≢ Make subject config) → what ≢ Tick
    → AnswersThen old what now (Refused no_stream) outs outs old
refuses (Vacant i) what now outs vacant other more = gives _ (Refused no_stream) (Vacant i) outs (ap (completed []) (refused_is i what now other more))
refuses (Live s) what now outs vacant other more = absurd vacant

-- there is no stream that could be dropped
pub drops_nothing : (last : ℕ) (subject : Option Bytes) (now : ℕ) (outs : List Out) → AnswersThen (Vacant last) (DropStream subject) now (Refused no_stream) outs outs (Vacant last)
drops_nothing last subject now outs = gives _ (Refused no_stream) (Vacant last) outs refl

-- ---- ticks

-- time has passed
pub ticks : (old : State) (now : ℕ) (outs : List Out) → AnswersThen old Tick now Silent outs outs (settled_state old)
ticks (Vacant i) now outs = gives _ Silent (Vacant i) outs refl
ticks (Live s) now outs = gives _ Silent (Live (settled s)) outs refl
