-- What is asked where there is no room: what needs some is refused and changes nothing, and all else is answered and recorded as ever.
use Rattle.std.proofs.Common.{◌≡◌, ◌∙◌, ℕ, ◌+◌, ◌^◌, Bool, true, false, cond, List, [], ◌∷◌, ◌++◌, append-nil, refl, sym, ap, subst}
use Rattle.std.specs.Prelude.{Option, Some, None, is_none, not, take, ◌&&◌, ◌==◌}
use Rattle.js_base.specs.Bytes.{Bytes}
use Rattle.js_base.specs.declared.out.ApiError.{ApiError}
use Rattle.js_base.specs.declared.out.Out.{Out}
use Rattle.js_model.specs.declared.consumer.Consumer.{Consumer}
use Rattle.js_model.specs.declared.consumer_config.ConsumerConfig.{ConsumerConfig}
use Rattle.js_model.specs.declared.event.Publish.{Publish}
use Rattle.js_model.specs.declared.event.What.{What}
use Rattle.js_model.specs.declared.event.What.TheVariants as asked
use Rattle.js_model.specs.declared.reply.Answer.{Answer}
use Rattle.js_model.specs.declared.reply.Reply.{Reply}
use Rattle.js_model.specs.declared.reply.Reply.TheVariants.{Refused}
use Rattle.js_model.specs.declared.reply.Verdict.{Verdict}
use Rattle.js_model.specs.declared.reply.Verdict.TheVariants.{Take, Duplicate as TakenBefore, Refused as RefusedBy}
use Rattle.js_model.specs.declared.stream.Id.{Id}
use Rattle.js_model.specs.declared.stream.State.{State}
use Rattle.js_model.specs.declared.stream.State.TheVariants.{Vacant, Live}
use Rattle.js_model.specs.declared.stream.Stream.{Stream}
use Rattle.js_model.specs.declared.stream_config.StreamConfig.{StreamConfig}
use Rattle.js_model.specs.Configs.{same_retention, same_stream_config}
use Rattle.js_model.specs.Consumers.{making_checks}
use Rattle.js_model.specs.Events.{changed, completed, consumer_asked, consumer_made, or_no_room, published, refused, settled_state, stream_answer, stream_made, stream_told, vacant_answer, vacantly}
use Rattle.js_model.specs.Refusals.{Check, first_refusal, no_room, numbers_used_up, retention_cannot_change}
use Rattle.js_model.specs.Streams.{by_name}
use Rattle.js_model.specs.Verdict.{verdict, early_checks, first_of_all, known, late_checks}
use Rattle.model_laws.proofs.Changed.{stream_config_decides}
use Rattle.effects.specs.declared.effect.Effect.{Effect}
use Rattle.effects.specs.declared.effect.Effect.TheVariants.{ChangeStream}
use Rattle.effects.specs.Effects.{change_effects, live_effects, made_effects, make_effects, publish_effects, published_skipped, settle_effects, stream_effects, vacant_effects}
use Rattle.memory_place.specs.Answers.{AnswersThenIn, Gives}
use Rattle.memory_place.specs.Needing.{makes_consumer, needs_room, replaces_config, stream_needs_room, takes, vacant_needs_room}
use Rattle.memory_place.specs.Recording.{asking_effects_in}

-- ---- a publish

-- the verdict where there is no room, of that where there is
without_room : Verdict → Verdict
without_room Take = RefusedBy no_room
without_room (TakenBefore n) = TakenBefore n
without_room (RefusedBy e) = RefusedBy e

-- the want of room is the last reason to refuse it
checked_last : (checks : List Check) → first_refusal (checks ++ (true, no_room) ∷ []) ≡ or_no_room false (first_refusal (checks ++ (false, no_room) ∷ []))
checked_last [] = refl
checked_last (check ∷ checks) = go check.0 (checked_last checks)
  where
    go : (b : Bool) → first_refusal (checks ++ (true, no_room) ∷ []) ≡ or_no_room false (first_refusal (checks ++ (false, no_room) ∷ []))
        → cond b (Some check.1) (first_refusal (checks ++ (true, no_room) ∷ [])) ≡ or_no_room false (cond b (Some check.1) (first_refusal (checks ++ (false, no_room) ∷ [])))
    go true h = refl
    go false h = h

judged : (early : Option ApiError) (found : Option Id) (late : Option ApiError) → first_of_all early found (or_no_room false late) ≡ without_room (first_of_all early found late)
unfolding without_room
judged (Some e) found late = refl
judged None (Some i) late = refl
judged None None (Some e) = refl
judged None None None = refl

verdict_without : (s : Stream) (p : Publish) → verdict s p false ≡ without_room (verdict s p true)
unfolding verdict
verdict_without s p =
    ap (first_of_all (first_refusal (early_checks s p)) (known s p.wants.id)) (checked_last (take 7 (late_checks s p true)))
    ∙ judged (first_refusal (early_checks s p)) (known s p.wants.id) (first_refusal (late_checks s p true))

publish_without : (s : Stream) (p : Publish) → published s p (verdict s p false) ≡ cond (takes (verdict s p true)) (refused no_room s) (published s p (verdict s p true))
unfolding without_room
publish_without s p = ap (published s p) (verdict_without s p) ∙ go (verdict s p true)
  where
    go : (v : Verdict) → published s p (without_room v) ≡ cond (takes v) (refused no_room s) (published s p v)
    go Take = refl
    go (TakenBefore n) = refl
    go (RefusedBy e) = refl

-- its own records, and those of what it lets go
effects_by : Stream → Publish → Verdict → List Effect
effects_by s p v = publish_effects s p v ++ settle_effects (published_skipped s p v) (published s p v).state

publish_records : (s : Stream) (p : Publish) → effects_by s p (verdict s p false) ≡ cond (takes (verdict s p true)) (settle_effects [] (Live s)) (effects_by s p (verdict s p true))
unfolding without_room effects_by
publish_records s p = ap (effects_by s p) (verdict_without s p) ∙ go (verdict s p true)
  where
    go : (v : Verdict) → effects_by s p (without_room v) ≡ cond (takes v) (settle_effects [] (Live s)) (effects_by s p v)
    go Take = refl
    go (TakenBefore n) = refl
    go (RefusedBy e) = refl

-- ---- another configuration

module _ (s : Stream) (config : StreamConfig) where
  changed_in : (kept same room : Bool) → Answer
  changed_in kept same true = cond kept (stream_told (record s { config = config })) (refused retention_cannot_change s)
  changed_in kept same false = cond kept (cond same (stream_told s) (refused no_room s)) (refused retention_cannot_change s)

  change_without : changed s config false ≡ cond (replaces_config s config) (refused no_room s) (changed s config true)
  unfolding changed_in
  change_without = go (same_retention config.retention s.config.retention) (same_stream_config config s.config) refl
    where
      go : (kept same : Bool) → same_stream_config config s.config ≡ same → changed_in kept same false ≡ cond (kept && not same) (refused no_room s) (changed_in kept same true)
      go true true e = ap (λ (c : StreamConfig). stream_told (record s { config = c })) (sym ((stream_config_decides config s.config).0 e))
      go true false e = refl
      go false same e = refl

  change_records : settle_effects [] (changed s config false).state
      ≡ cond (replaces_config s config) (settle_effects [] (Live s)) (change_effects s config true ++ settle_effects [] (changed s config true).state)
  unfolding changed_in
  change_records = go (same_retention config.retention s.config.retention) (same_stream_config config s.config) refl
    where
      go : (kept same : Bool) → same_stream_config config s.config ≡ same
          → settle_effects [] (changed_in kept same false).state
          ≡ cond (kept && not same) (settle_effects [] (Live s)) (cond (kept && not same) (ChangeStream config ∷ []) [] ++ settle_effects [] (changed_in kept same true).state)
      go true true e = ap (λ (c : StreamConfig). settle_effects [] (Live (record s { config = c }))) (sym ((stream_config_decides config s.config).0 e))
      go true false e = refl
      go false same e = refl

-- ---- a consumer

module _ (s : Stream) (name : Bytes) (config : ConsumerConfig) where
  consumer_without : (update : Bool) (found : Option Consumer)
      → consumer_asked s name config update false found ≡ cond (makes_consumer s name config update found) (refused no_room s) (consumer_asked s name config update true found)
  consumer_without true None = refl
  consumer_without true (Some c) = refl
  consumer_without false (Some c) = refl
  consumer_without false None = go (first_refusal (making_checks s name config))
    where
      go : (e : Option ApiError) → consumer_made s name config (or_no_room false e) ≡ cond (is_none e) (refused no_room s) (consumer_made s name config e)
      go None = refl
      go (Some e) = refl

  -- its own records, and those of what it lets go, of what forbids it
  made_records : Option ApiError → List Effect
  made_records e = made_effects s name config e ++ settle_effects [] (consumer_made s name config e).state

  consumer_records : (update : Bool) (found : Option Consumer)
      → make_effects s name config update false found ++ settle_effects [] (consumer_asked s name config update false found).state
      ≡ cond (makes_consumer s name config update found) (settle_effects [] (Live s))
      (make_effects s name config update true found ++ settle_effects [] (consumer_asked s name config update true found).state)
  unfolding made_records
  consumer_records true None = refl
  consumer_records true (Some c) = refl
  consumer_records false (Some c) = refl
  consumer_records false None = go (first_refusal (making_checks s name config))
    where
      go : (e : Option ApiError) → made_records (or_no_room false e) ≡ cond (is_none e) (settle_effects [] (Live s)) (made_records e)
      go None = refl
      go (Some e) = refl

-- ---- a stream

answer_without : (s : Stream) (what : What) → stream_answer s what false ≡ cond (stream_needs_room s what) (refused no_room s) (stream_answer s what true)
answer_without s (asked.Publish p) = publish_without s p
answer_without s (asked.Change reply config) = change_without s config
answer_without s (asked.MakeConsumer reply name config update) = consumer_without s name config update (by_name s.consumers name)
answer_without s _ = refl

records_without : (s : Stream) (what : What) → live_effects s what false ≡ cond (stream_needs_room s what) (settle_effects [] (Live s)) (live_effects s what true)
unfolding effects_by
records_without s (asked.Publish p) = publish_records s p
records_without s (asked.Change reply config) = change_records s config
records_without s (asked.MakeConsumer reply name config update) = consumer_records s name config update (by_name s.consumers name)
records_without s _ = refl

-- ---- no stream

vacant_without : (last : ℕ) (what : What) (now : ℕ) → vacant_answer last what now false ≡ cond (vacant_needs_room last what) (vacantly (Refused no_room) last) (vacant_answer last what now true)
vacant_without last (asked.Make reply config) now = go (last + 1 == 2 ^ 62)
  where
    go : (used : Bool) → cond used (vacantly (Refused numbers_used_up) last) (vacantly (Refused no_room) last)
        ≡ cond (not used) (vacantly (Refused no_room) last) (cond used (vacantly (Refused numbers_used_up) last) (stream_made last config now true))
    go true = refl
    go false = refl
vacant_without last _ now = refl

vacant_records : (last : ℕ) (what : What) (now : ℕ) → vacant_effects last what now false ≡ cond (vacant_needs_room last what) [] (vacant_effects last what now true)
vacant_records last (asked.Make reply config) now = go (last + 1 == 2 ^ 62)
  where
    go : (used : Bool) → cond used [] [] ≡ cond (not used) [] (cond used [] (stream_effects last config now true))
    go true = refl
    go false = refl
vacant_records last _ now = refl

-- ---- a place

-- what needs room is refused, and nothing changes but what leaves in any case
pub refused_without : (state : State) (what : What) (now : ℕ) (outs : List Out) (new : State) → needs_room state what ≡ true → new ≡ settled_state state
    → AnswersThenIn false state what now (Refused no_room) outs outs new
refused_without (Vacant last) what now outs new needs left =
    let is : vacant_answer last what now false ≡ vacantly (Refused no_room) last =
    vacant_without last what now ∙ ap (λ (b : Bool). cond b (vacantly (Refused no_room) last) (vacant_answer last what now true)) needs in
    record {
      reply_is = ap (λ (a : Answer). a.reply) (sym is);
      outs_are = sym (append-nil outs) ∙ ap (λ (a : Answer). outs ++ a.outs) (sym is);
      state_is = left ∙ ap (λ (a : Answer). settled_state a.state) (sym is);
    }
refused_without (Live s) what now outs new needs left =
    let is : stream_answer s what false ≡ refused no_room s =
    answer_without s what ∙ ap (λ (b : Bool). cond b (refused no_room s) (stream_answer s what true)) needs in
    record {
      reply_is = ap (λ (a : Answer). a.reply) (sym is);
      outs_are = sym (append-nil outs) ∙ ap (λ (a : Answer). outs ++ a.outs) (sym is);
      state_is = left ∙ ap (λ (a : Answer). settled_state a.state) (sym is);
    }

pub refused_records : (state : State) (what : What) (now : ℕ) → needs_room state what ≡ true → settle_effects [] state ≡ asking_effects_in false state what now
refused_records (Vacant last) what now needs = sym (vacant_records last what now ∙ ap (λ (b : Bool). cond b [] (vacant_effects last what now true)) needs)
refused_records (Live s) what now needs = sym (records_without s what ∙ ap (λ (b : Bool). cond b (settle_effects [] (Live s)) (live_effects s what true)) needs)

-- all else is answered as ever
pub answered_without : (state : State) (what : What) (now : ℕ) (reply : Reply) (before after : List Out) (new : State) → needs_room state what ≡ false
    → AnswersThenIn true state what now reply before after new → AnswersThenIn false state what now reply before after new
answered_without (Vacant last) what now reply before after new needs h =
    subst (λ (a : Answer). Gives (completed [] a) reply before after new)
    (sym (vacant_without last what now ∙ ap (λ (b : Bool). cond b (vacantly (Refused no_room) last) (vacant_answer last what now true)) needs)) h
answered_without (Live s) what now reply before after new needs h =
    subst (λ (a : Answer). Gives (completed [] a) reply before after new)
    (sym (answer_without s what ∙ ap (λ (b : Bool). cond b (refused no_room s) (stream_answer s what true)) needs)) h

pub answered_records : (state : State) (what : What) (now : ℕ) → needs_room state what ≡ false → asking_effects_in true state what now ≡ asking_effects_in false state what now
answered_records (Vacant last) what now needs = sym (vacant_records last what now ∙ ap (λ (b : Bool). cond b [] (vacant_effects last what now true)) needs)
answered_records (Live s) what now needs = sym (records_without s what ∙ ap (λ (b : Bool). cond b (settle_effects [] (Live s)) (live_effects s what true)) needs)
