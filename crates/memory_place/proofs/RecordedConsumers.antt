-- The records of what consumers are asked.
use Rattle.std.proofs.Common.{◌≡◌, ◌∙◌, ℕ, Bool, true, false, ◌&&◌, not, cond, List, [], ◌∷◌, ◌++◌, map, refl, sym, ap}
use Rattle.std.specs.Prelude.{Option, Some, None, Result, IfOk, OnOk, is_some, option_map, unwrap_or, ◌==◌}
use Rattle.std.specs.List.{list_any}
use Rattle.std.specs.Option.{option_to_list}
use Rattle.std.proofs.lemmas.Bool.{true≢false, or_from}
use Rattle.std.proofs.lemmas.Result.{IfOk-from_err}
use Rattle.js_base.specs.Bytes.{Bytes}
use Rattle.js_base.specs.Moments.{plus}
use Rattle.js_base.specs.declared.out.ApiError.{ApiError}
use Rattle.js_base.specs.declared.memory.NoMemory.{NoMemory}
use Rattle.js_base.specs.declared.out.Out.{Out}
use Rattle.js_model.specs.declared.ack.AckKind.{AckKind}
use Rattle.js_model.specs.declared.ack.AckKind.TheVariants.{Ack as Acknowledge, Nak, Wpi, Next, Term}
use Rattle.js_model.specs.declared.ack.Ask.{Ask}
use Rattle.js_model.specs.declared.consumer_config.AckPolicy.{AckPolicy}
use Rattle.js_model.specs.declared.consumer_config.AckPolicy.TheVariants as policies
use Rattle.js_model.specs.declared.consumer_config.ConsumerConfig.{ConsumerConfig}
use Rattle.js_model.specs.declared.consumer.Consumer.{Consumer}
use Rattle.js_model.specs.declared.event.What.TheVariants as asked
use Rattle.js_model.specs.declared.reply.Answer.{Answer}
use Rattle.js_model.specs.declared.reply.Reply.{Reply}
use Rattle.js_model.specs.declared.reply.Reply.TheVariants.{Silent}
use Rattle.js_model.specs.declared.stream.Stream.{Stream}
use Rattle.js_model.specs.declared.stream.State.{State}
use Rattle.js_model.specs.declared.stream.State.TheVariants.{Live}
use Rattle.js_model.specs.Acknowledge.{ends, is_no_delivery}
use Rattle.js_model.specs.Configs.{same_consumer_config}
use Rattle.js_model.specs.Consumers.{making_checks, new_consumer, queue_checks, with_new}
use Rattle.js_model.specs.Events.{ack_answer, ack_done, consumer_asked, consumer_dropped, consumer_made, consumer_told, pull_answer, quietly, refused, settled, told_of}
use Rattle.js_model.specs.Runs.{messages_of}
use Rattle.js_model.specs.Refusals.{consumer_exists, first_refusal}
use Rattle.js_model.specs.Retention.{kept}
use Rattle.js_model.specs.Start.{cursor_at, picks_at}
use Rattle.js_model.specs.Streams.{by_name, pending_seqs}
use Rattle.js_model.specs.Trim.{trim}
use Rattle.js_model.proofs.Named.{found_named, none_some}
use Rattle.consumer_state.specs.declared.fault.MakeFault.{MakeFault}
use Rattle.consumer_state.specs.declared.fault.MakeFault.TheVariants.{Refused as Forbidden, NoMemory as OutOfMemory}
use Rattle.consumer_state.specs.Making.{IsRefusal}
use Rattle.consumer_state.specs.DueAgain.{changed_due, due_by, if_changed}
use Rattle.consumer_state.specs.Ending.{ack_ends, kind_ends}
use Rattle.effects.specs.declared.effect.Effect.{Effect}
use Rattle.effects.specs.declared.effect.Effect.TheVariants.{Acked, Due, MakeConsumer as ConsumerMade, DropConsumer as ConsumerDropped}
use Rattle.effects.specs.Effects.{ack_effects, acknowledged_effects, changes_due, drop_effects, ends_some, first_ended, live_effects, make_effects, made_effects, settle_effects}
use Rattle.effects.specs.Ranges.{Range}
use Rattle.effects.specs.TimeEffects.{remove_of}
use Rattle.removals.specs.Leaving.{leaving}
use Rattle.removals.specs.Removed.{Notes}
use Rattle.stream_state.specs.Answering.{Answers, due_if, ends_if}
use Rattle.place_records.specs.declared.made.OwnRecords.{OwnRecords}
use Rattle.place_records.specs.Records.{own_in, IsFreshOwn}
use Rattle.place_engine.specs.Shown.{IsShown}
use Rattle.memory_place.specs.Answers.{ActsQuietly}
use Rattle.memory_place.specs.Recording.{acked_effect, first_ended_by, own_then, TellsFault}
use Rattle.memory_place.proofs.Answering.{consumer_is_refused}
use Rattle.memory_place.proofs.Leaving.{settle_within}
use Rattle.memory_place.proofs.Recorded.{at_ok, done, kept_then, rests}
use Rattle.memory_place.proofs.Shown.{forbidden_utf8}

-- ---- an answer that the stream stands by

-- the record of it, if it has one, is the only one so far
pub answered_then : (own : OwnRecords) (effects : List Effect) (answer : Answer) (told : Reply) (outs_old outs_new : List Out) (new : Stream) → own_in own ≡ effects → own.removed.below ≡ None → trim new ≡ new
    → Answers answer told outs_old outs_new new → own_then own new ≡ effects ++ settle_effects [] answer.state
answered_then own effects answer told outs_old outs_new new recorded noted within h =
    kept_then own new noted within ∙ ap (λ (es : List Effect). es ++ settle_effects [] (Live new)) recorded ∙ ap (λ (state : State). effects ++ settle_effects [] state) (sym h.state)

-- ---- a consumer is made

told_state : (s : Stream) (o : Option Consumer) → (told_of s o).state ≡ Live s
told_state s None = refl
told_state s (Some c) = refl

module _ (s : Stream) (to : Option Bytes) (name : Bytes) (config : ConsumerConfig) where
  abbrev with_it : Stream
  with_it = record s { consumers = with_new s.consumers (new_consumer s name config) }

  abbrev made_effect : ℕ → List ℕ → Effect
  made_effect cursor picks = ConsumerMade name s.moment config cursor picks

  within_too : trim s ≡ s → (trim with_it).messages ≡ with_it.messages
  unfolding trim
  within_too within = ap (λ (t : Stream). t.messages) within

  pub makes : (old own last : OwnRecords) (t : Stream) (cursor : ℕ) (picks : List ℕ) → by_name s.consumers name ≡ None → first_refusal (making_checks s name config) ≡ None → IsFreshOwn old → trim s ≡ s
      → own.effect ≡ old.effect → Notes old.removed (leaving old.removed.below s.messages t.messages) own.removed → last ≡ record own { effect = Some (made_effect cursor picks) }
      → t ≡ settled with_it → kept t ≡ t → cursor ≡ cursor_at config.deliver_policy config.filter_subject s → picks ≡ picks_at config.deliver_policy config.filter_subject s
      → own_then last t ≡ live_effects s (asked.MakeConsumer to name config false) true
  makes old own last t cursor picks absent allowed fresh within same notes recorded left again cursor_is picks_is =
      done last t again
      ∙ ap own_in recorded
      ∙ ap (λ (rs : List Range). made_effect cursor picks ∷ map remove_of rs) (notes.all ∙ ap (λ (rs : List Range). rs ++ leaving old.removed.below s.messages t.messages) fresh.none_removed)
      ∙ ap (λ (below : Option ℕ). made_effect cursor picks ∷ map remove_of (leaving below s.messages t.messages)) fresh.noted
      ∙ ap (λ (u : Stream). made_effect cursor picks ∷ map remove_of (leaving None s.messages u.messages)) left
      ∙ ap (λ (es : List Effect). made_effect cursor picks ∷ es) (sym (settle_within with_it (within_too within)))
      ∙ ap (λ (n : ℕ). made_effect n picks ∷ settle_effects [] (Live with_it)) cursor_is
      ∙ ap (λ (ns : List ℕ). made_effect (cursor_at config.deliver_policy config.filter_subject s) ns ∷ settle_effects [] (Live with_it)) picks_is
      ∙ ap (λ (state : State). made_effects s name config None ++ settle_effects [] state) (sym (told_state with_it (by_name (settled with_it).consumers name)))
      ∙ ap (λ (e : Option ApiError). made_effects s name config e ++ settle_effects [] (consumer_made s name config e).state) (sym allowed)
      ∙ ap (λ (o : Option Consumer). make_effects s name config false true o ++ settle_effects [] (consumer_asked s name config false true o).state) (sym absent)

  -- a rule forbids it
  pub makes_none : (own : OwnRecords) (e : ApiError) → by_name s.consumers name ≡ None → first_refusal (making_checks s name config) ≡ Some e → IsFreshOwn own → trim s ≡ s
      → own_then own s ≡ live_effects s (asked.MakeConsumer to name config false) true
  makes_none own e absent forbidden fresh within =
      rests own s fresh within
      ∙ ap (λ (e : Option ApiError). made_effects s name config e ++ settle_effects [] (consumer_made s name config e).state) (sym forbidden)
      ∙ ap (λ (o : Option Consumer). make_effects s name config false true o ++ settle_effects [] (consumer_asked s name config false true o).state) (sym absent)

  -- one is there, or an update asks for one that is not
  present : (c : Consumer) → (cond (same_consumer_config config c.config) (consumer_told s name) (refused (unwrap_or (first_refusal (queue_checks s name config)) consumer_exists) s)).state ≡ Live s
  present c = go (same_consumer_config config c.config)
    where
      go : (b : Bool) → (cond b (consumer_told s name) (refused (unwrap_or (first_refusal (queue_checks s name config)) consumer_exists) s)).state ≡ Live s
      go true = told_state s (by_name (settled s).consumers name)
      go false = refl

  asked_state : (update : Bool) (o : Option Consumer) → (o ≡ None → update ≡ true) → make_effects s name config update true o ++ settle_effects [] (consumer_asked s name config update true o).state ≡ settle_effects [] (Live s)
  asked_state true None h = refl
  asked_state false None h = absurd (true≢false (sym (h refl)))
  asked_state true (Some c) h = ap (settle_effects []) (present c)
  asked_state false (Some c) h = ap (settle_effects []) (present c)

  pub asks_none : (update : Bool) (effects : List Effect) → (by_name s.consumers name ≡ None → update ≡ true) → effects ≡ settle_effects [] (Live s) → effects ≡ live_effects s (asked.MakeConsumer to name config update) true
  asks_none update effects there is = is ∙ sym (asked_state update (by_name s.consumers name) there)

  pub asks_one : (update b : Bool) (effects : List Effect) → Some b ≡ option_map (λ c. same_consumer_config config c.config) (by_name s.consumers name) → effects ≡ settle_effects [] (Live s)
      → effects ≡ live_effects s (asked.MakeConsumer to name config update) true
  asks_one update b effects found is =
      asks_none update effects (λ absent. absurd (none_some (sym (found ∙ ap (option_map (λ (c : Consumer). same_consumer_config config c.config)) absent)))) is

-- ---- a consumer is dropped

pub drops : (o : Option Consumer) (cs : List Consumer) (name : Bytes) (there : Bool) → by_name cs name ≡ o → there ≡ is_some o → option_to_list (cond there (Some (ConsumerDropped name)) None) ≡ drop_effects o
drops None cs name there found is = ap (λ (b : Bool). option_to_list (cond b (Some (ConsumerDropped name)) None)) is
drops (Some c) cs name there found is =
    ap (λ (b : Bool). option_to_list (cond b (Some (ConsumerDropped name)) None)) is ∙ ap (λ (n : Bytes). ConsumerDropped n ∷ []) (sym (found_named cs name c found))

-- ---- an acknowledgement

nothing_ends : (c : Consumer) → ends_some (λ m. false) c ≡ false
nothing_ends c = or_from (list_any (λ m. false) (pending_seqs c)) (list_any (λ m. false) c.given_up) (none (pending_seqs c)) (none c.given_up)
  where
    none : (ns : List ℕ) → list_any (λ m. false) ns ≡ false
    none [] = refl
    none (n ∷ ns) = none ns

module _ (now n : ℕ) (c : Consumer) where
  abbrev effect_of : AckKind → Bool → Option ℕ → Option Effect
  effect_of kind ended due = acked_effect c.name c.config.ack_policy n kind ended due

  ended_is : (kind : AckKind) (low : ℕ) → first_ended_by c.config.ack_policy n kind ≡ low → (b : Bool) → option_to_list (effect_of kind b None) ≡ cond b (Acked c.name low n ∷ []) []
  ended_is kind low is true = ap (λ (l : ℕ). Acked c.name l n ∷ []) is
  ended_is kind low is false = refl

  due_is : (kind : AckKind) (due : ℕ) (ended : Bool) → ended ≡ false → (b : Bool) → option_to_list (effect_of kind ended (cond b (Some due) None)) ≡ cond b (Due c.name n due ∷ []) []
  due_is kind due ended none true = ap (λ (e : Bool). option_to_list (effect_of kind e (Some due))) none
  due_is kind due ended none false = ap (λ (e : Bool). option_to_list (effect_of kind e None)) none

  by_kind : (kind : AckKind) → option_to_list (effect_of kind (ends_some (kind_ends c.config.ack_policy n kind) c) (if_changed n (due_by now kind c) c)) ≡ acknowledged_effects now n kind c
  by_kind Acknowledge = ended_is Acknowledge (first_ended c.config.ack_policy n) refl (ends_some (ends c.config.ack_policy n) c)
  by_kind (Nak delay) = due_is (Nak delay) (plus now delay) (ends_some (λ m. false) c) (nothing_ends c) (changes_due n (plus now delay) c)
  by_kind Wpi = due_is Wpi (plus now c.config.ack_wait) (ends_some (λ m. false) c) (nothing_ends c) (changes_due n (plus now c.config.ack_wait) c)
  by_kind (Next ask) = ended_is (Next ask) (first_ended c.config.ack_policy n) refl (ends_some (ends c.config.ack_policy n) c)
  by_kind Term = ended_is Term n refl (ends_some (λ m. m == n) c)

  by_found : (kind : AckKind) (b : Bool)
      → option_to_list (effect_of kind (ends_some (λ m. not b && kind_ends c.config.ack_policy n kind m) c) (cond b None (if_changed n (due_by now kind c) c))) ≡ cond b [] (acknowledged_effects now n kind c)
  by_found kind true = ap (λ (e : Bool). option_to_list (effect_of kind e None)) (nothing_ends c)
  by_found kind false = by_kind kind

pub acks : (s : Stream) (name : Bytes) (n : ℕ) (kind : AckKind) (policy : AckPolicy) (ended : Bool) (due : Option ℕ) (o : Option Consumer) → by_name s.consumers name ≡ o
    → policy ≡ unwrap_or (option_map (λ c. c.config.ack_policy) o) policies.None → ended ≡ ends_if n kind o → due ≡ due_if s.moment n kind o
    → option_to_list (acked_effect name policy n kind ended due) ≡ ack_effects s n kind o
acks s name n kind policy ended due None found policy_is ended_is due_is =
    ap (λ (e : Bool). option_to_list (acked_effect name policy n kind e due)) ended_is ∙ ap (λ (d : Option ℕ). option_to_list (acked_effect name policy n kind false d)) due_is
acks s name n kind policy ended due (Some c) found policy_is ended_is due_is =
    ap (λ (e : Bool). option_to_list (acked_effect name policy n kind e due)) ended_is
    ∙ ap (λ (d : Option ℕ). option_to_list (acked_effect name policy n kind (ends_some (ack_ends c n kind) c) d)) due_is
    ∙ ap (λ (p : AckPolicy). option_to_list (acked_effect name p n kind (ends_some (ack_ends c n kind) c) (changed_due s.moment n kind c))) policy_is
    ∙ ap (λ (a : Bytes). option_to_list (acked_effect a c.config.ack_policy n kind (ends_some (ack_ends c n kind) c) (changed_due s.moment n kind c))) (sym (found_named s.consumers name c found))
    ∙ by_found s.moment n c kind (is_no_delivery c n)

-- ---- no message leaves

-- the answer's stream has the messages of the one before
same_messages : (s new : Stream) (answer : Answer) (told : Reply) (outs_old outs_new : List Out) → messages_of answer.state ≡ s.messages → Answers answer told outs_old outs_new new → new.messages ≡ s.messages
same_messages s new answer told outs_old outs_new alike h = ap messages_of (sym h.state) ∙ alike

pub pulled_messages : (s new : Stream) (reply : Option Bytes) (ask : Option Ask) (o : Option Consumer) (told : Reply) (outs_old outs_new : List Out) → Answers (pull_answer s reply ask o) told outs_old outs_new new → new.messages ≡ s.messages
pulled_messages s new reply ask None told outs_old outs_new h = same_messages s new (pull_answer s reply ask None) told outs_old outs_new refl h
pulled_messages s new reply ask (Some c) told outs_old outs_new h = same_messages s new (pull_answer s reply ask (Some c)) told outs_old outs_new refl h

pub dropped_messages : (s new : Stream) (o : Option Consumer) (told : Reply) (outs_old outs_new : List Out) → Answers (consumer_dropped s o) told outs_old outs_new new → new.messages ≡ s.messages
dropped_messages s new None told outs_old outs_new h = same_messages s new (consumer_dropped s None) told outs_old outs_new refl h
dropped_messages s new (Some c) told outs_old outs_new h = same_messages s new (consumer_dropped s (Some c)) told outs_old outs_new refl h

pub acked_messages : (s new : Stream) (reply : Option Bytes) (n : ℕ) (kind : AckKind) (o : Option Consumer) (told : Reply) (outs_old outs_new : List Out) → Answers (ack_answer s reply n kind o) told outs_old outs_new new → new.messages ≡ s.messages
acked_messages s new reply n kind None told outs_old outs_new h = same_messages s new (ack_answer s reply n kind None) told outs_old outs_new refl h
acked_messages s new reply n kind (Some c) told outs_old outs_new h = same_messages s new (ack_answer s reply n kind (Some c)) told outs_old outs_new (go (is_no_delivery c n)) h
  where
    go : (b : Bool) → messages_of (cond b (quietly Silent s) (ack_done s reply n kind c)).state ≡ s.messages
    go true = refl
    go false = refl

-- ---- a rule forbids a consumer

module _ (s : Stream) (to : Option Bytes) (name : Bytes) (config : ConsumerConfig) (fault : MakeFault) (result : Result Reply NoMemory) (told : TellsFault fault result) (why : IsRefusal (making_checks s name config) fault) where
  pub fault_acts : IfOk result (λ reply. ActsQuietly (consumer_made s name config (first_refusal (making_checks s name config))) reply s)
  fault_acts = go fault told why
    where
      go : (f : MakeFault) → TellsFault f result → IsRefusal (making_checks s name config) f → IfOk result (λ reply. ActsQuietly (consumer_made s name config (first_refusal (making_checks s name config))) reply s)
      go (Forbidden e) t w = rw t (consumer_is_refused s name config e w)
      go OutOfMemory t w = IfOk-from_err result _ t

  pub fault_shown : IfOk result IsShown
  fault_shown = go fault told why
    where
      go : (f : MakeFault) → TellsFault f result → IsRefusal (making_checks s name config) f → IfOk result IsShown
      go (Forbidden e) t w = rw t (forbidden_utf8 s name config e w)
      go OutOfMemory t w = IfOk-from_err result _ t

  pub fault_recorded : (own : OwnRecords) → by_name s.consumers name ≡ None → IsFreshOwn own → trim s ≡ s → OnOk result (own_then own s ≡ live_effects s (asked.MakeConsumer to name config false) true)
  fault_recorded own absent fresh within = go fault told why
    where
      go : (f : MakeFault) → TellsFault f result → IsRefusal (making_checks s name config) f → OnOk result (own_then own s ≡ live_effects s (asked.MakeConsumer to name config false) true)
      go (Forbidden e) t w = at_ok result (makes_none s to name config own e absent w fresh within)
      go OutOfMemory t w = IfOk-from_err result _ t
