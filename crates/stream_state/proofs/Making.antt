-- A consumer that is made: that there is room for it, and what is told of it.
use Rattle.std.proofs.Common.{◌≡◌, ℕ, ◌<◌, List, Option, Some, None, IsTrue, length, min, refl, sym, ap, subst, ◌∙◌, arith}
use Rattle.std.specs.Prelude.{filter, option_map, unwrap_or}
use Rattle.std.proofs.lemmas.Bool.{leb-false}
use Rattle.js_base.specs.Bytes.{Bytes}
use Rattle.js_model.specs.declared.consumer.Consumer.{Consumer}
use Rattle.js_model.specs.declared.consumer_config.ConsumerConfig.{ConsumerConfig}
use Rattle.js_model.specs.declared.stream_config.StreamConfig.{StreamConfig}
use Rattle.js_model.specs.declared.reply.ConsumerInfo.{ConsumerInfo}
use Rattle.js_model.specs.declared.reply.Info.{Info}
use Rattle.js_model.specs.declared.stream.Stream.{Stream}
use Rattle.js_model.specs.Configs.{is_consumer_config, is_name}
use Rattle.js_model.specs.Consumers.{making_checks, new_consumer, with_new}
use Rattle.js_model.specs.Counts.{consumer_info, info_of}
use Rattle.js_model.specs.Refusals.{first_refusal}
use Rattle.js_model.specs.Retention.{is_kept, kept}
use Rattle.js_model.specs.Streams.{by_name, confined, seqs}
use Rattle.js_model.proofs.Named.{by_name-made, by_name-map}
use Rattle.stream_state.specs.Settled.{IsProperConsumer}
use Rattle.stream_state.proofs.Taken.{all_passed}

-- no rule forbids one more
pub room_left : (s : Stream) (name : Bytes) (config : ConsumerConfig) → first_refusal (making_checks s name config) ≡ None → length s.consumers < 256
room_left s name config allowed =
    let less : length s.consumers < min (unwrap_or s.config.max_consumers 256) 256 =
    leb-false (min (unwrap_or s.config.max_consumers 256) 256) (length s.consumers) (all_passed (making_checks s name config) allowed).1.1.1.1.0
    in
    omega (arith, less)

pub proper_made : (s : Stream) (name : Bytes) (config : ConsumerConfig) (made : Consumer) → made ≡ new_consumer s name config → IsTrue (is_name name) → IsTrue (is_consumer_config config) → IsProperConsumer made
proper_made s name config made is named valid = subst IsProperConsumer (sym is) (record { name = named; config = valid })

-- what is kept of a consumer that was made
record IsMade (s : Stream) (name : Bytes) (config : ConsumerConfig) (new : Stream) : Type 0 where
  consumer : Consumer
  found : by_name new.consumers name ≡ Some consumer
  name_is : consumer.name ≡ name
  made_is : consumer.made ≡ s.moment
  config_is : consumer.config ≡ config
  stream_is : new.config ≡ s.config

made_kept : (s mid new : Stream) (name : Bytes) (config : ConsumerConfig) → by_name s.consumers name ≡ None → mid ≡ record s { consumers = with_new s.consumers (new_consumer s name config) } → new ≡ kept mid → IsMade s name config new
unfolding kept
made_kept s mid new name config absent is left = subst (IsMade s name config) (sym (left ∙ ap kept is)) (record {
  consumer = confined ns c;
  found = by_name-map (confined ns) (record { name = λ d. refl }) (with_new s.consumers c) name ∙ ap (option_map (confined ns)) (by_name-made s.consumers c absent);
  name_is = refl;
  made_is = refl;
  config_is = refl;
  stream_is = refl;
})
  where
    c : Consumer
    c = new_consumer s name config

    ns : List ℕ
    ns = seqs (filter (is_kept s.config.retention (with_new s.consumers c)) s.messages)

-- what is told of it
abbrev telling : Bytes → Bytes → ℕ → ConsumerConfig → Info → ConsumerInfo
telling stream name made config info = record { stream = stream; name = name; made = made; config = config; info = info }

pub made_told : (s mid new : Stream) (name : Bytes) (config : ConsumerConfig) (told : ConsumerInfo) (numbers : Option Info) (info : Info) → by_name s.consumers name ≡ None
    → mid ≡ record s { consumers = with_new s.consumers (new_consumer s name config) } → new ≡ kept mid → numbers ≡ option_map (info_of new) (by_name new.consumers name)
    → told.stream ≡ s.config.name → told.name ≡ name → told.made ≡ s.moment → told.config ≡ config → info ≡ unwrap_or numbers told.info
    → option_map (consumer_info new) (by_name new.consumers name) ≡ Some (record told { info = info })
made_told s mid new name config told numbers info absent is left numbers_are stream named made configured info_is =
    let m : IsMade s name config new = made_kept s mid new name config absent is left in
    let c : Consumer = m.consumer in
    let n : info ≡ info_of new c = info_is ∙ ap (λ (o : Option Info). unwrap_or o told.info) (numbers_are ∙ ap (option_map (info_of new)) m.found) in
    ap (option_map (consumer_info new)) m.found
    ∙ ap (λ (k : Bytes). Some (telling k c.name c.made c.config (info_of new c))) (ap (λ (x : StreamConfig). x.name) m.stream_is ∙ sym stream)
    ∙ ap (λ (k : Bytes). Some (telling told.stream k c.made c.config (info_of new c))) (m.name_is ∙ sym named)
    ∙ ap (λ (k : ℕ). Some (telling told.stream told.name k c.config (info_of new c))) (m.made_is ∙ sym made)
    ∙ ap (λ (k : ConsumerConfig). Some (telling told.stream told.name told.made k (info_of new c))) (m.config_is ∙ sym configured)
    ∙ ap (λ (k : Info). Some (telling told.stream told.name told.made told.config k)) (sym n)
