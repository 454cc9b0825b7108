use Rattle.std.proofs.Common.{◌≡◌, ℕ, List, ◌∷◌, [], ◌++◌, IsTrue, OnOk, sym, subst}
use Rattle.std.proofs.lemmas.Bool.{and_parts}
use Rattle.js_base.specs.Bytes.{Bytes}
use Rattle.js_model.specs.declared.consumer_config.ConsumerConfig.{ConsumerConfig}
use Rattle.js_model.specs.Configs.{is_consumer_config}
use Rattle.config_texts.specs.Texts.{consumer_text}
use Rattle.effects.specs.declared.effect.Effect.{Effect}
use Rattle.effects.specs.declared.effect.Effect.TheVariants as effects
use Rattle.op_records.specs.Allowed.{is_record}
use Rattle.op_records.specs.Spelling.{number, text, long, numbers, spelled}
use Rattle.op_records.proofs.Written.{at_ok, two_parts, behind_name}
use Rattle.op_records.proofs.writing.put_effect.Goals as goal

-- a consumer that a record makes has a valid configuration
config_is : (name : Bytes) (made : ℕ) (config : ConsumerConfig) (cursor : ℕ) (picks : List ℕ) → IsTrue (is_record (effects.MakeConsumer name made config cursor picks)) → IsTrue (is_consumer_config config)
config_is name made config cursor picks is =
    let a5 = and_parts _ _ is in
    let a4 = and_parts _ _ a5.0 in
    let a3 = and_parts _ _ a4.0 in
    let a2 = and_parts _ _ a3.0 in
    a2.1

pub put_make_consumer-requires-clause-config : goal.put_make_consumer-requires-clause-config
put_make_consumer-requires-clause-config c =
    let e = c.in-MakeConsumer in
    config_is e.name e.made e.config e.cursor e.picks (subst (λ (effect : Effect). IsTrue (is_record effect)) e.is c.requires.record)

pub returns-in-MakeStream : goal.returns-in-MakeStream
unfolding spelled
returns-in-MakeStream c =
    record { ok = subst (λ (effect : Effect). OnOk c.put_make_stream.result (c.put_make_stream.new.into.items ≡ c.args.into.now.items ++ spelled effect)) (sym c.in-MakeStream.is) c.put_make_stream.ensures.ok }

pub returns-in_ok-put_numbered-in-PutHere : goal.returns-in_ok-put_numbered-in-PutHere
unfolding spelled
returns-in_ok-put_numbered-in-PutHere c =
    let e = c.in-PutHere in
    let parts = two_parts c.args.into.now.items c.put_numbered.new.into.items c.put_message.new.into.items (4 ∷ (number e.seq ++ (number e.at ++ text e.id))) (text e.subject ++ (long e.headers ++ long e.payload)) c.in_ok-put_numbered-in-PutHere.ensures.ok in
    record { ok = subst (λ (effect : Effect). OnOk c.put_message.result (c.put_message.new.into.items ≡ c.args.into.now.items ++ spelled effect)) (sym e.is) (at_ok c.put_message.result parts c.put_message.ensures.ok) }

pub returns-in_ok-put_kind-in-Remove : goal.returns-in_ok-put_kind-in-Remove
unfolding spelled
returns-in_ok-put_kind-in-Remove c =
    let e = c.in-Remove in
    let parts = two_parts c.args.into.now.items c.put_kind-in-Remove.new.into.items c.put_two.new.into.items (6 ∷ []) (number e.low ++ number e.high) c.in_ok-put_kind-in-Remove.ensures.ok in
    record { ok = subst (λ (effect : Effect). OnOk c.put_two.result (c.put_two.new.into.items ≡ c.args.into.now.items ++ spelled effect)) (sym e.is) (at_ok c.put_two.result parts c.put_two.ensures.ok) }

pub returns-in_ok-put_make_consumer-in-MakeConsumer : goal.returns-in_ok-put_make_consumer-in-MakeConsumer
unfolding spelled
returns-in_ok-put_make_consumer-in-MakeConsumer c =
    let e = c.in-MakeConsumer in
    let parts = behind_name c.args.into.now.items c.put_make_consumer.new.into.items c.put_start.new.into.items 7 e.name (number e.made ++ long (consumer_text e.config)) (number e.cursor ++ numbers e.picks) c.in_ok-put_make_consumer-in-MakeConsumer.ensures.ok in
    record { ok = subst (λ (effect : Effect). OnOk c.put_start.result (c.put_start.new.into.items ≡ c.args.into.now.items ++ spelled effect)) (sym e.is) (at_ok c.put_start.result parts c.put_start.ensures.ok) }

pub returns-in_ok-put_named_two-in-Deliver : goal.returns-in_ok-put_named_two-in-Deliver
unfolding spelled
returns-in_ok-put_named_two-in-Deliver c =
    let e = c.in-Deliver in
    let numbers = rw c.as_nanos.ensures.value at c.put_two-in-Deliver.ensures.ok in
    let parts = behind_name c.args.into.now.items c.put_named_two.new.into.items c.put_two-in-Deliver.new.into.items 9 e.name (number e.seq ++ number e.count) (number e.due ++ number e.dseq) c.in_ok-put_named_two-in-Deliver.ensures.ok in
    record { ok = subst (λ (effect : Effect). OnOk c.put_two-in-Deliver.result (c.put_two-in-Deliver.new.into.items ≡ c.args.into.now.items ++ spelled effect)) (sym e.is) (at_ok c.put_two-in-Deliver.result parts numbers) }
