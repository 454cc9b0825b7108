use Rattle.std.proofs.lemmas.Bool.{and_parts}
use Rattle.config_texts.specs.Texts.{consumer_text}
use Rattle.op_records.specs.Spelling.{number, short, long}
use Rattle.op_records.proofs.Written.{at_ok, three_parts}
use Rattle.state_snapshot.proofs.entries.put_made.Goals as goal

pub put_name-requires : goal.put_name-requires
put_name-requires c =
    let is = and_parts _ _ (and_parts _ _ (and_parts _ _ c.requires.allowed).0).0 in
    record { name = rw c.as_slice.ensures is.0 }

pub put_consumer_config-requires : goal.put_consumer_config-requires
put_consumer_config-requires c = record { valid = (and_parts _ _ (and_parts _ _ c.requires.allowed).0).1 }

pub returns : goal.returns
returns c =
    let k = c.args.consumer.now in
    let name = rw c.as_slice.ensures at c.in_ok-put_name.ensures.ok in
    let made = rw c.as_nanos.ensures.value at c.in_ok-put_u64.ensures.ok in
    let parts = three_parts c.args.into.now.items c.put_name.new.into.items c.put_u64.new.into.items c.put_consumer_config.new.into.items (short k.name) (number k.made) (long (consumer_text k.config)) name made in
    record { ok = at_ok c.put_consumer_config.result parts c.put_consumer_config.ensures.ok }
