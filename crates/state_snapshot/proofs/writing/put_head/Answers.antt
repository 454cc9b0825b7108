use Rattle.std.proofs.lemmas.Bool.{and_parts}
use Rattle.config_texts.specs.Texts.{stream_text}
use Rattle.op_records.specs.Spelling.{number, long}
use Rattle.op_records.proofs.Written.{at_ok}
use Rattle.state_snapshot.proofs.Puts.{two_and_two}
use Rattle.state_snapshot.proofs.writing.put_head.Goals as goal

pub put_stream_config-requires : goal.put_stream_config-requires
put_stream_config-requires c = record { valid = (and_parts _ _ c.requires.allowed).1 }

pub returns : goal.returns
returns c =
    let b = c.args.body.now in
    let moments = rw (c.as_nanos.ensures.value, c.as_nanos-2.ensures.value) at c.in_ok-put_two.ensures.ok in
    let parts =
    two_and_two c.args.into.now.items c.put_two.new.into.items c.put_u64.new.into.items c.put_stream_config.new.into.items
    (number b.made) (number b.moment) (number b.last) (long (stream_text b.config)) moments c.in_ok-put_u64.ensures.ok in
    record { ok = at_ok c.put_stream_config.result parts c.put_stream_config.ensures.ok }
