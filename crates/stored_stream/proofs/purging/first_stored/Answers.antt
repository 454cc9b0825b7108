use Rattle.std.proofs.Common.{◌+◌, ◌<◌, length, arith}
use Rattle.stored_stream.specs.declared.selector.Selector.TheVariants.{All}
use Rattle.stored_stream.specs.Selecting.{is_named}
use Rattle.stored_stream.proofs.Finding.{next_within}
use Rattle.stored_stream.proofs.Gathering.{gathers_none, gathers_more, gathers_all, gathers_full}
use Rattle.stored_stream.proofs.purging.first_stored.Goals as goal

pub loop-below-init : goal.loop-below-init
loop-below-init c = rw c.new-gone.ensures.items (gathers_none (is_named All c.args.below) c.args.stream.now.messages c.args.most)

pub overflow_add-from : goal.overflow_add-from
overflow_add-from c =
    let within = next_within c.args.stream.now (is_named All c.args.below) c.loop-below.from c.in-Some.seq c.requires.sound c.in-Some.ensures.value in
    omega (arith, within, c.requires.sound.last)

pub loop-below-preserved : goal.loop-below-preserved
loop-below-preserved c =
    let s = c.args.stream.now in
    let room : length c.loop-below.gone.items < c.args.most = omega arith in
    rw c.in_ok-push.ensures.items
    (gathers_more (is_named All c.args.below) s.messages c.args.most 1 (s.last + 1) c.loop-below.from c.in-Some.seq c.loop-below.gone.items c.requires.sound.ascends c.loop-below.invariant room c.in-Some.ensures.value)

pub returns-in_default : goal.returns-in_default
returns-in_default c =
    record { value = gathers_all (is_named All c.args.below) c.args.stream.now.messages c.args.most c.loop-below.from c.loop-below.gone.items c.loop-below.invariant c.in_default.ensures.value }

pub returns : goal.returns
returns c =
    record { value = gathers_full (is_named All c.args.below) c.args.stream.now.messages c.args.most c.loop-below.from c.loop-below.gone.items c.loop-below.invariant (omega arith) }
