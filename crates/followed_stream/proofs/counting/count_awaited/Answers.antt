use Rattle.std.proofs.Common.{◌+◌, arith}
use Rattle.stored_stream.proofs.Finding.{found_from, found_within}
use Rattle.followed_stream.proofs.Counts.{at_most_one, counts_all, counts_few, counts_more, counts_none}
use Rattle.followed_stream.proofs.Holding.{awaits_it}
use Rattle.followed_stream.proofs.counting.count_awaited.Goals as goal

pub loop-message-init : goal.loop-message-init
loop-message-init c = let s = c.args.stored.now in counts_none (awaits_it c.args.consumer.now) (s.last + 1) s.messages c.requires.sound.ascends

pub overflow_add-count : goal.overflow_add-count
overflow_add-count c =
    let s = c.args.stored.now in
    let few = counts_few (awaits_it c.args.consumer.now) (s.last + 1) s.messages c.requires.sound.ascends c.loop-message.from c.loop-message.count c.loop-message.invariant c.requires.sound.few in
    let one = at_most_one c.args.consumer.now c.in-Some.message.now.subject c.in-Some.message.now.seq in
    omega (arith, few, one, c.awaited-count.ensures.value)

pub overflow_add-from : goal.overflow_add-from
overflow_add-from c =
    let within = found_within c.args.stored.now _ c.in-Some.message.now c.requires.sound c.in-Some.ensures.value in
    omega (arith, within, c.requires.sound.last)

pub loop-message-smaller : goal.loop-message-smaller
loop-message-smaller c =
    let s = c.args.stored.now in
    let within = found_within s _ c.in-Some.message.now c.requires.sound c.in-Some.ensures.value in
    let from = found_from s.messages c.loop-message.from c.in-Some.message.now c.in-Some.ensures.value in
    omega (arith, within, from)

pub loop-message-preserved : goal.loop-message-preserved
loop-message-preserved c =
    let s = c.args.stored.now in
    rw c.awaited-count.ensures.value
    (counts_more (awaits_it c.args.consumer.now) (s.last + 1) s.messages c.requires.sound.ascends c.loop-message.from c.loop-message.count c.in-Some.message.now c.loop-message.invariant c.in-Some.ensures.value)

pub returns : goal.returns
returns c =
    let s = c.args.stored.now in
    record { value = counts_all (awaits_it c.args.consumer.now) (s.last + 1) s.messages c.requires.sound.ascends c.loop-message.from c.loop-message.count c.loop-message.invariant c.in_default.ensures.value }
