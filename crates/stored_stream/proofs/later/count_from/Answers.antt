use Rattle.std.proofs.Common.{◌≡◌, ◌+◌, ◌^◌, ◌<◌, length, arith}
use Rattle.stored_stream.specs.Later.{messages_from}
use Rattle.stored_stream.proofs.Finding.{found_from, found_within}
use Rattle.stored_stream.proofs.Latest.{count_from, counting_all, counting_more}
use Rattle.stored_stream.proofs.later.count_from.Goals as goal

pub loop-message-init : goal.loop-message-init
loop-message-init c = record { rest = omega arith }

pub overflow_add-count : goal.overflow_add-count
overflow_add-count c =
    let s = c.args.stored.now in
    let few : length (messages_from c.args.first s.messages) < 2 ^ 32 = count_from s c.args.first c.requires.sound in
    let all : c.loop-message.count + length (messages_from c.loop-message.from s.messages) ≡ length (messages_from c.args.first s.messages) = c.loop-message.invariant.rest in
    omega (arith, few, all)

pub overflow_add-from : goal.overflow_add-from
overflow_add-from c =
    let within = found_within c.args.stored.now _ c.in-Some.message.now c.requires.sound c.in-Some.ensures.value in
    omega (arith, within, c.requires.sound.last)

pub loop-message-smaller : goal.loop-message-smaller
loop-message-smaller c =
    let s = c.args.stored.now in
    let within = found_within s _ c.in-Some.message.now c.requires.sound c.in-Some.ensures.value in
    let from = found_from s.messages c.loop-message.from c.in-Some.message.now c.in-Some.ensures.value in
    omega (arith, within, from)

pub loop-message-preserved : goal.loop-message-preserved
loop-message-preserved c =
    let s = c.args.stored.now in
    counting_more (s.last + 1) s.messages c.requires.sound.ascends c.args.first c.loop-message.from c.loop-message.count c.in-Some.message.now c.loop-message.invariant c.in-Some.ensures.value

pub returns : goal.returns
returns c =
    let s = c.args.stored.now in
    record { value = counting_all (s.last + 1) s.messages c.requires.sound.ascends c.args.first c.loop-message.from c.loop-message.count c.loop-message.invariant c.in_default.ensures.value }
