use Rattle.std.proofs.Common.{◌++◌, List, refl, ap, ◌∙◌, arith}
use Rattle.std.specs.List.{flat_map}
use Rattle.std.proofs.lemmas.List.{take_all}
use Rattle.state_snapshot.specs.Allowed.{is_message}
use Rattle.state_snapshot.specs.Snapshots.{stored_in}
use Rattle.state_snapshot.specs.Spelling.{spelled_message}
use Rattle.state_snapshot.specs.declared.snapshot.StoredMessage.{StoredMessage}
use Rattle.state_snapshot.proofs.Puts.{may_at, next_put}
use Rattle.state_snapshot.proofs.Spots.{as_many, spot_at, told_at}
use Rattle.state_snapshot.proofs.writing.put_each_message.Goals as goal

pub stored-requires : goal.stored-requires
stored-requires c =
    let here = spot_at c.args.table.now.placed c.args.messages.now c.loop-message.message-index c.message-item.result c.requires.rising c.requires.placed c.loop-message-test.true c.message-item.is in
    record { placed = rw here.found refl }

pub put-requires : goal.put-requires
put-requires c =
    let ps = c.args.table.now.placed in
    let ms = c.args.messages.now in
    let i = c.loop-message.message-index in
    let m = c.message-item.result in
    let here = spot_at ps ms i m c.requires.rising c.requires.placed c.loop-message-test.true c.message-item.is in
    let told = told_at ps ms i m c.stored.result here c.stored.ensures.value c.stored.ensures.seq c.stored.ensures.at in
    record { allowed = may_at is_message (stored_in ps ms) i c.stored.result c.requires.allowed here.within told }

pub loop-message-preserved : goal.loop-message-preserved
loop-message-preserved c =
    let ps = c.args.table.now.placed in
    let ms = c.args.messages.now in
    let i = c.loop-message.message-index in
    let m = c.message-item.result in
    let here = spot_at ps ms i m c.requires.rising c.requires.placed c.loop-message-test.true c.message-item.is in
    let told = told_at ps ms i m c.stored.result here c.stored.ensures.value c.stored.ensures.seq c.stored.ensures.at in
    next_put spelled_message c.args.into.now.items c.loop-message.into.items c.put.new.into.items (stored_in ps ms) i c.stored.result here.within told c.loop-message.invariant c.in_ok-put.ensures.ok

pub returns : goal.returns
returns c =
    let ps = c.args.table.now.placed in
    let ms = c.args.messages.now in
    let all = take_all c.loop-message.message-index (stored_in ps ms) (omega (arith, c.loop-message-test.false, as_many ps ms c.requires.placed)) in
    record { ok = c.loop-message.invariant ∙ ap (λ (l : List StoredMessage). c.args.into.now.items ++ flat_map spelled_message l) all }
