use Rattle.std.proofs.Common.{◌≡◌, ◌+◌, refl, sym, ap, ◌∙◌, arith}
use Rattle.js_base.specs.Bytes.{Bytes, same}
use Rattle.stored_stream.proofs.Finding.{found_from, found_within}
use Rattle.stored_stream.proofs.Latest.{telling_all, telling_more, telling_room, telling_same}
use Rattle.stored_stream.proofs.later.counts_from.Goals as goal
use Rattle.stored_stream.proofs.later.counts_from.Goals.{then-eq, else-eq}

pub loop-message-init : goal.loop-message-init
loop-message-init c = record { rest = refl }

pub overflow_add-from : goal.overflow_add-from
overflow_add-from c =
    let within = found_within c.args.stored.now _ c.in-Some.message.now c.requires.sound c.in-Some.ensures.value in
    omega (arith, within, c.requires.sound.last)

pub loop-message-smaller : goal.loop-message-smaller
loop-message-smaller c =
    let s = c.args.stored.now in
    let within = found_within s _ c.in-Some.message.now c.requires.sound c.in-Some.ensures.value in
    let from = found_from s.messages c.loop-message.from c.in-Some.message.now c.in-Some.ensures.value in
    omega (arith, within, from)

pub loop-message-preserved : goal.loop-message-preserved
loop-message-preserved c =
    let s = c.args.stored.now in
    let m = c.in-Some.message.now in
    let told : same m.subject c.args.subject.now ≡ c.eq.result = ap (λ (text : Bytes). same text c.args.subject.now) (sym c.as_slice.ensures) ∙ sym c.eq.ensures in
    elim c.if-eq.branch [
      | then-eq w ↦ rw (w.found-is, w.counted_more.ensures.value)
          (telling_more (s.last + 1) s.messages c.requires.sound.ascends c.args.subject.now c.args.first c.loop-message.from c.loop-message.found m c.loop-message.invariant c.in-Some.ensures.value (told ∙ w.if-eq.true))
      | else-eq w ↦ rw w.found-is
          (telling_same (s.last + 1) s.messages c.requires.sound.ascends c.args.subject.now c.args.first c.loop-message.from c.loop-message.found m c.loop-message.invariant c.in-Some.ensures.value (told ∙ w.if-eq.false))
    ]

pub counted_more-requires : goal.counted_more-requires
counted_more-requires c = record { room = telling_room c.args.stored.now c.requires.sound c.args.subject.now c.args.first c.loop-message.from c.loop-message.found c.loop-message.invariant }

pub returns : goal.returns
returns c =
    let s = c.args.stored.now in
    record { value = telling_all (s.last + 1) s.messages c.requires.sound.ascends c.args.subject.now c.args.first c.loop-message.from c.loop-message.found c.loop-message.invariant c.in_default.ensures.value }
