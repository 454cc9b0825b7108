use Rattle.std.proofs.Common.{◌≡◌, ◌+◌, ◌^◌, ◌≤◌, ap, sym, subst, ◌∙◌, arith}
use Rattle.std.specs.Prelude.{sum_by}
use Rattle.js_model.specs.Streams.{size}
use Rattle.stream_view.specs.Heads.{MessageHead}
use Rattle.stored_stream.specs.Later.{messages_from}
use Rattle.stored_stream.proofs.Finding.{found_from, found_within}
use Rattle.stored_stream.proofs.Latest.{head_is, no_head, sizes_from, summing_all, summing_more, IsSumming}
use Rattle.stored_stream.proofs.later.bytes_from.Goals as goal

pub loop-head-init : goal.loop-head-init
loop-head-init c = record { rest = omega arith }

pub overflow_add-bytes : goal.overflow_add-bytes
overflow_add-bytes c =
    let s = c.args.stored.now in
    let w = head_is c.loop-head.from s.messages c.in-Some.head c.in-Some.ensures.value in
    let more = summing_more (s.last + 1) s.messages c.requires.sound.ascends c.args.first c.loop-head.from c.loop-head.bytes w.0 c.loop-head.invariant w.1 in
    let all : c.loop-head.bytes + size w.0 + sum_by size (messages_from (w.0.seq + 1) s.messages) ≡ sum_by size (messages_from c.args.first s.messages) = more.rest in
    let few : sum_by size (messages_from c.args.first s.messages) ≤ 2 ^ 53 = sizes_from s c.args.first c.requires.sound in
    let is : c.head.inside.size ≡ size w.0 = ap (λ (h : MessageHead). h.size) (c.head.view_is ∙ w.2) in
    omega (arith, all, few, is)

pub overflow_add-from : goal.overflow_add-from
overflow_add-from c =
    let s = c.args.stored.now in
    let w = head_is c.loop-head.from s.messages c.in-Some.head c.in-Some.ensures.value in
    let within = found_within s _ w.0 c.requires.sound w.1 in
    let is : c.head.inside.seq ≡ w.0.seq = ap (λ (h : MessageHead). h.seq) (c.head.view_is ∙ w.2) in
    omega (arith, within, is, c.requires.sound.last)

pub loop-head-smaller : goal.loop-head-smaller
loop-head-smaller c =
    let s = c.args.stored.now in
    let w = head_is c.loop-head.from s.messages c.in-Some.head c.in-Some.ensures.value in
    let within = found_within s _ w.0 c.requires.sound w.1 in
    let from = found_from s.messages c.loop-head.from w.0 w.1 in
    let is : c.head.inside.seq ≡ w.0.seq = ap (λ (h : MessageHead). h.seq) (c.head.view_is ∙ w.2) in
    omega (arith, within, from, is)

pub loop-head-preserved : goal.loop-head-preserved
loop-head-preserved c =
    let s = c.args.stored.now in
    let w = head_is c.loop-head.from s.messages c.in-Some.head c.in-Some.ensures.value in
    subst (λ (h : MessageHead). IsSumming s.messages c.args.first (h.seq + 1) (c.loop-head.bytes + h.size)) (sym (c.head.view_is ∙ w.2))
    (summing_more (s.last + 1) s.messages c.requires.sound.ascends c.args.first c.loop-head.from c.loop-head.bytes w.0 c.loop-head.invariant w.1)

pub returns : goal.returns
returns c =
    let s = c.args.stored.now in
    record { value = summing_all (s.last + 1) s.messages c.requires.sound.ascends c.args.first c.loop-head.from c.loop-head.bytes c.loop-head.invariant (no_head c.loop-head.from s.messages c.in_default.ensures.value) }
