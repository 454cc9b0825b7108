use Rattle.std.proofs.Common.{◌≡◌, length, not, ap, ◌∙◌, arith}
use Rattle.std.specs.Prelude.{nat_le, filter}
use Rattle.pending_table.proofs.Changed.{range_upto, shorter_or_same}
use Rattle.pending_table.proofs.table.PendingTable.ack_all.Goals as goal

pub overflow_sub-result : goal.overflow_sub-result
overflow_sub-result c =
    let left : c.forget.new.self ≡ filter (λ p. not (nat_le p.seq c.args.seq)) c.args.self.now = c.forget.ensures.left ∙ range_upto c.args.seq c.args.self.now in
    let fewer = shorter_or_same (λ p. not (nat_le p.seq c.args.seq)) c.args.self.now in
    let before : c.self.inside.len ≡ length c.args.self.now = c.self.invariant.len_is ∙ ap length c.self.view_is in
    let after : c.self-2.inside.len ≡ length c.forget.new.self = c.self-2.invariant.len_is ∙ ap length c.self-2.view_is in
    omega (arith, fewer, ap length left, before, after)

pub returns-clause-count : goal.returns-clause-count
returns-clause-count c =
    let left : c.forget.new.self ≡ filter (λ p. not (nat_le p.seq c.args.seq)) c.args.self.now = c.forget.ensures.left ∙ range_upto c.args.seq c.args.self.now in
    let fewer = shorter_or_same (λ p. not (nat_le p.seq c.args.seq)) c.args.self.now in
    let before : c.self.inside.len ≡ length c.args.self.now = c.self.invariant.len_is ∙ ap length c.self.view_is in
    let after : c.self-2.inside.len ≡ length c.forget.new.self = c.self-2.invariant.len_is ∙ ap length c.self-2.view_is in
    omega (arith, fewer, ap length left, before, after)
