use Rattle.std.proofs.Common.{ℕ, refl, sym, subst}
use Rattle.dedup_window.specs.Window.{IsLatest}
use Rattle.effects.specs.declared.durable.Body.{Body}
use Rattle.log_replay.specs.Kept.{shown}
use Rattle.log_replay.specs.Taken.{IsNextNumber}
use Rattle.log_replay.proofs.Ids.{kept_added}
use Rattle.log_replay.proofs.Streams.{are_next, skipped_keeps}
use Rattle.log_replay.proofs.body.ReplayedBody.skip.Goals as goal

pub add_id-requires : goal.add_id-requires
add_id-requires c =
    let i = c.self.inside in
    let b = shown i.made i.moment i.last i.config i.messages i.ids i.consumers.items in
    let next = subst (λ (b : Body). IsNextNumber b c.args.seq c.args.at c.args.id.now) (sym c.self.view_is) c.requires.next in
    record { new = next.new; latest = subst (λ (n : ℕ). IsLatest n i.ids.ids) (sym (are_next c.args.seq c.args.at b next.next).moment) c.self.invariant.latest }

pub invariant_of-self-2 : goal.invariant_of-self-2
invariant_of-self-2 c =
    let i = c.self.inside in
    let b = shown i.made i.moment i.last i.config i.messages i.ids i.consumers.items in
    let next = subst (λ (b : Body). IsNextNumber b c.args.seq c.args.at c.args.id.now) (sym c.self.view_is) c.requires.next in
    rw c.in_ok-add_id.ensures.ok (kept_added i.config i.moment i.ids c.args.id.now c.args.seq c.args.at (are_next c.args.seq c.args.at b next.next).moment c.self.invariant)

pub returns-clause-ok : goal.returns-clause-ok
returns-clause-ok c = rw (c.in_ok-add_id.ensures.ok, ← c.self.view_is) refl

pub returns-clause-keeps : goal.returns-clause-keeps
returns-clause-keeps c =
    let next = subst (λ (b : Body). IsNextNumber b c.args.seq c.args.at c.args.id.now) (sym c.self.view_is) c.requires.next in
    rw (c.in_ok-add_id.ensures.ok, ← c.self.view_is) (skipped_keeps _ c.args.seq c.args.at c.args.id.now c.requires.number next)
