use Rattle.std.proofs.Common.{◌+◌, ◌<◌, ℕ, refl, sym, subst, arith}
use Rattle.std.specs.Prelude.{All}
use Rattle.dedup_window.specs.Window.{IsLatest}
use Rattle.js_model.specs.Lists.{Between}
use Rattle.effects.specs.declared.durable.Body.{Body}
use Rattle.log_replay.specs.Kept.{shown}
use Rattle.log_replay.specs.Taken.{IsNextMessage}
use Rattle.log_replay.proofs.Ids.{kept_added}
use Rattle.log_replay.proofs.Moving.{all_below}
use Rattle.log_replay.proofs.Makings.{at_ok}
use Rattle.log_replay.proofs.Streams.{are_next, put_keeps}
use Rattle.log_replay.proofs.body.ReplayedBody.put.Goals as goal

pub add_id-requires : goal.add_id-requires
add_id-requires c =
    let i = c.self.inside in
    let b = shown i.made i.moment i.last i.config i.messages i.ids i.consumers.items in
    let m = c.args.message in
    let next = subst (λ (b : Body). IsNextMessage b m.seq m.at c.args.id.now) (sym c.self.view_is) c.requires.next in
    record { new = next.number.new; latest = subst (λ (n : ℕ). IsLatest n i.ids.ids) (sym (are_next m.seq m.at b next.number.next).moment) c.self.invariant.latest }

pub push-requires : goal.push-requires
push-requires c =
    let i = c.self.inside in
    let b = shown i.made i.moment i.last i.config i.messages i.ids i.consumers.items in
    let m = c.args.message in
    let next = subst (λ (b : Body). IsNextMessage b m.seq m.at c.args.id.now) (sym c.self.view_is) c.requires.next in
    let seq = (are_next m.seq m.at b next.number.next).number in
    let ascend = subst (λ (b : Body). Between (λ m. m.seq) 1 (b.last + 1) b.messages) (sym c.self.view_is) c.requires.ascend in
    let room = next.room in
    record {
      above = subst (λ (n : ℕ). All (λ m. m.seq < n) i.messages) (sym seq) (all_below 1 (i.last + 1) i.messages ascend);
      small = c.requires.small;
      room = omega (arith, room);
    }

pub invariant_of-self-2 : goal.invariant_of-self-2
invariant_of-self-2 c =
    let i = c.self.inside in
    let b = shown i.made i.moment i.last i.config i.messages i.ids i.consumers.items in
    let m = c.args.message in
    let next = subst (λ (b : Body). IsNextMessage b m.seq m.at c.args.id.now) (sym c.self.view_is) c.requires.next in
    rw c.in_ok-add_id.ensures.ok (kept_added i.config i.moment i.ids c.args.id.now m.seq m.at (are_next m.seq m.at b next.number.next).moment c.self.invariant)

pub returns-clause-ok : goal.returns-clause-ok
returns-clause-ok c = at_ok c.push.result c.push.ensures.ok (λ pushed. rw (pushed, c.in_ok-add_id.ensures.ok, ← c.self.view_is) refl)

pub returns-clause-keeps : goal.returns-clause-keeps
returns-clause-keeps c =
    let m = c.args.message in
    let next = subst (λ (b : Body). IsNextMessage b m.seq m.at c.args.id.now) (sym c.self.view_is) c.requires.next in
    at_ok c.push.result c.push.ensures.ok (λ pushed. rw (pushed, c.in_ok-add_id.ensures.ok, ← c.self.view_is) (put_keeps _ m c.args.id.now c.requires.number next))
