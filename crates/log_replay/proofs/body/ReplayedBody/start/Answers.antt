use Rattle.std.proofs.Common.{◌≡◌, ◌<◌, ◌^◌, None, Some, sym, ap, subst, ◌∙◌, arith}
use Rattle.js_base.specs.Bytes.{Bytes}
use Rattle.js_model.specs.declared.consumer.Consumer.{Consumer}
use Rattle.js_model.specs.Consumers.{with_new}
use Rattle.js_model.specs.Streams.{by_name}
use Rattle.js_model.proofs.Parts.{between_lower}
use Rattle.effects.specs.declared.durable.Body.{Body}
use Rattle.effects.specs.Folding.{consumer_from, with_made}
use Rattle.log_replay.specs.Kept.{shown}
use Rattle.log_replay.specs.Taken.{IsStart}
use Rattle.log_replay.proofs.Holders.{made_keeps}
use Rattle.log_replay.proofs.Makings.{at_ok}
use Rattle.log_replay.proofs.body.ReplayedBody.start.Goals as goal

pub start-requires : goal.start-requires
start-requires c = record { ascend = between_lower (λ n. n) 0 1 c.args.cursor c.args.picks.now (omega arith) c.requires.start.ascend; few = c.requires.start.few }

pub returns-clause-ok : goal.returns-clause-ok
returns-clause-ok c =
    let i = c.self.inside in
    let b = shown i.made i.moment i.last i.config i.messages i.ids i.consumers.items in
    let start = subst (λ (b : Body). IsStart b c.args.name c.args.cursor c.args.picks.now) (sym c.self.view_is) c.requires.start in
    at_ok c.add_one.result c.add_one.ensures.ok (λ added.
    rw (added, ← c.self.view_is)
    (ap (with_made b (consumer_from c.args.name c.args.made c.args.config c.args.cursor c.args.picks.now)) start.absent
    ∙ ap (λ (x : Consumer). Some (record b { consumers = with_new b.consumers x })) (sym c.in_ok-new.ensures.value)))

pub returns-clause-keeps : goal.returns-clause-keeps
returns-clause-keeps c =
    let i = c.self.inside in
    let b = shown i.made i.moment i.last i.config i.messages i.ids i.consumers.items in
    let start = subst (λ (b : Body). IsStart b c.args.name c.args.cursor c.args.picks.now) (sym c.self.view_is) c.requires.start in
    let new = c.in_ok-new.new in
    let named : new.name ≡ c.args.name = ap (λ (x : Consumer). x.name) c.in_ok-new.ensures.value in
    let absent : by_name b.consumers new.name ≡ None = subst (λ (n : Bytes). by_name b.consumers n ≡ None) (sym named) start.absent in
    let small : c.args.made < 2 ^ 62 = omega (arith, c.as_nanos.ensures.value, c.as_nanos.ensures.bound) in
    at_ok c.add_one.result c.add_one.ensures.ok (λ added.
    rw (added, ← c.self.view_is)
    (made_keeps b new absent start.room (λ i k. c.in_ok-new.ensures.keeps.kept b.messages b.last (record {
      valid = c.requires.valid;
      named = c.requires.named;
      moment = small;
      end = k.bounded.last;
      reach = start.reached;
      ascend = start.ascend;
      stored = start.stored;
      few = start.few;
    }))))
