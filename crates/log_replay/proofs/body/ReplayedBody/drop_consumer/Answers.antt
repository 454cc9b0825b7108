use Rattle.std.proofs.Common.{Some, not, sym, ap, subst, ◌∙◌}
use Rattle.std.specs.Prelude.{filter, ⊤}
use Rattle.js_base.specs.Bytes.{Bytes, same}
use Rattle.js_model.proofs.Named.{found_named}
use Rattle.effects.specs.declared.durable.Body.{Body}
use Rattle.effects.specs.Folding.{without_consumer}
use Rattle.log_replay.specs.Kept.{shown}
use Rattle.log_replay.specs.Taken.{IsThere}
use Rattle.log_replay.proofs.Holders.{left_keeps}
use Rattle.log_replay.proofs.body.ReplayedBody.drop_consumer.Goals as goal

pub returns-clause-value : goal.returns-clause-value
returns-clause-value c =
    let i = c.self.inside in
    let name = c.args.name.now in
    let b = shown i.made i.moment i.last i.config i.messages i.ids i.consumers.items in
    let there = subst (λ (b : Body). IsThere b.consumers name (λ d. ⊤)) (sym c.self.view_is) c.requires.there in
    rw (c.remove_one.ensures.left, ← c.self.view_is)
    (ap (without_consumer b) there.found ∙ ap (λ (n : Bytes). Some (record b { consumers = filter (λ d. not (same d.name n)) b.consumers })) (found_named b.consumers name there.consumer there.found))

pub returns-clause-keeps : goal.returns-clause-keeps
returns-clause-keeps c = rw (c.remove_one.ensures.left, ← c.self.view_is) (left_keeps _ (λ d. not (same d.name c.args.name.now)))
