use Rattle.std.proofs.Common.{ℕ, List, map, not, sym, ap, subst, ◌∙◌}
use Rattle.std.proofs.lemmas.List.{with_items_is}
use Rattle.js_model.specs.declared.stream.Message.{Message}
use Rattle.js_model.specs.declared.consumer.Consumer.{Consumer}
use Rattle.js_model.specs.Lists.{Between}
use Rattle.effects.specs.declared.durable.Body.{Body}
use Rattle.effects.specs.Folding.{holding}
use Rattle.effects.specs.Ranges.{is_within}
use Rattle.replayed_consumer.proofs.Keeping.{holding_keeps}
use Rattle.log_replay.specs.Kept.{shown}
use Rattle.log_replay.specs.Made.{KeepsStorable}
use Rattle.log_replay.proofs.Holders.{as_many, removed_keeps}
use Rattle.log_replay.proofs.body.ReplayedBody.remove.Goals as goal

pub remove_range-requires : goal.remove_range-requires
remove_range-requires c = record { ascend = subst (λ (b : Body). (end : ℕ) × Between (λ m. m.seq) 1 end b.messages) (sym c.self.view_is) c.requires.ascend }

pub returns-clause-value : goal.returns-clause-value
returns-clause-value c =
    let i = c.self.inside in
    let f = holding (λ n. not (is_within c.args.low c.args.high n)) in
    let new = c.forget_all.new.consumers in
    let written = with_items_is i.consumers new (as_many f c.as_mut_slice.result.now i.consumers.items new c.as_mut_slice.ensures.value c.forget_all.ensures.value ∙ sym i.consumers.ok.0) in
    let told = c.forget_all.ensures.value ∙ ap (map f) c.as_mut_slice.ensures.value in
    rw (← c.self.view_is)
    (ap (λ (cs : List Consumer). shown i.made i.moment i.last i.config c.remove_range.new.messages i.ids cs) (written ∙ told)
    ∙ ap (λ (ms : List Message). shown i.made i.moment i.last i.config ms i.ids (map f i.consumers.items)) c.remove_range.ensures.left)

pub returns-clause-keeps : goal.returns-clause-keeps
returns-clause-keeps c = subst (KeepsStorable c.args.self.now) (sym (returns-clause-value c)) (removed_keeps c.args.self.now c.args.low c.args.high (λ d. holding_keeps c.args.low c.args.high d))
