use Rattle.std.proofs.Common.{◌≡◌, List, refl, sym, subst, ◌∙◌}
use Rattle.std.specs.Prelude.{⊤}
use Rattle.std.proofs.lemmas.List.{with_items_is}
use Rattle.js_model.specs.declared.consumer.Consumer.{Consumer}
use Rattle.js_model.specs.Streams.{in_place_of}
use Rattle.model_laws.specs.Sound.{AreOrdered}
use Rattle.effects.specs.declared.durable.Body.{Body}
use Rattle.effects.specs.Folding.{with_given_up}
use Rattle.replayed_consumer.specs.Storable.{Keeps}
use Rattle.log_replay.specs.Kept.{shown}
use Rattle.log_replay.specs.Made.{Replaces}
use Rattle.log_replay.specs.Taken.{IsThere}
use Rattle.log_replay.proofs.Changes.{gives_up}
use Rattle.log_replay.proofs.Holders.{as_many}
use Rattle.log_replay.proofs.body.ReplayedBody.give_up.Goals as goal

pub give_up_at_one-requires : goal.give_up_at_one-requires
give_up_at_one-requires c =
    let ordered = subst (λ (b : Body). AreOrdered b.consumers) (sym c.self.view_is) c.requires.ordered in
    let there = subst (λ (b : Body). IsThere b.consumers c.args.name.now (λ d. ⊤)) (sym c.self.view_is) c.requires.there in
    record {
      ordered = subst AreOrdered (sym c.as_mut_slice.ensures.value) ordered;
      there = subst (λ (cs : List Consumer). IsThere cs c.args.name.now (λ d. ⊤)) (sym c.as_mut_slice.ensures.value) there;
    }

pub returns-clause-value : goal.returns-clause-value
returns-clause-value c =
    let i = c.self.inside in
    let b = shown i.made i.moment i.last i.config i.messages i.ids i.consumers.items in
    let new = c.give_up_at_one.new.consumers in
    let there = subst (λ (b : Body). IsThere b.consumers c.args.name.now (λ d. ⊤)) (sym c.self.view_is) c.requires.there in
    let r = subst (λ (cs : List Consumer). Replaces c.args.name.now (λ one other. (other ≡ with_given_up c.args.moment one) × Keeps one other) cs new) c.as_mut_slice.ensures.value c.give_up_at_one.ensures.value in
    let written = with_items_is i.consumers new (as_many (in_place_of r.other) i.consumers.items i.consumers.items new refl r.replaced ∙ sym i.consumers.ok.0) in
    rw (written, ← c.self.view_is) (gives_up b c.args.name.now c.args.moment new r).made_is

pub returns-clause-keeps : goal.returns-clause-keeps
returns-clause-keeps c =
    let i = c.self.inside in
    let b = shown i.made i.moment i.last i.config i.messages i.ids i.consumers.items in
    let new = c.give_up_at_one.new.consumers in
    let there = subst (λ (b : Body). IsThere b.consumers c.args.name.now (λ d. ⊤)) (sym c.self.view_is) c.requires.there in
    let r = subst (λ (cs : List Consumer). Replaces c.args.name.now (λ one other. (other ≡ with_given_up c.args.moment one) × Keeps one other) cs new) c.as_mut_slice.ensures.value c.give_up_at_one.ensures.value in
    let written = with_items_is i.consumers new (as_many (in_place_of r.other) i.consumers.items i.consumers.items new refl r.replaced ∙ sym i.consumers.ok.0) in
    rw (written, ← c.self.view_is) (gives_up b c.args.name.now c.args.moment new r).keeps
