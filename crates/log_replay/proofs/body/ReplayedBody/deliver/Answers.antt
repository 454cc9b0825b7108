use Rattle.std.proofs.Common.{◌≡◌, List, refl, sym, subst, ◌∙◌}
use Rattle.std.proofs.lemmas.List.{with_items_is}
use Rattle.js_model.specs.declared.consumer.Consumer.{Consumer}
use Rattle.js_model.specs.Streams.{in_place_of}
use Rattle.model_laws.specs.Sound.{AreOrdered}
use Rattle.effects.specs.declared.durable.Body.{Body}
use Rattle.effects.specs.Folding.{delivered_to}
use Rattle.replayed_consumer.specs.Delivering.{CanDeliver}
use Rattle.replayed_consumer.specs.Storable.{KeepsWith}
use Rattle.log_replay.specs.Kept.{shown}
use Rattle.log_replay.specs.Made.{Replaces}
use Rattle.log_replay.specs.Taken.{CanSend, IsThere}
use Rattle.log_replay.proofs.Changes.{delivers}
use Rattle.log_replay.proofs.Holders.{as_many}
use Rattle.log_replay.proofs.Makings.{at_ok}
use Rattle.log_replay.proofs.body.ReplayedBody.deliver.Goals as goal

pub deliver_one-requires : goal.deliver_one-requires
deliver_one-requires c =
    let ordered = subst (λ (b : Body). AreOrdered b.consumers) (sym c.self.view_is) c.requires.ordered in
    let can = subst (λ (b : Body). CanSend b c.args.name.now c.args.entry c.args.dseq) (sym c.self.view_is) c.requires.can in
    record {
      ordered = subst AreOrdered (sym c.as_mut_slice.ensures.value) ordered;
      there = subst (λ (cs : List Consumer). IsThere cs c.args.name.now (λ d. CanDeliver d c.args.entry c.args.dseq)) (sym c.as_mut_slice.ensures.value) can.there;
    }

pub returns-clause-ok : goal.returns-clause-ok
returns-clause-ok c =
    let i = c.self.inside in
    let b = shown i.made i.moment i.last i.config i.messages i.ids i.consumers.items in
    let new = c.deliver_one.new.consumers in
    let can = subst (λ (b : Body). CanSend b c.args.name.now c.args.entry c.args.dseq) (sym c.self.view_is) c.requires.can in
    at_ok c.deliver_one.result c.deliver_one.ensures.ok (λ replaced.
    let r = subst (λ (cs : List Consumer). Replaces c.args.name.now (λ one other. (other ≡ delivered_to c.args.entry c.args.dseq one) × KeepsWith c.args.entry.seq one other) cs new) c.as_mut_slice.ensures.value replaced in
    let written = with_items_is i.consumers new (as_many (in_place_of r.other) i.consumers.items i.consumers.items new refl r.replaced ∙ sym i.consumers.ok.0) in
    rw (written, ← c.self.view_is) (delivers b c.args.name.now c.args.entry c.args.dseq new can r).made_is)

pub returns-clause-keeps : goal.returns-clause-keeps
returns-clause-keeps c =
    let i = c.self.inside in
    let b = shown i.made i.moment i.last i.config i.messages i.ids i.consumers.items in
    let new = c.deliver_one.new.consumers in
    let can = subst (λ (b : Body). CanSend b c.args.name.now c.args.entry c.args.dseq) (sym c.self.view_is) c.requires.can in
    at_ok c.deliver_one.result c.deliver_one.ensures.ok (λ replaced.
    let r = subst (λ (cs : List Consumer). Replaces c.args.name.now (λ one other. (other ≡ delivered_to c.args.entry c.args.dseq one) × KeepsWith c.args.entry.seq one other) cs new) c.as_mut_slice.ensures.value replaced in
    let written = with_items_is i.consumers new (as_many (in_place_of r.other) i.consumers.items i.consumers.items new refl r.replaced ∙ sym i.consumers.ok.0) in
    rw (written, ← c.self.view_is) (delivers b c.args.name.now c.args.entry c.args.dseq new can r).keeps)
