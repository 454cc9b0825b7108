use Rattle.std.proofs.Common.{◌≡◌, List, sym, ap, subst, ◌∙◌}
use Rattle.std.specs.Prelude.{All}
use Rattle.std.specs.List.{list_all}
use Rattle.js_model.specs.declared.stream.Message.{Message}
use Rattle.js_model.specs.declared.stream.Id.{Id}
use Rattle.js_model.specs.declared.consumer.Consumer.{Consumer}
use Rattle.js_model.specs.Retention.{is_kept}
use Rattle.model_laws.specs.SoundTests.{is_matched_consumer}
use Rattle.effects.specs.Restorable.{Rises}
use Rattle.durable_checks.specs.Parts.{AreAscending}
use Rattle.durable_checks.specs.Limits.{are_within}
use Rattle.durable_checks.proofs.Parting.{fails}
use Rattle.durable_checks.proofs.Opening.{ascending, openable_from, openable_matched, openable_within, openable_retained}
use Rattle.durable_checks.proofs.openable.is_openable_body.Goals as goal

pub are_all_matched-requires : goal.are_all_matched-requires
are_all_matched-requires c =
    record { ascending = subst (λ (l : List Consumer). All AreAscending l) (sym c.as_slice-consumers.ensures) (ascending c.args.incarnation c.args.body.now c.requires.formed c.requires.storable) }

pub are_kept-requires : goal.are_kept-requires
are_kept-requires c =
    record { ascending = subst (λ (l : List Consumer). All AreAscending l) (sym c.as_slice-consumers.ensures) (ascending c.args.incarnation c.args.body.now c.requires.formed c.requires.storable) }

pub returns-then-not-branch : goal.returns-then-not-branch
returns-then-not-branch c =
    let b = c.args.body.now in
    let same = ap (λ (l : List Message). list_all (is_matched_consumer l) c.as_slice-consumers.result.now) c.as_slice-messages.ensures ∙ ap (list_all (is_matched_consumer b.messages)) c.as_slice-consumers.ensures in
    record {
      value = fails c.in_ok-are_all_matched.field-0 (list_all (is_matched_consumer b.messages) b.consumers) (c.in_ok-are_all_matched.ensures.value ∙ same) c.if-not-branch.true
          (openable_matched c.args.incarnation b c.requires.formed c.requires.storable);
    }

pub returns-then-not-branch-4 : goal.returns-then-not-branch-4
returns-then-not-branch-4 c =
    let b = c.args.body.now in
    record {
      value = fails c.in_ok-are_within.field-0 (are_within b.config b.messages) (c.in_ok-are_within.ensures.value ∙ ap (are_within b.config) c.as_slice-messages.ensures) c.if-not-branch-4.true
          (openable_within c.args.incarnation b c.requires.formed c.requires.storable);
    }

pub returns : goal.returns
returns c =
    let i = c.args.incarnation in
    let b = c.args.body.now in
    let f = c.requires.formed in
    let k = c.requires.storable in
    let same = ap (λ (l : List Message). list_all (is_matched_consumer l) c.as_slice-consumers.result.now) c.as_slice-messages.ensures ∙ ap (list_all (is_matched_consumer b.messages)) c.as_slice-consumers.ensures in
    let matched = sym (c.in_ok-are_all_matched.ensures.value ∙ same) ∙ c.if-not-branch.false in
    let messages = subst (λ (l : List Message). Rises (λ m. m.at) 0 b.moment l) c.as_slice-messages.ensures (c.in_ok-messages_rise.ensures.value.0 c.if-not-branch-2.false) in
    let ids = subst (λ (l : List Id). Rises (λ n. n.at) 0 b.moment l) c.as_slice.ensures (c.in_ok-ids_rise.ensures.value.0 c.if-not-branch-3.false) in
    let within = sym (c.in_ok-are_within.ensures.value ∙ ap (are_within b.config) c.as_slice-messages.ensures) ∙ c.if-not-branch-4.false in
    let retained : c.are_kept.result ≡ list_all (is_kept b.config.retention b.consumers) b.messages =
    c.are_kept.ensures.value ∙ ap (λ (l : List Consumer). list_all (is_kept b.config.retention l) c.as_slice-messages.result.now) c.as_slice-consumers.ensures ∙ ap (list_all (is_kept b.config.retention b.consumers)) c.as_slice-messages.ensures in
    record { value = (λ passes. openable_from i b f k matched messages ids within (sym retained ∙ passes), λ openable. retained ∙ openable_retained i b f k openable) }
