use Rattle.std.proofs.Common.{ℕ, ◌≡◌, ◌+◌, List, map, sym, ap, subst, ◌∙◌}
use Rattle.std.specs.Prelude.{IfOk}
use Rattle.std.specs.List.{list_all}
use Rattle.js_model.specs.declared.stream.Message.{Message}
use Rattle.js_model.specs.declared.stream.State.TheVariants.{Live}
use Rattle.js_model.specs.declared.consumer.Consumer.{Consumer}
use Rattle.js_model.specs.Streams.{seqs}
use Rattle.model_laws.specs.SoundTests.{are_between, are_different}
use Rattle.model_laws.specs.BoundTests.{is_bounded}
use Rattle.effects.specs.Durables.{stream_of}
use Rattle.durable_checks.specs.Parts.{is_sound_in}
use Rattle.durable_checks.proofs.Parting.{fails, decides}
use Rattle.durable_checks.proofs.Searching.{between_mapped}
use Rattle.durable_checks.proofs.Storing.{storable_from, storable_bounded, storable_between, storable_different, storable_sound}
use Rattle.durable_checks.proofs.storable.is_storable_body.Goals as goal

pub returns-then-not-is_bounded : goal.returns-then-not-is_bounded
returns-then-not-is_bounded c =
    let i = c.args.incarnation in
    let b = c.args.body.now in
    record { value = fails c.is_bounded.result (is_bounded (Live (stream_of i b))) c.is_bounded.ensures.value c.if-not-is_bounded.true (storable_bounded i b c.requires.formed) }

pub returns-then-not-ascend : goal.returns-then-not-ascend
returns-then-not-ascend c =
    let i = c.args.incarnation in
    let b = c.args.body.now in
    let stored = c.as_slice-2.ensures.value ∙ c.in_ok-stored.ensures.value ∙ ap (map (λ (m : Message). m.seq)) c.as_slice.ensures in
    let same = ap (λ (l : List ℕ). are_between (λ n. n) 1 (b.last + 1) l) stored ∙ sym (between_mapped (λ (m : Message). m.seq) 1 (b.last + 1) b.messages) in
    record { value = fails c.ascend.result (are_between (λ (m : Message). m.seq) 1 (b.last + 1) b.messages) (c.ascend.ensures.value ∙ same) c.if-not-ascend.true (storable_between i b c.requires.formed) }

pub returns-then-not-branch : goal.returns-then-not-branch
returns-then-not-branch c =
    let i = c.args.incarnation in
    let b = c.args.body.now in
    record { value = fails c.in_ok-are_different.field-0 (are_different b.ids) (c.in_ok-are_different.ensures.value ∙ ap are_different c.as_slice-3.ensures) c.if-not-branch.true (storable_different i b c.requires.formed) }

pub returns : goal.returns
returns c =
    let i = c.args.incarnation in
    let b = c.args.body.now in
    let f = c.requires.formed in
    let items = c.in_ok-stored.ensures.value ∙ ap (map (λ (m : Message). m.seq)) c.as_slice.ensures in
    let same = ap (λ (l : List ℕ). are_between (λ n. n) 1 (b.last + 1) l) (c.as_slice-2.ensures.value ∙ items) ∙ sym (between_mapped (λ (m : Message). m.seq) 1 (b.last + 1) b.messages) in
    let bounded = sym c.is_bounded.ensures.value ∙ c.if-not-is_bounded.false in
    let ascends = sym (c.ascend.ensures.value ∙ same) ∙ c.if-not-ascend.false in
    let different = sym (c.in_ok-are_different.ensures.value ∙ ap are_different c.as_slice-3.ensures) ∙ c.if-not-branch.false in
    let answer = c.are_sound.result in
    let beside = subst (λ (l : List ℕ). IfOk answer (λ sound. sound ≡ list_all (is_sound_in l b.last) c.as_slice-5.result.now)) (c.as_slice-4.ensures.value ∙ items) c.are_sound.ensures.value in
    let sound = subst (λ (l : List Consumer). IfOk answer (λ sound. sound ≡ list_all (is_sound_in (seqs b.messages) b.last) l)) c.as_slice-5.ensures beside in
    record { value = decides answer (list_all (is_sound_in (seqs b.messages) b.last) b.consumers) (storable_from i b f bounded ascends different) (storable_sound i b f) sound }
