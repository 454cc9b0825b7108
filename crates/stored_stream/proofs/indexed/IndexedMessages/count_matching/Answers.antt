use Rattle.std.proofs.Common.{◌^◌, ◌<◌, length, ap, ◌∙◌, arith}
use Rattle.std.specs.Prelude.{sum_by}
use Rattle.js_base.specs.Subjects.{matches, tokens}
use Rattle.js_model.specs.declared.stream.Message.{Message}
use Rattle.js_model.proofs.Parts.{filter_part, part-length}
use Rattle.stream_view.specs.declared.counts.Counts.{Counts}
use Rattle.stored_stream.proofs.Counted.{matching_total}
use Rattle.stored_stream.proofs.indexed.IndexedMessages.count_matching.Goals as goal

pub total-requires : goal.total-requires
total-requires c =
    let i = c.self.inside in
    let p = c.args.pattern.now in
    let is = ap (sum_by (λ (x : Counts). x.count)) (c.as_slice.ensures.value ∙ c.in_ok-counted.ensures.value) ∙ matching_total i.subjects i.messages p c.self.invariant c.in_ok-counted.ensures.distinct in
    let few : length i.messages < 2 ^ 32 = rw c.self.view_is c.requires.few in
    record { few = omega (arith, is, part-length (filter_part (λ (m : Message). matches (tokens p) (tokens m.subject)) i.messages), few) }

pub returns : goal.returns
returns c =
    let i = c.self.inside in
    let is = ap (sum_by (λ (x : Counts). x.count)) (c.as_slice.ensures.value ∙ c.in_ok-counted.ensures.value) ∙ matching_total i.subjects i.messages c.args.pattern.now c.self.invariant c.in_ok-counted.ensures.distinct in
    record { value = rw (← c.self.view_is) (c.total.ensures.value ∙ is) }
