use Rattle.std.proofs.Common.{◌≡◌, ◌<◌, ◌-◌, ◌^◌, ap, refl, sym, ◌∙◌, arith, true, false}
use Rattle.js_model.specs.declared.consumer.Consumer.{Consumer}
use Rattle.consumer_state.proofs.Currents.{candidates_none, some_read}
use Rattle.consumer_state.proofs.consumer.Consumer.has_candidate_by.Goals as goal

pub returns-then-dseq-ge-LAST_SEQUENCE : goal.returns-then-dseq-ge-LAST_SEQUENCE
returns-then-dseq-ge-LAST_SEQUENCE g c =
    let e : c.dseq.result ≡ c.args.self.now.dseq = c.dseq.ensures.value ∙ ap (λ (x : Consumer). x.dseq) c.self.view_is in
    record { value = sym (candidates_none (g.W.View.stream c.args.stream.now) c.args.self.now (omega arith)) }

pub returns-then-has_again : goal.returns-then-has_again
returns-then-has_again g c =
    let e : c.dseq.result ≡ c.args.self.now.dseq = c.dseq.ensures.value ∙ ap (λ (x : Consumer). x.dseq) c.self.view_is in
    let low : c.args.self.now.dseq < 2 ^ 62 - 1 = omega arith in
    record { value = some_read (g.W.View.stream c.args.stream.now) c.args.self.now low true _ _ _ _ c.if-has_again.ensures.value refl refl refl c.if-has_again.true }

pub returns-then-has_room : goal.returns-then-has_room
returns-then-has_room g c =
    let e : c.dseq.result ≡ c.args.self.now.dseq = c.dseq.ensures.value ∙ ap (λ (x : Consumer). x.dseq) c.self.view_is in
    let low : c.args.self.now.dseq < 2 ^ 62 - 1 = omega arith in
    record { value = some_read (g.W.View.stream c.args.stream.now) c.args.self.now low false true c.has_next_by.result _ c.count_staying.result c.if-has_again.ensures.value c.count_staying.ensures.value c.if-has_room.ensures.value c.has_next_by.ensures.value refl }

pub returns-else-has_room : goal.returns-else-has_room
returns-else-has_room g c =
    let e : c.dseq.result ≡ c.args.self.now.dseq = c.dseq.ensures.value ∙ ap (λ (x : Consumer). x.dseq) c.self.view_is in
    let low : c.args.self.now.dseq < 2 ^ 62 - 1 = omega arith in
    record { value = some_read (g.W.View.stream c.args.stream.now) c.args.self.now low false false _ _ c.count_staying.result c.if-has_again.ensures.value c.count_staying.ensures.value c.if-has_room.ensures.value refl c.if-has_room.false }
