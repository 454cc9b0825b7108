use Rattle.std.proofs.Common.{◌≡◌, ◌<◌, ◌-◌, ◌^◌, ap, sym, ◌∙◌, arith}
use Rattle.js_model.specs.declared.consumer.Consumer.{Consumer}
use Rattle.consumer_state.proofs.Offers.{again_offered, due_told, none_at_last, onward_offered}
use Rattle.consumer_state.specs.Keeping.{kept_of}
use Rattle.consumer_state.proofs.consumer.Consumer.candidate.Goals as goal

pub returns-then-dseq-ge-LAST_SEQUENCE : goal.returns-then-dseq-ge-LAST_SEQUENCE
returns-then-dseq-ge-LAST_SEQUENCE g c =
    let e : c.dseq.result ≡ c.args.self.now.dseq = c.dseq.ensures.value ∙ ap (λ (x : Consumer). x.dseq) c.self.view_is in
    record { offer = none_at_last (g.W.View.stream c.args.stream.now) c.args.self.now (omega arith) }

pub returns-in-Some : goal.returns-in-Some
returns-in-Some g c =
    let e : c.dseq.result ≡ c.args.self.now.dseq = c.dseq.ensures.value ∙ ap (λ (x : Consumer). x.dseq) c.self.view_is in
    let low : c.args.self.now.dseq < 2 ^ 62 - 1 = omega arith in
    record { offer = again_offered (g.W.View.stream c.args.stream.now) c.args.self.now low c.in-Some.seq c.requires.current.stored.pending (sym c.in-Some.is ∙ due_told (g.W.View.stream c.args.stream.now) (kept_of c.self.inside.name c.self.inside.made c.self.inside.config c.self.inside.progress c.self.inside.pulls c.self.inside.mark) c.args.self.now c.moment.result c.due.result c.self.view_is c.moment.ensures.value c.due.ensures.value) }

pub returns-in-None : goal.returns-in-None
returns-in-None g c =
    let e : c.dseq.result ≡ c.args.self.now.dseq = c.dseq.ensures.value ∙ ap (λ (x : Consumer). x.dseq) c.self.view_is in
    let low : c.args.self.now.dseq < 2 ^ 62 - 1 = omega arith in
    record { offer = onward_offered (g.W.View.stream c.args.stream.now) c.args.self.now low (sym c.in-None.is ∙ due_told (g.W.View.stream c.args.stream.now) (kept_of c.self.inside.name c.self.inside.made c.self.inside.config c.self.inside.progress c.self.inside.pulls c.self.inside.mark) c.args.self.now c.moment.result c.due.result c.self.view_is c.moment.ensures.value c.due.ensures.value) c.next.result c.next.ensures.among }
