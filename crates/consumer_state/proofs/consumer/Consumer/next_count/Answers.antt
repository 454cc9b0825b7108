use Rattle.std.proofs.Common.{◌≡◌, ◌<◌, ◌≤◌, ◌^◌, ap, ◌∙◌, arith}
use Rattle.js_model.specs.declared.consumer.Consumer.{Consumer}
use Rattle.consumer_progress.specs.Sending.{count_in}
use Rattle.consumer_state.proofs.Steps.{count_small}
use Rattle.consumer_state.proofs.consumer.Consumer.next_count.Goals as goal

pub overflow_add-result : goal.overflow_add-result
overflow_add-result c =
    let small : count_in c.args.self.now.pending c.args.seq ≤ c.args.self.now.dseq = count_small c.args.self.now.dseq c.args.seq c.args.self.now.pending c.holds.ensures.progress.counts in
    let dseq : c.args.self.now.dseq < 2 ^ 62 = c.holds.ensures.consumer.dseq in
    let count : c.count_of.result ≡ count_in c.args.self.now.pending c.args.seq = c.count_of.ensures.value ∙ ap (λ (x : Consumer). count_in x.pending c.args.seq) c.self.view_is in
    omega arith
