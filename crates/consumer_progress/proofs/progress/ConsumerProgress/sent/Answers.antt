use Rattle.std.proofs.Common.{◌+◌, ◌<◌, ◌^◌, length, ap, arith}
use Rattle.std.proofs.lemmas.List.{length-map}
use Rattle.js_model.specs.declared.consumer.Pending.{Pending}
use Rattle.consumer_progress.specs.Sending.{pending_after}
use Rattle.consumer_progress.specs.Progresses.{seqs_of}
use Rattle.consumer_progress.proofs.Sent.{count_most, sent_progress}
use Rattle.consumer_progress.proofs.progress.ConsumerProgress.sent.Goals as goal

pub put_delivery-requires-clause-count : goal.put_delivery-requires-clause-count
put_delivery-requires-clause-count c =
    let i = c.self.inside in
    let dseq : i.dseq + 1 < 2 ^ 64 = rw (← c.self.view_is) at c.requires.dseq in
    omega (arith, dseq, count_most c.args.seq i.dseq i.pending c.self.invariant.counts)

pub invariant_of-self-2 : goal.invariant_of-self-2
invariant_of-self-2 c =
    let i = c.self.inside in
    let fresh = rw (← c.self.view_is) at c.requires.not_given_up in
    let few : length (pending_after c.args.seq c.args.due i.pending) + length (seqs_of i.given_up) < 2 ^ 32 =
    omega (arith, length-map i.given_up (λ (p : Pending). p.seq), ap length c.in_ok-put_delivery.ensures.ok, c.in_ok-put_delivery.ensures.few, c.len.ensures.value) in
    rw (c.in_ok-put_delivery.ensures.ok, c.drop_seq.ensures.seqs, c.max-self-inside.ensures) (sent_progress c.args.seq c.args.due _ fresh few c.self.invariant)
