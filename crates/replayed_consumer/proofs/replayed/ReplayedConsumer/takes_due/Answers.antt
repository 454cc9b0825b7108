use Rattle.std.proofs.Common.{sym, ◌∙◌}
use Rattle.consumer_progress.proofs.Seqs.{any_seq}
use Rattle.replayed_consumer.proofs.replayed.ReplayedConsumer.takes_due.Goals as goal

pub returns : goal.returns
returns c = record { value = rw (← c.self.view_is) (c.has_seq.ensures.value ∙ sym (any_seq c.args.seq c.self.inside.pending)) }
