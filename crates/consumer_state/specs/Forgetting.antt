-- What a consumer keeps if a message is gone, by JetStream's limits and purges.
use Rattle.std.specs.Prelude.{ℕ, ◌==◌, not, filter}
use Rattle.js_model.specs.declared.consumer.Consumer.{Consumer}

abbrev pub forgotten : ℕ → Consumer → Consumer
forgotten seq c = record c {
  picks = filter (λ n. not (n == seq)) c.picks;
  pending = filter (λ p. not (p.seq == seq)) c.pending;
  given_up = filter (λ n. not (n == seq)) c.given_up;
}
