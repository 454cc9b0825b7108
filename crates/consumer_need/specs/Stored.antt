-- What a consumer holds is there in its stream, this server's own: its picks, its deliveries that wait, and those given up.
use Rattle.std.specs.Prelude.{◌≡◌, true, All}
use Rattle.js_base.specs.Bytes.{has}
use Rattle.js_model.specs.declared.stream.Stream.{Stream}
use Rattle.js_model.specs.declared.consumer.Consumer.{Consumer}
use Rattle.js_model.specs.Streams.{seqs}

pub record HoldsStored (s : Stream) (c : Consumer) : Type 0 where
  pub picks : All (λ n. has (seqs s.messages) n ≡ true) c.picks
  pub pending : All (λ p. has (seqs s.messages) p.seq ≡ true) c.pending
  pub given_up : All (λ n. has (seqs s.messages) n ≡ true) c.given_up
