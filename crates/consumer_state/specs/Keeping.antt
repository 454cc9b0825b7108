-- What holds of a consumer as it is kept, this server's own.
use Rattle.std.specs.Prelude.{◌≡◌, ℕ, ◌<◌, ◌≤◌, ◌^◌, true, false, [], All, length}
use Rattle.js_base.specs.Bytes.{Bytes}
use Rattle.js_model.specs.declared.consumer.Consumer.{Consumer}
use Rattle.js_model.specs.declared.consumer_config.ConsumerConfig.{ConsumerConfig}
use Rattle.js_model.specs.Streams.{is_push, below_limit, over_limit}
use Rattle.consumer_progress.specs.Progresses.{Progress, progress_of, IsProgress}
use Rattle.pull_queue.specs.Queue.{Queue}

-- the consumer of these parts
abbrev pub kept_of : Bytes → ℕ → ConsumerConfig → Progress → Queue → ℕ → Consumer
kept_of name made config progress queue mark = record {
  name = name;
  made = made;
  config = config;
  picks = progress.picks;
  cursor = progress.cursor;
  dseq = progress.dseq;
  pending = progress.pending;
  given_up = progress.given_up;
  waiting = queue.pulls;
  mark = mark;
}

-- each message may be sent once, no delivery that waits was made more often than it may be, a push consumer has no pulls, and the consumer sequence is in its range
pub record IsConsumer (c : Consumer) : Type 0 where
  pub once : below_limit 0 c.config.max_deliver ≡ true
  pub counts : All (λ p. over_limit p.count c.config.max_deliver ≡ false) c.pending
  pub no_pulls : is_push c ≡ true → c.waiting ≡ []
  pub dseq : c.dseq < 2 ^ 62

-- the same of its parts; the queue takes as many pulls as the configuration says
pub record IsKept (name : Bytes) (made : ℕ) (config : ConsumerConfig) (progress : Progress) (queue : Queue) (mark : ℕ) : Type 0 where
  pub consumer : IsConsumer (kept_of name made config progress queue mark)
  pub max_waiting : queue.max_waiting ≡ config.max_waiting

-- a consumer that can be restored: no more pulls wait than may
pub record IsRestorable (c : Consumer) : Type 0 where
  pub consumer : IsConsumer c
  pub progress : IsProgress (progress_of c)
  pub waiting : length c.waiting ≤ c.config.max_waiting
