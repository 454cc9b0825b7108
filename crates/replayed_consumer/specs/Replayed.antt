-- A consumer as the records of a log have made it, by rules of this server's own.
use Rattle.std.specs.Prelude.{◌≡◌, ℕ, ◌+◌, ◌≤◌, List, [], length}
use Rattle.js_base.specs.Bytes.{Bytes}
use Rattle.js_model.specs.declared.consumer_config.ConsumerConfig.{ConsumerConfig}
use Rattle.js_model.specs.declared.consumer.Pending.{Pending}
use Rattle.js_model.specs.declared.consumer.Consumer.{Consumer}
use Rattle.consumer_progress.specs.Progresses.{progress_of, seqs_of, IsProgress}

-- what the tables of a consumer show; records tell of no pulls
abbrev pub shown : (name : Bytes) (made : ℕ) (config : ConsumerConfig) (cursor dseq : ℕ) (picks pending given_up : List Pending) → Consumer
shown name made config cursor dseq picks pending given_up = record {
  name = name;
  made = made;
  config = config;
  picks = seqs_of picks;
  cursor = cursor;
  dseq = dseq;
  pending = pending;
  given_up = seqs_of given_up;
  waiting = [];
  mark = made;
}

-- its sequences ascend below its cursor and stand once, those that were delivered are few, no pull waits, and its mark is the moment of its making
pub record IsReplayable (c : Consumer) : Type 0 where
  pub progress : IsProgress (progress_of c)
  pub few : length c.pending + length c.given_up ≤ 131072
  pub waiting : c.waiting ≡ []
  pub mark : c.mark ≡ c.made
