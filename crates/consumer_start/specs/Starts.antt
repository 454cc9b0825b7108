-- Where a new consumer begins, by JetStream's deliver policies. That at most 65,536 sequences are picked out is this server's own.
use Rattle.std.specs.Prelude.{◌≡◌, ℕ, ◌<◌, ◌≤◌, List, Option, None, Some, All, length, true}
use Rattle.js_base.specs.Bytes.{has}
use Rattle.js_model.specs.declared.stream.Stream.{Stream}
use Rattle.js_model.specs.declared.consumer_config.ConsumerConfig.{ConsumerConfig}
use Rattle.js_model.specs.Lists.{Between}
use Rattle.js_model.specs.Start.{picks_at, cursor_at}
use Rattle.js_model.specs.Streams.{seqs}
use Rattle.consumer_start.specs.declared.starting.Start.{Start}

-- all picks and not too many, or there are too many
abbrev pub ArePicksAt : Stream → ConsumerConfig → Option (List ℕ) → Type 0
ArePicksAt s config None = 65536 < length (picks_at config.deliver_policy config.filter_subject s)
ArePicksAt s config (Some picks) = (picks ≡ picks_at config.deliver_policy config.filter_subject s) × (length picks ≤ 65536)

-- the picks, not too many, which are stored and ascend below the cursor, and the cursor
pub record IsStart (s : Stream) (config : ConsumerConfig) (picks : List ℕ) (cursor : ℕ) : Type 0 where
  pub picks_are : picks ≡ picks_at config.deliver_policy config.filter_subject s
  pub cursor_is : cursor ≡ cursor_at config.deliver_policy config.filter_subject s
  pub ascends : Between (λ n. n) 0 cursor picks
  pub few : length picks ≤ 65536
  pub stored : All (λ n. has (seqs s.messages) n ≡ true) picks

abbrev pub IsStartOf : Stream → ConsumerConfig → Option Start → Type 0
IsStartOf s config None = 65536 < length (picks_at config.deliver_policy config.filter_subject s)
IsStartOf s config (Some start) = IsStart s config start.picks start.cursor
