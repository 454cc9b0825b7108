-- A stream's messages as they are stored, this server's own: under their sequences, with the sum of their sizes.
use Rattle.std.specs.Prelude.{◌≡◌, ℕ, ◌^◌, ◌<◌, ◌≤◌, List, All, length, sum_by}
use Rattle.std.specs.List.{AllByRecursion}
use Rattle.std.specs.List.Sorted.{IsStrictlySortedBy}
use Rattle.std.specs.Map.{keys_of, values_of}
use Rattle.std.specs.Ordering.{nat_cmp}
use Rattle.js_model.specs.declared.stream.Message.{Message}
use Rattle.js_model.specs.Streams.{size}

-- as large as a message may be
abbrev pub IsSmall : Message → Type 0
IsSmall m = size m ≤ 2 ^ 21

-- each message is under its sequence
abbrev pub AreNumbered : List (ℕ × Message) → Type 0
AreNumbered entries = AllByRecursion (λ e. e.0 ≡ e.1.seq) entries

-- fewer than 2 ^ 32 messages in the order of their sequences, and the sum of their sizes
pub record AreStored (entries : List (ℕ × Message)) (bytes : ℕ) : Type 0 where
  pub ordered : IsStrictlySortedBy nat_cmp (keys_of entries)
  pub numbered : AreNumbered entries
  pub few : length entries < 2 ^ 32
  pub small : All IsSmall (values_of entries)
  pub sum : bytes ≡ sum_by size (values_of entries)
