-- Parts of what is asked of a stream, as it is asked.
use Rattle.std.specs.Prelude.{◌≡◌, ℕ, Bool, true, ◌&&◌, List}
use Rattle.std.specs.List.{list_all}
use Rattle.js_base.specs.Bytes.{has}
use Rattle.js_model.specs.declared.consumer.Consumer.{Consumer}
use Rattle.js_model.specs.Configs.{is_number}
use Rattle.js_model.specs.Streams.{pending_seqs}
use Rattle.model_laws.specs.SoundTests.{are_between, are_apart, are_ascending, are_allowed}
use Rattle.effects.specs.declared.durable.Body.{Body}

abbrev pub are_numbers : ℕ → Body → Bool
are_numbers incarnation b = is_number incarnation && is_number b.made && is_number b.last && is_number b.moment

-- the sequences ascend, whatever is above them
abbrev pub Ascend : List ℕ → Type 0
Ascend ns = (end : ℕ) × (are_between (λ n. n) 1 end ns ≡ true)

-- the sequences of a consumer ascend
pub record AreAscending (c : Consumer) : Type 0 where
  pub last : ℕ
  pub ascending : are_ascending last c ≡ true

-- beside these stored sequences they are stored, and stand once
abbrev pub are_placed_in : List ℕ → Consumer → Bool
are_placed_in stored c =
    list_all (has stored) c.picks && list_all (has stored) (pending_seqs c) && list_all (has stored) c.given_up
    && are_apart c.picks (pending_seqs c) && are_apart c.picks c.given_up && are_apart (pending_seqs c) c.given_up

-- what a consumer holds is sound beside these stored sequences
abbrev pub is_sound_in : List ℕ → ℕ → Consumer → Bool
is_sound_in stored last c = are_ascending last c && are_placed_in stored c && are_allowed c
