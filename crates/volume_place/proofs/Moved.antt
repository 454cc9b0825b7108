-- The records of what was made are moved to those that waited before: the same waits as before.
use Rattle.std.proofs.Common.{◌≡◌, List, [], Bool, Option, Result, Ok, Err, ℕ, sym, ap, subst, ◌∙◌}
use Rattle.std.specs.Prelude.{OnErr, OnOk}
use Rattle.std.proofs.lemmas.List.{append-nil}
use Rattle.js_base.specs.declared.memory.NoMemory.{NoMemory}
use Rattle.js_model.specs.declared.stream.State.{State}
use Rattle.effects.specs.declared.effect.Effect.{Effect}
use Rattle.place_engine.specs.Following.{followed}
use Rattle.place_records.specs.Records.{effects_in}
use Rattle.place_records.specs.declared.made.Made.{Made}
use Rattle.stream_store.specs.StoreState.{StoreState}
use Rattle.vol_disk.specs.Disk.{Disk}
use Rattle.block_table.specs.Blocks.{Blocks}
use Rattle.volume_place.specs.Rooms.{MayStore}
use Rattle.volume_place.specs.Sound.{IsSoundPlace}

-- they were moved
pub joined : (given : List Effect) (made : Made) (all : List Effect) → given ≡ all → effects_in made ≡ [] → followed given (effects_in made) ≡ all
joined given made all is none = ap (followed given) none ∙ append-nil given ∙ is

-- they were not
pub unmoved : (given old : List Effect) (made before : Made) → given ≡ old → made ≡ before → followed given (effects_in made) ≡ followed old (effects_in before)
unmoved given old made before same made_same = ap (λ (l : List Effect). followed l (effects_in made)) same ∙ ap (λ (m : Made). followed old (effects_in m)) made_same

-- they were moved or not
pub taken : (result : Result Bool NoMemory) (given old : List Effect) (made before : Made) → OnOk result (given ≡ followed old (effects_in before)) → OnOk result (effects_in made ≡ [])
    → OnErr result (given ≡ old) → OnErr result (made ≡ before) → followed given (effects_in made) ≡ followed old (effects_in before)
taken (Ok more) given old made before is none same made_same = joined given made (followed old (effects_in before)) is none
taken (Err fault) given old made before is none same made_same = unmoved given old made before same made_same

module _ (told : Type 0) (disk : Disk) (store : StoreState) (stopped : Option ℕ) (state : State) where
  pub sound_joined : (given : List Effect) (made : Made) (all : List Effect) → given ≡ all → effects_in made ≡ [] → IsSoundPlace told disk store all stopped state
      → IsSoundPlace told disk store (followed given (effects_in made)) stopped state
  sound_joined given made all is none = subst (λ (l : List Effect). IsSoundPlace told disk store l stopped state) (sym (joined given made all is none))

  pub sound_unmoved : (given old : List Effect) (made before : Made) → given ≡ old → made ≡ before → IsSoundPlace told disk store (followed old (effects_in before)) stopped state
      → IsSoundPlace told disk store (followed given (effects_in made)) stopped state
  sound_unmoved given old made before same made_same = subst (λ (l : List Effect). IsSoundPlace told disk store l stopped state) (sym (unmoved given old made before same made_same))

module _ (b : Blocks) (stored : ℕ) (stopped : Option ℕ) where
  pub blocks_joined : (given : List Effect) (made : Made) (all : List Effect) → given ≡ all → effects_in made ≡ [] → MayStore stopped b all stored → MayStore stopped b (followed given (effects_in made)) stored
  blocks_joined given made all is none = subst (λ (l : List Effect). MayStore stopped b l stored) (sym (joined given made all is none))

  pub blocks_unmoved : (given old : List Effect) (made before : Made) → given ≡ old → made ≡ before → MayStore stopped b (followed old (effects_in before)) stored → MayStore stopped b (followed given (effects_in made)) stored
  blocks_unmoved given old made before same made_same = subst (λ (l : List Effect). MayStore stopped b l stored) (sym (unmoved given old made before same made_same))
