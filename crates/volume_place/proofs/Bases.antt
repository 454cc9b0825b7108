-- The base of a place that goes on is what its disk holds.
use Rattle.std.proofs.Common.{◌≡◌, List, [], Some, sym, ap, subst, ◌∙◌}
use Rattle.std.proofs.Math.Nat.{le_refl}
use Rattle.js_model.specs.declared.stream.State.{State}
use Rattle.js_model.specs.Lasting.{lasting}
use Rattle.effects.specs.Durables.{durable_of, state_of}
use Rattle.effects.specs.Folding.{fold_all}
use Rattle.effects.specs.Laws.{Leads}
use Rattle.effects.specs.declared.effect.Effect.{Effect}
use Rattle.effects.specs.declared.durable.Durable.{Durable}
use Rattle.restore_laws.proofs.Holding.{held, opened}
use Rattle.vol_disk.specs.Clock.{IsClocked}
use Rattle.vol_disk.specs.Disk.{Disk}
use Rattle.vol_disk.specs.Images.{IsImage}
use Rattle.stream_store.specs.StoreState.{StoreState}
use Rattle.stream_store.specs.Waiting.{Waits}
use Rattle.place_engine.specs.Stepping.{Image}
use Rattle.volume_place.specs.Images.{clock, holds, left}
use Rattle.volume_place.specs.Laws.{only_held}
use Rattle.volume_place.specs.Sound.{IsBacked}

-- what outlives a crash of what does is that
pub lasts_twice : (s : State) → lasting (lasting s) ≡ lasting s
lasts_twice s = sym (opened (lasting s)) ∙ ap state_of (held s) ∙ opened s

-- states of which a volume holds the same
pub same_held : (a b : State) → durable_of a ≡ durable_of b → lasting a ≡ lasting b
same_held a b e = sym (opened a) ∙ ap state_of e ∙ opened b

-- what leads to a state leads to what outlives a crash of it
pub leads_lasting : (b state : State) (waiting : List Effect) → Waits (durable_of b) waiting state → Leads b waiting (lasting state)
leads_lasting b state waiting waits = waits ∙ ap (λ (d : Durable). Some d) (sym (held state))

-- what a crash now may leave
pub left_now : {V : Type 0} (told : Type 0) (disk : V → Disk) (vol : V) → told → IsClocked (disk vol) → (image : Image) → IsImage (disk vol) image → left told disk vol (clock disk vol) image
left_now told disk vol t clocked image is = (t, clocked.counts_now (disk vol).moment image (le_refl (disk vol).moment) is)

module _ (disk : Disk) (store : StoreState) (waiting : List Effect) (state : State) (k : IsBacked disk store waiting state) where
  -- what reads give holds it
  pub read_base : holds disk.seen k.base
  read_base = ((store.blocks, k.is_base.of_log.holds), k.all_lasts)

  -- and so does each image that a crash now may leave
  pub left_base : (image : Image) → IsImage disk image → holds image k.base
  left_base image is = (k.is_base.of_log.images image is, k.all_lasts)

  pub only_base : (b : State) → holds disk.seen b → b ≡ k.base
  only_base b h = only_held disk.seen b k.base h read_base

  pub leads_on : (b : State) → holds disk.seen b → Leads b waiting (lasting state)
  leads_on b h = ap (λ (s : State). fold_all waiting (Some (durable_of s))) (only_base b h) ∙ leads_lasting k.base state waiting k.waits

  -- where nothing waits, it is what outlives a crash of what stands
  base_stands : waiting ≡ [] → k.base ≡ lasting state
  base_stands none =
      let e : Some (durable_of k.base) ≡ Some (durable_of state) = subst (λ (l : List Effect). fold_all l (Some (durable_of k.base)) ≡ Some (durable_of state)) none k.waits in
      let same : durable_of k.base ≡ durable_of state = cc in
      sym k.all_lasts ∙ same_held k.base state same

  pub flushed_base : waiting ≡ [] → (b : State) → holds disk.seen b → b ≡ lasting state
  flushed_base none b h = only_base b h ∙ base_stands none
