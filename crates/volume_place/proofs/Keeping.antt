-- Room that is made in the logs for what was read.
use Rattle.std.proofs.Common.{◌≡◌, ◌≤◌, ◌⊎◌, inl, inr, ℕ, ◌+◌, ◌^◌, not, Bool, true, false, Option, None, Some, Result, refl, sym, ap, subst, ◌∙◌, arith}
use Rattle.std.specs.Prelude.{is_some, nat_lt}
use Rattle.std.proofs.lemmas.Bool.{ltb-false, ltb-true, true≢false}
use Rattle.js_base.specs.Causes.{HasCause, Rose}
use Rattle.effects.specs.declared.durable.Body.{Body}
use Rattle.effects.specs.declared.durable.Durable.{Durable}
use Rattle.vol_disk.specs.Clock.{IsClocked}
use Rattle.vol_disk.specs.Disk.{Disk}
use Rattle.vol_disk.proofs.Moments.{started}
use Rattle.snapshot_bound.specs.Bounds.{bound, capped, fixed as fixed_in}
use Rattle.stream_store.specs.Base.{LeavesBase}
use Rattle.stream_store.specs.Holding.{Holds}
use Rattle.stream_store.specs.Rooms.{AreReserved, OutgrowsLogs, is_reserved, spare}
use Rattle.stream_store.specs.StoreState.{StoreState}
use Rattle.stream_store.specs.declared.rooms.Rooms.{Rooms}
use Rattle.volume_place.specs.Reserve.{KeepsReserveOf}

-- no call was made
pub leaves_still : (store : StoreState) (disk : Disk) → IsClocked disk → LeavesBase store disk disk
leaves_still store disk clocked b of_log = started disk (λ image. Holds image b) clocked of_log.images

-- ---- why there is none

-- a count of refusals that rose in a later call
pub rose_then : (a b c : ℕ) → a ≤ b → Rose b c → Rose a c
rose_then a b c le rose = omega (arith, rose, le)

-- the volume refused it, or no log is made so long
pub rose_or_long : {T E : Type 0} (result : Result T E) (answer : Result T E) (count a b : ℕ) → (¬ OutgrowsLogs count → HasCause a b (result ≡ answer)) → result ≡ answer → Rose a b ⊎ OutgrowsLogs count
rose_or_long {T} {E} result answer count a b told is = go (nat_lt (2 ^ 31) (count + spare)) refl
  where
    go : (c : Bool) → nat_lt (2 ^ 31) (count + spare) ≡ c → Rose a b ⊎ OutgrowsLogs count
    go true long = inr (ltb-true (2 ^ 31) (count + spare) long)
    go false short =
        let le = ltb-false (2 ^ 31) (count + spare) short in
        inl ((told (λ long. omega (arith, le, long))).failed is)

-- ---- what was read

pub bound_exact : (d : Durable) (count : ℕ) → count ≡ capped (bound d) → count + spare ≤ 2 ^ 31 → count ≡ bound d
bound_exact d count is small = omega (arith, is, small)

pub fixed_exact : (d : Durable) (count part : ℕ) → count ≡ capped (bound d) → count + spare ≤ 2 ^ 31 → part ≡ capped (fixed_in d) → (part ≡ fixed_in d) × (part ≤ 2 ^ 31)
fixed_exact d count part is small part_is = (omega (arith, is, small, part_is), omega (arith, is, small, part_is))

pub long_read : (d : Durable) (count : ℕ) → count ≡ capped (bound d) → OutgrowsLogs count → OutgrowsLogs (bound d)
long_read d count is long = omega (arith, is, long)

pub lacks_read : (d : Durable) (count a b : ℕ) → count ≡ capped (bound d) → Rose a b ⊎ OutgrowsLogs count → Rose a b ⊎ OutgrowsLogs (bound d)
lacks_read d count a b is (inl rose) = inl rose
lacks_read d count a b is (inr long) = inr (long_read d count is long)

pub reserved_read : (rooms : Rooms) (d : Durable) (count : ℕ) (so : Bool) → so ≡ is_reserved rooms count → so ≡ true → count ≡ bound d → KeepsReserveOf rooms d
reserved_read rooms d count so is kept exact = inr (subst (AreReserved rooms) exact (sym is ∙ kept))

pub none_read : (d : Durable) (b : Bool) → is_some d.body ≡ not b → b ≡ true → d.body ≡ None
none_read d b told none = go d.body (told ∙ ap not none)
  where
    go : (o : Option Body) → is_some o ≡ false → o ≡ None
    go None h = refl
    go (Some x) h = absurd (true≢false h)

pub none_fixed : (d : Durable) → d.body ≡ None → fixed_in d ≡ 0
none_fixed d none = subst (λ (o : Option Body). fixed_in (record d { body = o }) ≡ 0) (sym none) refl
