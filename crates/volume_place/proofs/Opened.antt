-- What a place is opened to on a volume.
use Rattle.std.proofs.Common.{◌≡◌, ◌⊎◌, inl, inr, ◌≤◌, ◌+◌, ℕ, List, [], length, None, refl, sym, ap, subst, ◌∙◌, arith}
use Rattle.js_model.specs.declared.event.What.TheVariants.{Tick}
use Rattle.js_model.specs.declared.stream.State.{State}
use Rattle.effects.specs.declared.durable.Durable.{Durable}
use Rattle.effects.specs.declared.effect.Effect.{Effect}
use Rattle.effects.specs.Durables.{durable_of, state_of}
use Rattle.restore_laws.specs.Restored.{IsRestored}
use Rattle.restore_laws.proofs.Holding.{held_opened, restored}
use Rattle.durable_checks.specs.Storable.{IsFormed, IsOpenable, IsStorable}
use Rattle.vol_disk.specs.Clock.{IsClocked}
use Rattle.vol_disk.specs.Disk.{Disk, Files}
use Rattle.vol_disk.specs.Does.{Rests}
use Rattle.stream_store.specs.Base.{IsBase, LeavesBase}
use Rattle.stream_store.specs.Clearing.{AreCleared}
use Rattle.stream_store.specs.Beginning.{IsOutsideFault}
use Rattle.stream_store.specs.declared.fault.OpenFault.{OpenFault as StoreFault}
use Rattle.stream_store.specs.declared.fault.OpenFault.TheVariants as of_store
use Rattle.place_engine.specs.declared.faults.OpenFault.{OpenFault}
use Rattle.place_engine.specs.declared.faults.OpenFault.TheVariants as of_place
use Rattle.stream_store.specs.Holding.{Holds}
use Rattle.stream_store.specs.Opening.{KeepsHeld as KeepsImages}
use Rattle.stream_store.specs.StoreState.{StoreState}
use Rattle.place_engine.specs.Opening.{HasNoRoom, IsOpened, IsUnopened, KeepsHeld}
use Rattle.volume_place.specs.Images.{clock, holds, left, reads}
use Rattle.volume_place.specs.Opening.{IsOutside, IsRefusal, fault_of, opens}
use Rattle.volume_place.specs.Seeing.{causes_of, outgrows_log, seen_of}
use Rattle.volume_place.specs.Sound.{IsBacked, IsSoundPlace}
use Rattle.volume_place.proofs.Bases.{flushed_base, left_now}
use Rattle.volume_place.proofs.Keeping.{rose_then}
use Rattle.js_base.specs.Causes.{Rose}
use Rattle.js_model.specs.Runs.{messages_of}
use Rattle.block_table.specs.Blocks.{Blocks, blocks}
use Rattle.log_records.specs.Unread.{stored_messages}
use Rattle.stream_store.specs.Placing.{can_place, used_behind}
use Rattle.snapshot_bound.specs.Asking.{event_growth}
use Rattle.snapshot_bound.specs.Bounds.{bound}
use Rattle.snapshot_bound.proofs.Asked.{law_asked}
use Rattle.stream_store.specs.Rooms.{OutgrowsLogs}
use Rattle.stream_store.proofs.Cleared.{held_cleared}
use Rattle.stream_store.proofs.Counting.{law_counting}
use Rattle.stream_store.proofs.Placings.{law_placing}
use Rattle.volume_place.specs.Rooms.{MayStore}

-- a clearing fails by the volume, or for want of memory
pub outside_refused : (image : Files) (fault : StoreFault) (given : OpenFault) → given ≡ fault_of fault → IsOutsideFault fault → IsRefusal image given
outside_refused image of_store.Fault given is outside = subst (IsRefusal image) (sym is) tt
outside_refused image (of_store.Damaged file at) given is outside = absurd outside
outside_refused image (of_store.UnknownVersion version) given is outside = absurd outside
outside_refused image of_store.NoRoom given is outside = absurd outside
outside_refused image of_store.NoMemory given is outside = subst (IsRefusal image) (sym is) tt

-- a place tells each fault of a store in its own way
abbrev pub store_of : OpenFault → StoreFault
store_of of_place.Fault = of_store.Fault
store_of (of_place.Damaged file at) = of_store.Damaged file at
store_of (of_place.UnknownVersion version) = of_store.UnknownVersion version
store_of of_place.NoRoom = of_store.NoRoom
store_of of_place.NoMemory = of_store.NoMemory

told_back : (fault : StoreFault) → store_of (fault_of fault) ≡ fault
told_back of_store.Fault = refl
told_back (of_store.Damaged file at) = refl
told_back (of_store.UnknownVersion version) = refl
told_back of_store.NoRoom = refl
told_back of_store.NoMemory = refl

pub same_fault : (fault : StoreFault) (given other : OpenFault) → given ≡ fault_of fault → given ≡ other → fault ≡ store_of other
same_fault fault given other is so = sym (told_back fault) ∙ ap store_of (sym is ∙ so)

-- a clearing asks for no room
pub outside_room : (fault : StoreFault) (given : OpenFault) → given ≡ fault_of fault → IsOutsideFault fault → given ≡ of_place.NoRoom → ⊥
outside_room fault given is outside none = subst IsOutsideFault (same_fault fault given of_place.NoRoom is none) outside

-- the making of room in the logs fails so, or for want of room
pub reserve_refused : (image : Files) (fault : OpenFault) → IsOutside fault → IsRefusal image fault
reserve_refused image of_place.Fault outside = tt
reserve_refused image (of_place.Damaged file at) outside = absurd outside
reserve_refused image (of_place.UnknownVersion version) outside = absurd outside
reserve_refused image of_place.NoRoom outside = tt
reserve_refused image of_place.NoMemory outside = tt

-- files of messages were not touched any more
pub cleared_rests : (b : Blocks) (old mid new : Disk) → AreCleared b old mid → ((file : ℕ) → 2 ≤ file → Rests file mid new) → AreCleared b old new
cleared_rests b old mid new all rests file could free =
    let is = all file could free in
    let still = rests file could.low in
    record { empty = still.seen ∙ is.empty; durable = λ some bytes left. is.durable some bytes (still.leaves bytes left) ∙ sym still.seen }

-- what is restored has what was read
pub held_here : (d : Durable) → IsFormed d → (state : State) → state ≡ state_of d → durable_of state ≡ d
held_here d formed state same = ap durable_of same ∙ held_opened d formed

-- a call behind the opening of a store leaves its base, and so what each image held
pub images_on : {V : Type 0} (told : Type 0) (disk : V → Disk) (old mid vol : V) (store : StoreState) (d : Durable) → (told → Holds (disk old).seen d) → (told → IsBase store d (disk mid))
    → (told → LeavesBase store (disk mid) (disk vol)) → (told → KeepsImages (disk old) (disk mid)) → told → KeepsImages (disk old) (disk vol)
images_on {V} told disk old mid vol store d found is_base leaves any t = held_cleared store d (disk old) (disk mid) (disk vol) (found t) (any t) (leaves t d (is_base t).of_log)

module _ {V : Type 0} (told : Type 0) (disk : V → Disk) (faults refusals : V → ℕ) (clocked : (vol : V) → IsClocked (disk vol)) (old vol : V)
    (any : told → KeepsImages (disk old) (disk vol)) where
  -- whatever the opening comes to, a crash leaves what each image held
  pub keeps_held : (state : State) → opens told disk old state → KeepsHeld holds (reads told disk) (left told disk) (clock disk) old state (left told disk vol)
  keeps_held state opening all t image le is =
      go is.0 ((any is.0 (durable_of state) (opening is.0).0 (λ other now. (all.now other (left_now told disk old is.0 (clocked old) other now)).0)).before t image le is.1)
    where
      go : told → (disk old).may_leave t image ⊎ Holds image (durable_of state) → left told disk old t image ⊎ holds image state
      go is_told (inl before) = inl (is_told, before)
      go is_told (inr same) = inr (same, (opening is_told).1)

  pub unopened : IsUnopened holds (reads told disk) (left told disk) (clock disk) (opens told disk) old vol
  unopened = keeps_held

  -- what was read
  module _ (d : Durable) (formed : IsFormed d) (storable : IsStorable d) (openable : IsOpenable d) where
    pub restored_of : IsRestored (state_of d)
    restored_of = restored d formed storable openable

    -- it is more than a log can begin with
    pub too_much : (told → Holds (disk old).seen d) → OutgrowsLogs (bound d) → (state : State) × opens told disk old state × outgrows_log state Tick
    too_much found long =
        let read : durable_of (state_of d) ≡ d = held_opened d formed in
        let size : bound (durable_of (state_of d)) ≡ bound d = ap bound read in
        let none : event_growth (state_of d) Tick ≡ 0 = law_asked.unasked (state_of d) Tick refl in (
          state_of d,
          λ t. (subst (λ (e : Durable). Holds (disk old).seen e) (sym read) (found t), restored_of.lasting),
          omega (arith, long, size, none),
        )

    -- the volume refused it, or it is that
    pub lacks_room : (before : ℕ) → refusals old ≤ before → (told → Holds (disk old).seen d) → Rose before (refusals vol) ⊎ OutgrowsLogs (bound d) → HasNoRoom (causes_of refusals) (opens told disk) old vol
    lacks_room before le found (inl rose) = inl (rose_then (refusals old) before (refusals vol) le rose)
    lacks_room before le found (inr long) = inr (too_much found long)

    -- each block but the one being written holds a message
    module _ (b : Blocks) (held : length (blocks b) ≤ length (stored_messages d) + 1) (state : State) (same : state ≡ state_of d) (waiting : List Effect) (none : waiting ≡ [])
        (stored : ℕ) (counted : stored ≡ length (messages_of state)) where
      pub opened_blocks : MayStore None b waiting stored
      opened_blocks = record {
        placed = ap (can_place b) none ∙ law_placing.none b;
        few = λ few.
            let used : used_behind b waiting ≡ length (blocks b) = ap (used_behind b) none ∙ law_counting.none b in
            let count : stored ≡ length (stored_messages d) = counted ∙ ap (λ (s : State). length (messages_of s)) same in
            omega (arith, used, count, held);
      }

    module _ (store : StoreState) (state : State) (same : state ≡ state_of d) (waiting : List Effect) (none : waiting ≡ [])
        (found : told → Holds (disk old).seen d) (base : told → IsBase store d (disk vol)) where
      kept : IsRestored state
      kept = subst IsRestored (sym same) restored_of

      read_here : durable_of state ≡ d
      read_here = held_here d formed state same

      backs : told → IsBacked (disk vol) store waiting state
      backs t = subst (λ (l : List Effect). IsBacked (disk vol) store l state) (sym none) (record {
        base = state;
        all_lasts = kept.lasting;
        is_base = subst (λ (e : Durable). IsBase store e (disk vol)) (sym read_here) (base t);
        waits = refl;
      })

      pub opened_sound : IsSoundPlace told (disk vol) store waiting None state
      opened_sound = subst (λ (l : List Effect). IsSoundPlace told (disk vol) store l None state) (sym none)
          (record {
            sound = kept.sound;
            bounded = kept.bounded;
            writable = kept.writable;
            restorable = kept.restorable;
            records = refl;
            on_disk = λ t. subst (λ (l : List Effect). IsBacked (disk vol) store l state) none (backs t);
          })

      opening : opens told disk old state
      opening t = (subst (λ (e : Durable). Holds (disk old).seen e) (sym read_here) (found t), kept.lasting)

      pub opened_of : (stored fixed : ℕ) → stored ≡ length (messages_of state) → IsOpened holds (reads told disk) (left told disk) (clock disk) (opens told disk) old
          (seen_of told disk faults refusals (record { state = state; store = store; vol = vol; waiting = waiting; since = None; stored = stored; stopped = None; fixed = fixed }))
      opened_of stored fixed counted = record {
        going = refl;
        state = opening;
        all_lasts = kept.lasting;
        flushed = record { base = λ b on. flushed_base (disk vol) store waiting state (backs on.0) none b on.1; waiting = none };
        sound = kept.sound;
        bounded = kept.bounded;
        writable = kept.writable;
        counted = omega (arith, counted);
        earlier = keeps_held state opening;
      }
