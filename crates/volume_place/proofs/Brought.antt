-- What it comes to that all that waits is committed.
use Rattle.std.proofs.Common.{◌≡◌, ◌≤◌, ◌-◌, ◌^◌, ◌⊎◌, inl, inr, ℕ, List, [], length, Option, Some, None, refl, sym, ap, subst, ◌∙◌, arith}
use Rattle.std.specs.Prelude.{IsTrue, unwrap_or}
use Rattle.std.specs.List.{list_all}
use Rattle.std.proofs.Math.Nat.{le_refl}
use Rattle.js_base.specs.Causes.{Rose}
use Rattle.js_model.specs.declared.stream.State.{State}
use Rattle.js_model.specs.Lasting.{lasting}
use Rattle.js_model.specs.PlaceStates.{VolumeAt}
use Rattle.effects.specs.declared.durable.Durable.{Durable}
use Rattle.effects.specs.declared.effect.Effect.{Effect}
use Rattle.effects.specs.Durables.{durable_of}
use Rattle.effects.specs.Folding.{fold_all}
use Rattle.restore_laws.proofs.Holding.{held, openable, storable}
use Rattle.op_records.specs.Allowed.{is_record}
use Rattle.vol_disk.specs.Clock.{IsClocked}
use Rattle.vol_disk.specs.Disk.{Disk}
use Rattle.vol_disk.specs.Images.{IsImage}
use Rattle.stream_store.specs.Base.{IsBase}
use Rattle.stream_store.specs.Committing.{CommitsOrNot, IsCommitted, IsNextBatch}
use Rattle.stream_store.specs.Holding.{Holds}
use Rattle.durable_checks.specs.Storable.{IsFormed, IsStorable}
use Rattle.stream_store.specs.StoreState.{StoreState}
use Rattle.stream_store.specs.Waiting.{Waits}
use Rattle.place_engine.specs.Flushing.{FailsFlush, Flushed, Unflushed, WearsFlush}
use Rattle.place_engine.specs.Stepping.{Elapses, Image, LeavesVolume}
use Rattle.volume_place.specs.Contents.{Contents}
use Rattle.volume_place.specs.Images.{IsLeftNow, base, holds, left}
use Rattle.volume_place.specs.Laws.{only_held}
use Rattle.volume_place.specs.Seeing.{seen_of}
use Rattle.volume_place.specs.Sound.{IsBacked, IsLeftByBoth, IsOnDisk, IsSoundPlace}
use Rattle.volume_place.proofs.Formed.{formed}
use Rattle.volume_place.proofs.Bases.{flushed_base, lasts_twice, read_base}
use Rattle.block_table.specs.Blocks.{Blocks, blocks}
use Rattle.stream_store.specs.Placing.{can_place, used_behind}
use Rattle.stream_store.proofs.Counting.{law_counting}
use Rattle.stream_store.proofs.Placings.{law_placing}
use Rattle.volume_place.specs.Rooms.{MayStore}
use Rattle.volume_place.proofs.Storing.{has_blocks, may_store}

-- Of a place that goes on.
module _ {V : Type 0} (told : Type 0) (disk : V → Disk) (faults refusals : V → ℕ) (clocked : (vol : V) → IsClocked (disk vol)) (x : Contents V) (going : x.stopped ≡ None)
    (h : IsSoundPlace told (disk x.vol) x.store x.waiting x.stopped x.state) where
  abbrev Backed : Type 0
  Backed = IsBacked (disk x.vol) x.store x.waiting x.state

  pub backed : told → Backed
  backed t = subst (λ (o : Option ℕ). IsOnDisk o (disk x.vol) x.store x.waiting x.state) going (h.on_disk t)

  -- what reads give is its base
  pub on_base : (t : told) → base told disk x.stopped x.vol (backed t).base
  on_base t = subst (λ (o : Option ℕ). base told disk o x.vol (backed t).base) (sym going) (t, read_base (disk x.vol) x.store x.waiting x.state (backed t))

  off_base : (o : Option ℕ) (b : State) → o ≡ None → base told disk o x.vol b → told × holds (disk x.vol).seen b
  off_base o b goes is = subst (λ (p : Option ℕ). base told disk p x.vol b) goes is

  -- ---- nothing is written

  -- nothing waits
  pub brings_none : (waiting : List Effect) → x.waiting ≡ [] → waiting ≡ [] → Flushed (seen_of told disk faults refusals x) (seen_of told disk faults refusals (record x { waiting = waiting }))
  brings_none waiting none same = record {
    keeps = record { going = going; state = refl; stored = refl };
    goes = going;
    flushed = record {
      base = λ b is. let on = off_base x.stopped b going is in flushed_base (disk x.vol) x.store x.waiting x.state (backed on.0) none b on.1;
      waiting = same;
    };
  }

  -- where the volume stands, by its log
  volume_at : V → StoreState → VolumeAt
  volume_at vol store = record { faults = faults vol; refusals = refusals vol; moment = (disk vol).moment; generation = unwrap_or store.log.head 0 }

  leaves : (n : Contents V) → n.vol ≡ x.vol → n.store ≡ x.store → LeavesVolume (seen_of told disk faults refusals x) (seen_of told disk faults refusals n)
  leaves n same same_store = record {
    volume = ap (λ (v : V). record { faults = faults v; refusals = refusals v; moment = (disk v).moment; generation = unwrap_or n.store.log.head 0 }) same
        ∙ ap (λ (s : StoreState). record { faults = faults x.vol; refusals = refusals x.vol; moment = (disk x.vol).moment; generation = unwrap_or s.log.head 0 }) same_store;
    images = λ t image is. subst (λ (v : V). left told disk v t image) same is;
  }

  -- memory ran out
  pub unbrought : (store : StoreState) (vol : V) (waiting : List Effect) → store ≡ x.store → vol ≡ x.vol → waiting ≡ x.waiting
      → Unflushed (seen_of told disk faults refusals x) (seen_of told disk faults refusals (record { state = x.state; store = store; vol = vol; waiting = waiting; since = x.since; stored = x.stored; stopped = x.stopped; fixed = x.fixed }))
  unbrought store vol waiting same_store same waits = record {
    going = going;
    rests = record {
      state = refl;
      stored = refl;
      stopped = refl;
      base = λ b is. subst (λ (v : V). base told disk x.stopped v b) same is;
      waiting = waits;
      outs = refl;
    };
    volume = leaves (record { state = x.state; store = store; vol = vol; waiting = waiting; since = x.since; stored = x.stored; stopped = x.stopped; fixed = x.fixed }) same same_store;
  }

  -- the numbers of generations are used up
  pub wears : (store : StoreState) (vol : V) (waiting : List Effect) → store ≡ x.store → vol ≡ x.vol → waiting ≡ x.waiting → x.store.log.head ≡ Some (2 ^ 62 - 1)
      → WearsFlush (seen_of told disk faults refusals x) (seen_of told disk faults refusals (record { state = x.state; store = store; vol = vol; waiting = waiting; since = x.since; stored = x.stored; stopped = x.stopped; fixed = x.fixed }))
  wears store vol waiting same_store same waits last = record {
    unflushed = unbrought store vol waiting same_store same waits;
    last = ap (λ (s : StoreState). unwrap_or s.log.head 0) same_store ∙ ap (λ (o : Option ℕ). unwrap_or o 0) last;
  }

  pub unbrought_sound : (store : StoreState) (vol : V) (waiting : List Effect) → store ≡ x.store → vol ≡ x.vol → waiting ≡ x.waiting
      → IsSoundPlace told (disk vol) store waiting x.stopped x.state
  unbrought_sound store vol waiting same_store same waits =
      subst (λ (v : V). IsSoundPlace told (disk v) store waiting x.stopped x.state) (sym same)
      (subst (λ (s : StoreState). IsSoundPlace told (disk x.vol) s waiting x.stopped x.state) (sym same_store)
      (subst (λ (l : List Effect). IsSoundPlace told (disk x.vol) x.store l x.stopped x.state) (sym waits) h))

  -- no time passed for the volume
  pub stands_still : (waiting : List Effect) → Elapses holds (seen_of told disk faults refusals x) (seen_of told disk faults refusals (record x { waiting = waiting }))
  stands_still waiting = record {
    faults = le_refl (faults x.vol);
    refusals = le_refl (refusals x.vol);
    moments = le_refl (disk x.vol).moment;
    generations = le_refl (unwrap_or x.store.log.head 0);
    goes_on = λ t image le is. inl is;
  }

  -- ---- what is committed

  -- it may be the first of a log
  pub formed_of : IsFormed (durable_of x.state)
  formed_of = formed x.state h.sound h.writable

  pub storable_of : IsStorable (durable_of x.state)
  storable_of = storable x.state h.sound h.bounded

  module _ (effects : List Effect) (are : effects ≡ x.waiting) where
    next_of : (k : Backed) → IsNextBatch (durable_of k.base) effects (durable_of x.state)
    next_of k = record {
      folded = ap (λ (l : List Effect). fold_all l (Some (durable_of k.base))) are ∙ k.waits;
      storable = storable x.state h.sound h.bounded;
      openable = openable x.state h.sound h.restorable;
    }

    -- a commit may be made, to what outlives a crash of what stands
    pub fits : (t : told) → (base : Durable) × IsBase x.store base (disk x.vol) × IsNextBatch base effects (durable_of x.state)
    fits t = let k = backed t in (durable_of k.base, k.is_base, next_of k)

    pub records_of : IsTrue (list_all is_record effects)
    records_of = ap (list_all is_record) are ∙ h.records

    -- of what stands the volume holds what outlives a crash
    holds_next : (image : Image) → Holds image (durable_of x.state) → holds image (lasting x.state)
    holds_next image k = (subst (λ (d : Durable). Holds image d) (sym (held x.state)) k, lasts_twice x.state)

    -- a commit was tried, by which the volume came to this
    module _ (vol : V) (later : (disk x.vol).moment ≤ (disk vol).moment) (any : told → CommitsOrNot x.store effects (disk x.vol) (disk vol)) where
      abbrev OneOfBoth : told → Image → Type 0
      OneOfBoth t image = holds image (backed t).base ⊎ holds image (lasting x.state)

      either : (t : told) (image : Image) → Holds image (durable_of (backed t).base) ⊎ Holds image (durable_of x.state) → OneOfBoth t image
      either t image (inl before) = inl (before, (backed t).all_lasts)
      either t image (inr next) = inr (holds_next image next)

      -- what a crash now may leave
      one_of_both : (t : told) (image : Image) → IsImage (disk vol) image → OneOfBoth t image
      one_of_both t image is =
          let k = backed t in
          either t image (((any t) (durable_of k.base) (durable_of x.state) k.is_base (next_of k)).each image ((clocked vol).counts_now (disk x.vol).moment image later is))

      both : told → IsLeftByBoth (disk vol) x.waiting x.state
      both t image is = go (one_of_both t image is)
        where
          go : OneOfBoth t image → (b : State) × holds image b × (Waits (durable_of b) x.waiting x.state ⊎ (b ≡ lasting x.state))
          go (inl before) = ((backed t).base, before, inl (backed t).waits)
          go (inr after) = (lasting x.state, after, inr refl)

      pub stopped_sound : (store : StoreState) (waiting : List Effect) (count : ℕ) → waiting ≡ x.waiting → IsSoundPlace told (disk vol) store waiting (Some count) x.state
      stopped_sound store waiting count same = subst (λ (l : List Effect). IsSoundPlace told (disk vol) store l (Some count) x.state) (sym same)
          (record { sound = h.sound; bounded = h.bounded; writable = h.writable; restorable = h.restorable; records = h.records; on_disk = both })

      pub time_goes_on : (n : Contents V) → n.vol ≡ vol → n.state ≡ x.state → unwrap_or x.store.log.head 0 ≤ unwrap_or n.store.log.head 0 → faults x.vol ≤ faults vol → refusals x.vol ≤ refusals vol
          → Elapses holds (seen_of told disk faults refusals x) (seen_of told disk faults refusals n)
      time_goes_on n volume state generations rises refused = record {
        faults = subst (λ (v : V). faults x.vol ≤ faults v) (sym volume) rises;
        refusals = subst (λ (v : V). refusals x.vol ≤ refusals v) (sym volume) refused;
        moments = subst (λ (v : V). (disk x.vol).moment ≤ (disk v).moment) (sym volume) later;
        generations = generations;
        goes_on = λ t image le is.
            let k = backed is.0 in
            go t image is.0 ((any is.0 (durable_of k.base) (durable_of x.state) k.is_base (next_of k)).before t image le (subst (λ (v : V). (disk v).may_leave t image) volume is.1));
      }
        where
          go : (t : ℕ) (image : Image) (is_told : told) → (disk x.vol).may_leave t image ⊎ (Holds image (durable_of (backed is_told).base) ⊎ Holds image (durable_of x.state))
              → left told disk x.vol t image ⊎ ((d : State) × holds image d × (base told disk x.stopped x.vol d ⊎ (d ≡ lasting n.state)))
          go t image is_told (inl before) = inl (is_told, before)
          go t image is_told (inr (inl before)) = inr ((backed is_told).base, (before, (backed is_told).all_lasts), inl (on_base is_told))
          go t image is_told (inr (inr next)) = inr (lasting x.state, holds_next image next, inr (ap lasting (sym state)))

      -- a base of the place that is stopped is one from before, or what the commit made of it
      may_keep : (b : State) → IsLeftNow told disk vol b → base told disk x.stopped x.vol b ⊎ (b ≡ lasting x.state)
      may_keep b on = go on.is_left.0 (one_of_both on.is_left.0 on.image ((clocked vol).only_now on.image on.is_left.1))
        where
          go : (t : told) → OneOfBoth t on.image → base told disk x.stopped x.vol b ⊎ (b ≡ lasting x.state)
          go t (inl before) = inl (subst (base told disk x.stopped x.vol) (only_held on.image (backed t).base b before on.held) (on_base t))
          go t (inr next) = inr (only_held on.image b (lasting x.state) on.held next)

      pub fails : (store : StoreState) (waiting : List Effect) (count : ℕ) → count ≡ faults vol → Rose (faults x.vol) (faults vol)
          → FailsFlush (seen_of told disk faults refusals x) (seen_of told disk faults refusals (record { state = x.state; store = store; vol = vol; waiting = waiting; since = x.since; stored = x.stored; stopped = Some count; fixed = x.fixed }))
      fails store waiting count is rose = record {
        keeps = record { going = going; state = refl; stored = refl };
        stops = ap (λ (n : ℕ). Some n) is;
        cause = rose;
        base = may_keep;
      }

    -- it was committed
    module _ (vol : V) (store : StoreState) (committed : told → IsCommitted x.store store effects (disk x.vol) (disk vol)) where
      backs : told → IsBacked (disk vol) store [] x.state
      backs t =
          let k = backed t in
          record {
            base = lasting x.state;
            all_lasts = lasts_twice x.state;
            is_base = subst (λ (d : Durable). IsBase store d (disk vol)) (sym (held x.state)) (committed t (durable_of k.base) (durable_of x.state) k.is_base (next_of k));
            waits = ap (λ (d : Durable). Some d) (held x.state);
          }

      pub brings : (waiting : List Effect) → waiting ≡ []
          → Flushed (seen_of told disk faults refusals x) (seen_of told disk faults refusals (record { state = x.state; store = store; vol = vol; waiting = waiting; since = x.since; stored = x.stored; stopped = x.stopped; fixed = x.fixed }))
      brings waiting none = record {
        keeps = record { going = going; state = refl; stored = refl };
        goes = going;
        flushed = record { base = λ b is. flushes b (subst (λ (p : Option ℕ). base told disk p vol b) going is); waiting = none };
      }
        where
          flushes : (b : State) → told × holds (disk vol).seen b → b ≡ lasting x.state
          flushes b on = flushed_base (disk vol) store [] x.state (backs on.0) refl b on.1

      pub brought_sound : (waiting : List Effect) → waiting ≡ [] → IsSoundPlace told (disk vol) store waiting x.stopped x.state
      brought_sound waiting none =
          subst (λ (l : List Effect). IsSoundPlace told (disk vol) store l x.stopped x.state) (sym none)
          (subst (λ (p : Option ℕ). IsSoundPlace told (disk vol) store [] p x.state) (sym going)
          (record { sound = h.sound; bounded = h.bounded; writable = h.writable; restorable = h.restorable; records = refl; on_disk = backs }))

-- ---- the places in blocks of what waits

-- memory ran out
pub unbrought_blocks : (old new : StoreState) (before waiting : List Effect) (stored : ℕ) (stopped : Option ℕ) → new ≡ old → waiting ≡ before → MayStore stopped old.blocks before stored
    → MayStore stopped new.blocks waiting stored
unbrought_blocks old new before waiting stored stopped same waits h =
    subst (λ (s : StoreState). MayStore stopped s.blocks waiting stored) (sym same) (subst (λ (l : List Effect). MayStore stopped old.blocks l stored) (sym waits) h)

-- it was committed
pub brought_blocks : (b : Blocks) (store : StoreState) (effects waiting before : List Effect) (stored : ℕ) (stopped : Option ℕ) → stopped ≡ None → MayStore stopped b before stored → effects ≡ before
    → waiting ≡ [] → length (blocks store.blocks) ≤ used_behind b effects → MayStore stopped store.blocks waiting stored
brought_blocks b store effects waiting before stored stopped going h are none fewer =
    may_store store.blocks waiting stored stopped going (record {
      placed = ap (can_place store.blocks) none ∙ law_placing.none store.blocks;
      few = λ few.
          let used : used_behind store.blocks waiting ≡ length (blocks store.blocks) = ap (used_behind store.blocks) none ∙ law_counting.none store.blocks in
          let most = (has_blocks b before stored stopped going h).few few in
          let same : used_behind b effects ≡ used_behind b before = ap (used_behind b) are in
          omega (arith, used, most, same, fewer);
    })

-- a commit may be made
pub places_of : (b : Blocks) (effects before : List Effect) (stored : ℕ) (stopped : Option ℕ) → stopped ≡ None → MayStore stopped b before stored → effects ≡ before → IsTrue (can_place b effects)
places_of b effects before stored stopped going h are = ap (can_place b) are ∙ (has_blocks b before stored stopped going h).placed
