-- What it comes to that room is made for what is asked.
use Rattle.std.proofs.Common.{◌≡◌, ◌≢◌, ◌≤◌, ◌⊎◌, inl, inr, ℕ, ◌+◌, ◌-◌, ◌^◌, ◌==◌, ◌&&◌, ◌||◌, Bool, true, false, List, Option, None, Some, Result, Ok, Err, refl, sym, ap, subst, ◌∙◌, arith}
use Rattle.std.specs.Prelude.{nat_le, unwrap_or}
use Rattle.std.proofs.lemmas.Bool.{leb-false, leb-true, true≢false}
use Rattle.js_base.specs.Causes.{Rose}
use Rattle.js_model.specs.declared.event.What.{What}
use Rattle.js_model.specs.declared.event.What.TheVariants as whats
use Rattle.js_model.specs.declared.stream.State.{State}
use Rattle.js_model.specs.Events.{asks_room}
use Rattle.js_model.specs.Lasting.{lasting}
use Rattle.js_model.specs.Runs.{is_few}
use Rattle.effects.specs.Durables.{durable_of}
use Rattle.effects.specs.declared.durable.Durable.{Durable}
use Rattle.effects.specs.declared.effect.Effect.{Effect}
use Rattle.block_table.specs.Blocks.{Blocks}
use Rattle.vol_disk.specs.Clock.{IsClocked}
use Rattle.vol_disk.specs.Disk.{Disk}
use Rattle.vol_disk.specs.Images.{IsImage}
use Rattle.vol_disk.specs.Moments.{LeavesOnly}
use Rattle.vol_disk.proofs.Moments.{joined as joined_moments}
use Rattle.snapshot_bound.specs.Asking.{event_growth}
use Rattle.snapshot_bound.specs.Bounds.{bound_with, capped, fixed as fixed_in}
use Rattle.snapshot_bound.proofs.Asked.{law_asked, law_parts}
use Rattle.stream_store.specs.Base.{IsBase, LeavesBase}
use Rattle.stream_store.specs.Holding.{Holds}
use Rattle.stream_store.specs.Reserving.{MakesRoom as Makes}
use Rattle.stream_store.specs.Rooms.{OutgrowsLogs, is_reserved}
use Rattle.stream_store.specs.StoreState.{StoreState}
use Rattle.stream_store.proofs.OneVolume.{law_holding}
use Rattle.place_engine.specs.Preparing.{EndsPreparing, FailsPreparing, Prepared, Prepares, Unprepared}
use Rattle.place_engine.specs.Stepping.{Elapses, Image, Seen}
use Rattle.place_engine.specs.declared.faults.Left.TheVariants.{Nothing}
use Rattle.place_engine.specs.declared.faults.PlaceFault.{PlaceFault}
use Rattle.place_engine.specs.declared.faults.PlaceFault.TheVariants.{NoMemory as OutOfMemory, StoreFault}
use Rattle.volume_place.specs.Contents.{Contents}
use Rattle.volume_place.specs.Growing.{IsGrowth, bound_after}
use Rattle.volume_place.specs.Images.{IsLeftNow, base, holds, left}
use Rattle.volume_place.specs.Laws.{only_held}
use Rattle.volume_place.specs.Preparing.{KeepsButRoom, KeepsLog, LacksRoomFor, KeepsImages}
use Rattle.volume_place.specs.Rooms.{HasBlocks, MayStore, has_no_spot, is_reached_by, room_for, room_in}
use Rattle.volume_place.specs.Seeing.{outgrows_log, seen_of}
use Rattle.volume_place.specs.Sound.{IsBacked, IsSoundPlace}
use Rattle.volume_place.specs.declared.asking.Growth.{Growth}
use Rattle.volume_place.proofs.Bases.{only_base}
use Rattle.volume_place.proofs.Brought.{backed, on_base}
use Rattle.volume_place.proofs.Storing.{many_by_spot}

-- a crash within the second of two calls leaves the base too
pub leaves_more : (store mid : StoreState) (old half new : Disk) (b : Durable) → IsBase store b old → Makes store mid old half → LeavesBase store old half → LeavesBase mid half new
    → LeavesBase store old new
leaves_more store mid old half new b is first before behind d of_log =
    let same : d ≡ b = law_holding.one old.seen d b (store.blocks, of_log.holds) (store.blocks, is.of_log.holds) in
    subst (λ (e : Durable). LeavesOnly old new (λ image. Holds image e)) (sym same)
    (joined_moments old half new (λ image. Holds image b) (λ image. Holds image b) (before b is.of_log) (behind b (first.keeps b is).of_log) (λ image h. h))

-- ---- what stays

pub kept_but_room : {V : Type 0} (x : Contents V) (store : StoreState) (vol : V) (waiting : List Effect) (stopped : Option ℕ) (less : ℕ) → waiting ≡ x.waiting → KeepsLog x.store store
    → KeepsButRoom x (record x { store = store; vol = vol; waiting = waiting; stopped = stopped; fixed = less })
kept_but_room {V} x store vol waiting stopped less same log = record {
  rests = ap (λ (l : List Effect). record x { store = store; vol = vol; waiting = l; stopped = stopped; fixed = less }) same;
  store = log;
}

-- the places of what waits
pub kept_blocks : (old new : Blocks) (before waiting : List Effect) (stored : ℕ) (stopped : Option ℕ) → new ≡ old → waiting ≡ before → MayStore stopped old before stored → MayStore stopped new waiting stored
kept_blocks old new before waiting stored stopped same waits h =
    subst (λ (b : Blocks). MayStore stopped b waiting stored) (sym same) (subst (λ (l : List Effect). MayStore stopped old l stored) (sym waits) h)

-- ---- how much is raised

-- so much in all
pub whole_is : (state : State) (what : What) (growth : Growth) (whole : ℕ) → IsGrowth state what growth → whole ≡ capped (growth.fixed + growth.counted) → whole ≡ capped (event_growth state what)
whole_is state what growth whole g is =
    let of_fixed = g.fixed in
    let of_counted = g.counted in
    omega (arith, is, of_fixed, of_counted)

-- where something is raised
pub raised_some : (state : State) (what : What) (whole : ℕ) → whole ≡ capped (event_growth state what) → whole ≢ 0 → event_growth state what ≢ 0
raised_some state what whole is some none = some (omega (arith, is, none))

-- what asks for none raises nothing
pub asked_some : (state : State) (what : What) → event_growth state what ≢ 0 → asks_room what ≡ false → ⊥
asked_some state what some quiet = some (law_asked.unasked state what quiet)

-- what it comes to then
pub count_is : (known : ℕ) (state : State) (what : What) (whole count : ℕ) → whole ≡ capped (event_growth state what) → count ≡ capped (bound_with known state + whole)
    → count ≡ capped (bound_after known state what)
count_is known state what whole count is sum = omega (arith, is, sum)

-- what the texts take is known to be no more than eight bytes tell
pub measured_exact : (d : Durable) (state : State) (known count : ℕ) → d ≡ durable_of state → fixed_in (durable_of state) ≤ known → known ≤ 2 ^ 31 → count ≡ capped (fixed_in d)
    → count ≡ fixed_in (durable_of state)
measured_exact d state known count same le fits is =
    let part : fixed_in d ≡ fixed_in (durable_of state) = ap fixed_in same in
    omega (arith, part, le, fits, is)

-- by what the texts take in fact
pub outgrows : (known : ℕ) (state : State) (what : What) (count : ℕ) → known ≡ fixed_in (durable_of state) → count ≡ capped (bound_after known state what) → OutgrowsLogs count → outgrows_log state what
outgrows known state what count exact is long =
    let whole = (law_parts state).whole in
    omega (arith, exact, is, long, whole)

-- ---- why there is none

-- where the logs do for a number that is cut off, they do for what it stands for
reserved_as : (store : StoreState) (waiting : List Effect) (known : ℕ) (state : State) (what : What) (count : ℕ) → count ≡ capped (bound_after known state what)
    → (count ≡ bound_after known state what) ⊎ OutgrowsLogs count
reserved_as store waiting known state what count is = go (nat_le (bound_after known state what) (2 ^ 64 - 1)) refl
  where
    go : (b : Bool) → nat_le (bound_after known state what) (2 ^ 64 - 1) ≡ b → (count ≡ bound_after known state what) ⊎ OutgrowsLogs count
    go true small = let le = leb-true (bound_after known state what) (2 ^ 64 - 1) small in inl (omega (arith, is, le))
    go false large = let more = leb-false (bound_after known state what) (2 ^ 64 - 1) large in inr (omega (arith, is, more))

module _ {V : Type 0} (refusals : V → ℕ) (store : StoreState) (waiting : List Effect) (stored : ℕ) (known : ℕ) (state : State) (what : What) (old new : V) (blocks : HasBlocks store.blocks waiting stored) where
  abbrev Lacks : Type 0
  Lacks = Rose (refusals old) (refusals new) ⊎ ((is_few stored ≡ false) ⊎ outgrows_log state what)

  by_spot : has_no_spot store.blocks waiting what → is_few stored ≡ false
  by_spot none = go what none
    where
      go : (w : What) → has_no_spot store.blocks waiting w → is_few stored ≡ false
      go (whats.Publish p) h = many_by_spot store.blocks waiting stored p blocks h
      go (whats.Make reply config) h = absurd h
      go (whats.Change reply config) h = absurd h
      go (whats.Drop reply) h = absurd h
      go (whats.Purge reply pattern below keep) h = absurd h
      go (whats.Delete reply n) h = absurd h
      go (whats.MakeConsumer reply name config update) h = absurd h
      go (whats.DropConsumer reply name) h = absurd h
      go (whats.Ack reply ack) h = absurd h
      go (whats.Pull reply name ask) h = absurd h
      go whats.Tick h = absurd h
      go (whats.StreamInfo reply) h = absurd h
      go (whats.MessageGet reply by) h = absurd h
      go (whats.ConsumerInfo reply name) h = absurd h
      go (whats.ConsumerNames reply offset) h = absurd h
      go (whats.ConsumerList reply offset) h = absurd h

  pub lacks : (count : ℕ) → count ≡ capped (bound_after known state what) → (OutgrowsLogs count → outgrows_log state what) → LacksRoomFor refusals store waiting what count old new
      → room_for known store state waiting what ≡ false → Lacks
  lacks count is exact told none = by_count (reserved_as store waiting known state what count is)
    where
      and_none : (b c : Bool) → (b || c) ≡ false → c ≡ false
      and_none true c h = absurd (true≢false h)
      and_none false c h = h

      of : Rose (refusals old) (refusals new) ⊎ (OutgrowsLogs count ⊎ has_no_spot store.blocks waiting what) → Lacks
      of (inl rose) = inl rose
      of (inr (inl long)) = inr (inr (exact long))
      of (inr (inr nowhere)) = inr (inl (by_spot nowhere))

      by_count : (count ≡ bound_after known state what) ⊎ OutgrowsLogs count → Lacks
      by_count (inl same) =
          let missing = and_none (event_growth state what == 0) (is_reserved store.rooms (bound_after known state what) && is_reached_by store waiting what) none in
          of (told (ap (λ (n : ℕ). is_reserved store.rooms n && is_reached_by store waiting what) same ∙ missing))
      by_count (inr long) = inr (inr (exact long))

-- ---- of a place that goes on

module _ {V : Type 0} (told : Type 0) (disk : V → Disk) (faults refusals : V → ℕ) (clocked : (vol : V) → IsClocked (disk vol)) (x : Contents V) (going : x.stopped ≡ None)
    (h : IsSoundPlace told (disk x.vol) x.store x.waiting x.stopped x.state) where
  abbrev Backed : Type 0
  Backed = IsBacked (disk x.vol) x.store x.waiting x.state

  abbrev there : told → Backed
  there = backed told disk faults refusals clocked x going h

  base_there : (t : told) → base told disk x.stopped x.vol (there t).base
  base_there = on_base told disk faults refusals clocked x going h

  -- the base that there is
  pub has_base : told → (b : Durable) × IsBase x.store b (disk x.vol)
  has_base t = (durable_of (there t).base, (there t).is_base)

  -- the volume was called
  module _ (vol : V) (later : (disk x.vol).moment ≤ (disk vol).moment) (leaves : told → LeavesBase x.store (disk x.vol) (disk vol)) where
    -- what a crash now may leave is what it was
    now_held : (t : told) (image : Image) → IsImage (disk vol) image → holds image (there t).base
    now_held t image is =
        let k = there t in
        ((leaves t (durable_of k.base) k.is_base.of_log).each image ((clocked vol).counts_now (disk x.vol).moment image later is), k.all_lasts)

    pub prepared_images : (n : Contents V) → n.vol ≡ vol → KeepsImages holds (seen_of told disk faults refusals x) (seen_of told disk faults refusals n)
    prepared_images n volume t image le is =
        let k = there is.0 in
        go is.0 ((leaves is.0 (durable_of k.base) k.is_base.of_log).before t image le (subst (λ (v : V). (disk v).may_leave t image) volume is.1))
      where
        go : (is_told : told) → (disk x.vol).may_leave t image ⊎ Holds image (durable_of (there is_told).base)
            → left told disk x.vol t image ⊎ ((d : State) × holds image d × base told disk x.stopped x.vol d)
        go is_told (inl before) = inl (is_told, before)
        go is_told (inr held) = inr ((there is_told).base, (held, (there is_told).all_lasts), base_there is_told)

    pub prepared_time : (n : Contents V) → n.vol ≡ vol → unwrap_or x.store.log.head 0 ≤ unwrap_or n.store.log.head 0 → faults x.vol ≤ faults vol → refusals x.vol ≤ refusals vol
        → Elapses holds (seen_of told disk faults refusals x) (seen_of told disk faults refusals n)
    prepared_time n volume generations rises refused = record {
      faults = subst (λ (v : V). faults x.vol ≤ faults v) (sym volume) rises;
      refusals = subst (λ (v : V). refusals x.vol ≤ refusals v) (sym volume) refused;
      moments = subst (λ (v : V). (disk x.vol).moment ≤ (disk v).moment) (sym volume) later;
      generations = generations;
      goes_on = λ t image le is. go t image (prepared_images n volume t image le is);
    }
      where
        go : (t : ℕ) (image : Image) → left told disk x.vol t image ⊎ ((d : State) × holds image d × base told disk x.stopped x.vol d)
            → left told disk x.vol t image ⊎ ((d : State) × holds image d × (base told disk x.stopped x.vol d ⊎ (d ≡ lasting n.state)))
        go t image (inl before) = inl before
        go t image (inr held) = inr (held.0, held.1, inl held.2)

    -- it failed
    pub failed_sound : (store : StoreState) (waiting : List Effect) (count : ℕ) → waiting ≡ x.waiting → IsSoundPlace told (disk vol) store waiting (Some count) x.state
    failed_sound store waiting count same = subst (λ (l : List Effect). IsSoundPlace told (disk vol) store l (Some count) x.state) (sym same)
        (record {
          sound = h.sound;
          bounded = h.bounded;
          writable = h.writable;
          restorable = h.restorable;
          records = h.records;
          on_disk = λ t image is. ((there t).base, now_held t image is, inl (there t).waits);
        })

    failed_base : (b : State) → IsLeftNow told disk vol b → base told disk x.stopped x.vol b
    failed_base b on =
        let t = on.is_left.0 in
        subst (base told disk x.stopped x.vol) (only_held on.image (there t).base b (now_held t on.image ((clocked vol).only_now on.image on.is_left.1)) on.held) (base_there t)

    pub failed : (store : StoreState) (waiting : List Effect) (count less : ℕ) → waiting ≡ x.waiting → count ≡ faults vol → Rose (faults x.vol) (faults vol)
        → FailsPreparing (seen_of told disk faults refusals x)
        (seen_of told disk faults refusals (record { state = x.state; store = store; vol = vol; waiting = waiting; since = x.since; stored = x.stored; stopped = Some count; fixed = less }))
    failed store waiting count less same is rose = record {
      keeps = record { going = going; state = refl; stored = refl };
      stops = ap (λ (n : ℕ). Some n) is;
      cause = rose;
      base = failed_base;
      waiting = same;
    }

    -- it did not
    module _ (store : StoreState) (makes : told → Makes x.store store (disk x.vol) (disk vol)) where
      abbrev backs : told → IsBacked (disk vol) store x.waiting x.state
      backs t = record {
        base = (there t).base;
        all_lasts = (there t).all_lasts;
        is_base = (makes t).keeps (durable_of (there t).base) (there t).is_base;
        waits = (there t).waits;
      }

      pub made_sound : (waiting : List Effect) → waiting ≡ x.waiting → IsSoundPlace told (disk vol) store waiting x.stopped x.state
      made_sound waiting same = subst (λ (l : List Effect). IsSoundPlace told (disk vol) store l x.stopped x.state) (sym same)
          (subst (λ (p : Option ℕ). IsSoundPlace told (disk vol) store x.waiting p x.state) (sym going)
          (record { sound = h.sound; bounded = h.bounded; writable = h.writable; restorable = h.restorable; records = h.records; on_disk = backs }))

      made_base : (b : State) → base told disk x.stopped vol b → base told disk x.stopped x.vol b
      made_base b is =
          let on : told × holds (disk vol).seen b = subst (λ (p : Option ℕ). base told disk p vol b) going is in
          let same : b ≡ (there on.0).base = only_base (disk vol) store x.waiting x.state (backs on.0) b on.1 in
          subst (base told disk x.stopped x.vol) (sym same) (base_there on.0)

      pub unprepared : (waiting : List Effect) (less : ℕ) → waiting ≡ x.waiting
          → Unprepared (seen_of told disk faults refusals x)
          (seen_of told disk faults refusals (record { state = x.state; store = store; vol = vol; waiting = waiting; since = x.since; stored = x.stored; stopped = x.stopped; fixed = less }))
      unprepared waiting less same = record {
        going = going;
        rests = record { state = refl; stored = refl; stopped = refl; base = made_base; waiting = same; outs = refl };
      }

      pub prepared : (waiting : List Effect) (less : ℕ) (what : What) → waiting ≡ x.waiting
          → (room_for less store x.state x.waiting what ≡ false → Rose (refusals x.vol) (refusals vol) ⊎ ((is_few x.stored ≡ false) ⊎ outgrows_log x.state what))
          → Prepared outgrows_log what (seen_of told disk faults refusals x)
          (seen_of told disk faults refusals (record { state = x.state; store = store; vol = vol; waiting = waiting; since = x.since; stored = x.stored; stopped = x.stopped; fixed = less }))
      prepared waiting less what same lack = record {
        keeps = record { going = going; state = refl; stored = refl };
        goes = going;
        base = made_base;
        waiting = same;
        cause = λ none.
            lack
            (sym (ap (λ (l : List Effect). room_in x.stopped less store x.state l what) same ∙ ap (λ (o : Option ℕ). room_in o less store x.state x.waiting what) going) ∙ none);
      }

-- ---- the whole call

module _ {V : Type 0} (told : Type 0) (disk : V → Disk) (faults refusals : V → ℕ) (a : Contents V) where
  abbrev Sees : Contents V → Seen
  Sees n = seen_of told disk faults refusals n

  -- they were measured, or not, and the volume may have been called then
  module _ (mid n : Contents V) (measured : mid ≡ record a { fixed = mid.fixed }) where
    abbrev Mid : Contents V
    Mid = record a { fixed = mid.fixed }

    time_of : Elapses holds (Sees mid) (Sees n) → Elapses holds (Sees a) (Sees n)
    time_of h = go (subst (λ (m : Contents V). Elapses holds (Sees m) (Sees n)) measured h)
      where
        go : Elapses holds (Sees Mid) (Sees n) → Elapses holds (Sees a) (Sees n)
        go k = record { faults = k.faults; refusals = k.refusals; moments = k.moments; generations = k.generations; goes_on = k.goes_on }

    prepared_of : (what : What) → Prepared outgrows_log what (Sees mid) (Sees n) → Prepared outgrows_log what (Sees a) (Sees n)
    prepared_of what h = go (subst (λ (m : Contents V). Prepared outgrows_log what (Sees m) (Sees n)) measured h)
      where
        go : Prepared outgrows_log what (Sees Mid) (Sees n) → Prepared outgrows_log what (Sees a) (Sees n)
        go k = record { keeps = record { going = k.keeps.going; state = k.keeps.state; stored = k.keeps.stored }; goes = k.goes; base = k.base; waiting = k.waiting; cause = k.cause }

    unprepared_of : Unprepared (Sees mid) (Sees n) → Unprepared (Sees a) (Sees n)
    unprepared_of h = go (subst (λ (m : Contents V). Unprepared (Sees m) (Sees n)) measured h)
      where
        go : Unprepared (Sees Mid) (Sees n) → Unprepared (Sees a) (Sees n)
        go k = record {
          going = k.going;
          rests = record { state = k.rests.state; stored = k.rests.stored; stopped = k.rests.stopped; base = k.rests.base; waiting = k.rests.waiting; outs = refl };
        }

    fails_of : FailsPreparing (Sees mid) (Sees n) → FailsPreparing (Sees a) (Sees n)
    fails_of h = go (subst (λ (m : Contents V). FailsPreparing (Sees m) (Sees n)) measured h)
      where
        go : FailsPreparing (Sees Mid) (Sees n) → FailsPreparing (Sees a) (Sees n)
        go k = record { keeps = record { going = k.keeps.going; state = k.keeps.state; stored = k.keeps.stored }; stops = k.stops; cause = k.cause; base = k.base; waiting = k.waiting }

    module _ (what : What) (some : event_growth a.state what ≢ 0) (time : Elapses holds (Sees mid) (Sees n)) (images : KeepsImages holds (Sees mid) (Sees n)) where
      prepares_by : (result : Result (Unit {0}) PlaceFault) → EndsPreparing outgrows_log result what (Sees a) (Sees n) → Prepares holds outgrows_log result what (Sees a) (Sees n)
      prepares_by result ends = record {
        ends = ends;
        quiet = λ quiet. absurd (asked_some a.state what some quiet);
        time = time_of time;
        images = subst (λ (m : Contents V). KeepsImages holds (Sees m) (Sees n)) measured images;
      }

      pub prepares_made : Prepared outgrows_log what (Sees mid) (Sees n) → Prepares holds outgrows_log (Ok tt) what (Sees a) (Sees n)
      prepares_made h = prepares_by (Ok tt) (prepared_of what h)

      pub prepares_unmade : Unprepared (Sees mid) (Sees n) → Prepares holds outgrows_log (Err (OutOfMemory Nothing)) what (Sees a) (Sees n)
      prepares_unmade h = prepares_by (Err (OutOfMemory Nothing)) (unprepared_of h)

      pub prepares_failed : FailsPreparing (Sees mid) (Sees n) → Prepares holds outgrows_log (Err StoreFault) what (Sees a) (Sees n)
      prepares_failed h = prepares_by (Err StoreFault) (fails_of h)
