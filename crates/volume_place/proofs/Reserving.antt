-- The room that a place keeps does for what becomes of it.
use Rattle.std.proofs.Common.{◌≡◌, ◌≢◌, ◌≤◌, ◌⊎◌, inl, inr, ℕ, ◌+◌, ◌^◌, ◌==◌, Bool, true, false, List, [], Option, None, Some, refl, sym, ap, subst, ◌∙◌, arith}
use Rattle.std.proofs.lemmas.Bool.{eq-eqb, eqb-true, true≢false}
use Rattle.std.proofs.lemmas.List.{append-nil}
use Rattle.std.proofs.lemmas.Option.{none-some}
use Rattle.js_model.specs.declared.event.What.{What}
use Rattle.js_model.specs.declared.stream.State.{State}
use Rattle.js_model.specs.declared.stream.State.TheVariants.{Vacant, Live}
use Rattle.js_model.specs.declared.entry.Delivery.{Delivery}
use Rattle.model_laws.specs.Sound.{IsSound}
use Rattle.effects.specs.Durables.{durable_of}
use Rattle.effects.specs.Effects.{delivery_effects, event_effects}
use Rattle.effects.specs.Laws.{Leads}
use Rattle.effects.specs.declared.durable.Durable.{Durable}
use Rattle.effects.specs.declared.effect.Effect.{Effect}
use Rattle.block_table.specs.Blocks.{Blocks}
use Rattle.durable_checks.specs.Storable.{IsStorable}
use Rattle.vol_disk.specs.Disk.{Disk}
use Rattle.snapshot_bound.specs.Asking.{event_counted, event_fixed, event_growth}
use Rattle.snapshot_bound.specs.Bounds.{bound, bound_with, capped, fixed as fixed_in, state_counted}
use Rattle.snapshot_bound.specs.Laws.{StateRaises, if_room}
use Rattle.snapshot_bound.proofs.Asked.{law_asked, law_parts}
use Rattle.snapshot_bound.proofs.Covers.{law_covers}
use Rattle.stream_store.specs.Alternating.{IsWithinBound}
use Rattle.stream_store.specs.Reserving.{HasMessageRoom}
use Rattle.stream_store.specs.Rooms.{AreLonger, AreMore, AreReserved}
use Rattle.stream_store.specs.StoreState.{StoreState}
use Rattle.stream_store.specs.declared.rooms.Rooms.{Rooms}
use Rattle.stream_store.proofs.MessageRooms.{law_reserving}
use Rattle.place_engine.specs.Following.{followed}
use Rattle.place_engine.specs.Places.{IsVacant}
use Rattle.volume_place.specs.Growing.{bound_after}
use Rattle.volume_place.specs.Reserve.{HasReserve, KeepsReserve, KeepsReserveOf, MayCommit}
use Rattle.volume_place.specs.Rooms.{room_for}
use Rattle.volume_place.proofs.Asked.{needed, reserved_less, reserved_more}

-- ---- what it comes to

-- a next log that begins with what stands is no longer
pub within_bound : (state : State) (known : ℕ) → IsStorable (durable_of state) → fixed_in (durable_of state) ≤ known → IsWithinBound (durable_of state) (bound_with known state)
within_bound state known storable le b table spots =
    let covers = law_covers (durable_of state) b storable table spots in
    let whole = (law_parts state).whole in
    omega (arith, covers, whole, le)

-- of which nothing is vacant but what was
still_vacant : (old new : State) → IsVacant old → durable_of new ≡ durable_of old → IsVacant new
still_vacant (Vacant i) (Vacant j) vacant same = tt
still_vacant (Vacant i) (Live s) vacant same = absurd (none-some _ (sym (ap (λ (d : Durable). d.body) same)))
still_vacant (Live s) new vacant same = absurd vacant

-- ---- the logs

module _ (rooms : Rooms) (waiting : List Effect) (known : ℕ) (old : State) (h : KeepsReserve rooms waiting known old) where
  -- it comes to no more
  fewer_logs : (effects : List Effect) (new : State) → bound_with known new ≤ bound_with known old → (IsVacant old → (IsVacant new × (effects ≡ []))) → KeepsReserve rooms (followed waiting effects) known new
  fewer_logs effects new less stays = go h
    where
      go : KeepsReserve rooms waiting known old → KeepsReserve rooms (followed waiting effects) known new
      go (inl vacant) =
          let there = stays vacant.0 in
          inl (there.0, ap (followed waiting) there.1 ∙ append-nil waiting ∙ vacant.1)
      go (inr reserved) = inr (reserved_less rooms (bound_with known old) (bound_with known new) less reserved)

-- ---- an event

module _ (told : Type 0) (disk : Disk) (store : StoreState) (waiting : List Effect) (known : ℕ) (old : State) (h : HasReserve told disk store waiting None known old) where
  module _ (what : What) (now : ℕ) (room : Bool) (told_room : room ≡ room_for known store old waiting what) (sound : IsSound old) (new : State)
      (leads : Leads old (event_effects old what now room) new) where
    abbrev Raised : ℕ
    Raised = known + if_room room (event_fixed old what)

    raises : StateRaises (if_room room (event_fixed old what)) (if_room room (event_counted old what)) old new
    raises = law_asked.event old new what now room sound leads

    counts : state_counted new ≤ state_counted old + if_room room (event_counted old what)
    counts = raises.counted_is

    -- it stays vacant where nothing is raised
    stays_vacant : (event_growth old what ≡ 0) ⊎ (room ≡ false) → IsVacant old → (IsVacant new × (event_effects old what now room ≡ []))
    stays_vacant none vacant = go old refl vacant
      where
        go : (s : State) → old ≡ s → IsVacant s → (IsVacant new × (event_effects old what now room ≡ []))
        go (Vacant i) is v =
            let nothing : event_effects old what now room ≡ [] =
            subst (λ (s : State). event_effects s what now room ≡ []) (sym is)
            (law_asked.vacant i what now room (subst (λ (s : State). (event_growth s what ≡ 0) ⊎ (room ≡ false)) is none)) in
            let same : Some (durable_of old) ≡ Some (durable_of new) = subst (λ (l : List Effect). Leads old l new) nothing leads in
            let same_durable : durable_of new ≡ durable_of old = cc in
            (still_vacant old new vacant same_durable, nothing)
        go (Live s) is v = absurd v

    event_logs : KeepsReserve store.rooms (followed waiting (event_effects old what now room)) Raised new
    event_logs = by_room room refl
      where
        quiet : (event_growth old what ≡ 0) ⊎ (room ≡ false) → if_room room (event_fixed old what) ≡ 0 → if_room room (event_counted old what) ≡ 0
            → KeepsReserve store.rooms (followed waiting (event_effects old what now room)) Raised new
        quiet none fixed_none counted_none =
            let same : Raised ≡ known = omega (arith, fixed_none) in
            let less : bound_with known new ≤ bound_with known old = omega (arith, counts, counted_none) in
            subst (λ (k : ℕ). KeepsReserve store.rooms (followed waiting (event_effects old what now room)) k new) (sym same)
            (fewer_logs store.rooms waiting known old h.rooms.logs (event_effects old what now room) new less (stays_vacant none))

        by_growth : (b : Bool) → (event_growth old what == 0) ≡ b → room ≡ true → KeepsReserve store.rooms (followed waiting (event_effects old what now room)) Raised new
        by_growth true none is =
            let nothing : event_growth old what ≡ 0 = eqb-true (event_growth old what) 0 none in
            let of_fixed : if_room room (event_fixed old what) ≡ event_fixed old what = ap (λ (b : Bool). if_room b (event_fixed old what)) is in
            let of_counted : if_room room (event_counted old what) ≡ event_counted old what = ap (λ (b : Bool). if_room b (event_counted old what)) is in
            quiet (inl nothing) (omega (arith, nothing, of_fixed)) (omega (arith, nothing, of_counted))
        by_growth false some is =
            let more : event_growth old what ≢ 0 = λ zero. true≢false (sym (eq-eqb (event_growth old what) 0 zero) ∙ some) in
            let has = needed known store old waiting what more (sym told_room ∙ is) in
            let of_fixed : if_room room (event_fixed old what) ≡ event_fixed old what = ap (λ (b : Bool). if_room b (event_fixed old what)) is in
            let of_counted : if_room room (event_counted old what) ≡ event_counted old what = ap (λ (b : Bool). if_room b (event_counted old what)) is in
            inr (reserved_less store.rooms (bound_after known old what) (bound_with Raised new) (omega (arith, counts, of_fixed, of_counted)) has.0)

        by_room : (b : Bool) → room ≡ b → KeepsReserve store.rooms (followed waiting (event_effects old what now room)) Raised new
        by_room true is = by_growth (event_growth old what == 0) refl is
        by_room false is =
            quiet (inr is) (ap (λ (b : Bool). if_room b (event_fixed old what)) is) (ap (λ (b : Bool). if_room b (event_counted old what)) is)

    pub event_reserve : Raised ≤ 2 ^ 31 → (told → HasMessageRoom store.blocks (followed waiting (event_effects old what now room)) disk)
        → HasReserve told disk store (followed waiting (event_effects old what now room)) None Raised new
    event_reserve fits messages = record {
      fixed_is =
          let le = raises.fixed_is in
          let before = h.fixed_is in
          omega (arith, le, before);
      fixed_fits = fits;
      rooms = record { logs = event_logs; messages = messages };
    }

  -- ---- a delivery

  pub delivery_reserve : (new : State) (now : ℕ) (d : Delivery) (effects : List Effect) → IsSound old → (IsVacant old → ⊥) → Leads old (delivery_effects old now d new) new
      → (told → HasMessageRoom store.blocks (followed waiting effects) disk) → HasReserve told disk store (followed waiting effects) None known new
  delivery_reserve new now d effects sound live leads messages =
      let raises = law_asked.delivery old new now d sound leads in
      let counts = raises.counted_is in
      record {
        fixed_is =
            let le = raises.fixed_is in
            let before = h.fixed_is in
            omega (arith, le, before);
        fixed_fits = h.fixed_fits;
        rooms = record {
          logs = fewer_logs store.rooms waiting known old h.rooms.logs effects new (omega (arith, counts)) (λ vacant. absurd (live vacant));
          messages = messages;
        };
      }

  -- ---- what is committed

  -- there is something, so that there is room for a next log
  pub reserved_of : waiting ≢ [] → AreReserved store.rooms (bound_with known old)
  reserved_of some = go h.rooms.logs
    where
      go : KeepsReserve store.rooms waiting known old → AreReserved store.rooms (bound_with known old)
      go (inl vacant) = absurd (some vacant.1)
      go (inr reserved) = reserved

  pub committed_reserve : (there : Disk) (after : StoreState) (behind : List Effect) → behind ≡ [] → AreReserved after.rooms (bound_with known old) → HasReserve told there after behind None known old
  committed_reserve there after behind none reserved = record {
    fixed_is = h.fixed_is;
    fixed_fits = h.fixed_fits;
    rooms = record {
      logs = inr reserved;
      messages = λ t. subst (λ (l : List Effect). HasMessageRoom after.blocks l there) (sym none) ((law_reserving there there).none after.blocks);
    };
  }

  -- ---- room was made

  pub longer_reserve : (there : Disk) (after : StoreState) (less : ℕ) → fixed_in (durable_of old) ≤ less → less ≤ known → after.blocks ≡ store.blocks → AreMore store.rooms after.rooms
      → (told → AreLonger disk there) → HasReserve told there after waiting None less old
  longer_reserve there after less enough le blocks more longer = record {
    fixed_is = enough;
    fixed_fits =
        let fits = h.fixed_fits in
        omega (arith, fits, le);
    rooms = record {
      logs = go h.rooms.logs;
      messages = λ t. subst (λ (b : Blocks). HasMessageRoom b waiting there) (sym blocks) ((law_reserving disk there).longer store.blocks waiting (longer t) (h.rooms.messages t));
    };
  }
    where
      go : KeepsReserve store.rooms waiting known old → KeepsReserve after.rooms waiting less old
      go (inl vacant) = inl vacant
      go (inr reserved) =
          inr (reserved_less after.rooms (bound_with known old) (bound_with less old) (omega (arith, le)) (reserved_more store.rooms after.rooms (bound_with known old) more reserved))

-- of a place that is stopped
pub stopped_reserve : (told : Type 0) (disk there : Disk) (store after : StoreState) (waiting behind : List Effect) (stopped : Option ℕ) (count known less : ℕ) (state : State)
    → HasReserve told disk store waiting stopped known state → fixed_in (durable_of state) ≤ less → less ≤ known → HasReserve told there after behind (Some count) less state
stopped_reserve told disk there store after waiting behind stopped count known less state h enough le = record {
  fixed_is = enough;
  fixed_fits =
      let fits = h.fixed_fits in
      omega (arith, fits, le);
  rooms = tt;
}

-- it is opened
pub opened_reserve : (told : Type 0) (disk : Disk) (store : StoreState) (waiting : List Effect) (known : ℕ) (state : State) (d : Durable) → durable_of state ≡ d → waiting ≡ [] → known ≡ fixed_in d
    → known ≤ 2 ^ 31 → KeepsReserveOf store.rooms d → HasReserve told disk store waiting None known state
opened_reserve told disk store waiting known state d same none is fits keeps =
    let read : fixed_in (durable_of state) ≡ fixed_in d = ap fixed_in same in
    let whole = (law_parts state).whole in
    let bound_is : bound_with known state ≡ bound d = sum_is read whole in
    record {
      fixed_is = omega (arith, is, read);
      fixed_fits = fits;
      rooms = record {
        logs = go bound_is keeps;
        messages = λ t. subst (λ (l : List Effect). HasMessageRoom store.blocks l disk) (sym none) ((law_reserving disk disk).none store.blocks);
      };
    }
  where
    sum_is : fixed_in (durable_of state) ≡ fixed_in d → bound (durable_of state) ≡ fixed_in (durable_of state) + state_counted state → bound_with known state ≡ bound d
    sum_is read whole = ap (λ (n : ℕ). n + state_counted state) (is ∙ sym read) ∙ sym whole ∙ ap bound same

    vacant : (s : State) → (durable_of s).body ≡ None → IsVacant s
    vacant (Vacant i) e = tt
    vacant (Live s) e = absurd (none-some _ (sym e))

    go : bound_with known state ≡ bound d → KeepsReserveOf store.rooms d → KeepsReserve store.rooms waiting known state
    go bound_is (inl empty) = inl (vacant state (ap (λ (x : Durable). x.body) same ∙ empty), none)
    go bound_is (inr reserved) = inr (subst (AreReserved store.rooms) (sym bound_is) reserved)

-- ---- the number that is kept of the texts

-- there was room for what was asked, so that none of it passes what eight bytes tell
pub raised_is : (known part exact : ℕ) (room : Bool) → part ≡ capped exact → known + if_room room part ≤ 2 ^ 31 → capped (known + if_room room part) ≡ known + if_room room exact
raised_is known part exact true is fits = omega (arith, is, fits)
raised_is known part exact false is fits = omega (arith, fits)

-- ---- as it is told of a place

module _ {V : Type 0} (told : Type 0) (disk : V → Disk) (old : V) (store : StoreState) (waiting : List Effect) (stopped : Option ℕ) (known : ℕ) (state : State)
    (h : HasReserve told (disk old) store waiting stopped known state) where
  -- nothing was done
  pub reserve_as : (new : V) (after : StoreState) (behind : List Effect) → new ≡ old → after ≡ store → behind ≡ waiting → HasReserve told (disk new) after behind stopped known state
  reserve_as new after behind vol_is store_is are =
      subst (λ (v : V). HasReserve told (disk v) after behind stopped known state) (sym vol_is)
      (subst (λ (s : StoreState). HasReserve told (disk old) s behind stopped known state) (sym store_is)
      (subst (λ (l : List Effect). HasReserve told (disk old) store l stopped known state) (sym are) h))

  -- the texts were measured anew
  pub measured_reserve : (less : ℕ) → fixed_in (durable_of state) ≤ less → less ≤ known → HasReserve told (disk old) store waiting stopped less state
  measured_reserve less enough_is le = record {
    fixed_is = enough_is;
    fixed_fits =
        let fits = h.fixed_fits in
        omega (arith, fits, le);
    rooms = go stopped h.rooms;
  }
    where
      logs : KeepsReserve store.rooms waiting known state → KeepsReserve store.rooms waiting less state
      logs (inl vacant) = inl vacant
      logs (inr reserved) = inr (reserved_less store.rooms (bound_with known state) (bound_with less state) (omega (arith, le)) reserved)

      go : (o : Option ℕ) → MayCommit o told (disk old) store waiting known state → MayCommit o told (disk old) store waiting less state
      go None rooms = record { logs = logs rooms.logs; messages = rooms.messages }
      go (Some count) rooms = tt

  module _ (going : stopped ≡ None) where
    while_going : HasReserve told (disk old) store waiting None known state
    while_going = subst (λ (o : Option ℕ). HasReserve told (disk old) store waiting o known state) going h

    -- a commit may be made of what waits
    module _ (given : List Effect) (are : given ≡ waiting) where
      pub enough : (bound : ℕ) → bound ≡ bound_with known state → given ≢ [] → AreReserved store.rooms bound
      enough bound is some =
          subst (AreReserved store.rooms) (sym is) (reserved_of told (disk old) store waiting known state while_going (λ none. some (are ∙ none)))

      pub has_message_room : told → HasMessageRoom store.blocks given (disk old)
      has_message_room t = subst (λ (l : List Effect). HasMessageRoom store.blocks l (disk old)) (sym are) (while_going.rooms.messages t)

    pub may_begin : (bound : ℕ) → bound ≡ bound_with known state → IsStorable (durable_of state) → IsWithinBound (durable_of state) bound
    may_begin bound is storable = subst (IsWithinBound (durable_of state)) (sym is) (within_bound state known storable h.fixed_is)

    -- it was
    pub brought_reserve : (new : V) (after : StoreState) (behind : List Effect) (bound : ℕ) → bound ≡ bound_with known state → behind ≡ [] → AreReserved after.rooms bound
        → HasReserve told (disk new) after behind stopped known state
    brought_reserve new after behind bound is none reserved =
        subst (λ (o : Option ℕ). HasReserve told (disk new) after behind o known state) (sym going)
        (committed_reserve told (disk old) store waiting known state while_going (disk new) after behind none (subst (AreReserved after.rooms) is reserved))

    -- room was made
    pub made_reserve : (new : V) (after : StoreState) (behind : List Effect) (less : ℕ) → behind ≡ waiting → fixed_in (durable_of state) ≤ less → less ≤ known → after.blocks ≡ store.blocks
        → AreMore store.rooms after.rooms → (told → AreLonger (disk old) (disk new)) → HasReserve told (disk new) after behind stopped less state
    made_reserve new after behind less are enough_is le blocks more longer =
        subst (λ (o : Option ℕ). HasReserve told (disk new) after behind o less state) (sym going)
        (subst (λ (l : List Effect). HasReserve told (disk new) after l None less state) (sym are)
        (longer_reserve told (disk old) store waiting known state while_going (disk new) after less enough_is le blocks more longer))

  -- the volume failed
  pub failed_reserve : (new : V) (after : StoreState) (behind : List Effect) (count less : ℕ) → fixed_in (durable_of state) ≤ less → less ≤ known
      → HasReserve told (disk new) after behind (Some count) less state
  failed_reserve new after behind count less enough_is le = stopped_reserve told (disk old) (disk new) store after waiting behind stopped count known less state h enough_is le
