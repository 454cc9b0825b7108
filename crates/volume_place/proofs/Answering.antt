-- What holds of a place once an event was answered or a delivery was made, and its records wait.
use Rattle.std.proofs.Common.{◌≡◌, ◌≤◌, ◌<◌, ◌+◌, ◌^◌, ◌&&◌, ℕ, Bool, true, List, Option, Some, None, Result, Ok, Err, refl, sym, ap, subst, ◌∙◌, arith}
use Rattle.std.specs.Prelude.{IsTrue, nat_le}
use Rattle.std.proofs.lemmas.List.{append-nil}
use Rattle.js_base.specs.Bytes.{Bytes}
use Rattle.js_base.specs.declared.out.Out.{Out}
use Rattle.js_model.specs.declared.entry.Delivery.{Delivery}
use Rattle.js_model.specs.declared.event.Event.{Event}
use Rattle.js_model.specs.declared.event.What.TheVariants.{Tick}
use Rattle.js_model.specs.declared.reply.Reply.{Reply}
use Rattle.js_model.specs.declared.stream.State.{State}
use Rattle.js_model.specs.declared.stream.State.TheVariants.{Vacant, Live}
use Rattle.js_model.specs.Deliver.{IsDelivered}
use Rattle.js_model.specs.Events.{answered, kept_incarnation}
use Rattle.js_model.specs.Proper.{is_proper}
use Rattle.effects.specs.Effects.{event_effects}
use Rattle.effects.specs.declared.effect.Effect.{Effect}
use Rattle.effects.proofs.Leading.{law_deliveries}
use Rattle.vol_disk.specs.Disk.{Disk}
use Rattle.snapshot_bound.specs.Asking.{event_fixed, event_growth}
use Rattle.snapshot_bound.specs.Laws.{if_room}
use Rattle.snapshot_bound.proofs.Asked.{law_asked}
use Rattle.stream_store.specs.Reserving.{HasMessageRoom}
use Rattle.stream_store.specs.StoreState.{StoreState}
use Rattle.place_engine.specs.Following.{followed}
use Rattle.place_engine.specs.Places.{IsVacant}
use Rattle.memory_place.specs.Answers.{LeftBy, MayDeliver, PlaceAnswersIn}
use Rattle.memory_place.specs.Recording.{TellsEventIn, TellsLeft, TellsSent}
use Rattle.place_engine.specs.declared.faults.Left.{Left}
use Rattle.place_engine.specs.declared.faults.Left.TheVariants.{Nothing, Ticked, Unsaid}
use Rattle.volume_place.specs.Reserve.{HasReserve}
use Rattle.volume_place.specs.Rooms.{HasBlocks, IsCounted, MayStore, room_for, room_in, stored_by}
use Rattle.volume_place.specs.Sound.{IsSoundPlace}
use Rattle.volume_place.proofs.Asked.{quiet_room}
use Rattle.volume_place.proofs.Growing.{event_leads, grown_answer, tick_proper}
use Rattle.volume_place.proofs.Reserving.{delivery_reserve, event_reserve}
use Rattle.volume_place.proofs.Spotting.{sent_room, told_room}
use Rattle.volume_place.proofs.Storing.{grown_blocks, has_blocks, left_plain, may_store, told_grows, uncounted}

pub record Holds (told : Type 0) (disk : Disk) (store : StoreState) (waiting : List Effect) (stored : ℕ) (stopped : Option ℕ) (known : ℕ) (state : State) : Type 0 where
  pub sound : IsSoundPlace told disk store waiting stopped state
  pub blocks : MayStore stopped store.blocks waiting stored
  pub reserve : HasReserve told disk store waiting stopped known state

-- what asks for no room raises nothing
quiet_fixed : (state : State) → event_fixed state Tick ≡ 0
quiet_fixed state =
    let none : event_growth state Tick ≡ 0 = law_asked.unasked state Tick refl in
    omega (arith, none)

-- Of a place that goes on.
module _ (told : Type 0) (disk : Disk) (store : StoreState) (waiting : List Effect) (known : ℕ) (state : State) (sound : IsSoundPlace told disk store waiting None state)
    (h : HasReserve told disk store waiting None known state) where
  -- the records of what was made may stand in a log
  messages_by : (result : Result Reply Left) (e : Event) (now : ℕ) (room : Bool) (effects : List Effect) (new : State) → room ≡ room_for known store state waiting e.what
      → TellsEventIn room result state e.what now effects → IsSoundPlace told disk store (followed waiting effects) None new → told → HasMessageRoom store.blocks (followed waiting effects) disk
  messages_by result e now room effects new told_so tells grown t =
      let k = sound.on_disk t in
      told_room store disk k.is_base.rooms k.is_base.of_log.table known waiting result state e.what now room effects told_so tells grown.records (h.rooms.messages t)

  event_kept : (new : State) (e : Event) (now : ℕ) (room : Bool) (reply : Reply) → room ≡ room_for known store state waiting e.what → e.incarnation ≡ kept_incarnation state → IsTrue (is_proper e)
      → now < 2 ^ 62 → new ≡ (answered state e now room).state → IsSoundPlace told disk store (followed waiting (event_effects state e.what now room)) None new
      → known + if_room room (event_fixed state e.what) ≤ 2 ^ 31
      → HasReserve told disk store (followed waiting (event_effects state e.what now room)) None (known + if_room room (event_fixed state e.what)) new
  event_kept new e now room reply told_so kept proper moment is grown fits =
      event_reserve told disk store waiting known state h e.what now room told_so sound.sound new (event_leads state new e now room kept proper moment is sound.sound sound.bounded) fits
      (messages_by (Ok reply) e now room (event_effects state e.what now room) new told_so refl grown)

  -- nothing was made, or what a tick makes
  left_kept : (left : Left) (new : State) (e : Event) (now : ℕ) (before after : List Out) (effects : List Effect) → e.incarnation ≡ kept_incarnation state → IsTrue (is_proper e) → now < 2 ^ 62
      → LeftBy left state now before after new → TellsLeft left state now effects → IsSoundPlace told disk store (followed waiting effects) None new
      → HasReserve told disk store (followed waiting effects) None known new
  left_kept Nothing new e now before after effects kept proper moment leaves tells grown =
      subst (λ (s : State). HasReserve told disk store (followed waiting effects) None known s) (sym leaves.0)
      (subst (λ (l : List Effect). HasReserve told disk store l None known state) (sym (ap (followed waiting) tells ∙ append-nil waiting)) h)
  left_kept Ticked new e now before after effects kept proper moment leaves tells grown =
      let tick = record e { what = Tick } in
      let room = sym (quiet_room None known store state waiting Tick refl) in
      let none = quiet_fixed state in
      let same : known + event_fixed state Tick ≡ known = omega (arith, none) in
      let fits = h.fixed_fits in
      subst (λ (l : List Effect). HasReserve told disk store (followed waiting l) None known new) (sym tells)
      (subst (λ (k : ℕ). HasReserve told disk store (followed waiting (event_effects state Tick now true)) None k new) same
      (event_reserve told disk store waiting known state h Tick now true room sound.sound new
      (event_leads state new tick now true kept (tick_proper e proper) moment (leaves e.incarnation).state_is sound.sound sound.bounded) (omega (arith, none, fits))
      (messages_by (Err Ticked) tick now true (event_effects state Tick now true) new room refl (subst (λ (l : List Effect). IsSoundPlace told disk store (followed waiting l) None new) tells grown))))
  left_kept (Unsaid refused) new e now before after effects kept proper moment leaves tells grown = absurd leaves

  -- a delivery is of a stream
  delivered_live : (s new : State) (now : ℕ) (listening : List Bytes) (d : Delivery) (outs : List Out) → IsDelivered s now listening d outs new → IsVacant s → ⊥
  delivered_live (Vacant i) new now listening d outs delivered vacant = absurd delivered
  delivered_live (Live s) new now listening d outs delivered vacant = absurd vacant

  sent_kept : (stored : ℕ) (result : Result (Option Delivery) Left) (new : State) (now : ℕ) (listening : List Bytes) (before after : List Out) (effects : List Effect)
      → IsTrue (nat_le (kept_incarnation state) (2 ^ 62)) → now < 2 ^ 62 → MayDeliver result state now listening before after new → TellsSent result state now new effects
      → IsSoundPlace told disk store (followed waiting effects) None new → HasReserve told disk store (followed waiting effects) None known new
  sent_kept stored (Ok (Some d)) new now listening before after effects bound moment delivers tells grown =
      delivery_reserve told disk store waiting known state h new now d effects sound.sound (delivered_live state new now listening d delivers.sent delivers.delivered)
      (law_deliveries state new now listening d delivers.sent delivers.delivered sound.sound sound.bounded)
      (λ t. sent_room store disk waiting stored (Ok (Some d)) state now new effects tells (h.rooms.messages t))
  sent_kept stored (Ok None) new now listening before after effects bound moment delivers tells grown =
      subst (λ (s : State). HasReserve told disk store (followed waiting effects) None known s) (sym delivers.same)
      (subst (λ (l : List Effect). HasReserve told disk store l None known state) (sym (ap (followed waiting) tells ∙ append-nil waiting)) h)
  sent_kept stored (Err left) new now listening before after effects bound moment delivers tells grown =
      left_kept left new (record { incarnation = kept_incarnation state; what = Tick }) now before after effects refl (ap (λ (b : Bool). (b && true) && true) bound) moment delivers tells grown

-- ---- where it is told that it goes on

module _ (told : Type 0) (disk : Disk) (store : StoreState) (waiting : List Effect) (stored : ℕ) (stopped : Option ℕ) (going : stopped ≡ None) (known : ℕ) (state : State)
    (h : Holds told disk store waiting stored stopped known state) where
  sound_going : IsSoundPlace told disk store waiting None state
  sound_going = subst (λ (o : Option ℕ). IsSoundPlace told disk store waiting o state) going h.sound

  reserve_going : HasReserve told disk store waiting None known state
  reserve_going = subst (λ (o : Option ℕ). HasReserve told disk store waiting o known state) going h.reserve

  back_going : (behind : List Effect) (there : ℕ) (new : State) → HasReserve told disk store behind None there new → HasReserve told disk store behind stopped there new
  back_going behind there new r = subst (λ (o : Option ℕ). HasReserve told disk store behind o there new) (sym going) r

  grown_going : (behind : List Effect) (new : State) → IsSoundPlace told disk store behind stopped new → IsSoundPlace told disk store behind None new
  grown_going behind new s = subst (λ (o : Option ℕ). IsSoundPlace told disk store behind o new) going s

  blocks : HasBlocks store.blocks waiting stored
  blocks = has_blocks store.blocks waiting stored stopped going h.blocks

  -- room was asked for, and the store told some
  module _ (asked : StoreState) (same : asked ≡ store) (given : List Effect) (are : given ≡ waiting) where
    -- it was not told
    pub untold : (made : List Effect) → followed given made ≡ waiting → Holds told disk asked (followed given made) stored stopped known state
    untold made none =
        subst (λ (s : StoreState). Holds told disk s (followed given made) stored stopped known state) (sym same)
        (subst (λ (l : List Effect). Holds told disk store l stored stopped known state) (sym none) h)

    module _ (e : Event) (room : Bool) (told_room : room ≡ room_for known store state given e.what) where
      for_waiting : room ≡ room_for known store state waiting e.what
      for_waiting = told_room ∙ ap (λ (l : List Effect). room_for known store state l e.what) are

      -- as a caller is told
      pub room_is : room ≡ room_in stopped known store state waiting e.what
      room_is = for_waiting ∙ sym (ap (λ (o : Option ℕ). room_in o known store state waiting e.what) going)

      grown_blocks_by : (result : Result Reply Left) (now : ℕ) (effects : List Effect) (count : ℕ) → TellsEventIn room result state e.what now effects → IsCounted stored (stored_by effects) count
          → MayStore stopped store.blocks (followed waiting effects) count
      grown_blocks_by result now effects count tells counted =
          may_store store.blocks (followed waiting effects) count stopped going
          (grown_blocks store.blocks waiting effects stored count blocks (told_grows known store waiting result state e.what now room effects for_waiting blocks.placed tells) counted)

      moved : (effects : List Effect) (count there : ℕ) (new : State) → Holds told disk store (followed waiting effects) count stopped there new → Holds told disk asked (followed given effects) count stopped there new
      moved effects count there new holds =
          subst (λ (s : StoreState). Holds told disk s (followed given effects) count stopped there new) (sym same)
          (subst (λ (l : List Effect). Holds told disk store (followed l effects) count stopped there new) (sym are) holds)

      pub answered_sound : (reply : Reply) (new : State) (now : ℕ) (before after : List Out) (effects : List Effect) (count there : ℕ) → e.incarnation ≡ kept_incarnation state → IsTrue (is_proper e)
          → now < 2 ^ 62 → PlaceAnswersIn room state e.what now reply before after new → TellsEventIn room (Ok reply) state e.what now effects → IsCounted stored (stored_by effects) count
          → there ≡ known + if_room room (event_fixed state e.what) → there ≤ 2 ^ 31 → Holds told disk asked (followed given effects) count stopped there new
      answered_sound reply new now before after effects count there kept proper moment answers tells counted is fits =
          let grown = grown_answer told disk store waiting stopped going state h.sound (Ok reply) new e now room before after effects kept proper moment answers tt tells in
          let raised = known + if_room room (event_fixed state e.what) in
          let kept_room = event_kept told disk store waiting known state sound_going reserve_going new e now room reply for_waiting kept proper moment (answers e.incarnation).state_is
          (subst (λ (l : List Effect). IsSoundPlace told disk store (followed waiting l) None new) tells (grown_going (followed waiting effects) new grown)) (subst (λ (n : ℕ). n ≤ 2 ^ 31) is fits) in
          moved effects count there new (record {
            sound = grown;
            blocks = grown_blocks_by (Ok reply) now effects count tells counted;
            reserve = back_going (followed waiting effects) there new
                (subst (λ (n : ℕ). HasReserve told disk store (followed waiting effects) None n new) (sym is)
                (subst (λ (l : List Effect). HasReserve told disk store (followed waiting l) None raised new) (sym tells) kept_room));
          })

      -- one that found no memory counts none
      pub left_counted : (left : Left) (now : ℕ) (effects : List Effect) → TellsEventIn room (Err left) state e.what now effects → IsCounted stored (stored_by effects) stored
      left_counted left now effects tells = uncounted stored effects (left_plain left state now effects tells)

      pub left_sound : (left : Left) (new : State) (now : ℕ) (before after : List Out) (effects : List Effect) → e.incarnation ≡ kept_incarnation state → IsTrue (is_proper e)
          → now < 2 ^ 62 → LeftBy left state now before after new → TellsEventIn room (Err left) state e.what now effects → Holds told disk asked (followed given effects) stored stopped known new
      left_sound left new now before after effects kept proper moment leaves tells =
          let grown = grown_answer told disk store waiting stopped going state h.sound (Err left) new e now room before after effects kept proper moment tt leaves tells in
          moved effects stored known new (record {
            sound = grown;
            blocks = grown_blocks_by (Err left) now effects stored tells (left_counted left now effects tells);
            reserve = back_going (followed waiting effects) known new
                (left_kept told disk store waiting known state sound_going reserve_going left new e now before after effects kept proper moment leaves tells (grown_going (followed waiting effects) new grown));
          })

  -- a delivery
  pub sent_reserve : (result : Result (Option Delivery) Left) (new : State) (now : ℕ) (listening : List Bytes) (before after : List Out) (effects : List Effect)
      → IsTrue (nat_le (kept_incarnation state) (2 ^ 62)) → now < 2 ^ 62 → MayDeliver result state now listening before after new → TellsSent result state now new effects
      → IsSoundPlace told disk store (followed waiting effects) stopped new → HasReserve told disk store (followed waiting effects) stopped known new
  sent_reserve result new now listening before after effects bound moment delivers tells grown =
      back_going (followed waiting effects) known new
      (sent_kept told disk store waiting known state sound_going reserve_going stored result new now listening before after effects bound moment delivers tells (grown_going (followed waiting effects) new grown))
