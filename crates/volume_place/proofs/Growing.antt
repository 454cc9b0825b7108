-- A place stays sound as events and deliveries are made and their records wait.
use Rattle.std.proofs.Common.{◌≡◌, ◌<◌, ◌^◌, ℕ, Bool, true, List, [], ◌∷◌, Option, Some, None, Result, Ok, Err, refl, sym, ap, subst, ◌∙◌}
use Rattle.std.specs.Prelude.{IsTrue, IfErr, IfOk, ◌&&◌, nat_le}
use Rattle.std.proofs.lemmas.Bool.{and_parts}
use Rattle.std.proofs.lemmas.List.{append-nil}
use Rattle.std.proofs.lemmas.Option.{none-some}
use Rattle.js_base.specs.Bytes.{Bytes}
use Rattle.js_base.specs.declared.out.Out.{Out}
use Rattle.js_model.specs.declared.stream.State.{State}
use Rattle.js_model.specs.declared.entry.Delivery.{Delivery}
use Rattle.js_model.specs.declared.entry.PlaceEntry.TheVariants.{Step, Deliver}
use Rattle.js_model.specs.declared.event.Event.{Event}
use Rattle.js_model.specs.declared.event.What.TheVariants.{Tick}
use Rattle.js_model.specs.declared.reply.Reply.{Reply}
use Rattle.js_model.specs.Deliver.{IsDelivered}
use Rattle.js_model.specs.Events.{answered, kept_incarnation}
use Rattle.js_model.specs.Proper.{is_proper}
use Rattle.js_model.specs.Runs.{IsStep, IsDeliverStep}
use Rattle.model_laws.specs.Bounds.{IsBounded}
use Rattle.model_laws.specs.Sound.{IsSound}
use Rattle.model_laws.proofs.Bounded.{law_bounded}
use Rattle.model_laws.proofs.Writable.{law_writable}
use Rattle.model_laws.proofs.Sounding.{law_sound}
use Rattle.effects.specs.Effects.{delivery_effects, event_effects}
use Rattle.effects.specs.Laws.{Leads}
use Rattle.effects.specs.declared.effect.Effect.{Effect}
use Rattle.effects.proofs.Leading.{law_deliveries, law_events}
use Rattle.restore_laws.proofs.Restorable.{restorable_delivery, restorable_event}
use Rattle.record_laws.proofs.Allowing.{together}
use Rattle.record_laws.proofs.Recording.{delivery_records, event_records}
use Rattle.op_records.specs.Allowed.{is_record}
use Rattle.vol_disk.specs.Disk.{Disk}
use Rattle.effects.specs.Durables.{durable_of}
use Rattle.stream_store.specs.StoreState.{StoreState}
use Rattle.stream_store.proofs.Behind.{waiting as waits_more}
use Rattle.place_engine.specs.Following.{followed, left_before}
use Rattle.memory_place.specs.Answers.{LeftBy, MayDeliver, PlaceAnswersIn}
use Rattle.memory_place.specs.Recording.{TellsEventIn, TellsLeft, TellsSent}
use Rattle.place_engine.specs.declared.faults.Left.{Left}
use Rattle.place_engine.specs.declared.faults.Left.TheVariants.{Nothing, Ticked, Unsaid}
use Rattle.volume_place.specs.Sound.{IsOnDisk, IsSoundPlace}
use Rattle.volume_place.proofs.Following.{all_left, folds_on}

-- ---- an event, and a delivery, as the machine makes them

-- as of a place where so many messages count that there may be no block for another one
abbrev pub many : ℕ
many = 65533

unfoldable pub step_of : (old new : State) (e : Event) (now : ℕ) (room : Bool) → e.incarnation ≡ kept_incarnation old → IsTrue (is_proper e) → now < 2 ^ 62 → new ≡ (answered old e now room).state
    → IsStep many old e now (answered old e now room).reply (answered old e now room).outs new
step_of old new e now room kept proper moment is = record {
  event = record { kept = kept; room = room; answers = ap (λ (s : State). record (answered old e now room) { state = s }) (sym is) };
  proper = proper;
  moment = moment;
}

-- so the records of the event lead to what it makes
pub event_leads : (old new : State) (e : Event) (now : ℕ) (room : Bool) → e.incarnation ≡ kept_incarnation old → IsTrue (is_proper e) → now < 2 ^ 62 → new ≡ (answered old e now room).state
    → IsSound old → IsBounded old → Leads old (event_effects old e.what now room) new
unfolding step_of
event_leads old new e now room kept proper moment is sound bounded =
    law_events many old new e now (answered old e now room).reply (answered old e now room).outs (step_of old new e now room kept proper moment is) sound bounded

-- a tick is proper where an event of its incarnation is
pub tick_proper : (e : Event) → IsTrue (is_proper e) → IsTrue (is_proper (record e { what = Tick }))
tick_proper e proper = ap (λ (b : Bool). (b && true) && true) (and_parts _ _ (and_parts _ _ proper).0).0

-- Of a place that goes on.
module _ (told : Type 0) (disk : Disk) (store : StoreState) (tail : List Effect) (stopped : Option ℕ) (goes : stopped ≡ None) (old : State) where
  -- records that lead from what stood to what stands wait behind the others
  grows_on_disk : (o : Option ℕ) (effects : List Effect) (new : State) → o ≡ None → Leads old effects new → IsOnDisk o disk store tail old → IsOnDisk o disk store (followed tail effects) new
  grows_on_disk None effects new none leads k =
      record { base = k.base; all_lasts = k.all_lasts; is_base = k.is_base; waits = folds_on (durable_of new) tail effects (Some (durable_of k.base)) (waits_more (durable_of k.base) tail effects old new k.waits leads) }
  grows_on_disk (Some count) effects new none leads both = absurd (none-some count (sym none))

  module _ (h : IsSoundPlace told disk store tail stopped old) where
    pub grown_event : (new : State) (e : Event) (now : ℕ) (room : Bool) → e.incarnation ≡ kept_incarnation old → IsTrue (is_proper e) → now < 2 ^ 62 → new ≡ (answered old e now room).state
        → IsSoundPlace told disk store (followed tail (event_effects old e.what now room)) stopped new
    unfolding step_of
    grown_event new e now room kept proper moment is =
        let reply = (answered old e now room).reply in
        let outs = (answered old e now room).outs in
        let step = step_of old new e now room kept proper moment is in
        let entries = Step 0 e now reply outs true ∷ [] in
        record {
          sound = law_sound many old new entries h.sound (new, step, refl);
          bounded = law_bounded many old new entries h.sound h.bounded (new, step, refl);
          writable = law_writable many old new entries h.writable (new, step, refl);
          restorable = restorable_event many old new e now reply outs h.restorable step;
          records = together (left_before (event_effects old e.what now room) tail) (event_effects old e.what now room) (all_left is_record tail (event_effects old e.what now room) h.records) (event_records old e now room proper moment h.sound h.bounded);
          on_disk = λ t. grows_on_disk stopped (event_effects old e.what now room) new goes (law_events many old new e now reply outs step h.sound h.bounded) (h.on_disk t);
        }

    pub grown_delivery : (new : State) (now : ℕ) (listening : List Bytes) (d : Delivery) (outs : List Out) → now < 2 ^ 62 → IsDelivered old now listening d outs new
        → IsSoundPlace told disk store (followed tail (delivery_effects old now d new)) stopped new
    grown_delivery new now listening d outs moment delivered =
        let step : IsDeliverStep old now listening d outs new = record { delivered = delivered; moment = moment } in
        let entries = Deliver 0 now listening d outs ∷ [] in
        record {
          sound = law_sound 0 old new entries h.sound (new, step, refl);
          bounded = law_bounded 0 old new entries h.sound h.bounded (new, step, refl);
          writable = law_writable 0 old new entries h.writable (new, step, refl);
          restorable = restorable_delivery old new now listening d outs h.restorable delivered;
          records = together (left_before (delivery_effects old now d new) tail) (delivery_effects old now d new) (all_left is_record tail (delivery_effects old now d new) h.records) (delivery_records old new now listening d outs step h.sound h.bounded);
          on_disk = λ t. grows_on_disk stopped (delivery_effects old now d new) new goes (law_deliveries old new now listening d outs delivered h.sound h.bounded) (h.on_disk t);
        }

    -- nothing was made
    pub grown_none : (new : State) (effects : List Effect) → new ≡ old → effects ≡ [] → IsSoundPlace told disk store (followed tail effects) stopped new
    grown_none new effects same none =
        subst (λ (s : State). IsSoundPlace told disk store (followed tail effects) stopped s) (sym same)
        (subst (λ (l : List Effect). IsSoundPlace told disk store l stopped old) (sym (ap (followed tail) none ∙ append-nil tail)) h)

    grown_left : (left : Left) (new : State) (e : Event) (now : ℕ) (before after : List Out) (effects : List Effect) → e.incarnation ≡ kept_incarnation old → IsTrue (is_proper e) → now < 2 ^ 62
        → LeftBy left old now before after new → TellsLeft left old now effects → IsSoundPlace told disk store (followed tail effects) stopped new
    grown_left Nothing new e now before after effects kept proper moment leaves tells = grown_none new effects leaves.0 tells
    grown_left Ticked new e now before after effects kept proper moment leaves tells =
        subst (λ (l : List Effect). IsSoundPlace told disk store (followed tail l) stopped new) (sym tells)
        (grown_event new (record e { what = Tick }) now true kept (tick_proper e proper) moment (leaves e.incarnation).state_is)
    grown_left (Unsaid refused) new e now before after effects kept proper moment leaves tells = absurd leaves

    -- whatever was answered
    pub grown_answer : (result : Result Reply Left) (new : State) (e : Event) (now : ℕ) (room : Bool) (before after : List Out) (effects : List Effect) → e.incarnation ≡ kept_incarnation old → IsTrue (is_proper e)
        → now < 2 ^ 62 → IfOk result (λ reply. PlaceAnswersIn room old e.what now reply before after new) → IfErr result (λ left. LeftBy left old now before after new)
        → TellsEventIn room result old e.what now effects → IsSoundPlace told disk store (followed tail effects) stopped new
    grown_answer (Ok reply) new e now room before after effects kept proper moment answers leaves tells =
        subst (λ (l : List Effect). IsSoundPlace told disk store (followed tail l) stopped new) (sym tells) (grown_event new e now room kept proper moment (answers e.incarnation).state_is)
    grown_answer (Err left) new e now room before after effects kept proper moment answers leaves tells = grown_left left new e now before after effects kept proper moment leaves tells

    -- whatever was delivered; a tick is one for what the place keeps
    pub grown_sent : (result : Result (Option Delivery) Left) (new : State) (now : ℕ) (listening : List Bytes) (before after : List Out) (effects : List Effect)
        → IsTrue (nat_le (kept_incarnation old) (2 ^ 62)) → now < 2 ^ 62 → MayDeliver result old now listening before after new → TellsSent result old now new effects
        → IsSoundPlace told disk store (followed tail effects) stopped new
    grown_sent (Ok (Some delivery)) new now listening before after effects bound moment delivers tells =
        subst (λ (l : List Effect). IsSoundPlace told disk store (followed tail l) stopped new) (sym tells) (grown_delivery new now listening delivery delivers.sent moment delivers.delivered)
    grown_sent (Ok None) new now listening before after effects bound moment delivers tells = grown_none new effects delivers.same tells
    grown_sent (Err left) new now listening before after effects bound moment delivers tells =
        grown_left left new (record { incarnation = kept_incarnation old; what = Tick }) now before after effects refl (ap (λ (b : Bool). (b && true) && true) bound) moment delivers tells
