-- What follows the step of a hold, put together of who listens and of the deliveries.
use Rattle.std.proofs.Common.{◌≡◌, ℕ, ◌-◌, ◌^◌, Bool, true, false, List, [], ◌∷◌, append-nil, None, Some, Ok, Err, refl, sym, ap, subst, ◌∙◌, arith, inl, inr}
use Rattle.std.specs.Prelude.{if◌then◌else◌}
use Rattle.js_base.specs.Bytes.{Bytes}
use Rattle.js_base.specs.declared.out.Out.{Out}
use Rattle.js_model.specs.declared.consumer.Consumer.{Consumer}
use Rattle.js_model.specs.declared.desk.PlaceAt.{PlaceAt}
use Rattle.js_model.specs.PlaceStates.{PlaceIn}
use Rattle.js_model.specs.Ready.{some_ready}
use Rattle.js_model.specs.Router.{RouteCall, RouteTold}
use Rattle.js_api.specs.declared.fault.DeskFault.TheVariants as faults
use Rattle.js_api.specs.Holding.{AreFirstReadings, delivery_broke, listening_of, most_deliveries, push_consumers}
use Rattle.js_api.specs.Worlds.{IsLater}
use Rattle.js_model.specs.declared.stream.State.{State}
use Rattle.place_engine.specs.Stepping.{Image, IsKept, Seen}
use Rattle.desk_hold.specs.declared.delivering.Ending.{Ending}
use Rattle.desk_hold.specs.declared.delivering.Ending.TheVariants.{Quiet, Full, Broke, Short, WornOut}
use Rattle.desk_hold.specs.declared.following.Following.{Following}
use Rattle.desk_hold.specs.declared.following.Following.TheVariants.{Heard, Unheard}
use Rattle.desk_hold.specs.declared.port.PortFault.TheVariants as ports
use Rattle.desk_hold.specs.Deliveries.{DeliversOn, Led}
use Rattle.desk_hold.specs.Following.{Follows}
use Rattle.desk_hold.specs.Hearing.{Hears}
use Rattle.desk_hold.proofs.Beginnings.{outlasts_nothing}
use Rattle.desk_hold.proofs.Room.{none_room}

no_first : (consumers : List Consumer) → AreFirstReadings consumers []
no_first [] = tt
no_first (c ∷ cs) = tt

same_volume : (p : PlaceIn) → IsLater p.volume p.volume
same_volume p = record { faults = omega arith; refusals = omega arith; moments = omega arith; generations = omega arith }

pauses : (p : PlaceIn) → p.stopped ≡ None → Led p [] [] p
pauses p goes = (record { going = goes; state = refl; stored = refl; stopped = goes; later = same_volume p }, refl)

module _ {R : Type 0} (routes : R → RouteCall → RouteTold → R → Type 0) (worn : R → ℕ → R → Type 0) (holds : Image → State → Type 0) (seat : ℕ) (at : PlaceAt) where
  -- nothing follows a step whose answer found no memory
  pub unsaid_step : (now : ℕ) (following : Following) (place : Seen) (r : R) (outs : List Out) → IsKept holds place → place.place.stopped ≡ None → following ≡ Heard false (Some faults.NoMemory)
      → Follows routes worn seat at now holds following place place r r outs outs
  unsaid_step now following place r outs kept goes is = subst (λ (f : Following). Follows routes worn seat at now holds f place place r r outs outs) (sym is) (record {
    readings = [];
    entries = [];
    sent = [];
    led = pauses place.place goes;
    outlasts = outlasts_nothing holds place kept;
    added = sym (append-nil outs);
    room = none_room outs;
    followed = record { heard = refl; asked = inr (no_first (push_consumers place.place.state), refl); few = omega arith; are = tt; left = tt };
  })

  -- memory ran out as it was asked who listens
  pub not_heard : (now : ℕ) (following : Following) (place : Seen) (r s : R) (outs : List Out) → IsKept holds place → place.place.stopped ≡ None → Hears routes worn (Err ports.NoMemory) place.place.state r s
      → following ≡ Heard false (Some faults.NoMemory) → Follows routes worn seat at now holds following place place r s outs outs
  not_heard now following place r s outs kept goes h is = subst (λ (f : Following). Follows routes worn seat at now holds f place place r s outs outs) (sym is) (record {
    readings = h.readings;
    entries = [];
    sent = [];
    led = pauses place.place goes;
    outlasts = outlasts_nothing holds place kept;
    added = sym (append-nil outs);
    room = none_room outs;
    followed = record { heard = h.reads.1; asked = inr (h.reads.0, refl); few = omega arith; are = tt; left = tt };
  })

  -- no turn of the router was left for that
  pub no_turn : (now number : ℕ) (place : Seen) (r s : R) (outs : List Out) → IsKept holds place → place.place.stopped ≡ None → Hears routes worn (Err (ports.Worn number)) place.place.state r s
      → Follows routes worn seat at now holds (Unheard number) place place r s outs outs
  no_turn now number place r s outs kept goes h = record {
    readings = h.readings;
    entries = [];
    sent = [];
    led = pauses place.place goes;
    outlasts = outlasts_nothing holds place kept;
    added = sym (append-nil outs);
    room = none_room outs;
    followed = record { mid = h.reads.0; heard = h.reads.2; is_worn = h.reads.3; first = h.reads.1; none = refl };
  }

  module _ (now : ℕ) (listening : List Bytes) (old new : Seen) (r s : R) (before after : List Out) (h : Hears routes worn (Ok listening) old.place.state r s) where
    -- the ending that was told
    pub as_told : (ending told : Ending) → told ≡ ending → DeliversOn holds most_deliveries seat at now listening told old new before after → DeliversOn holds most_deliveries seat at now listening ending old new before after
    as_told ending told is d = subst (λ (e : Ending). DeliversOn holds most_deliveries seat at now listening e old new before after) is d

    -- with who was read to listen
    read : (ending : Ending) → DeliversOn holds most_deliveries seat at now listening ending old new before after → DeliversOn holds most_deliveries seat at now (listening_of h.readings) ending old new before after
    read ending d = subst (λ (l : List Bytes). DeliversOn holds most_deliveries seat at now l ending old new before after) h.reads.1 d

    pub quiet : DeliversOn holds most_deliveries seat at now listening Quiet old new before after → Follows routes worn seat at now holds (Heard false None) old new r s before after
    quiet d =
        let k = read Quiet d in
        record {
          readings = h.readings;
          entries = k.entries;
          sent = k.sent;
          led = k.led;
          outlasts = k.outlasts;
          added = k.added;
          room = k.room;
          followed = record {
            heard = h.reads.2;
            asked = h.reads.0;
            few = k.few;
            are = k.are;
            left = record {
              ready_is = by (delivery_broke k.entries) (some_ready new.place.state now (listening_of h.readings)) k.ends.1;
              full = λ yes. let no : ⊥ = cc in absurd no;
            };
          };
        }
      where
        by : (broke ready : Bool) → ready ≡ false → false ≡ (if broke then false else ready)
        by true ready none = refl
        by false ready none = sym none

    pub broke : DeliversOn holds most_deliveries seat at now listening Broke old new before after → Follows routes worn seat at now holds (Heard false None) old new r s before after
    broke d =
        let k = read Broke d in
        record {
          readings = h.readings;
          entries = k.entries;
          sent = k.sent;
          led = k.led;
          outlasts = k.outlasts;
          added = k.added;
          room = k.room;
          followed = record {
            heard = h.reads.2;
            asked = h.reads.0;
            few = k.few;
            are = k.are;
            left = record {
              ready_is = ap (λ (b : Bool). if b then false else some_ready new.place.state now (listening_of h.readings)) (sym k.ends);
              full = λ yes. let no : ⊥ = cc in absurd no;
            };
          };
        }

    pub full : (ready : Bool) → ready ≡ some_ready new.place.state now listening → DeliversOn holds most_deliveries seat at now listening Full old new before after → Follows routes worn seat at now holds (Heard ready None) old new r s before after
    full ready is d =
        let k = read Full d in
        record {
          readings = h.readings;
          entries = k.entries;
          sent = k.sent;
          led = k.led;
          outlasts = k.outlasts;
          added = k.added;
          room = k.room;
          followed = record {
            heard = h.reads.2;
            asked = h.reads.0;
            few = k.few;
            are = k.are;
            left = record {
              ready_is = is ∙ ap (λ (l : List Bytes). some_ready new.place.state now l) h.reads.1
                  ∙ ap (λ (b : Bool). if b then false else some_ready new.place.state now (listening_of h.readings)) (sym k.ends.0);
              full = λ yes. k.ends.1;
            };
          };
        }

    pub ran_short : (following : Following) → following ≡ Heard false (Some faults.NoMemory) → DeliversOn holds most_deliveries seat at now listening Short old new before after → Follows routes worn seat at now holds following old new r s before after
    ran_short following is d =
        let k = read Short d in
        subst (λ (f : Following). Follows routes worn seat at now holds f old new r s before after) (sym is) (record {
          readings = h.readings;
          entries = k.entries;
          sent = k.sent;
          led = k.led;
          outlasts = k.outlasts;
          added = k.added;
          room = k.room;
          followed = record { heard = h.reads.2; asked = inl h.reads.0; few = k.few; are = k.are; left = tt };
        })

    pub worn_out : (following : Following) → following ≡ Heard false (Some (faults.Worn (2 ^ 62 - 1))) → DeliversOn holds most_deliveries seat at now listening WornOut old new before after
        → Follows routes worn seat at now holds following old new r s before after
    worn_out following is d =
        let k = read WornOut d in
        subst (λ (f : Following). Follows routes worn seat at now holds f old new r s before after) (sym is) (record {
          readings = h.readings;
          entries = k.entries;
          sent = k.sent;
          led = k.led;
          outlasts = k.outlasts;
          added = k.added;
          room = k.room;
          followed = record { heard = h.reads.2; asked = inl h.reads.0; few = k.few; are = k.are; left = ((sym k.ends.1, refl), k.ends.0) };
        })
