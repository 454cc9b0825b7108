-- A hold in a turn of its place: the seat goes on by the entries of the hold, and the place with its port stands for what it had seen and these.
use Rattle.std.proofs.Common.{◌≡◌, ◌++◌, ◌≤◌, ℕ, true, List, [], ◌∷◌, Option, refl, sym, ap, subst, ◌∙◌, inl, inr, arith}
use Rattle.std.specs.Prelude.{◌↔◌, IfSome}
use Rattle.std.specs.List.{AllByRecursion}
use Rattle.atomic_table.specs.Seated.{TableId}
use Rattle.js_base.specs.Bytes.{has}
use Rattle.js_base.specs.Causes.{Rose}
use Rattle.js_model.specs.declared.stream.State.{State}
use Rattle.js_model.specs.declared.event.What.{What}
use Rattle.js_model.specs.declared.desk.PlaceAt.{PlaceAt}
use Rattle.js_model.specs.declared.entry.PlaceEntry.{PlaceEntry}
use Rattle.js_model.specs.PlaceStates.{PlaceIn}
use Rattle.js_model.specs.Router.{RouteEntry}
use Rattle.js_api.specs.declared.outcome.Outcome.{Outcome}
use Rattle.js_api.specs.Entries.{Spent}
use Rattle.js_api.specs.Holding.{Holds}
use Rattle.js_api.specs.Leading.{Leads, Makes}
use Rattle.js_api.specs.Outputs.{outs_of}
use Rattle.histories.specs.Entries.{Entry, Opening, OfPlace, OfRouter, OfCatalog, AreBy}
use Rattle.turn_lock.specs.Calls.{Comes, added, number_of, worn}
use Rattle.turn_lock.specs.Ruled.{last_ticket}
use Rattle.turn_lock.specs.Seats.{SeatView}
use Rattle.hub_fronts.specs.Laws.{LawSends}
use Rattle.hub_fronts.proofs.Seen.{seen_inside}
use Rattle.desk_hold.specs.OnePlace.{HoldsOn, on}
use Rattle.place_engine.specs.Stepping.{Image, IsKept, Seen}
use Rattle.place_engine.specs.Preparing.{RoomCauses}
use Rattle.hub_place.specs.Holds.{HoldsBySeat, IsMadeBy, SeatStep, SendsTo, unmade}
use Rattle.hub_place.specs.Kinds.{IsHubPlace, IsNewPlace, IsNewPort, PlaceIs, opening_of}
use Rattle.hub_place.specs.Lasting.{HasLasted}
use Rattle.hub_place.specs.Ports.{HasSent, IsOfPort, IsRouted, IsWorn, own_calls, published}
use Rattle.hub_place.proofs.Lasts.{lasts_new, lasts_on}
use Rattle.hub_place.proofs.Steps.{Sits, leaving, left_by, made_by_seat}

-- ---- the port

module _ {V : Type 0} (holds : Image → State → Type 0) (left : V → ℕ → Image → Type 0) (clock : V → ℕ) (base : Option ℕ → V → State → Type 0) (keeps : V → V → Type 0) where
  -- it is a seat of the router
  pub port_of : (seat inside port : SeatView) (place : PlaceIn) (vol : V) (lock : TableId) → inside.opening ≡ seat.opening → SendsTo seat.opening lock
      → PlaceIs holds left clock base keeps inside.opening inside.front place vol port → port.lock ≡ lock
  port_of seat inside port place vol lock same sends is = by inside.opening (subst (λ (o : Opening). SendsTo o lock) (sym same) sends) is
    where
      by : (o : Opening) → SendsTo o lock → PlaceIs holds left clock base keeps o inside.front place vol port → port.lock ≡ lock
      by (OfPlace state faults id) s h = h.seat.lock ∙ s
      by OfRouter s h = absurd h
      by (OfCatalog catalog) s h = absurd h

  -- ---- the beginning

  pub new_stands : ((v : V) (t u : ℕ) (image : Image) → t ≤ u → left v u image → left v t image) → ((v : V) → keeps v v) → (place : PlaceIn) (vol : V) (port : SeatView)
      → IsNewPlace holds left clock base keeps place vol → IsNewPort port → PlaceIs holds left clock base keeps (opening_of place port) [] place vol port
  new_stands earlier none place vol port new fresh = record {
    standing = record {
      steps = [];
      same = refl;
      run = refl;
      stored = new.counted;
      opened = place.volume;
      count = refl;
      later = record { faults = omega arith; refusals = omega arith; moments = omega arith; generations = omega arith };
      whole = λ going. refl;
      stops = subst (λ (o : Option ℕ). IfSome o (λ count. (count ≡ place.volume.faults) × Rose place.volume.faults count)) (sym new.going) tt;
    };
    seat = record { lock = refl; numbers = subst (λ (s : SeatView). s.numbers ≡ number_of s ∷ []) (sym fresh.is_new) refl };
    sent = record {
      unsent = [];
      outs_are = sym (ap (λ (calls : List RouteEntry). published calls ++ []) none_made);
      all = λ some. refl;
      are = subst (AllByRecursion (λ (entry : RouteEntry). IsOfPort entry.call entry.told)) (sym none_made) tt;
    };
    lasts = lasts_new holds left clock base keeps earlier none place vol new.going new.opened;
  }
    where
      none_made : own_calls port ≡ []
      none_made = ap own_calls fresh.is_new

-- ---- a hold

module _ {P V : Type 0} (seen : P → Seen) (vol : P → V) (holds : Image → State → Type 0) (reads : V → Image → Type 0) (left : V → ℕ → Image → Type 0) (clock faults : V → ℕ) (causes : RoomCauses V) (base : Option ℕ → V → State → Type 0) (keeps : V → V → Type 0)
    (bases : (p : P) (b : State) → (seen p).is_base b ↔ base (seen p).place.stopped (vol p) b)
    (leaves : (p : P) (t : ℕ) (image : Image) → (seen p).left_since t image ↔ left (vol p) t image)
    (stands : (p : P) → ((seen p).place.volume.moment ≡ clock (vol p)) × ((seen p).place.volume.faults ≡ faults (vol p)) × ((seen p).place.volume.refusals ≡ causes.refusals (vol p)))
    (keeps_more : (a b c : V) → keeps a b → keeps b c → keeps a c) where
  module _ (p q : P) (kept : IsKept holds (seen q)) (at : PlaceAt) (inside port after : SeatView) (what : What) (now : ℕ) (outcome : Outcome) (entries : List Entry) (number : ℕ)
      (is : PlaceIs holds left clock base keeps inside.opening inside.front (seen p).place (vol p) port) (among : has inside.numbers number ≡ true) (number_is : number ≡ number_of inside)
      (made : IsMadeBy holds causes.outgrows_log at number what now outcome (seen p) (seen q) port after entries) (volume : keeps (vol p) (vol q)) (sends : LawSends) where
    mine : IsMadeBy holds causes.outgrows_log at (number_of inside) what now outcome (seen p) (seen q) port after entries
    mine = subst (λ (n : ℕ). IsMadeBy holds causes.outgrows_log at n what now outcome (seen p) (seen q) port after entries) number_is made

    -- they are by the seat
    pub by_seat : AreBy (number_of inside) entries
    by_seat = subst (AreBy (number_of inside)) (sym mine.entries_are) (made_by_seat (number_of inside) mine.hold.entries mine.hold.by)

    record Held : Type 0 where
      led : Leads (SeatStep at) inside mine.hold.entries (added inside entries)
      is_now : PlaceIs holds left clock base keeps inside.opening (inside.front ++ entries) (seen q).place (vol q) after

    held : Held
    held = by inside.opening refl is
      where
        by : (o : Opening) → inside.opening ≡ o → PlaceIs holds left clock base keeps o inside.front (seen p).place (vol p) port → Held
        by (OfPlace state count id) opening h =
            let steps : List PlaceEntry = h.standing.steps in
            let sits : Sits state count id inside.front steps (on (seen p).place port) = record { stands = record { standing = h.standing; are = refl }; port = record { seat = h.seat; sent = h.sent } } in
            let l = leaving state count id at sends inside steps mine.hold.entries (on (seen p).place port) (on (seen q).place after)
            (record { opening = opening; among = subst (λ (n : ℕ). has inside.numbers n ≡ true) number_is among }) mine.hold.by
            mine.hold.led sits in
            let hub : IsHubPlace holds left clock base keeps state count id (inside.front ++ left_by mine.hold.entries) (seen q).place (vol q) after = record {
              standing = l.sits.stands.standing;
              seat = l.sits.port.seat;
              sent = subst (λ (es : List PlaceEntry). HasSent after (outs_of state es)) (sym l.sits.stands.are) l.sits.port.sent;
              lasts = subst (λ (es : List PlaceEntry). HasLasted holds left clock base keeps state es (seen q).place (vol q)) (sym l.sits.stands.are)
                  (lasts_on seen vol holds reads left clock faults causes base keeps bases leaves stands keeps_more p q kept at (number_of inside) port after what now outcome mine.hold state steps volume h.lasts);
            } in
            record {
              led = subst (λ (es : List Entry). Leads (SeatStep at) inside mine.hold.entries (added inside es)) (sym mine.entries_are) l.led;
              is_now =
                  subst (λ (o : Opening). PlaceIs holds left clock base keeps o (inside.front ++ entries) (seen q).place (vol q) after) (sym opening)
                  (subst (λ (es : List Entry). IsHubPlace holds left clock base keeps state count id (inside.front ++ es) (seen q).place (vol q) after) (sym mine.entries_are) hub);
            }
        by OfRouter opening h = absurd h
        by (OfCatalog catalog) opening h = absurd h

    pub stands_behind : PlaceIs holds left clock base keeps inside.opening (inside.front ++ entries) (seen q).place (vol q) after
    stands_behind = held.is_now

    pub made_in_turn : {S : Type 0} (stands_for : Opening → List Entry → S → Type 0) (value : S) (seat new : SeatView) → Comes stands_for seat inside value → new ≡ added inside entries
        → Makes (HoldsBySeat at) (Holds at what now outcome) seat new
    made_in_turn stands_for value seat new comes new_is = record {
      entries = mine.hold.entries;
      are = mine.hold.holds;
      led = inl (record {
        inside = inside;
        sees = seen_inside stands_for seat inside value comes;
        ticket = comes.ticket;
        low = comes.low;
        led = subst (Leads (SeatStep at) inside mine.hold.entries) (sym new_is) held.led;
      });
    }

-- the entries that it made may be noted
pub noted : (in_image : Image → State → Type 0) (outgrows : State → What → Type 0) (at : PlaceAt) (number : ℕ) (what : What) (now : ℕ) (outcome : Outcome) (old new : Seen) (port before after told : SeatView) → before ≡ port → told ≡ after
    → HoldsOn IsRouted IsWorn at in_image outgrows number what now outcome old new before after → (entries : List Entry) × IsMadeBy in_image outgrows at number what now outcome old new port told entries
noted in_image outgrows at number what now outcome old new port before after told was is h =
    let mine : HoldsOn IsRouted IsWorn at in_image outgrows number what now outcome old new port told =
    subst (λ (s : SeatView). HoldsOn IsRouted IsWorn at in_image outgrows number what now outcome old new s told) was
    (subst (λ (s : SeatView). HoldsOn IsRouted IsWorn at in_image outgrows number what now outcome old new before s) (sym is) h)
    in
    (left_by mine.entries, record { hold = mine; entries_are = refl })

-- all tickets of the place are drawn
pub unmade_so : (at : PlaceAt) (what : What) (now : ℕ) (outcome : Outcome) (seat new : SeatView) → outcome ≡ unmade last_ticket → new ≡ worn seat → Makes (HoldsBySeat at) (Holds at what now outcome) seat new
unmade_so at what now outcome seat new is wears = record {
  entries = Spent last_ticket ∷ [];
  are = subst (λ (o : Outcome). Holds at what now o (Spent last_ticket ∷ [])) (sym is)
      (record { first = []; more = Spent last_ticket ∷ []; entries_are = refl; prepares = inl refl; holds = (refl, inl refl) });
  led = inr (refl, wears);
}
