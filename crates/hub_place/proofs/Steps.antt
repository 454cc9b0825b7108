-- The entries of a hold lead the seat of the caller, and what stands at the place with its port.
use Rattle.std.proofs.Common.{◌≡◌, ◌≢◌, ◌++◌, ℕ, true, List, [], ◌∷◌, map, append_assoc, append-nil, refl, sym, ap, subst, ◌∙◌}
use Rattle.std.proofs.lemmas.List.{map-append}
use Rattle.std.specs.List.{AllByRecursion}
use Rattle.js_base.specs.Bytes.{has}
use Rattle.js_model.specs.declared.stream.State.{State}
use Rattle.js_model.specs.declared.desk.PlaceAt.{PlaceAt}
use Rattle.js_model.specs.declared.entry.PlaceEntry.{PlaceEntry}
use Rattle.js_model.specs.PlaceStates.{PlaceIn}
use Rattle.model_laws.specs.Legal as places
use Rattle.js_api.specs.Entries.{Hold, entries_in, DeskEntry, Routed, Looked, Turned, Resumed, Held, Stirred, Halted, Missed, Spent}
use Rattle.js_api.specs.Leading.{Leads}
use Rattle.js_api.specs.Outputs.{outs_of}
use Rattle.histories.specs.Entries.{Entry, AtPlace, Opening, OfPlace, SeatId, AreBy}
use Rattle.histories.specs.Lawful.{IsPlaceHistory}
use Rattle.turn_lock.specs.Calls.{added, number_of}
use Rattle.turn_lock.specs.Seats.{SeatView}
use Rattle.hub_fronts.specs.Laws.{LawSends}
use Rattle.hub_fronts.specs.Standing.{IsStanding, StandsAt}
use Rattle.hub_fronts.specs.Stepping.{LeavesAt}
use Rattle.desk_hold.specs.Crashes.{made_by}
use Rattle.desk_hold.specs.OnePlace as holds
use Rattle.desk_hold.specs.OnePlace.{OnPlace, PlaceStep, IsHeldOn}
use Rattle.hub_place.specs.Histories.{stands_so}
use Rattle.hub_place.specs.Holds.{SeatStep}
use Rattle.hub_place.specs.Ports.{IsRouted, IsWorn}
use Rattle.hub_place.proofs.Sending.{Port, heard_all, sent_all, sending_told}
use Rattle.hub_place.proofs.Standings.{StandsBy, held_sends, stands_held, stands_stirred}

-- ---- entries by a seat

pub by-append : (seat : ℕ) (a b : List Entry) → AreBy seat a → AreBy seat b → AreBy seat (a ++ b)
by-append seat [] b f g = g
by-append seat (e ∷ es) b f g = (f.0, by-append seat es b f.1 g)

by_hold : (seat : ℕ) (steps : List PlaceEntry) → AllByRecursion (λ e. places.seat_of e ≡ seat) steps → AreBy seat (map AtPlace steps)
by_hold seat [] f = tt
by_hold seat (e ∷ es) f = (f.0, by_hold seat es f.1)

abbrev pub left_by : List DeskEntry → List Entry
left_by entries = map AtPlace (made_by entries)

left_more : (hold : Hold) (more : List DeskEntry) → left_by (Held hold ∷ more) ≡ map AtPlace (entries_in hold) ++ left_by more
left_more hold more = map-append AtPlace (entries_in hold) (made_by more)

-- those that the hold left are by its seat
pub made_by_seat : (seat : ℕ) (entries : List DeskEntry) → holds.AreBy seat entries → AreBy seat (left_by entries)
made_by_seat seat [] f = tt
made_by_seat seat (Routed call told ∷ more) f = made_by_seat seat more f.1
made_by_seat seat (Looked joined call told ∷ more) f = made_by_seat seat more f.1
made_by_seat seat (Turned after found ∷ more) f = made_by_seat seat more f.1
made_by_seat seat (Resumed last ∷ more) f = made_by_seat seat more f.1
made_by_seat seat (Held hold ∷ more) f =
    subst (AreBy seat) (sym (left_more hold more))
    (by-append seat (map AtPlace (entries_in hold)) (left_by more) (by_hold seat (entries_in hold) f.0) (made_by_seat seat more f.1))
made_by_seat seat (Stirred at before after failed ∷ more) f = made_by_seat seat more f.1
made_by_seat seat (Halted at state ∷ more) f = made_by_seat seat more f.1
made_by_seat seat (Missed at kept ∷ more) f = made_by_seat seat more f.1
made_by_seat seat (Spent number ∷ more) f = made_by_seat seat more f.1

-- ---- seats

pub same_added : (seat : SeatView) → seat ≡ added seat []
same_added seat = ap (λ (front : List Entry). record seat { front = front }) (sym (append-nil seat.front))

added_twice : (seat : SeatView) (a b : List Entry) → added (added seat a) b ≡ added seat (a ++ b)
added_twice seat a b = ap (λ (front : List Entry). record seat { front = front }) (append_assoc seat.front a b)

-- ---- what stands behind the turn

-- the place stands for these steps, and its port has sent their outputs
pub record Sits (state : State) (faults : ℕ) (id : SeatId) (front : List Entry) (steps : List PlaceEntry) (there : OnPlace SeatView) : Type 0 where
  pub stands : StandsBy state faults front steps there.place
  pub port : Port id there.port (outs_of state steps)

module _ (state : State) (faults : ℕ) (id : SeatId) (at : PlaceAt) (sends : LawSends) where
  abbrev Step : OnPlace SeatView → DeskEntry → OnPlace SeatView → Type 0
  Step old entry new = PlaceStep IsRouted IsWorn at old entry new

  -- a seat in its turn
  pub record IsIn (seat : SeatView) : Type 0 where
    pub opening : seat.opening ≡ OfPlace state faults id
    pub among : has seat.numbers (number_of seat) ≡ true

  there : (seat : SeatView) (place : PlaceIn) → seat.opening ≡ OfPlace state faults id → IsStanding state faults seat.front place → StandsAt seat.opening seat.front place
  there seat place opening standing = subst (λ (o : Opening). StandsAt o seat.front place) (sym opening) standing

  -- it leaves nothing
  quietly : (seat : SeatView) (was is : PlaceIn) → IsIn seat → IsStanding state faults seat.front was → IsStanding state faults seat.front is → LeavesAt [] seat seat was is
  quietly seat was is into before after = record {
    leaves = record {
      behind = same_added seat;
      by = tt;
      among = into.among;
      is_lawful = subst (IsPlaceHistory seat.opening) (sym (append-nil seat.front)) (stands_so seat.opening seat.front is (there seat is into.opening after));
    };
    stood = there seat was into.opening before;
    stands = there seat is into.opening after;
  }

  held_step : (hold : Hold) (seat : SeatView) (steps : List PlaceEntry) (old new : OnPlace SeatView) → IsIn seat → AllByRecursion (λ e. places.seat_of e ≡ number_of seat) (entries_in hold)
      → IsHeldOn IsRouted IsWorn at hold old new → Sits state faults id seat.front steps old
      → Sits state faults id (seat.front ++ map AtPlace (entries_in hold)) (steps ++ entries_in hold) new × SeatStep at seat (Held hold) (added seat (map AtPlace (entries_in hold)))
  held_step hold seat steps old new into by h sits =
      let s = sits.stands.standing in
      let next = stands_held state faults seat.front old.place s hold new.place h.held in
      let left : List Entry = map AtPlace (entries_in hold) in
      let seat_now : SeatView = added seat left in
      let outs_are : outs_of state steps ++ outs_of hold.before (entries_in hold) ≡ outs_of state (steps ++ entries_in hold) =
      sym
      (subst (λ (es : List PlaceEntry). outs_of state (es ++ entries_in hold) ≡ outs_of state es ++ outs_of hold.before (entries_in hold)) sits.stands.are
      (held_sends state faults seat.front old.place s hold new.place h.held sends))
      in (
        record {
          stands = record { standing = next.standing; are = next.are ∙ ap (λ (es : List PlaceEntry). es ++ entries_in hold) sits.stands.are };
          port = subst (Port id new.port) outs_are
              (sent_all id (outs_of hold.before (entries_in hold)) hold.sending h.told new.port (outs_of state steps) h.sent (heard_all id hold.readings old.port h.told (outs_of state steps) h.heard sits.port));
        },
        (
          h.at_is,
          record {
            was = old.place;
            is = new.place;
            leaves = record {
              leaves = record {
                behind = refl;
                by = by_hold (number_of seat) (entries_in hold) by;
                among = into.among;
                is_lawful = stands_so seat.opening (seat.front ++ left) new.place (there seat_now new.place into.opening next.standing);
              };
              stood = there seat old.place into.opening s;
              stands = there seat_now new.place into.opening next.standing;
            };
            held = h.held;
            told = sending_told (outs_of hold.before (entries_in hold)) hold.sending h.told new.port h.sent;
          },
        ),
      )

  -- what a chain of entries comes to
  pub record Leaving (seat : SeatView) (steps : List PlaceEntry) (entries : List DeskEntry) (new : OnPlace SeatView) : Type 0 where
    pub sits : Sits state faults id (seat.front ++ left_by entries) (steps ++ made_by entries) new
    pub led : Leads (SeatStep at) seat entries (added seat (left_by entries))

  behind_quiet : (seat : SeatView) (steps : List PlaceEntry) (entry : DeskEntry) (more : List DeskEntry) (new : OnPlace SeatView) → made_by (entry ∷ more) ≡ made_by more → SeatStep at seat entry seat
      → Leaving seat steps more new → Leaving seat steps (entry ∷ more) new
  behind_quiet seat steps entry more new none one rest =
      subst (λ (es : List PlaceEntry). Sits state faults id (seat.front ++ map AtPlace es) (steps ++ es) new → Leads (SeatStep at) seat more (added seat (map AtPlace es)) → Leaving seat steps (entry ∷ more) new) none
      (λ sits led. record { sits = sits; led = (seat, one, led) }) rest.sits rest.led

  same_sits : (front a : List Entry) (steps b : List PlaceEntry) (new : OnPlace SeatView) → a ≡ front → b ≡ steps → Sits state faults id a b new → Sits state faults id front steps new
  same_sits front a steps b new p q s = subst (λ (f : List Entry). Sits state faults id f steps new) p (subst (λ (es : List PlaceEntry). Sits state faults id a es new) q s)

  pub leaving : (seat : SeatView) (steps : List PlaceEntry) (entries : List DeskEntry) (old new : OnPlace SeatView) → IsIn seat → holds.AreBy (number_of seat) entries → Leads Step old entries new
      → Sits state faults id seat.front steps old → Leaving seat steps entries new
  leaving seat steps [] old new into by led sits = record {
    sits = subst (Sits state faults id (seat.front ++ []) (steps ++ [])) led (same_sits (seat.front ++ []) seat.front (steps ++ []) steps old (sym (append-nil seat.front)) (sym (append-nil steps)) sits);
    led = same_added seat;
  }
  leaving seat steps (Routed call told ∷ more) old new into by led sits = absurd led.1
  leaving seat steps (Looked joined call told ∷ more) old new into by led sits = absurd led.1
  leaving seat steps (Turned after found ∷ more) old new into by led sits = absurd led.1
  leaving seat steps (Resumed last ∷ more) old new into by led sits = absurd led.1
  leaving seat steps (Held hold ∷ more) old new into by led sits =
      let left : List Entry = map AtPlace (entries_in hold) in
      let mid : SeatView = added seat left in
      let one = held_step hold seat steps old led.0 into by.0 led.1 sits in
      let rest : Leaving mid (steps ++ entries_in hold) more new = leaving mid (steps ++ entries_in hold) more led.0 new (record { opening = into.opening; among = into.among }) by.1 led.2 one.0 in
      let whole : left ++ left_by more ≡ left_by (Held hold ∷ more) = sym (left_more hold more) in
      record {
        sits = same_sits (seat.front ++ left_by (Held hold ∷ more)) ((seat.front ++ left) ++ left_by more) (steps ++ made_by (Held hold ∷ more)) ((steps ++ entries_in hold) ++ made_by more) new
            (append_assoc seat.front left (left_by more) ∙ ap (λ (es : List Entry). seat.front ++ es) whole) (append_assoc steps (entries_in hold) (made_by more)) rest.sits;
        led = (mid, one.1, subst (Leads (SeatStep at) mid more) (added_twice seat left (left_by more) ∙ ap (added seat) whole) rest.led);
      }
  leaving seat steps (Stirred where_at before after failed ∷ more) old new into by led sits =
      let s = sits.stands.standing in
      let next = stands_stirred state faults seat.front old.place s before after failed led.0.place led.1.stirred in
      let still : Sits state faults id seat.front steps led.0 = record { stands = record { standing = next.standing; are = next.are ∙ sits.stands.are }; port = subst (λ (p : SeatView). Port id p (outs_of state steps)) (sym led.1.port) sits.port } in
      behind_quiet seat steps (Stirred where_at before after failed) more new refl
      (led.1.at_is, record { was = old.place; is = led.0.place; leaves = quietly seat old.place led.0.place into s next.standing; stirred = led.1.stirred })
      (leaving seat steps more led.0 new into by.1 led.2 still)
  leaving seat steps (Halted where_at found ∷ more) old new into by led sits =
      let s = sits.stands.standing in
      behind_quiet seat steps (Halted where_at found) more new refl
      (led.1.at_is, record { was = old.place; leaves = quietly seat old.place old.place into s s; count = led.1.count; stopped = led.1.stopped; state_is = led.1.state_is })
      (leaving seat steps more led.0 new into by.1 led.2 (subst (Sits state faults id seat.front steps) (sym led.1.same) sits))
  leaving seat steps (Missed where_at kept ∷ more) old new into by led sits =
      let s = sits.stands.standing in
      behind_quiet seat steps (Missed where_at kept) more new refl
      (led.1.at_is, record { was = old.place; leaves = quietly seat old.place old.place into s s; going = led.1.going; kept_is = led.1.kept_is; other = subst (λ (a : PlaceAt). kept ≢ a.incarnation) (sym led.1.at_is) led.1.other })
      (leaving seat steps more led.0 new into by.1 led.2 (subst (Sits state faults id seat.front steps) (sym led.1.same) sits))
  leaving seat steps (Spent number ∷ more) old new into by led sits = absurd led.1
