-- What is left of a hub whose passes all became one.
use Rattle.std.proofs.Common.{◌≡◌, ◌++◌, ℕ, suc, List, [], ◌∷◌, map, Option, sym, subst}
use Rattle.std.specs.List.{AllZip}
use Rattle.js_model.specs.declared.stream.State.{State}
use Rattle.crash_laws.specs.Laws.{LawOpened}
use Rattle.place_engine.specs.Stepping.{Image, Seen}
use Rattle.histories.specs.Entries.{Opening, OfPlace, OfRouter, OfCatalog}
use Rattle.turn_lock.specs.Seats.{LockView, SeatView}
use Rattle.hub_fronts.specs.Fronts.{SharedScene}
use Rattle.hub_place.specs.Kinds.{PlaceIs}
use Rattle.hub_router.specs.Kinds.{RouterIs}
use Rattle.desk_places.specs.Closing.{End, EndsAt}
use Rattle.desk_places.specs.declared.faults.Closed.{Closed}
use Rattle.shared_desk.specs.Closing.{ClosesHub, EndEach, EndsPlace}
use Rattle.shared_desk.specs.Hubs.{HubView}
use Rattle.shared_desk.specs.Joining.{TakesApart, UnlockRow, UnlocksOne}
use Rattle.shared_desk.specs.Passes.{seats_at}
use Rattle.shared_desk.proofs.Gathering.{Gathers, all_of}
use Rattle.shared_desk.proofs.Joined.{GathersPass, GathersRow, gathers_ports, routers}
use Rattle.shared_desk.proofs.Leaving.{left_of}

module _ {P V : Type 0} (seen : P → Seen) (vol : P → V) (holds : Image → State → Type 0) (reads : V → Image → Type 0) (left : V → ℕ → Image → Type 0) (clock : V → ℕ)
    (base : Option ℕ → V → State → Type 0) (keeps : V → V → Type 0) (law : LawOpened holds left clock base) where
  abbrev Ends : P → End V → Type 0
  Ends = EndsAt seen vol holds reads left clock base keeps

  abbrev Unlocks : LockView → SeatView → P → SeatView → Type 0
  Unlocks = UnlocksOne seen vol holds left clock base keeps

  end_place : (of : LockView) (seats : List SeatView) (seat : SeatView) (place : P) (port : SeatView) (end : End V) → Gathers seats seat → Unlocks of seat place port → Ends place end
      → EndsPlace seen vol holds reads left clock base keeps of seats place port end.vol
  end_place of seats seat place port end g unlocks ends = by seat.opening unlocks.all.opening unlocks.stands
    where
      by : (o : Opening) → o ≡ of.opening → PlaceIs holds left clock base keeps o seat.front (seen place).place (vol place) port → EndsPlace seen vol holds reads left clock base keeps of seats place port end.vol
      by (OfPlace state faults id) same h = record {
        history = seat.front;
        all = all_of seats seat g unlocks.all.whole;
        state = state;
        faults = faults;
        id = id;
        opening = sym same;
        stands = h;
        leaves = left_of holds left clock base keeps law state h.standing.steps (seen place).place (vol place) end.vol h.lasts ends.stopped ends.outlasts seat.front h.standing.same;
      }
      by OfRouter same h = absurd h
      by (OfCatalog catalog) same h = absurd h

  end_each : (n : ℕ) (locks : List LockView) (passes : List SharedScene) (seats : List SeatView) (row : List P) (ports : List SeatView) (ends : List (End V)) → GathersRow n passes seats
      → UnlockRow seen vol holds left clock base keeps locks seats row ports → AllZip Ends row ends → EndEach seen vol holds reads left clock base keeps n locks passes row ports (map (λ (e : End V). e.vol) ends)
  end_each n [] passes [] [] [] [] g unlocks ended = tt
  end_each n [] passes [] [] [] (end ∷ ends) g unlocks ended = absurd ended
  end_each n [] passes [] [] (port ∷ ports) ends g unlocks ended = absurd unlocks
  end_each n [] passes [] (place ∷ row) ports ends g unlocks ended = absurd unlocks
  end_each n [] passes (seat ∷ seats) row ports ends g unlocks ended = absurd unlocks
  end_each n (of ∷ locks) passes [] row ports ends g unlocks ended = absurd unlocks
  end_each n (of ∷ locks) passes (seat ∷ seats) [] ports ends g unlocks ended = absurd unlocks
  end_each n (of ∷ locks) passes (seat ∷ seats) (place ∷ row) [] ends g unlocks ended = absurd unlocks
  end_each n (of ∷ locks) passes (seat ∷ seats) (place ∷ row) (port ∷ ports) [] g unlocks ended = absurd ended
  end_each n (of ∷ locks) passes (seat ∷ seats) (place ∷ row) (port ∷ ports) (end ∷ ends) g unlocks ended =
      (end_place of (seats_at n passes) seat place port end g.0 unlocks.0 ended.0, end_each (suc n) locks passes seats row ports ends g.1 unlocks.1 ended.1)

  pub closes_hub : (hub : HubView) (passes : List SharedScene) (all : SharedScene) (closed : Closed V) → GathersPass passes all → TakesApart seen vol holds reads left clock base keeps hub all closed
      → ClosesHub seen vol holds reads left clock base keeps hub passes closed
  closes_hub hub passes all closed g t =
      let ports : List SeatView = t.unlocks.ports in
      record {
        row = t.row;
        ports = ports;
        closes = t.closes;
        places =
            subst (λ (vols : List V). EndEach seen vol holds reads left clock base keeps 0 hub.places passes t.row ports vols) (sym t.closes.after)
            (end_each 0 hub.places passes all.fronts.places t.row ports t.closes.ends g.places t.unlocks.row_is t.closes.ended);
        router = record {
          history = t.router.front;
          router = t.value;
          all = all_of (ports ++ routers passes) t.router (gathers_ports (routers passes) all.fronts.router ports t.router g.router t.unlocks.joined) t.routers.whole;
          stands = subst (λ (o : Opening). RouterIs o t.router.front t.value) t.routers.opening t.stands;
        };
      }
