-- A place that was just opened is a new place of a hub.
use Rattle.std.proofs.Common.{◌≡◌, ◌≤◌, ℕ, List, [], ◌∷◌, Option, refl, sym, ap, subst, ◌∙◌, inl, inr, arith}
use Rattle.std.specs.Prelude.{◌↔◌}
use Rattle.std.specs.List.{AllByRecursion, AllZip}
use Rattle.js_model.specs.declared.stream.State.{State}
use Rattle.place_engine.specs.Stepping.{Image, IsKept, Seen}
use Rattle.place_engine.specs.declared.faults.OpenFault.{OpenFault}
use Rattle.place_engine.specs.Preparing.{RoomCauses}
use Rattle.histories.specs.Entries.{Opening, SeatId}
use Rattle.turn_lock.specs.Calls.{number_of}
use Rattle.turn_lock.specs.Seats.{SeatView}
use Rattle.turn_lock.specs.Views.{first_of}
use Rattle.hub_place.specs.Kinds.{IsHubPlace, IsNewPlace, IsNewPort, PlaceIs, opening_of}
use Rattle.desk_places.specs.Opening.{OpensOn}
use Rattle.shared_desk.specs.Laying.{IsSameSeat}
use Rattle.shared_desk.specs.Opening.{ComesBack, WasOpened}

module _ {P V : Type 0} (seen : P → Seen) (vol : P → V) (holds : Image → State → Type 0) (reads : V → Image → Type 0) (left : V → ℕ → Image → Type 0) (clock faults : V → ℕ) (causes : RoomCauses V)
    (base : Option ℕ → V → State → Type 0) (opens : V → State → Type 0) (refuses : V → OpenFault → Type 0) (keeps : V → V → Type 0) where
  pub was_opened : (before : List V) (row : List P) → AllZip (OpensOn seen vol holds reads left clock faults causes base opens refuses keeps) before row → AllByRecursion (WasOpened seen vol holds reads left clock faults causes base opens refuses keeps) row
  was_opened [] [] z = tt
  was_opened [] (p ∷ row) z = absurd z
  was_opened (v ∷ before) [] z = absurd z
  was_opened (v ∷ before) (p ∷ row) z = ((v, z.0), was_opened before row z.1)

  -- those that are as they were came back
  pub as_they_were : (row : List P) → AllZip (ComesBack seen vol holds reads left clock faults causes base opens refuses keeps) row row
  as_they_were [] = tt
  as_they_were (p ∷ row) = (inl refl, as_they_were row)

  pub as_they_are : (was is : List P) → is ≡ was → AllZip (ComesBack seen vol holds reads left clock faults causes base opens refuses keeps) was is
  as_they_are was is e = subst (λ (row : List P). AllZip (ComesBack seen vol holds reads left clock faults causes base opens refuses keeps) was row) (sym e) (as_they_were was)

  module _ (was is : P) (port after : SeatView) (new : IsNewPort port) (o : Opening) (opens_so : o ≡ opening_of (seen was).place port)
      (stands : PlaceIs holds left clock base keeps o [] (seen is).place (vol is) after) where
    abbrev id_of : SeatView → SeatId
    id_of seat = record { lock = seat.lock; number = number_of seat }

    abbrev At : SeatId → Type 0
    At id = IsHubPlace holds left clock base keeps (seen was).place.state (seen was).place.volume.faults id [] (seen is).place (vol is) after

    there : At (id_of port)
    there = subst (λ (p : Opening). PlaceIs holds left clock base keeps p [] (seen is).place (vol is) after) opens_so stands

    lock_is : port.lock ≡ after.lock
    lock_is = sym there.seat.lock

    number_is : number_of port ≡ number_of after
    number_is = sym (ap first_of there.seat.numbers)

    id_is : id_of port ≡ id_of after
    id_is = λ i. record { lock = lock_is i; number = number_is i }

    -- it came back out of a lock in which nothing was made
    pub back_again : ComesBack seen vol holds reads left clock faults causes base opens refuses keeps was is
    back_again = inr (after, subst At id_is there)

    pub same_again : IsSameSeat port after
    same_again = record { lock = there.seat.lock; numbers = there.seat.numbers ∙ sym (ap (λ (s : SeatView). s.numbers) new.is_new ∙ ap (λ (s : SeatView). number_of s ∷ []) (sym new.is_new)) }

  module _ (bases : (p : P) (b : State) → (seen p).is_base b ↔ base (seen p).place.stopped (vol p) b)
      (leaves : (p : P) (t : ℕ) (image : Image) → (seen p).left_since t image ↔ left (vol p) t image)
      (earlier : (v : V) (t u : ℕ) (image : Image) → t ≤ u → left v u image → left v t image)
      (stands : (p : P) → ((seen p).place.volume.moment ≡ clock (vol p)) × ((seen p).place.volume.faults ≡ faults (vol p)) × ((seen p).place.volume.refusals ≡ causes.refusals (vol p))) where
    pub new_place : (p : P) → IsKept holds (seen p) → WasOpened seen vol holds reads left clock faults causes base opens refuses keeps p → IsNewPlace holds left clock base keeps (seen p).place (vol p)
    new_place p kept (before, on) = record {
      going = on.opened.going;
      counted = on.opened.counted;
      opened = record {
        began = clock (vol p);
        before = omega arith;
        opened = record {
          all_lasts = on.opened.all_lasts;
          only = λ b is. on.opened.flushed.base b ((bases p b).1 (subst (λ (o : Option ℕ). base o (vol p) b) (sym on.opened.going) is)) ∙ on.opened.all_lasts;
          bases = λ image is_left.
              let b = kept.now image (subst (λ (t : ℕ). (seen p).left_since t image) (sym (stands p).0) ((leaves p (clock (vol p)) image).1 is_left)) in
              (b.0, b.1, subst (λ (o : Option ℕ). base o (vol p) b.0) on.opened.going ((bases p b.0).0 b.2));
          since = λ t image le is_left. on.now.now image (earlier (vol p) (clock (vol p)) t image le is_left);
        };
      };
    }
