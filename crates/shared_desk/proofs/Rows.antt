-- A row of seats of which one is away.
use Rattle.std.proofs.Common.{◌≡◌, ◌<◌, ℕ, zero, suc, List, [], ◌∷◌, map, Option, Some, None, refl, sym, ap, subst, ◌∙◌, arith, length, get_or}
use Rattle.std.specs.Prelude.{slice_get, slice_set}
use Rattle.std.proofs.lemmas.List.{length-map}
use Rattle.std.proofs.lemmas.Option.{slice_get_read}
use Rattle.turn_lock.specs.Seats.{SeatView}
use Rattle.desk_places.proofs.Sets.{map_set, set_twice}
use Rattle.shared_desk.specs.Seats.{AreThere, seats_in}

some_is : {X : Type 0} (x y : X) → Some x ≡ Some y → x ≡ y
some_is x y e = cc

pub row_long : (row : List (Option SeatView)) → AreThere row → length row ≡ length (seats_in row)
row_long row there = ap length there ∙ length-map (seats_in row) Some

-- the seat of a number
pub record IsAt (seats : List SeatView) (n : ℕ) (found : Option SeatView) : Type 0 where
  pub seat : SeatView
  pub is : found ≡ Some seat
  pub there : slice_get seats n ≡ Some seat

at_some : (seats : List SeatView) (n : ℕ) (found : Option SeatView) → slice_get (map Some seats) n ≡ Some found → IsAt seats n found
at_some [] n found h = absurd (cc)
at_some (s ∷ seats) zero found h = record { seat = s; is = sym (some_is (Some s) found h); there = refl }
at_some (s ∷ seats) (suc n) found h = let more = at_some seats n found h in record { seat = more.seat; is = more.is; there = more.there }

pub row_at : (row : List (Option SeatView)) (n : ℕ) (found : Option SeatView) → AreThere row → n < length (seats_in row) → found ≡ get_or row n found → IsAt (seats_in row) n found
row_at row n found there within is =
    at_some (seats_in row) n found
    (subst (λ (r : List (Option SeatView)). slice_get r n ≡ Some found) there (slice_get_read row (length row) n found refl (omega (arith, within, row_long row there)) is))

pub row_put : (row : List (Option SeatView)) (n : ℕ) (seats : List SeatView) (seat : SeatView) → row ≡ slice_set (map Some seats) n None → slice_set row n (Some seat) ≡ map Some (slice_set seats n seat)
row_put row n seats seat e =
    ap (λ (r : List (Option SeatView)). slice_set r n (Some seat)) e ∙ (set_twice (map Some seats) n None (Some seat) ∙ sym (map_set Some seats n seat))

pub not_none : (seat : SeatView) → Some seat ≡ None → ⊥
not_none seat e = cc
