-- More that was seen at the places, and entries behind it.
use Rattle.std.proofs.Common.{◌≡◌, ◌<◌, ◌≤◌, ℕ, zero, suc, List, [], ◌∷◌, ◌++◌, Some, refl, sym, subst, ◌∙◌, arith}
use Rattle.std.specs.Prelude.{slice_get, slice_set}
use Rattle.std.proofs.lemmas.Option.{same_Some}
use Rattle.histories.specs.Entries.{Entry, Opening}
use Rattle.histories.specs.Fronts.{Grows}
use Rattle.histories.proofs.Own.{grows-same, grows-both}
use Rattle.js_api.specs.Entries.{DeskEntry}
use Rattle.js_api.specs.Leading.{leads_more}
use Rattle.turn_lock.specs.Calls.{Comes}
use Rattle.turn_lock.specs.Seats.{SeatView}
use Rattle.hub_fronts.specs.Fronts.{SharedScene}
use Rattle.hub_fronts.specs.Making.{HaveSeen, SeesMore, MakesOne, SharedMade}
use Rattle.hub_fronts.specs.Turns.{HasSeen}

le_refl : (n : ℕ) → n ≤ n
le_refl n = omega arith

le_both : (a b c : ℕ) → a ≤ b → b ≤ c → a ≤ c
le_both a b c f g = omega (arith, f, g)

pub seen_same : (s : SeatView) → HasSeen s s
seen_same s = record { lock = refl; opening = refl; numbers = refl; grows = grows-same s.numbers s.front; drawn = le_refl s.drawn }

pub seen_both : (a b c : SeatView) → HasSeen a b → HasSeen b c → HasSeen a c
seen_both a b c f g = record {
  lock = g.lock ∙ f.lock;
  opening = g.opening ∙ f.opening;
  numbers = g.numbers ∙ f.numbers;
  grows = grows-both a.numbers a.front b.front c.front f.grows (subst (λ (ns : List ℕ). Grows ns b.front c.front) f.numbers g.grows);
  drawn = le_both a.drawn b.drawn c.drawn f.drawn g.drawn;
}

le_after : (m n : ℕ) → m < n → m ≤ n
le_after m n h = omega (arith, h)

-- a seat that came in has seen more
pub seen_inside : {S : Type 0} (stands : Opening → List Entry → S → Type 0) (seat inside : SeatView) (value : S) → Comes stands seat inside value → HasSeen seat inside
seen_inside stands seat inside value comes = record {
  lock = comes.lock;
  opening = comes.opening;
  numbers = comes.numbers;
  grows = comes.grows;
  drawn = le_after seat.drawn inside.drawn comes.ticket;
}

all_same : (seats : List SeatView) → HaveSeen seats seats
all_same [] = tt
all_same (s ∷ seats) = (seen_same s, all_same seats)

-- at one place alone
pub one_seen : (seats : List SeatView) (place : ℕ) (was is : SeatView) → slice_get seats place ≡ Some was → HasSeen was is → HaveSeen seats (slice_set seats place is)
one_seen [] place was is there seen = let no : ⊥ = cc in absurd no
one_seen (s ∷ seats) zero was is there seen = (subst (λ (v : SeatView). HasSeen v is) (same_Some was s (sym there)) seen, all_same seats)
one_seen (s ∷ seats) (suc place) was is there seen = (seen_same s, one_seen seats place was is there seen)

all_both : (a b c : List SeatView) → HaveSeen a b → HaveSeen b c → HaveSeen a c
all_both [] [] [] f g = tt
all_both [] [] (z ∷ zs) f g = absurd g
all_both [] (y ∷ ys) c f g = absurd f
all_both (x ∷ xs) [] c f g = absurd f
all_both (x ∷ xs) (y ∷ ys) [] f g = absurd g
all_both (x ∷ xs) (y ∷ ys) (z ∷ zs) f g = (seen_both x y z f.0 g.0, all_both xs ys zs f.1 g.1)

pub sees_nothing : (a : SharedScene) → SeesMore a a
sees_nothing a = record { router = refl; catalog = refl; places = all_same a.fronts.places; cursor = refl }

sees_both : (a b c : SharedScene) → SeesMore a b → SeesMore b c → SeesMore a c
sees_both a b c f g = record {
  router = g.router ∙ f.router;
  catalog = g.catalog ∙ f.catalog;
  places = all_both a.fronts.places b.fronts.places c.fronts.places f.places g.places;
  cursor = g.cursor ∙ f.cursor;
}

pub made_nothing : (a : SharedScene) → SharedMade a [] a
made_nothing a = record { mid = a; led = refl; sees = sees_nothing a }

-- what was seen before more entries is seen before the first of them
pub seen_first : (a b c : SharedScene) (more : List DeskEntry) → SeesMore a b → SharedMade b more c → SharedMade a more c
seen_first a b c [] sees made =
    record { mid = a; led = refl; sees = sees_both a b c sees (subst (λ (s : SharedScene). SeesMore s c) (sym made.led) made.sees) }
seen_first a b c (entry ∷ more) sees made =
    let one = made.led.1 in
    record {
      mid = made.mid;
      led = (made.led.0, record { mid = one.mid; sees = sees_both a b one.mid sees one.sees; step = one.step }, made.led.2);
      sees = made.sees;
    }

pub made_more : (a b c : SharedScene) (first more : List DeskEntry) → SharedMade a first b → SharedMade b more c → SharedMade a (first ++ more) c
made_more a b c first more made next =
    let rest : SharedMade made.mid more c = seen_first made.mid b c more made.sees next in
    record { mid = rest.mid; led = leads_more MakesOne a made.mid rest.mid first more made.led rest.led; sees = rest.sees }

-- one entry
pub made_one : (a b : SharedScene) (entry : DeskEntry) → MakesOne a entry b → SharedMade a (entry ∷ []) b
made_one a b entry one = record { mid = b; led = (b, one, refl); sees = sees_nothing b }
