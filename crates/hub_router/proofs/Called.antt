-- Calls of the router within a turn, and one in a turn of its own.
use Rattle.std.proofs.Common.{◌≡◌, ◌++◌, ℕ, true, List, [], ◌∷◌, append_assoc, append-nil, refl, sym, ap, subst, ◌∙◌}
use Rattle.js_base.specs.Bytes.{has}
use Rattle.js_model.specs.Router.{Router, RouteCall, RouteTold, IsRoute}
use Rattle.histories.specs.Entries.{Entry, AreBy}
use Rattle.histories.specs.Lawful.{IsRouterHistory}
use Rattle.turn_lock.specs.Calls.{Comes, added, number_of}
use Rattle.turn_lock.specs.Seats.{SeatView}
use Rattle.turn_lock.specs.Views.{first_of}
use Rattle.hub_fronts.specs.Stepping.{routed_by}
use Rattle.hub_fronts.specs.Turns.{Leaves}
use Rattle.hub_fronts.proofs.Seen.{seen_inside, seen_same}
use Rattle.hub_router.specs.Calls.{IsCalled, IsCalledWithin, MayCall}
use Rattle.hub_router.specs.Kinds.{RouterIs}
use Rattle.hub_router.specs.Turns.{Enters, IsOpenTurn}
use Rattle.hub_router.proofs.Openers.{MayInside, may_inside, stands_after}

-- ---- the beginning of a turn

module _ (seat inside : SeatView) (value : Router) (entries : List Entry) (comes : Comes RouterIs seat inside value) (among : has inside.numbers (number_of inside) ≡ true)
    (none : entries ≡ []) where
  as_inside : (P : SeatView → Type 0) → P inside → P (added inside entries)
  as_inside P holds =
      subst P (ap (λ (front : List Entry). record inside { front = front }) (sym (ap (λ (es : List Entry). inside.front ++ es) none ∙ append-nil inside.front))) holds

  pub open_begun : IsOpenTurn inside entries value
  open_begun = record {
    among = among;
    by = subst (AreBy (number_of inside)) (sym none) tt;
    stands = as_inside (λ (s : SeatView). RouterIs s.opening s.front value) comes.stands_for;
  }

  pub has_entered : Enters seat (added inside entries)
  has_entered = as_inside (Enters seat) (record { sees = seen_inside RouterIs seat inside value comes; ticket = comes.ticket; low = comes.low })

  pub may_still : (call : RouteCall) → MayCall seat call → MayCall (added inside entries) call
  may_still call may =
      as_inside (λ (s : SeatView). MayCall s call) (may_inside seat inside call value comes.stands_for (seen_inside RouterIs seat inside value comes) among may).may

-- ---- a call

module _ (inside : SeatView) (entries : List Entry) (was is : Router) (call : RouteCall) (told : RouteTold) (number : ℕ) (now : List Entry) (turn : IsOpenTurn inside entries was)
    (same : number ≡ number_of inside) (now_is : now ≡ entries ++ routed_by number call told ∷ []) (route : IsRoute was call told is) (may : MayCall (added inside entries) call) where
  abbrev one : List Entry
  one = routed_by (number_of inside) call told ∷ []

  are : now ≡ entries ++ one
  are = now_is ∙ ap (λ (n : ℕ). entries ++ routed_by n call told ∷ []) same

  by-append : (seat : ℕ) (a b : List Entry) → AreBy seat a → AreBy seat b → AreBy seat (a ++ b)
  by-append seat [] b f g = g
  by-append seat (e ∷ es) b f g = (f.0, by-append seat es b f.1 g)

  after : RouterIs inside.opening ((inside.front ++ entries) ++ one) is
  after = stands_after (added inside entries) call told was is turn.stands route may

  pub open_called : IsOpenTurn inside now is
  open_called = record {
    among = turn.among;
    by = subst (AreBy (number_of inside)) (sym are) (by-append (number_of inside) entries one turn.by (refl, tt));
    stands =
        subst (λ (es : List Entry). RouterIs inside.opening (inside.front ++ es) is) (sym are)
        (subst (λ (es : List Entry). RouterIs inside.opening es is) (append_assoc inside.front entries one) after);
  }

  pub called_within : IsCalledWithin call told (added inside entries) (added inside now)
  called_within =
      let seat : SeatView = added inside entries in
      let known : MayInside seat call was = may_inside seat seat call was turn.stands (seen_same seat) turn.among may in
      record {
        leaves = record {
          behind =
              ap (λ (front : List Entry). record inside { front = front })
              (ap (λ (es : List Entry). inside.front ++ es) are ∙ sym (append_assoc inside.front entries one));
          by = (refl, tt);
          among = turn.among;
          is_lawful = (record { router = is; openers = after.0 }, after.1);
        };
        was = was;
        is = is;
        route = route;
        for_open = known.for_open;
      }

-- ---- in a turn of its own

pub called : (call : RouteCall) (told : RouteTold) (seat inside new : SeatView) → Enters seat inside → IsCalledWithin call told inside new → IsCalled call told seat new
called call told seat inside new enters within = record {
  turn = record {
    inside = inside;
    sees = enters.sees;
    ticket = enters.ticket;
    low = enters.low;
    leaves = subst (λ (n : ℕ). Leaves IsRouterHistory (routed_by n call told ∷ []) inside new) (ap first_of enters.sees.numbers) within.leaves;
  };
  was = within.was;
  is = within.is;
  route = within.route;
  for_open = within.for_open;
}
