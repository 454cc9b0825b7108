use Rattle.std.proofs.Common.{◌≡◌, ◌-◌, ℕ, List, Option, refl, sym, subst, ◌∙◌, ap, length, arith}
use Rattle.std.specs.Prelude.{slice_get}
use Rattle.turn_lock.specs.Calls.{HasMet}
use Rattle.turn_lock.specs.Seats.{SeatView}
use Rattle.shared_desk.proofs.Rows.{row_long}
use Rattle.shared_desk.proofs.Seats.{IsThird, away_is, away_within, back_same, met_seat, third_all, third_more, third_none, zip_get, zip_long}
use Rattle.shared_desk.specs.Seats.{AreThere, seats_in}
use Rattle.shared_desk.proofs.hub.Hub.meet_each.Goals as goal

pub overflow_step-at : goal.overflow_step-at
overflow_step-at g c =
    omega (arith, c.len-at.ensures, c.args.ones.now.ok.0, row_long c.args.ones.now.items c.requires.one.0, zip_long c.args.self.now.places (seats_in c.args.ones.now.items) c.requires.one.1, c.law_hub.ensures.hub.few)

pub loop-at-init : goal.loop-at-init
loop-at-init g c =
    let count : c.len-at.result ≡ length (seats_in c.args.ones.now.items) = omega (arith, c.len-at.ensures, c.args.ones.now.ok.0, row_long c.args.ones.now.items c.requires.one.0) in
    record {
      within = omega (arith, count, zip_long c.args.self.now.places (seats_in c.args.ones.now.items) c.requires.one.1);
      same = refl;
      third = third_none HasMet c.args.self.now.places c.args.ones.now.items c.args.others.now.items c.len-at.result count c.requires.one.0 c.requires.one.1 c.requires.other.1;
    }

pub take_at-one-requires-clause-there : goal.take_at-one-requires-clause-there
take_at-one-requires-clause-there g c = c.loop-at.invariant.third.there

pub take_at-one-requires-clause-within : goal.take_at-one-requires-clause-within
take_at-one-requires-clause-within g c = omega (arith, c.loop-at.invariant.within, zip_long c.args.self.now.places (seats_in c.loop-at.ones.items) c.loop-at.invariant.third.own)

pub take_at-other-requires-clause-there : goal.take_at-other-requires-clause-there
take_at-other-requires-clause-there g c = subst AreThere (sym c.loop-at.invariant.same) c.requires.other.0

pub take_at-other-requires-clause-within : goal.take_at-other-requires-clause-within
take_at-other-requires-clause-within g c =
    omega (
      arith,
      c.loop-at.invariant.within,
      zip_long c.args.self.now.places (seats_in c.args.others.now.items) c.requires.other.1,
      ap (λ (row : List (Option SeatView)). length (seats_in row)) c.loop-at.invariant.same,
    )

pub place-requires : goal.place-requires
place-requires g c = omega (arith, c.loop-at.invariant.within)

pub meet-met-requires : goal.meet-met-requires
meet-met-requires g c =
    let one = zip_get c.args.self.now.places (seats_in c.loop-at.ones.items) (c.loop-at.at - 1) c.place.result.now c.take_at-one.result c.loop-at.invariant.third.own c.place.ensures.lock c.take_at-one.ensures.seat in
    let other = zip_get c.args.self.now.places (seats_in c.args.others.now.items) (c.loop-at.at - 1) c.place.result.now c.take_at-other.result c.requires.other.1 c.place.ensures.lock
    (sym (ap (λ (row : List (Option SeatView)). slice_get (seats_in row) (c.loop-at.at - 1)) c.loop-at.invariant.same) ∙ c.take_at-other.ensures.seat) in
    record { own = (one.lock, other.lock) }

pub put_at-requires : goal.put_at-requires
put_at-requires g c = record {
  within =
      away_within c.loop-at.ones.items c.take_at-one.new.row.items (c.loop-at.at - 1) c.loop-at.invariant.third.there
      (omega (arith, c.loop-at-test.true, c.loop-at.invariant.within, zip_long c.args.self.now.places (seats_in c.loop-at.ones.items) c.loop-at.invariant.third.own)) c.take_at-one.ensures.away;
}

pub put_at-requires-in-loop-at : goal.put_at-requires-in-loop-at
put_at-requires-in-loop-at g c = record {
  within =
      away_within c.loop-at.others.items c.take_at-other.new.row.items (c.loop-at.at - 1) (subst AreThere (sym c.loop-at.invariant.same) c.requires.other.0)
      (omega (
        arith,
        c.loop-at-test.true,
        c.loop-at.invariant.within,
        zip_long c.args.self.now.places (seats_in c.args.others.now.items) c.requires.other.1,
        ap (λ (row : List (Option SeatView)). length (seats_in row)) c.loop-at.invariant.same,
      ))
      c.take_at-other.ensures.away;
}

pub loop-at-preserved : goal.loop-at-preserved
loop-at-preserved g c =
    let there : AreThere c.loop-at.others.items = subst AreThere (sym c.loop-at.invariant.same) c.requires.other.0 in
    record {
      within = omega (arith, c.loop-at.invariant.within);
      same =
          back_same c.loop-at.others.items c.take_at-other.new.row.items c.put_at-in-loop-at.new.row.items (c.loop-at.at - 1) c.take_at-other.result c.meet-met.new.other there c.take_at-other.ensures.away
          c.take_at-other.ensures.seat c.meet-met.ensures.other
          (c.put_at-in-loop-at.ensures.back (seats_in c.loop-at.others.items) (away_is c.loop-at.others.items c.take_at-other.new.row.items (c.loop-at.at - 1) there c.take_at-other.ensures.away))
          ∙ c.loop-at.invariant.same;
      third =
          third_more HasMet c.args.self.now.places c.args.ones.now.items c.args.others.now.items c.loop-at.ones.items (c.loop-at.at - 1) c.place.result.now c.take_at-one.result c.take_at-other.result c.meet-met.result
          c.put_at.new.row.items
          (subst (λ (n : ℕ). IsThird HasMet c.args.self.now.places c.args.ones.now.items c.args.others.now.items c.loop-at.ones.items n) (omega (arith, c.loop-at-test.true)) c.loop-at.invariant.third)
          c.place.ensures.lock c.take_at-one.ensures.seat
          (sym (ap (λ (row : List (Option SeatView)). slice_get (seats_in row) (c.loop-at.at - 1)) c.loop-at.invariant.same) ∙ c.take_at-other.ensures.seat)
          c.meet-met.ensures.met
          (met_seat c.place.result.now c.take_at-one.result c.meet-met.result c.take_at-other.result c.meet-met.ensures.met
          (zip_get c.args.self.now.places (seats_in c.loop-at.ones.items) (c.loop-at.at - 1) c.place.result.now c.take_at-one.result c.loop-at.invariant.third.own c.place.ensures.lock c.take_at-one.ensures.seat))
          (c.put_at.ensures.back (seats_in c.loop-at.ones.items) (away_is c.loop-at.ones.items c.take_at-one.new.row.items (c.loop-at.at - 1) c.loop-at.invariant.third.there c.take_at-one.ensures.away));
    }

pub returns-clause-other : goal.returns-clause-other
returns-clause-other g c = c.loop-at.invariant.same

pub returns-clause-own : goal.returns-clause-own
returns-clause-own g c = (c.loop-at.invariant.third.there, c.loop-at.invariant.third.own)

pub returns-clause-met : goal.returns-clause-met
returns-clause-met g c =
    third_all HasMet c.args.self.now.places c.args.ones.now.items c.args.others.now.items c.loop-at.ones.items c.loop-at.at (omega (arith, c.loop-at-test.false)) c.loop-at.invariant.third
