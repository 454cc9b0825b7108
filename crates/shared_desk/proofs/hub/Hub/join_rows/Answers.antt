use Rattle.std.proofs.Common.{◌≡◌, [], refl, sym, ◌∙◌, append-nil, length, vec_len, arith, eqb-true}
use Rattle.turn_lock.specs.Calls.{IsJoined}
use Rattle.shared_desk.proofs.Rows.{not_none, row_long}
use Rattle.shared_desk.proofs.Seats.{away_is, away_within, joined_seat, next_is, takes_more, third_all, third_none, zip_get, zip_long}
use Rattle.shared_desk.specs.Seats.{seats_in}
use Rattle.shared_desk.proofs.hub.Hub.join_rows.Goals as goal

pub loop-others-init : goal.loop-others-init
loop-others-init g c = record {
  rest = [];
  behind = sym (append-nil c.args.others.items);
  third =
      third_none IsJoined c.args.self.now.places c.args.ones.items c.args.others.items (length c.args.others.items)
      (row_long c.args.others.items c.requires.other.0
      ∙ (zip_long c.args.self.now.places (seats_in c.args.others.items) c.requires.other.1 ∙ sym (zip_long c.args.self.now.places (seats_in c.args.ones.items) c.requires.one.1)))
      c.requires.one.0 c.requires.one.1 c.requires.other.1;
}

pub unreachable-requires : goal.unreachable-requires
unreachable-requires g c =
    let next = next_is IsJoined c.args.self.now.places c.args.ones.items c.args.others.items c.loop-others.ones.items c.loop-others.others.items c.take_last.new.self.items c.take_last.result
    (length c.take_last.new.self.items) c.loop-others.invariant c.take_last.ensures.items refl c.requires.other.0 c.requires.other.1 in
    not_none next.seat (sym next.is ∙ c.in_default.is)

pub overflow_cast-at : goal.overflow_cast-at
overflow_cast-at g c =
    let next = next_is IsJoined c.args.self.now.places c.args.ones.items c.args.others.items c.loop-others.ones.items c.loop-others.others.items c.take_last.new.self.items c.take_last.result
    c.len-at.result c.loop-others.invariant c.take_last.ensures.items (omega (arith, c.len-at.ensures, c.take_last.new.self.ok.0)) c.requires.other.0 c.requires.other.1 in
    omega (arith, next.within, c.law_hub.ensures.hub.few)

pub take_at-one-requires-clause-within : goal.take_at-one-requires-clause-within
take_at-one-requires-clause-within g c =
    let next = next_is IsJoined c.args.self.now.places c.args.ones.items c.args.others.items c.loop-others.ones.items c.loop-others.others.items c.take_last.new.self.items c.take_last.result
    c.len-at.result c.loop-others.invariant c.take_last.ensures.items (omega (arith, c.len-at.ensures, c.take_last.new.self.ok.0)) c.requires.other.0 c.requires.other.1 in
    omega (arith, next.within, zip_long c.args.self.now.places (seats_in c.loop-others.ones.items) c.loop-others.invariant.third.own)

pub place-requires : goal.place-requires
place-requires g c =
    let next = next_is IsJoined c.args.self.now.places c.args.ones.items c.args.others.items c.loop-others.ones.items c.loop-others.others.items c.take_last.new.self.items c.take_last.result
    c.len-at.result c.loop-others.invariant c.take_last.ensures.items (omega (arith, c.len-at.ensures, c.take_last.new.self.ok.0)) c.requires.other.0 c.requires.other.1 in
    record { within = next.within }

pub join-joined-requires : goal.join-joined-requires
join-joined-requires g c =
    let next = next_is IsJoined c.args.self.now.places c.args.ones.items c.args.others.items c.loop-others.ones.items c.loop-others.others.items c.take_last.new.self.items c.take_last.result
    c.len-at.result c.loop-others.invariant c.take_last.ensures.items (omega (arith, c.len-at.ensures, c.take_last.new.self.ok.0)) c.requires.other.0 c.requires.other.1 in
    let one = zip_get c.args.self.now.places (seats_in c.loop-others.ones.items) c.len-at.result c.place.result.now c.take_at-one.result c.loop-others.invariant.third.own c.place.ensures.lock c.take_at-one.ensures.seat in
    let other = zip_get c.args.self.now.places (seats_in c.args.others.items) c.len-at.result c.place.result.now c.in-Some.other c.requires.other.1 c.place.ensures.lock (next.there ∙ (sym next.is ∙ c.in-Some.is)) in
    record { own = (one.lock, other.lock) }

pub put_at-requires : goal.put_at-requires
put_at-requires g c =
    let next = next_is IsJoined c.args.self.now.places c.args.ones.items c.args.others.items c.loop-others.ones.items c.loop-others.others.items c.take_last.new.self.items c.take_last.result
    c.len-at.result c.loop-others.invariant c.take_last.ensures.items (omega (arith, c.len-at.ensures, c.take_last.new.self.ok.0)) c.requires.other.0 c.requires.other.1 in
    record {
      within =
          away_within c.loop-others.ones.items c.take_at-one.new.row.items c.len-at.result c.loop-others.invariant.third.there
          (omega (arith, next.within, zip_long c.args.self.now.places (seats_in c.loop-others.ones.items) c.loop-others.invariant.third.own)) c.take_at-one.ensures.away;
    }

pub loop-others-preserved : goal.loop-others-preserved
loop-others-preserved g c =
    let count : c.len-at.result ≡ length c.take_last.new.self.items = omega (arith, c.len-at.ensures, c.take_last.new.self.ok.0) in
    let next = next_is IsJoined c.args.self.now.places c.args.ones.items c.args.others.items c.loop-others.ones.items c.loop-others.others.items c.take_last.new.self.items c.take_last.result
    c.len-at.result c.loop-others.invariant c.take_last.ensures.items count c.requires.other.0 c.requires.other.1 in
    let one = zip_get c.args.self.now.places (seats_in c.loop-others.ones.items) c.len-at.result c.place.result.now c.take_at-one.result c.loop-others.invariant.third.own c.place.ensures.lock c.take_at-one.ensures.seat in
    takes_more IsJoined c.args.self.now.places c.args.ones.items c.args.others.items c.loop-others.ones.items c.loop-others.others.items c.take_last.new.self.items c.take_last.result
    c.len-at.result c.loop-others.invariant c.take_last.ensures.items count c.place.result.now c.take_at-one.result c.in-Some.other c.join-joined.result c.put_at.new.row.items c.place.ensures.lock
    c.take_at-one.ensures.seat (next.there ∙ (sym next.is ∙ c.in-Some.is)) c.join-joined.ensures.joined
    (joined_seat c.place.result.now c.take_at-one.result c.join-joined.result c.in-Some.other c.join-joined.ensures.joined one)
    (c.put_at.ensures.back (seats_in c.loop-others.ones.items) (away_is c.loop-others.ones.items c.take_at-one.new.row.items c.len-at.result c.loop-others.invariant.third.there c.take_at-one.ensures.away))

pub returns-clause-joined : goal.returns-clause-joined
returns-clause-joined g c =
    third_all IsJoined c.args.self.now.places c.args.ones.items c.args.others.items c.loop-others.ones.items (length c.loop-others.others.items)
    (omega (arith, c.loop-others.others.ok.0, eqb-true (vec_len c.loop-others.others) 0 (sym c.is_empty.ensures ∙ c.loop-others-test.false))) c.loop-others.invariant.third

pub returns-clause-own : goal.returns-clause-own
returns-clause-own g c = (c.loop-others.invariant.third.there, c.loop-others.invariant.third.own)
