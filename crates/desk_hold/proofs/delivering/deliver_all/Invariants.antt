use Rattle.std.proofs.Common.{◌≡◌, ◌-◌, ◌^◌, ℕ, sum_by}
use Rattle.std.specs.Prelude.{min}
use Rattle.js_api.specs.Holding.{bytes_of}
use Rattle.place_engine.specs.Stepping.{IsKept}
use Rattle.desk_hold.proofs.Delivered.{SoFar}
use Rattle.desk_hold.proofs.delivering.deliver_all.Given as goal

-- so many deliveries were made so far, and what is to be sent has the size that was counted
abbrev pub invariant-loop : goal.invariant-loop
invariant-loop g l =
    let P = g.P.Place in
    record {
      so_far : (seat : ℕ) → SoFar P.holds seat l.fn.now l.fn.listening l.counter (P.seen l.fn.place) (P.seen l.place) l.fn.outs l.outs;
      size : l.size ≡ min (sum_by bytes_of l.outs) (2 ^ 64 - 1);
      kept : IsKept P.holds (P.seen l.place);
      vol : P.keeps_vol (P.vol l.fn.place) (P.vol l.place);
    }
