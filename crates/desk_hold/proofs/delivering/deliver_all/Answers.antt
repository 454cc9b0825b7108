use Rattle.std.proofs.Common.{◌≡◌, ◌-◌, ◌^◌, ℕ, List, length, drop, sum_by, ap, subst, ◌∙◌, inl, inr, arith}
use Rattle.std.specs.Prelude.{min}
use Rattle.js_base.specs.declared.out.Out.{Out}
use Rattle.js_api.specs.Holding.{bytes_of}
use Rattle.desk_hold.proofs.Delivered.{ended_there, full_there, larger, next_so_far, none_so_far}
use Rattle.desk_hold.proofs.delivering.deliver_all.Goals as goal

pub returns-then-size-ge-MOST_BYTES-clause-delivers :
    goal.returns-then-size-ge-MOST_BYTES-clause-delivers
returns-then-size-ge-MOST_BYTES-clause-delivers g c = λ seat at. full_there g.P.Place.holds seat at _ _ _ _ _ _ _ (omega arith) (c.loop.invariant.so_far seat) (inr (omega (arith, c.loop.invariant.size)))

pub deliver_next-requires : goal.deliver_next-requires
deliver_next-requires g c = record { going = (c.loop.invariant.so_far 0).goes; room = omega (arith, c.loop.invariant.size) }

pub returns-in-Some-clause-delivers : goal.returns-in-Some-clause-delivers
returns-in-Some-clause-delivers g c = λ seat at. ended_there g.P.Place.holds seat at _ _ _ _ _ _ _ _ _ _ (omega arith) (c.loop.invariant.so_far seat) (c.in-Some.ensures.goes_on seat at)

pub returns-clause-delivers : goal.returns-clause-delivers
returns-clause-delivers g c = λ seat at. full_there g.P.Place.holds seat at _ _ _ _ _ _ _ (omega arith) (c.loop.invariant.so_far seat) (inl (omega arith))

pub loop-init : goal.loop-init
loop-init g c = record {
  so_far = λ seat. none_so_far g.P.Place.holds seat _ _ _ _ c.law_kept.ensures.kept c.requires.going;
  size = subst (λ (outs : List Out). c.size_of-size.result ≡ min (sum_by bytes_of outs) (2 ^ 64 - 1)) c.as_slice.ensures c.size_of-size.ensures.value;
  kept = c.law_kept.ensures.kept;
  vol = g.met.P.Place.keeps_none _;
}

pub loop-preserved : goal.loop-preserved
loop-preserved g c =
    let i = c.loop.invariant in
    let added : c.split_at.result.1.now ≡ drop (length c.loop.outs) c.deliver_next.new.outs =
    c.split_at.ensures.back ∙ ap (λ (n : ℕ). drop n c.as_slice-in-loop.result.now) c.len-from.ensures ∙ ap (λ (outs : List Out). drop (length c.loop.outs) outs) c.as_slice-in-loop.ensures in
    let more : c.size_of.result ≡ min (sum_by bytes_of (drop (length c.loop.outs) c.deliver_next.new.outs)) (2 ^ 64 - 1) =
    subst (λ (outs : List Out). c.size_of.result ≡ min (sum_by bytes_of outs) (2 ^ 64 - 1)) added c.size_of.ensures.value in
    record {
      so_far = λ seat. next_so_far g.P.Place.holds seat _ _ _ _ _ _ _ _ _ c.deliver_next.result c.in_default.is i.kept c.law_kept-in-loop.ensures.kept (i.so_far seat) c.deliver_next.ensures.goes_on (omega (arith, i.size));
      size = larger g.P.Place.holds c.loop.size c.size_of.result _ c.loop.outs c.deliver_next.new.outs c.args.now c.args.listening.now _ _ _ c.in_default.is c.deliver_next.ensures.goes_on i.size more c.saturating_add-size.ensures;
      kept = c.law_kept-in-loop.ensures.kept;
      vol = g.met.P.Place.keeps_more _ _ _ i.vol c.deliver_next.ensures.vol;
    }
