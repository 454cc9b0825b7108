use Rattle.std.proofs.Common.{◌∙◌, ap, arith}
use Rattle.std.proofs.lemmas.List.{replicate_more}
use Rattle.link_edge.specs.Told.{grown}
use Rattle.link_edge.specs.declared.answers.Accepted.TheVariants.{Quiet}
use Rattle.link_edge.proofs.Told.{grown_on}
use Rattle.server.proofs.Arriving.{none_starves}
use Rattle.server.proofs.serving.accept.Goals as goal

pub loop-preserved : goal.loop-preserved
loop-preserved g c =
    let i = c.loop.invariant in
    let e = c.in-Quiet.ensures in
    record {
      answered = grown_on _ _ _ _ _ i.answered e.answered ∙ ap (grown (g.R.Door.answered c.args.door.now)) (replicate_more c.loop.counter Quiet);
      gave = e.gave ∙ i.gave;
      back = e.back ∙ i.back;
      starved = none_starves _ _ _ i.starved e.starved;
      later = omega (arith, i.later, e.cause.later);
    }

pub returns-clause-arrives : goal.returns-clause-arrives
returns-clause-arrives g c = record { quiets = c.loop.counter; many = omega arith; answered = c.loop.invariant.answered }
