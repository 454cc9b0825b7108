use Rattle.std.proofs.Common.{[], sym, refl, inl}
use Rattle.link_edge.proofs.Told.{grown-nil}
use Rattle.session.specs.Talk.{greeting}
use Rattle.session.proofs.Framed.{greeting_cut}
use Rattle.session.proofs.session.greet.Goals as goal

pub returns-clause-given : goal.returns-clause-given
unfolding greeting
returns-clause-given g c = rw c.in-Ok.ensures.cases at c.give_frame.ensures.given

pub returns-in-Err-clause-given : goal.returns-in-Err-clause-given
returns-in-Err-clause-given g c = ([], greeting_cut c.args.limits.now c.args.session, sym (grown-nil _))

pub returns-in-Err-clause-failings : goal.returns-in-Err-clause-failings
returns-in-Err-clause-failings g c = λ none. inl refl
