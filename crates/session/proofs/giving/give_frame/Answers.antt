use Rattle.std.proofs.Common.{[], sym, refl, inl}
use Rattle.link_edge.proofs.Told.{grown-nil}
use Rattle.session.proofs.Framed.{frame_cut}
use Rattle.session.proofs.giving.give_frame.Goals as goal

pub returns-clause-given : goal.returns-clause-given
returns-clause-given g c = ([], frame_cut c.args.frame.now, sym (grown-nil _))

pub returns-clause-failings : goal.returns-clause-failings
returns-clause-failings g c = λ none. inl refl
