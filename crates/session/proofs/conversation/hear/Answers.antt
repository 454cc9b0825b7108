use Rattle.std.proofs.Common.{refl, inl}
use Rattle.session.proofs.Heard.{cut_unfed}
use Rattle.session.proofs.conversation.hear.Goals as goal

pub returns-in-Err-clause-hears : goal.returns-in-Err-clause-hears
returns-in-Err-clause-hears g c = cut_unfed _ g.met.D.Desk.made_more _ _ _ _ _ _ (g.met.D.Desk.made_nothing c.args.desk.now)

pub returns-in-Err-clause-failings : goal.returns-in-Err-clause-failings
returns-in-Err-clause-failings g c = λ none. inl refl
