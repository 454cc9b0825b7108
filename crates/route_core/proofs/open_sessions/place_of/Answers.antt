use Rattle.std.proofs.Common.{rules, ◌∙◌}
use Rattle.std.proofs.lemmas.List.Sorted.{answers_always}
use Rattle.route_core.proofs.Searching.{searched}
use Rattle.route_core.proofs.open_sessions.place_of.Goals as goal

pub returns : goal.returns
returns c =
    let facts = c.binary_search_by_key.ensures in
    let by_number = facts.position (λ session. session.number) (answers_always _ _ _ (λ f a r g called. search rules)) in
    record { value = c.ok.ensures.value ∙ searched c.args.number c.args.sessions.now c.requires.numbered _ facts.bound by_number }
