use Rattle.std.proofs.Common.{◌≡◌, ◌++◌, ◌∷◌, [], rules, sym, ◌∙◌, arith}
use Rattle.desk_hold.proofs.Listeners.{all_pushes, is_within, one_push}
use Rattle.desk_hold.proofs.hearing.pushes_of.Goals as goal

pub overflow_add-at : goal.overflow_add-at
overflow_add-at g c = let within = is_within (g.P.Place.seen c.args.place.now).place.state c.loop-push.at c.in-Some.push c.in-Some.ensures.value in omega (arith, within, c.in-Some.ensures.few)

pub loop-push-smaller : goal.loop-push-smaller
loop-push-smaller g c = let within = is_within (g.P.Place.seen c.args.place.now).place.state c.loop-push.at c.in-Some.push c.in-Some.ensures.value in omega (arith, within)

pub loop-push-preserved : goal.loop-push-preserved
loop-push-preserved g c =
    let pushed : c.push-in-Some.new.self.items ≡ c.loop-push.pushes.items ++ c.in-Some.push ∷ [] = search rules in
    pushed ∙ one_push (g.P.Place.seen c.args.place.now).place.state c.loop-push.at c.in-Some.push c.loop-push.pushes.items c.in-Some.ensures.value c.loop-push.invariant

pub returns-clause-ok : goal.returns-clause-ok
returns-clause-ok g c =
    all_pushes (g.P.Place.seen c.args.place.now).place.state c.loop-push.at c.loop-push.pushes.items (sym c.in_default.is ∙ c.push.ensures.value) c.loop-push.invariant
