use Rattle.std.proofs.Common.{◌∙◌, ◌+◌, ◌≤◌, [], ◌∷◌, ap, sym, subst, take, length, arith, length-take, List}
use Rattle.route_index.specs.declared.sub.Sub.{Sub}
use Rattle.route_index.specs.Subs.{IsAbove}
use Rattle.catalog.specs.Numbers.{numbers, without_numbers}
use Rattle.catalog.proofs.Numbering.{taken_back, put_more, above_put}
use Rattle.catalog.proofs.listing.put_each.Goals as goal

pub returns-in-Err-clause-err : goal.returns-in-Err-clause-err
returns-in-Err-clause-err c =
    let few : length (take c.loop-subject.subject-index c.args.subjects.now) ≤ length c.args.subjects.now = omega (arith, length-take c.loop-subject.subject-index c.args.subjects.now) in
    ap (without_numbers (numbers c.args.first (length c.args.subjects.now))) (c.in-Err.ensures.err ∙ c.loop-subject.invariant.index)
    ∙ taken_back c.args.first (length c.args.subjects.now) c.args.index.now (take c.loop-subject.subject-index c.args.subjects.now) few c.requires.above

pub loop-subject-preserved : goal.loop-subject-preserved
loop-subject-preserved c =
    let P : List Sub → Type 0 = λ subs. IsAbove (c.loop-subject.id + 32) subs in
    record {
      id = omega (arith, c.loop-subject.invariant.id);
      index = c.in-Ok.ensures.ok
          ∙ put_more c.args.first c.loop-subject.id c.loop-subject.subject-index c.args.index.now c.loop-subject.index c.args.subjects.now c.subject-item.result
          (omega arith) c.loop-subject.invariant.id c.subject-item.is c.loop-subject.invariant.index;
      above = subst P (sym c.in-Ok.ensures.ok)
          (above_put c.loop-subject.id (c.loop-subject.id + 32) c.loop-subject.id c.loop-subject.index (c.subject-item.result ∷ []) (omega arith) (omega arith) c.loop-subject.invariant.above);
    }
