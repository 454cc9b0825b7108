use Rattle.std.proofs.Common.{◌≡◌, ◌+◌, ◌*◌, ◌++◌, take}
use Rattle.route_index.specs.Subs.{IsAbove}
use Rattle.catalog.specs.Numbers.{numbered}
use Rattle.catalog.proofs.listing.put_each.Given as goal

-- the subjects so far were put
abbrev pub invariant-loop-subject : goal.invariant-loop-subject
invariant-loop-subject l = record {
  id : l.id ≡ l.fn.first + 32 * l.subject-index;
  index : l.index ≡ l.initial.index ++ numbered l.fn.first (take l.subject-index l.subjects);
  above : IsAbove l.id l.index;
}
