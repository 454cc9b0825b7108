use Rattle.std.proofs.Common.{◌≡◌, take}
use Rattle.route_index.proofs.Among.{AddsTexts}
use Rattle.route_index.proofs.Parts.{texts}
use Rattle.route_index.proofs.search.take_all.Given as goal

-- the numbers under the patterns that go on with the texts so far were added
abbrev pub invariant-loop-text : goal.invariant-loop-text
invariant-loop-text l = (l.path ≡ l.initial.path) × AddsTexts l.query.ids.now l.path (texts (take l.text-index l.text-items)) l.initial.found.items l.found.items
