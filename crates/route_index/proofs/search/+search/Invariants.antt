use Rattle.std.proofs.Common.{◌≡◌, ◌+◌, ◌*◌, length, take}
use Rattle.route_index.proofs.Among.{AddsAmong}
use Rattle.route_index.proofs.Parts.{texts}
use Rattle.route_index.proofs.search.+search.Given as goal

abbrev pub decreases-go_down : goal.decreases-go_down
decreases-go_down l = 3 * length l.others.now + 1

abbrev pub decreases-go_down_each : goal.decreases-go_down_each
decreases-go_down_each l = 3 * length l.others.now + 2

abbrev pub decreases-search : goal.decreases-search
decreases-search l = 3 * length l.tokens.now

-- the numbers under the patterns that go on with the tokens so far were added
abbrev pub invariant-go_down_each-loop-token : goal.invariant-go_down_each-loop-token
invariant-go_down_each-loop-token l =
    (l.path ≡ l.initial.path) × AddsAmong l.query.seek l.query.ids.now l.path (texts l.others) (texts (take l.token-index l.token-items)) l.initial.found.items l.found.items
