use Rattle.route_index.proofs.Reaching.{AreListed, left_from}
use Rattle.route_index.proofs.beneath.pieces_beneath.Given as goal

abbrev pub invariant-loop-text : goal.invariant-loop-text
invariant-loop-text l = AreListed l.piece l.ids l.path l.from l.pieces.items

abbrev pub decreases-loop-text : goal.decreases-loop-text
decreases-loop-text l = left_from l.from l.ids.entries
