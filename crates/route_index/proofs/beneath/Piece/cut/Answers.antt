use Rattle.route_index.proofs.Pieces.{text_ends}
use Rattle.route_index.proofs.beneath.Piece.cut.Goals as goal

pub returns-in-Text-clause-ends : goal.returns-in-Text-clause-ends
returns-in-Text-clause-ends c = rw c.in-Text.is (text_ends c.args.text.now)
