use Rattle.shared_desk.proofs.Rows.{row_put}
use Rattle.shared_desk.proofs.row.put_at.Goals as goal

pub returns : goal.returns
returns g c = record { back = λ seats e. row_put c.args.row.now.items c.args.at seats c.args.seat e }
