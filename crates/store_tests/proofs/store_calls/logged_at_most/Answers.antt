use Rattle.std.proofs.Common.{arith}
use Rattle.store_tests.proofs.Lengths.{logged_length, put_logged}
use Rattle.store_tests.proofs.store_calls.logged_at_most.Goals as goal

pub returns-in-PutHere : goal.returns-in-PutHere
returns-in-PutHere c =
    let e = c.in-PutHere in
    let whole = put_logged c.args.change.now e.seq e.at e.id e.subject e.headers e.payload e.is in
    omega (arith, whole, c.in_ok-written.ensures, c.len.ensures, c.saturating_sub.ensures)

pub returns-in_default : goal.returns-in_default
returns-in_default c = let most = logged_length c.args.change.now in omega (arith, most, c.in_ok-written.ensures)
