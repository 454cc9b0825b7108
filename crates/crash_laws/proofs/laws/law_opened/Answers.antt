use Rattle.std.proofs.Common.{None}
use Rattle.crash_laws.proofs.Opened.{law_opened}
use Rattle.crash_laws.proofs.laws.law_opened.Goals as goal

pub returns : goal.returns
returns g c =
    let P = g.P.Place in
    record { law = λ stopped began entries old new v w start outlasts t image since is_left. law_opened P.holds P.left P.clock (P.base None v) (P.base stopped w) began entries old new v w start outlasts t image since is_left }
