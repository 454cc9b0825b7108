use Rattle.nats_headers.proofs.Lines.{lines_by_lf, lines_without_lf}
use Rattle.nats_headers.proofs.line.cut_line.Goals as goal

pub returns-in-Some-clause-cut : goal.returns-in-Some-clause-cut
returns-in-Some-clause-cut c = lines_by_lf c.args.text.now c.in-Some.at c.in-Some.ensures.value

pub returns-in-None-clause-cut : goal.returns-in-None-clause-cut
returns-in-None-clause-cut c = lines_without_lf c.args.text.now c.in-None.ensures.value
