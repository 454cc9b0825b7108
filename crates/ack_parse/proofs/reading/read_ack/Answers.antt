use Rattle.std.proofs.Common.{rules}
use Rattle.ack_parse.proofs.Subjects.{delivered_is, small}
use Rattle.ack_parse.proofs.reading.read_ack.Goals as goal

pub returns-in-Some-clause-names : goal.returns-in-Some-clause-names
returns-in-Some-clause-names c =
    let spelled = delivered_is c.args.subject.now c.in_ok-delivered.delivered c.in_ok-delivered.ensures.reading in
    (spelled.stream_is, spelled.consumer_is)

pub returns-in-Some-clause-numbers : goal.returns-in-Some-clause-numbers
returns-in-Some-clause-numbers c =
    let spelled = delivered_is c.args.subject.now c.in_ok-delivered.delivered c.in_ok-delivered.ensures.reading in
    (small spelled.sequence c.in_ok-delivered.delivered.seq spelled.sequence_is, search rules)
