use Rattle.desk_answers.proofs.Ordered.{bytes_fit, consumers_fit}
use Rattle.desk_answers.proofs.account.account_reply.Goals as goal

pub all_consumers-requires : goal.all_consumers-requires
all_consumers-requires c = record { fits = consumers_fit c.args.infos.now c.requires.sound }

pub all_bytes-requires : goal.all_bytes-requires
all_bytes-requires c = record { fits = bytes_fit c.args.infos.now c.requires.sound }
