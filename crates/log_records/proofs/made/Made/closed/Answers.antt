use Rattle.std.proofs.Common.{ap, sym, subst}
use Rattle.block_table.specs.Blocks.{Blocks}
use Rattle.log_records.specs.Logged.{IsLogged}
use Rattle.log_records.specs.Holding.{held_in, made_in}
use Rattle.log_records.proofs.Following.{logged_closed}
use Rattle.log_records.proofs.made.Made.closed.Goals as goal

pub returns-clause-value : goal.returns-clause-value
returns-clause-value c = ap (λ (b : Blocks). record { durable = held_in c.args.self.held; blocks = b }) c.close.ensures

pub returns-clause-sound : goal.returns-clause-sound
returns-clause-sound c =
    let value = ap (λ (b : Blocks). record { durable = held_in c.args.self.held; blocks = b }) c.close.ensures in
    record { logged = subst IsLogged (sym value) (logged_closed (made_in c.args.self) c.requires.sound.logged); replay = c.requires.sound.replay; subject = c.requires.sound.subject }
