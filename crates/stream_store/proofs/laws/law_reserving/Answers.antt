use Rattle.stream_store.proofs.MessageRooms.{law_reserving}
use Rattle.stream_store.proofs.laws.law_reserving.Goals as goal

pub returns : goal.returns
returns g c = law_reserving (g.V.Vol.disk c.args.before.now) (g.V.Vol.disk c.args.after.now)
