use Rattle.server.proofs.listening.listen_of.Goals as goal

pub returns-in-None : goal.returns-in-None
returns-in-None c = rw c.in-None.is c.address_of-in-None.ensures
