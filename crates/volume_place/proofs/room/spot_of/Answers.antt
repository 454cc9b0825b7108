use Rattle.volume_place.proofs.room.spot_of.Goals as goal

pub returns-clause-value : goal.returns-clause-value
returns-clause-value c = rw (← c.block_length.ensures.value) c.spot_behind.ensures.value
