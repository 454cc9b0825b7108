use Rattle.log_records.proofs.made.Made.is_storable.Goals as goal

pub is_storable-requires : goal.is_storable-requires
is_storable-requires c = record { formed = c.requires.sound.logged.formed; sound = c.requires.sound.replay }
