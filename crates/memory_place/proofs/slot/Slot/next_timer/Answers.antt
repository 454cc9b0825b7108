use Rattle.memory_place.proofs.Timing.{live_bound, vacant_bound}
use Rattle.memory_place.proofs.slot.Slot.next_timer.Goals as goal

pub returns-in-Nothing : goal.returns-in-Nothing
returns-in-Nothing c = record { bound = rw (← c.self.view_is, c.in-Nothing.is) (vacant_bound _) }

pub returns-in-Stream : goal.returns-in-Stream
returns-in-Stream c = record { bound = rw (← c.self.view_is, c.in-Stream.is) (live_bound _ _ c.next_timer.ensures.bound) }
