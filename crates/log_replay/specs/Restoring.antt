-- What a replay can go on with, by a rule of this server's own.
use Rattle.effects.specs.declared.durable.Body.{Body}
use Rattle.effects.specs.Restorable.{Rises}

-- no id is later than the one after it, or than the last moment that the stream has seen
abbrev pub AreIdsInTime : Body → Type 0
AreIdsInTime b = Rises (λ i. i.at) 0 b.moment b.ids
