-- What a stream is restored to, by a rule of this server's own.
use Rattle.std.specs.Prelude.{◌≡◌}
use Rattle.js_model.specs.declared.stream.State.{State}
use Rattle.js_model.specs.Lasting.{lasting}
use Rattle.model_laws.specs.Sound.{IsSound}
use Rattle.model_laws.specs.Bounds.{IsBounded, IsWritable}
use Rattle.effects.specs.Restorable.{IsRestorable}

-- sound, within the bounds of a volume, with messages that can be written and that its limits and its retention keep; and all of it outlives a crash
pub record IsRestored (s : State) : Type 0 where
  pub sound : IsSound s
  pub bounded : IsBounded s
  pub writable : IsWritable s
  pub restorable : IsRestorable s
  pub lasting : lasting s ≡ s
