-- What outlives a crash of a state that a place may have is formed as a log gives it.
use Rattle.std.proofs.Common.{ℕ, List, [], ◌∷◌, map, refl}
use Rattle.std.specs.Prelude.{All}
use Rattle.std.proofs.lemmas.List.Elements.{All-cons, All-head, All-nil, All-tail}
use Rattle.js_model.specs.declared.consumer.Consumer.{Consumer}
use Rattle.js_model.specs.declared.stream.Message.{Message}
use Rattle.js_model.specs.declared.stream.State.{State}
use Rattle.js_model.specs.declared.stream.State.TheVariants.{Vacant, Live}
use Rattle.js_model.specs.Lasting.{lasting_consumer}
use Rattle.model_laws.specs.Bounds.{IsWritable}
use Rattle.model_laws.specs.Sound.{IsSound, IsWellStoredConsumer}
use Rattle.model_laws.proofs.Lasting.{sound_lasting}
use Rattle.effects.specs.Durables.{durable_of}
use Rattle.durable_checks.specs.Storable.{IsConfigured, IsFormed}

-- no pull waits at what outlives a crash of a consumer, and its mark is the moment of its making
configured : (messages : List Message) (last : ℕ) (cs : List Consumer) → All (IsWellStoredConsumer messages last) (map lasting_consumer cs) → All IsConfigured (map lasting_consumer cs)
configured messages last [] h = All-nil IsConfigured
configured messages last (c ∷ cs) h =
    let one = All-head (IsWellStoredConsumer messages last) (lasting_consumer c) (map lasting_consumer cs) h in
    All-cons IsConfigured (lasting_consumer c) (map lasting_consumer cs)
    (record { config = one.config; named = one.named; waiting = refl; mark = refl })
    (configured messages last cs (All-tail (IsWellStoredConsumer messages last) (lasting_consumer c) (map lasting_consumer cs) h))

pub formed : (state : State) → IsSound state → IsWritable state → IsFormed (durable_of state)
formed (Vacant i) sound writable = tt
formed (Live s) sound writable =
    let lasts = (sound_lasting (Live s) sound).stored in
    record { config = lasts.config; writable = writable; consumers = configured s.messages s.last s.consumers lasts.consumers; ordered = lasts.ordered }
