-- When time alone changes no more of what a place holds than its moment, by what passes with time in JetStream's streams and consumers.
use Rattle.std.specs.Prelude.{◌≡◌, ℕ, [], All, ⊤}
use Rattle.js_model.specs.declared.stream.Stream.{Stream}
use Rattle.js_model.specs.declared.stream.State.{State}
use Rattle.js_model.specs.declared.stream.State.TheVariants.{Vacant, Live}
use Rattle.js_model.specs.declared.consumer.Consumer.{Consumer}
use Rattle.js_model.specs.Advance.{advance, advance_outs}
use Rattle.js_model.specs.Deliver.{is_due}
use Rattle.js_model.specs.StateMoments.{moment_of}

-- no entry is due that was not
abbrev pub NoneFallsDue : ℕ → ℕ → Consumer → Type 0
NoneFallsDue moment now c = All (λ p. is_due now c p ≡ is_due moment c p) c.pending

-- until then the stream stays but for its moment, nothing is sent, and no delivery is due that was not
pub record IsQuietStream (s : Stream) (now : ℕ) : Type 0 where
  pub stays : advance s now ≡ record s { moment = now }
  pub silent : advance_outs s now ≡ []
  pub due : All (NoneFallsDue s.moment now) s.consumers

abbrev pub IsQuiet : State → ℕ → Type 0
IsQuiet (Vacant i) now = ⊤
IsQuiet (Live s) now = IsQuietStream s now

-- all that is due by the state's own moment has been done
abbrev pub IsAtRest : State → Type 0
IsAtRest s = IsQuiet s (moment_of s)
