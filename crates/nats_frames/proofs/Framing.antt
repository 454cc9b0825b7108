-- It does not matter how an input was cut.
use Rattle.std.proofs.Common.{List, [], ◌∷◌, ◌++◌, ◌∙◌, ap, subst, append_assoc}
use Rattle.std.proofs.lemmas.List.{append-nil}
use Rattle.js_base.specs.Bytes.{Bytes}
use Rattle.nats_frames.specs.Grammar.{Fronts}
use Rattle.nats_frames.specs.Pieces.{Call, Fed, Gave, input, given, Leads, LawFraming}
use Rattle.nats_frames.proofs.Founds.{op_found}
use Rattle.nats_frames.proofs.Faulty.{faulty_found}
use Rattle.nats_frames.proofs.Runs.{partial, apart}

led : (held : Bytes) (calls : List Call) (last : Bytes) → Leads held calls last → Fronts (held ++ input calls) (given calls) last
led held [] last h = append-nil held ∙ h
led held (Fed piece ∷ calls) last h = subst (λ (b : Bytes). Fronts b (given calls) last) (append_assoc held piece (input calls)) (led (held ++ piece) calls last h)
led held (Gave op ∷ calls) last h =
    let found = op_found held op h.0 h.1 in (
      found.front,
      h.0 ++ input calls,
      found.spelled,
      ap (λ b. b ++ input calls) found.whole ∙ append_assoc found.front h.0 (input calls),
      led h.0 calls last h.2,
    )

pub framing : LawFraming
framing calls last h =
    let first = led [] calls last h in
    record {
      first = first;
      all = λ e. (first, ((partial last).0 e).0);
      refused = λ fault e. let faulty = faulty_found last fault e in ((first, apart last fault faulty), faulty);
    }
