-- A stream that is restored is settled.
use Rattle.std.proofs.Common.{◌≡◌, None, sym, subst}
use Rattle.js_model.specs.Events.{settled}
use Rattle.js_model.specs.Retention.{kept}
use Rattle.js_model.specs.Trim.{trim}
use Rattle.js_model.specs.declared.stream.Stream.{Stream}
use Rattle.retention.specs.Over.{next_over}
use Rattle.retention.proofs.Following.{law_trimmed}
use Rattle.followed_stream.specs.Attended.{IsAttended}
use Rattle.followed_stream.specs.Spans.{IsKeptOutside}
use Rattle.followed_stream.specs.declared.span.Span.{Span}
use Rattle.followed_stream.proofs.Attending.{coherent}
use Rattle.stream_state.specs.Settled.{AreProper, IsSettled}
use Rattle.stream_state.proofs.Settling.{outside_kept, within_kept}

pub restored : (s t : Stream) (loose : Span) → t ≡ s → IsAttended t → AreProper s.consumers → settled s ≡ s → IsSettled t loose
restored s t loose is attended proper e = record {
  attended = attended;
  proper = subst (λ (x : Stream). AreProper x.consumers) (sym is) proper;
  within = subst (λ (x : Stream). next_over x ≡ None) settles (within_kept (trim t) (law_trimmed t (coherent t attended)).0);
  kept = subst (IsKeptOutside loose) settles (outside_kept loose (trim t));
}
  where
    settles : kept (trim t) ≡ t
    settles = subst (λ (x : Stream). kept (trim x) ≡ x) (sym is) e
