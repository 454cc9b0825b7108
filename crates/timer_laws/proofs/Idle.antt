-- A tick before anything is due changes nothing of a settled state but its moment.
use Rattle.std.proofs.Common.{◌≡◌, ℕ, ◌<◌, ◌≤◌, Bool, true, List, [], ◌++◌, max, ap, ◌∙◌, arith}
use Rattle.std.specs.Prelude.{nat_lt, All}
use Rattle.std.specs.List.{flat_map}
use Rattle.std.proofs.lemmas.Bool.{ltb-true}
use Rattle.js_base.specs.declared.out.Out.{Out}
use Rattle.js_model.specs.declared.stream.Stream.{Stream}
use Rattle.js_model.specs.declared.stream.State.{State}
use Rattle.js_model.specs.declared.stream.State.TheVariants.{Vacant, Live}
use Rattle.js_model.specs.declared.event.Event.{Event}
use Rattle.js_model.specs.declared.reply.Reply.TheVariants.{Silent}
use Rattle.js_model.specs.Advance.{advance, advance_outs, stream_at, aged, consumer_outs}
use Rattle.js_model.specs.Events.{answered, completed, stream_answer}
use Rattle.js_model.specs.StateMoments.{at_moment}
use Rattle.timers.specs.Timers.{consumer_timers, age_timers, id_timers, later, timers}
use Rattle.timer_laws.specs.Laws.{LawIdle, LawIdleBefore}
use Rattle.timer_laws.proofs.Lists.{all_both, all_filtered}
use Rattle.timer_laws.proofs.Passing.{law_timers}
use Rattle.timer_laws.proofs.Readiness.{law_ticked}

pub law_idle : LawIdle
law_idle s e now room settled quiet q = law_ticked s e now room quiet q ∙ ap (λ (t : State). record { reply = Silent; outs = []; state = at_moment t now }) settled

-- ---- a moment that may be before the state's own

-- what is later than one moment and after another is after both
after_both : (moment now : ℕ) (moments : List ℕ) → All (λ x. now < x) (later moment moments) → All (λ x. max moment now < x) (later moment moments)
after_both moment now moments h =
    all_both (λ x. nat_lt moment x ≡ true) (λ x. now < x) (λ x. max moment now < x) (λ x e k. let a : moment < x = ltb-true moment x e in let b : now < x = k in omega arith)
    (later moment moments) (all_filtered (nat_lt moment) moments) h

timers_after : (s : Stream) (now : ℕ) → All (λ x. now < x) (timers (Live s)) → All (λ x. max s.moment now < x) (timers (Live s))
unfolding timers
timers_after s now h = after_both s.moment now (age_timers s ++ id_timers s ++ flat_map consumer_timers s.consumers) h

not_before : (moment now : ℕ) → moment ≤ max moment now
not_before moment now = omega arith

later_again : (moment now : ℕ) → max moment now ≡ max moment (max moment now)
later_again moment now = omega arith

same_advance : (s : Stream) (now : ℕ) → advance s now ≡ advance s (max s.moment now)
unfolding advance
same_advance s now = ap (stream_at s) (later_again s.moment now)

same_advance_outs : (s : Stream) (now : ℕ) → advance_outs s now ≡ advance_outs s (max s.moment now)
unfolding advance_outs
same_advance_outs s now = ap (λ (n : ℕ). flat_map (consumer_outs n) (aged s n).consumers) (later_again s.moment now)

same_answer : (s : Stream) (e : Event) (now : ℕ) (room : Bool) → answered (Live s) e now room ≡ answered (Live s) e (max s.moment now) room
unfolding answered
same_answer s e now room =
    ap (λ (outs : List Out). completed outs (stream_answer (advance s now) e.what room)) (same_advance_outs s now)
    ∙ ap (λ (a : Stream). completed (advance_outs s (max s.moment now)) (stream_answer a e.what room)) (same_advance s now)

pub law_idle_before : LawIdleBefore
law_idle_before (Vacant i) e now room settled rest h q = law_idle (Vacant i) e now room settled tt q
law_idle_before (Live s) e now room settled rest h q =
    same_answer s e now room
    ∙ law_idle (Live s) e (max s.moment now) room settled (law_timers (Live s) (max s.moment now) rest (not_before s.moment now) (timers_after s now h)) q
