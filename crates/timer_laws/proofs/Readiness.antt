-- Where only the moment of a state changes, just those consumers are ready that were, and a tick does nothing.
use Rattle.std.proofs.Common.{◌≡◌, ℕ, ◌-◌, ◌^◌, Bool, ◌&&◌, cond, List, [], ◌∷◌, ◌++◌, refl, sym, ap, ◌∙◌}
use Rattle.std.specs.Prelude.{nat_lt, ◌==◌}
use Rattle.std.specs.List.{list_any}
use Rattle.std.proofs.lemmas.List.Elements.{All-weaker}
use Rattle.js_base.specs.Bytes.{Bytes}
use Rattle.js_base.specs.declared.out.Out.{Out}
use Rattle.js_model.specs.declared.stream.Message.{Message}
use Rattle.js_model.specs.declared.stream.Stream.{Stream}
use Rattle.js_model.specs.declared.stream.State.TheVariants.{Vacant, Live}
use Rattle.js_model.specs.declared.consumer.Consumer.{Consumer}
use Rattle.js_model.specs.declared.event.What.{What}
use Rattle.js_model.specs.declared.reply.Reply.TheVariants.{Silent}
use Rattle.js_model.specs.Advance.{advance, advance_outs}
use Rattle.js_model.specs.Deliver.{candidates, or_next, due_messages, is_due}
use Rattle.js_model.specs.Ready.{is_ready, is_ready_with}
use Rattle.js_model.specs.Retention.{kept}
use Rattle.js_model.specs.Trim.{trim}
use Rattle.js_model.specs.Events.{answered, completed, stream_answer, vacant_answer, settled}
use Rattle.timer_laws.specs.Quiet.{NoneFallsDue}
use Rattle.timer_laws.specs.Laws.{LawReadiness, LawTicked}
use Rattle.timer_laws.proofs.Lists.{filter_same, any_same, all_members}

-- ---- who is ready

abbrev moved : Stream → ℕ → Stream
moved s now = record s { moment = now }

module _ (s : Stream) (now : ℕ) (c : Consumer) (h : NoneFallsDue s.moment now c) where
  waits_same : (m : Message) → list_any (λ p. p.seq == m.seq && is_due now c p) c.pending ≡ list_any (λ p. p.seq == m.seq && is_due s.moment c p) c.pending
  waits_same m =
      any_same (λ p. p.seq == m.seq && is_due now c p) (λ p. p.seq == m.seq && is_due s.moment c p) c.pending
      (All-weaker (λ p. is_due now c p ≡ is_due s.moment c p) (λ p. (p.seq == m.seq && is_due now c p) ≡ (p.seq == m.seq && is_due s.moment c p)) (λ p e. ap (λ (b : Bool). p.seq == m.seq && b) e) c.pending h)

  due_same : due_messages (moved s now) c ≡ due_messages s c
  due_same =
      filter_same (λ m. list_any (λ p. p.seq == m.seq && is_due now c p) c.pending) (λ m. list_any (λ p. p.seq == m.seq && is_due s.moment c p) c.pending) s.messages
      (all_members (λ m. list_any (λ p. p.seq == m.seq && is_due now c p) c.pending ≡ list_any (λ p. p.seq == m.seq && is_due s.moment c p) c.pending) s.messages (λ m i. waits_same m))

  next_same : (ms : List Message) → or_next ms (moved s now) c ≡ or_next ms s c
  next_same [] = next_of c.picks
    where
      next_of : (picks : List ℕ) → or_next [] (moved s now) (record c { picks = picks }) ≡ or_next [] s (record c { picks = picks })
      next_of [] = refl
      next_of (n ∷ ns) = refl
  next_same (m ∷ ms) = refl

  same_candidates : candidates (moved s now) c ≡ candidates s c
  unfolding candidates
  same_candidates = ap (λ (ms : List Message). cond (nat_lt c.dseq (2 ^ 62 - 1)) ms []) (ap (λ (ms : List Message). or_next ms (moved s now) c) due_same ∙ next_same (due_messages s c))

  same_ready : (listening : List Bytes) → is_ready (moved s now) listening c ≡ is_ready s listening c
  same_ready listening = ap (λ (ms : List Message). is_ready_with ms listening c) same_candidates

pub law_readiness : LawReadiness
law_readiness (Vacant i) now listening rest h = refl
law_readiness (Live s) now listening rest h =
    ap (λ (a : Stream). list_any (is_ready a listening) a.consumers) h.stays
    ∙ any_same (is_ready (moved s now) listening) (is_ready s listening) s.consumers
    (All-weaker (NoneFallsDue s.moment now) (λ c. is_ready (moved s now) listening c ≡ is_ready s listening c) (λ c k. same_ready s now c k listening) s.consumers h.due)
    ∙ sym (ap (λ (a : Stream). list_any (is_ready a listening) a.consumers) rest.stays)

-- ---- a tick

-- what is kept of a stream does not hang on its moment
kept_moved : (s : Stream) (now : ℕ) → settled (moved s now) ≡ moved (settled s) now
unfolding kept trim
kept_moved s now = refl

pub law_ticked : LawTicked
unfolding answered
law_ticked (Vacant i) e now room h q = ap (λ (w : What). completed [] (vacant_answer i w now room)) q
law_ticked (Live s) e now room h q =
    ap (λ (w : What). completed (advance_outs s now) (stream_answer (advance s now) w room)) q
    ∙ ap (λ (outs : List Out). record { reply = Silent; outs = outs ++ []; state = Live (settled (advance s now)) }) h.silent
    ∙ ap (λ (t : Stream). record { reply = Silent; outs = []; state = Live (settled t) }) h.stays
    ∙ ap (λ (t : Stream). record { reply = Silent; outs = []; state = Live t }) (kept_moved s now)
