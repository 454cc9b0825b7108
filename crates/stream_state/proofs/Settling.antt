-- A stream whose limits hold stays one, and which of its messages may no longer be kept.
use Rattle.std.proofs.Common.{◌≡◌, ℕ, ◌+◌, ◌<◌, true, false, List, None, max, map, refl, sym, ap, subst, ◌∙◌, arith}
use Rattle.std.specs.Prelude.{All, filter}
use Rattle.std.proofs.lemmas.Bool.{true≢false}
use Rattle.std.proofs.lemmas.List.Elements.{All-push, All-weaker}
use Rattle.js_model.specs.declared.stream.Message.{Message}
use Rattle.js_model.specs.declared.stream.Stream.{Stream}
use Rattle.js_model.specs.declared.event.Publish.{Publish}
use Rattle.js_model.specs.Advance.{advance, consumer_at, remembered, young}
use Rattle.js_model.specs.Events.{with_message}
use Rattle.js_model.specs.Retention.{is_kept, kept}
use Rattle.js_model.specs.Streams.{only}
use Rattle.js_model.specs.Trim.{max_messages, trim}
use Rattle.js_model.specs.Verdict.{message_of}
use Rattle.js_model.proofs.Members.{in_bounds, in_filter, IsIn}
use Rattle.js_model.proofs.Parts.{filter_part, young_part}
use Rattle.retention.specs.Over.{next_over}
use Rattle.retention.proofs.Dropping.{limits_keep_part, trim_only}
use Rattle.retention.proofs.Following.{law_within}
use Rattle.stored_stream.proofs.Limiting.{within_less}
use Rattle.stored_stream.proofs.Sounding.{with_message_is}
use Rattle.followed_stream.specs.Attended.{IsAttended}
use Rattle.followed_stream.specs.Needing.{NeedSame}
use Rattle.followed_stream.specs.Spans.{joined, spans, IsKeptOutside}
use Rattle.followed_stream.specs.declared.span.Span.{Span}
use Rattle.followed_stream.proofs.Attending.{coherent}
use Rattle.followed_stream.proofs.Needing.{kept_alike}
use Rattle.followed_stream.proofs.Spanning.{outside_first, outside_second, spans_all, spans_one, spans_second}
use Rattle.followed_stream.proofs.Holding.{all_from_in}
use Rattle.stream_state.proofs.Unkept.{all_kept, keeps, keeps_less, outside_less}

pub trimmed : (s : Stream) → IsAttended s → next_over s ≡ None → trim s ≡ s
trimmed s h within = law_within s (coherent s h) within

-- ---- what is kept outside

-- the same messages, and consumers that need and take the same of them
pub outside_same : (span other : Span) (s t : Stream) → t.messages ≡ s.messages → t.config.retention ≡ s.config.retention
    → ((m : Message) → spans other m.seq ≡ false → spans span m.seq ≡ false) → ((m : Message) → spans other m.seq ≡ false → NeedSame m t.consumers s.consumers) → IsKeptOutside span s → IsKeptOutside other t
outside_same span other s t messages retention wider same h = record {
  kept = subst (λ (ms : List Message). All (λ m. spans other m.seq ≡ false → keeps t m ≡ true) ms) (sym messages)
      (All-weaker (λ (m : Message). spans span m.seq ≡ false → keeps s m ≡ true) (λ m. spans other m.seq ≡ false → keeps t m ≡ true)
      (λ m k e. kept_alike t.config.retention m t.consumers s.consumers (same m e) ∙ ap (λ policy. is_kept policy s.consumers m) retention ∙ k (wider m e))
      s.messages h.kept);
}

pub outside_published : (span other : Span) (s : Stream) (p : Publish) → ((m : Message) → spans other m.seq ≡ false → spans span m.seq ≡ false) → spans other (s.last + 1) ≡ true → IsKeptOutside span s → IsKeptOutside other (with_message s p)
outside_published span other s p wider own h = subst (IsKeptOutside other) (sym (with_message_is s p)) (record {
  kept = All-push (λ (m : Message). spans other m.seq ≡ false → keeps s m ≡ true) s.messages (message_of s p)
      (All-weaker (λ (m : Message). spans span m.seq ≡ false → keeps s m ≡ true) (λ m. spans other m.seq ≡ false → keeps s m ≡ true) (λ m k e. k (wider m e)) s.messages h.kept)
      (λ e. absurd (true≢false (sym own ∙ e)));
})

pub outside_trim : (span : Span) (s : Stream) → IsKeptOutside span s → IsKeptOutside span (trim s)
outside_trim span s h = subst (IsKeptOutside span) (sym (trim_only s)) (outside_less span s (limits_keep_part s.config.max_msgs_per_subject (max_messages s) s.config.max_bytes s.messages) h)

-- a span of all sequences
pub outside_all : (s : Stream) → IsAttended s → IsKeptOutside (record { first = 0; last = s.last }) s
outside_all s h = record {
  kept = all_from_in (λ m. spans (record { first = 0; last = s.last }) m.seq ≡ false → keeps s m ≡ true) s.messages
      (λ m i e. let bound : m.seq < s.last + 1 = (in_bounds (λ (x : Message). x.seq) 1 (s.last + 1) m s.messages h.sound.ascends i).1 in absurd (true≢false (sym (spans_all m.seq s.last (omega arith)) ∙ e)));
}

-- all of what is kept is kept
pub outside_kept : (span : Span) (s : Stream) → IsKeptOutside span (kept s)
unfolding kept
outside_kept span s = record {
  kept = all_from_in (λ m. spans span m.seq ≡ false → keeps (only s left) m ≡ true) left
      (λ m i e. keeps_less s (filter_part (keeps s) s.messages) m i ∙ (in_filter (keeps s) m s.messages i).1);
}
  where
    left : List Message
    left = filter (keeps s) s.messages

keeps_all : (s : Stream) (m : Message) → IsIn m (kept s).messages → keeps (kept s) m ≡ true
unfolding kept
keeps_all s m i = keeps_less s (filter_part (keeps s) s.messages) m i ∙ (in_filter (keeps s) m s.messages i).1

-- and stays so
pub kept_again : (s : Stream) → IsAttended (kept s) → kept (kept s) ≡ kept s
kept_again s attended = all_kept (kept s) attended (keeps_all s)

pub within_kept : (s : Stream) → next_over s ≡ None → next_over (kept s) ≡ None
unfolding kept
within_kept s h = within_less s (filter_part (keeps s) s.messages) h

-- ---- time

-- the stream at a moment, step by step
pub advanced : (s : Stream) (now : ℕ) → advance s now ≡ record (only s (young s (max s.moment now))) {
  moment = max s.moment now;
  ids = remembered s (max s.moment now);
  consumers = map (consumer_at (max s.moment now)) (only s (young s (max s.moment now))).consumers;
}
unfolding advance
advanced s now = refl

-- ---- what each call leaves outside its span

-- a publish, of which the message may not be kept
pub published_kept : (loose one : Span) (s : Stream) (p : Publish) (n : ℕ) → one ≡ record { first = n; last = n } → n ≡ s.last + 1 → IsKeptOutside loose s → IsKeptOutside (joined loose one) (trim (with_message s p))
published_kept loose one s p n is own h =
    outside_trim (joined loose one) (with_message s p)
    (outside_published loose (joined loose one) s p (λ m e. outside_first loose one m.seq e)
    (spans_second loose one (s.last + 1) (ap (λ (span : Span). spans span (s.last + 1)) is ∙ ap (λ k. spans (record { first = k; last = k }) (s.last + 1)) own ∙ spans_one (s.last + 1))) h)

-- time that passes, for which some messages may not be kept
pub advanced_kept : (loose other : Span) (s t : Stream) (now : ℕ) → t ≡ record (only s (young s now)) { moment = now; ids = remembered s now; consumers = map (consumer_at now) (only s (young s now)).consumers }
    → ((m : Message) → spans other m.seq ≡ false → NeedSame m t.consumers (only s (young s now)).consumers) → IsKeptOutside loose s → IsKeptOutside (joined loose other) t
advanced_kept loose other s t now is same h =
    outside_same loose (joined loose other) (only s (young s now)) t (ap (λ (x : Stream). x.messages) is) (ap (λ (x : Stream). x.config.retention) is) (λ m e. outside_first loose other m.seq e)
    (λ m e. same m (outside_second loose other m.seq e)) (outside_less loose s (young_part s now) h)
