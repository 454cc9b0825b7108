-- A stream with its consumers stays whole.
use Rattle.std.proofs.Common.{◌≡◌, ℕ, ◌+◌, ◌<◌, ◌≤◌, ◌^◌, ◌==◌, not, List, [], ◌∷◌, ◌++◌, length, map, refl, sym, ap, subst, ◌∙◌}
use Rattle.std.specs.Prelude.{IsTrue, filter}
use Rattle.std.proofs.lemmas.List.Elements.{All-weaker}
use Rattle.js_model.specs.declared.stream_config.StreamConfig.{StreamConfig}
use Rattle.js_model.specs.declared.stream.Message.{Message}
use Rattle.js_model.specs.declared.stream.Stream.{Stream}
use Rattle.js_model.specs.declared.consumer.Consumer.{Consumer}
use Rattle.js_model.specs.declared.event.Publish.{Publish}
use Rattle.js_model.specs.Advance.{remembered}
use Rattle.js_model.specs.Configs.{is_stream_config}
use Rattle.js_model.specs.Events.{with_message}
use Rattle.js_model.specs.Lists.{IsPart}
use Rattle.js_model.specs.Proper.{is_proper_publish}
use Rattle.js_model.specs.Streams.{confined, only, seqs}
use Rattle.js_model.proofs.Parts.{all_part, filter_part, part_trans}
use Rattle.model_laws.proofs.SoundParts.{ordered_map}
use Rattle.consumer_need.specs.Stored.{HoldsStored}
use Rattle.retention.specs.Laws.{IsCoherent}
use Rattle.retention.proofs.Confining.{holds_confined, only_own, only_within}
use Rattle.stored_stream.specs.Stored.{IsSound, stored_message, with_known}
use Rattle.stored_stream.proofs.Sounding.{sound_less, sound_more, sound_later, sound_config, proper_small, proper_text, with_message_is}
use Rattle.followed_stream.specs.Attended.{stored_of, without_seq, AreNamedApart, IsAttended}
use Rattle.followed_stream.proofs.Holding.{has_more, holds_in}
use Rattle.followed_stream.proofs.Ordered.{ordered_apart}

-- ---- soundness says nothing of consumers

pub sound_with : (s : Stream) (cs : List Consumer) → IsSound s → IsSound (record s { consumers = cs })
sound_with s cs h = record {
  config = h.config;
  incarnation = h.incarnation;
  last = h.last;
  ascends = h.ascends;
  few = h.few;
  small = h.small;
  texts = h.texts;
  messages = h.messages;
  ids = h.ids;
}

pub sound_stored : (s : Stream) → IsAttended s → IsSound (stored_of s)
sound_stored s h = sound_with s [] h.sound

pub coherent : (s : Stream) → IsAttended s → IsCoherent s
coherent s h = record { ascends = h.sound.ascends; held = h.held }

-- ---- names

pub named : (s : Stream) → IsAttended s → AreNamedApart s.consumers
named s h = ordered_apart s.consumers h.ordered

-- ---- fewer messages

pub attended_less : (s : Stream) → IsAttended s → {ms : List Message} → IsPart ms s.messages → IsAttended (only s ms)
attended_less s h {ms} p = record {
  sound = sound_with (record s { messages = ms }) (map (confined (seqs ms)) s.consumers) (sound_less s h.sound p);
  held = holds_confined s ms;
  ordered = ordered_map (confined (seqs ms)) (λ c. refl) s.consumers h.ordered;
}

-- what is left of a stream after messages went
pub record Leaves (old new : Stream) : Type 0 where
  pub attended : IsAttended new
  pub part : IsPart new.messages old.messages
  pub rest : new ≡ only old new.messages

pub leaves_none : (s : Stream) → IsAttended s → Leaves s s
leaves_none s h = record { attended = h; part = all_part s.messages; rest = sym (only_own s h.held) }

pub leaves_more : (n : ℕ) (old mid new : Stream) → Leaves old mid → new ≡ without_seq n mid → IsAttended new → Leaves old new
leaves_more n old mid new h is attended = record {
  attended = attended;
  part = subst (λ (s : Stream). IsPart s.messages old.messages) (sym is) (part_trans (filter_part (λ m. not (m.seq == n)) mid.messages) h.part);
  rest = is ∙ ap (λ (s : Stream). only s left) h.rest ∙ only_within (filter_part (λ m. not (m.seq == n)) mid.messages) old ∙ ap (λ (s : Stream). only old s.messages) (sym is);
}
  where
    left : List Message
    left = filter (λ m. not (m.seq == n)) mid.messages

-- ---- other numbers

module _ (s : Stream) (h : IsAttended s) where
  pub attended_later : (now : ℕ) → s.moment ≤ now → IsAttended (record s { moment = now; ids = remembered s now })
  attended_later now later = record {
    sound = sound_with (record s { moment = now; ids = remembered s now }) s.consumers (sound_later s h.sound now later);
    held = All-weaker (HoldsStored s) (HoldsStored (record s { moment = now; ids = remembered s now })) (λ c k. holds_in s (record s { moment = now; ids = remembered s now }) c (λ n e. e) k) s.consumers h.held;
    ordered = h.ordered;
  }

  pub attended_config : (config : StreamConfig) → IsTrue (is_stream_config config) → IsAttended (record s { config = config })
  attended_config config valid = record {
    sound = sound_config s h.sound config valid;
    held = All-weaker (HoldsStored s) (HoldsStored (record s { config = config })) (λ c k. holds_in s (record s { config = config }) c (λ n e. e) k) s.consumers h.held;
    ordered = h.ordered;
  }

  -- one message more
  pub attended_more : (p : Publish) → IsTrue (is_proper_publish p) → length s.messages + 1 < 2 ^ 32 → s.last + 1 < 2 ^ 62 → IsAttended (with_message s p)
  attended_more p proper room bound = subst IsAttended (sym (with_message_is s p)) (record {
    sound = sound_more s h.sound m p.wants.id refl refl (proper_small p (s.last + 1) s.moment proper) (proper_text p (s.last + 1) s.moment proper) room bound;
    held = All-weaker (HoldsStored s) (HoldsStored stored) (λ c k. holds_in s stored c (has_more s.messages m) k) s.consumers h.held;
    ordered = h.ordered;
  })
    where
      m : Message
      m = stored_message p (s.last + 1) s.moment

      stored : Stream
      stored = record s { messages = s.messages ++ m ∷ []; last = s.last + 1; ids = with_known s.ids p.wants.id (s.last + 1) s.moment }
