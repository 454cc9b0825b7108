-- What a stream and the consumers that it keeps come to, call by call.
use Rattle.std.proofs.Common.{◌≡◌, ℕ, ◌+◌, ◌<◌, ◌≤◌, ◌^◌, ◌==◌, Bool, not, List, [], ◌∷◌, ◌++◌, Some, length, map, refl, sym, ap, subst, ◌∙◌}
use Rattle.std.specs.Prelude.{All, IsTrue, filter}
use Rattle.std.proofs.lemmas.List.{length-map}
use Rattle.std.proofs.lemmas.List.Elements.{All-nil, All-map, All-weaker}
use Rattle.js_base.specs.Bytes.{Bytes}
use Rattle.js_model.specs.declared.stream_config.StreamConfig.{StreamConfig}
use Rattle.js_model.specs.declared.stream.Message.{Message}
use Rattle.js_model.specs.declared.stream.Stream.{Stream}
use Rattle.js_model.specs.declared.consumer.Consumer.{Consumer}
use Rattle.js_model.specs.declared.event.Publish.{Publish}
use Rattle.js_model.specs.Advance.{consumer_at, remembered}
use Rattle.js_model.specs.Configs.{is_stream_config}
use Rattle.js_model.specs.Events.{message_at, with_message}
use Rattle.js_model.specs.Proper.{is_proper_publish}
use Rattle.js_model.specs.Refusals.{first_refusal}
use Rattle.js_model.specs.Verdict.{early_checks, first_of_all, known, late_checks, message_of, verdict}
use Rattle.js_model.proofs.Parts.{filter_part}
use Rattle.model_laws.proofs.SoundParts.{ordered_map}
use Rattle.consumer_need.specs.Stored.{HoldsStored}
use Rattle.stored_stream.specs.Stored.{IsSound, with_known, without}
use Rattle.stored_stream.proofs.Sounding.{with_message_is}
use Rattle.followed_stream.specs.Attended.{stored_of, without_seq, IsAttended}
use Rattle.followed_stream.specs.Followers.{attended, gaining, losing, standing, AreFollowed, Following, IsCounted}
use Rattle.followed_stream.proofs.Attending.{attended_config, attended_later, attended_less, attended_more, sound_stored, sound_with}
use Rattle.followed_stream.proofs.Holding.{all_counted_less, all_counted_more, counted_few, gaining_consumers, losing_consumers}
use Rattle.followed_stream.proofs.Timing.{holds_at}

-- ---- elements that are changed one by one

pub as_many : (xs ys ws : List Following) (f : Following → Following) → xs ≡ ys → ws ≡ map f xs → length ws ≡ length ys
as_many xs ys ws f is changed = ap (λ (l : List Following). length l) (changed ∙ ap (map f) is) ∙ length-map ys f

-- ---- what is stored of a stream

-- what is stored of a sound stream is sound
pub sound_as : (s t : Stream) → stored_of t ≡ stored_of s → IsAttended s → IsSound t
sound_as s t e h = sound_with (stored_of t) t.consumers (subst IsSound (sym e) (sound_stored s h))

-- and gets the same verdict
pub verdict_as : (s t : Stream) (p : Publish) (room : Bool) → stored_of t ≡ stored_of s → verdict t p room ≡ verdict s p room
unfolding verdict
verdict_as s t p room e =
    ap (λ (x : Stream). first_of_all (first_refusal (early_checks x p)) (known x p.wants.id) (first_refusal (late_checks x p room))) e

-- ---- a new stream

pub attended_alone : (s : Stream) → IsSound s → IsAttended (attended s [])
attended_alone s h = record { sound = sound_with s [] h; held = All-nil (HoldsStored (attended s [])); ordered = tt }

pub followed_alone : (s : Stream) → IsSound s → AreFollowed s []
followed_alone s h = record { attended = attended_alone s h; counted = All-nil (IsCounted s.messages) }

-- ---- one message more

module _ (s : Stream) (fs : List Following) (h : AreFollowed s fs) where
  pub stored_more : (p : Publish) (subject : Bytes) (seq : ℕ) → attended (with_message s p) (map (gaining subject seq) fs) ≡ with_message (attended s fs) p
  stored_more p subject seq =
      ap (λ (t : Stream). attended t (map (gaining subject seq) fs)) (with_message_is s p)
      ∙ ap (λ (cs : List Consumer). record s { messages = s.messages ++ message_of s p ∷ []; last = s.last + 1; ids = with_known s.ids p.wants.id (s.last + 1) s.moment; consumers = cs }) (gaining_consumers subject seq fs)
      ∙ sym (with_message_is (attended s fs) p)

  pub followed_more : (p : Publish) → IsTrue (is_proper_publish p) → length s.messages + 1 < 2 ^ 32 → s.last + 1 < 2 ^ 62 → AreFollowed (with_message s p) (map (gaining p.subject (s.last + 1)) fs)
  followed_more p proper room bound = record {
    attended = subst IsAttended (sym (stored_more p p.subject (s.last + 1))) (attended_more (attended s fs) h.attended p proper room bound);
    counted = subst (λ (t : Stream). All (IsCounted t.messages) (map (gaining p.subject (s.last + 1)) fs)) (sym (with_message_is s p)) (all_counted_more s.messages (message_of s p) fs h.counted);
  }

  pub room_more : All (λ f. f.undelivered < 2 ^ 32) fs
  room_more = counted_few s.messages fs h.attended.sound.few h.counted

  -- ---- one message less

  pub removed : (seq : ℕ) (subject : Bytes) → attended (without seq s) (map (losing subject seq) fs) ≡ without_seq seq (attended s fs)
  removed seq subject =
      ap (λ (cs : List Consumer). record s { messages = filter (λ m. not (m.seq == seq)) s.messages; consumers = cs })
      (losing_consumers (attended s fs) seq subject fs h.attended.held)

  pub followed_less : (seq : ℕ) (m : Message) → message_at s seq ≡ Some m → AreFollowed (without seq s) (map (losing m.subject seq) fs)
  followed_less seq m found = record {
    attended = subst IsAttended (sym (removed seq m.subject)) (attended_less (attended s fs) h.attended (filter_part (λ m. not (m.seq == seq)) s.messages));
    counted = all_counted_less s seq m h.attended.sound.ascends found fs h.counted;
  }

  -- ---- other numbers

  pub followed_later : (now : ℕ) → s.moment ≤ now → AreFollowed (record s { moment = now; ids = remembered s now }) fs
  followed_later now later = record { attended = attended_later (attended s fs) h.attended now later; counted = h.counted }

  pub followed_config : (config : StreamConfig) → IsTrue (is_stream_config config) → AreFollowed (record s { config = config }) fs
  followed_config config valid = record { attended = attended_config (attended s fs) h.attended config valid; counted = h.counted }

  -- ---- time for the consumers

  pub standing_consumers : (now : ℕ) (gs : List Following) → map (λ f. f.consumer) (map (standing now) gs) ≡ map (consumer_at now) (map (λ f. f.consumer) gs)
  standing_consumers now [] = refl
  standing_consumers now (g ∷ gs) = ap (λ (cs : List Consumer). consumer_at now g.consumer ∷ cs) (standing_consumers now gs)

  pub stood : (now : ℕ) → attended s (map (standing now) fs) ≡ record (attended s fs) { consumers = map (consumer_at now) (attended s fs).consumers }
  stood now = ap (λ (cs : List Consumer). record s { consumers = cs }) (standing_consumers now fs)

  pub followed_standing : (now : ℕ) → AreFollowed s (map (standing now) fs)
  followed_standing now = record {
    attended = subst IsAttended (sym (stood now)) (record {
      sound = sound_with (attended s fs) (map (consumer_at now) (attended s fs).consumers) h.attended.sound;
      held = All-map (HoldsStored stands) (consumer_at now) (attended s fs).consumers
          (All-weaker (HoldsStored (attended s fs)) (λ c. HoldsStored stands (consumer_at now c)) (λ c k. let w = holds_at now (attended s fs) c k in record { picks = w.picks; pending = w.pending; given_up = w.given_up }) (attended s fs).consumers h.attended.held);
      ordered = ordered_map (consumer_at now) (λ c. refl) (attended s fs).consumers h.attended.ordered;
    });
    counted = All-map (IsCounted s.messages) (standing now) fs (All-weaker (IsCounted s.messages) (λ f. IsCounted s.messages (standing now f)) (λ f k. k) fs h.counted);
  }
    where
      stands : Stream
      stands = record (attended s fs) { consumers = map (consumer_at now) (attended s fs).consumers }
