-- A sound stream stays sound.
use Rattle.std.proofs.Common.{◌≡◌, ℕ, ◌+◌, ◌^◌, ◌<◌, ◌≤◌, ◌==◌, Bool, true, cond, not, List, [], ◌∷◌, ◌++◌, length, refl, ap, ◌∙◌, arith, append-nil}
use Rattle.std.specs.Prelude.{All, IsTrue, filter}
use Rattle.std.proofs.lemmas.Bool.{and_parts, leb-true, eq-eqb, ne_eqb}
use Rattle.std.proofs.lemmas.List.{length-append}
use Rattle.std.proofs.lemmas.List.Elements.{All-head, All-tail, All-cons, All-nil, All-push, All-filter, All-weaker, filter-append}
use Rattle.js_base.specs.Bytes.{Bytes}
use Rattle.js_model.specs.declared.stream_config.StreamConfig.{StreamConfig}
use Rattle.js_model.specs.declared.stream.Message.{Message}
use Rattle.js_model.specs.declared.stream.Id.{Id}
use Rattle.js_model.specs.declared.stream.Stream.{Stream}
use Rattle.js_model.specs.declared.event.Publish.{Publish}
use Rattle.js_model.specs.Advance.{remembered}
use Rattle.js_model.specs.Configs.{is_stream_config}
use Rattle.js_model.specs.Consumers.{empty_stream}
use Rattle.js_model.specs.Events.{with_id, with_message}
use Rattle.js_model.specs.Lists.{Between, IsPart, none, keep, skip}
use Rattle.js_model.specs.Proper.{is_proper_publish}
use Rattle.js_model.specs.Verdict.{message_of}
use Rattle.js_model.proofs.Parts.{part_between, part-length, between_push, between_bounds}
use Rattle.message_store.specs.Stored.{IsSmall}
use Rattle.stored_stream.proofs.Lists.{filter_all}
use Rattle.stored_stream.specs.Stored.{Rises, IsSound, IsText, stored_message, with_known}

-- ---- lists

part_all : {X : Type 0} (P : X → Type 0) {ys xs : List X} → IsPart ys xs → All P xs → All P ys
part_all P none h = h
part_all P (keep {x = x} {ys = ys} {xs = xs} p) h = All-cons P x ys (All-head P x xs h) (part_all P p (All-tail P x xs h))
part_all P (skip {x = x} {xs = xs} p) h = part_all P p (All-tail P x xs h)

module _ {X : Type 0} (f : X → ℕ) where
  rises_lower : (a b high : ℕ) (xs : List X) → a ≤ b → Rises f b high xs → Rises f a high xs
  rises_lower a b high [] l h = omega arith
  rises_lower a b high (x ∷ xs) l h = (let q : b ≤ f x = h.0 in omega arith, h.1)

  rises_part : (low high : ℕ) {ys xs : List X} → IsPart ys xs → Rises f low high xs → Rises f low high ys
  rises_part low high none h = h
  rises_part low high (keep {x = x} p) h = (h.0, rises_part (f x) high p h.1)
  rises_part low high (skip {x = x} {xs = xs} p) h = rises_part low high p (rises_lower low (f x) high xs h.0 h.1)

  rises_higher : (low a b : ℕ) (xs : List X) → a ≤ b → Rises f low a xs → Rises f low b xs
  rises_higher low a b [] l h = omega arith
  rises_higher low a b (x ∷ xs) l h = (h.0, rises_higher (f x) a b xs l h.1)

  rises_push : (low high : ℕ) (xs : List X) (x : X) → f x ≡ high → Rises f low high xs → Rises f low high (xs ++ x ∷ [])
  rises_push low high [] x e h = (omega arith, omega arith)
  rises_push low high (y ∷ ys) x e h = (h.0, rises_push (f y) high ys x e h.1)

-- ---- a publish

pub with_message_is : (s : Stream) (p : Publish) → with_message s p ≡ record s { messages = s.messages ++ message_of s p ∷ []; last = s.last + 1; ids = with_known s.ids p.wants.id (s.last + 1) s.moment }
with_message_is s p = go p.wants.id
  where
    go : (id : Bytes) → with_id (record s { messages = s.messages ++ message_of s p ∷ []; last = s.last + 1 }) id
        ≡ record s { messages = s.messages ++ message_of s p ∷ []; last = s.last + 1; ids = with_known s.ids id (s.last + 1) s.moment }
    go [] = refl
    go (byte ∷ more) = refl

-- a proper publish stores a small message
pub proper_small : (p : Publish) (seq at : ℕ) → IsTrue (is_proper_publish p) → IsSmall (stored_message p seq at)
proper_small p seq at h =
    let texts = (and_parts _ _ (and_parts _ _ h).0).0 in
    let spelled = (and_parts _ _ (and_parts _ _ (and_parts _ _ texts).0).0).0 in
    let bytes = (and_parts _ _ (and_parts _ _ (and_parts _ _ spelled).0).0).0 in
    let subject : length p.subject ≤ 1024 = leb-true (length p.subject) 1024 (and_parts _ _ bytes).1 in
    let rest : length p.headers + length p.payload ≤ 1048576 = leb-true (length p.headers + length p.payload) 1048576 (and_parts _ _ texts).1 in
    omega (arith, subject, rest)

pub proper_text : (p : Publish) (seq at : ℕ) → IsTrue (is_proper_publish p) → IsText (stored_message p seq at)
proper_text p seq at h =
    let texts = (and_parts _ _ (and_parts _ _ h).0).0 in
    let spelled = (and_parts _ _ (and_parts _ _ (and_parts _ _ texts).0).0).0 in
    (and_parts _ _ (and_parts _ _ spelled).0).1

-- ---- what stays sound

pub sound_empty : (incarnation : ℕ) (config : StreamConfig) (now : ℕ) → IsTrue (is_stream_config config) → incarnation < 2 ^ 62 → IsSound (empty_stream incarnation config now)
sound_empty incarnation config now valid bound = record {
  config = valid;
  incarnation = bound;
  last = omega arith;
  ascends = omega arith;
  few = omega arith;
  small = All-nil IsSmall;
  texts = All-nil IsText;
  messages = omega arith;
  ids = All-nil (λ (i : Id). i.at ≤ now);
}

module _ (s : Stream) (h : IsSound s) where
  pub sound_less : {ms : List Message} → IsPart ms s.messages → IsSound (record s { messages = ms })
  sound_less {ms} p = record {
    config = h.config;
    incarnation = h.incarnation;
    last = h.last;
    ascends = part_between (λ m. m.seq) 1 (s.last + 1) p h.ascends;
    few = omega (arith, part-length p, h.few);
    small = part_all IsSmall p h.small;
    texts = part_all IsText p h.texts;
    messages = rises_part (λ m. m.at) 0 s.moment p h.messages;
    ids = h.ids;
  }

  pub ids_more : (id : Bytes) (seq : ℕ) → All (λ i. i.at ≤ s.moment) (with_known s.ids id seq s.moment)
  ids_more [] seq = h.ids
  ids_more (byte ∷ more) seq = All-push (λ (i : Id). i.at ≤ s.moment) s.ids (record { id = byte ∷ more; seq = seq; at = s.moment }) h.ids (omega arith)

  pub sound_more : (m : Message) (id : Bytes) → m.seq ≡ s.last + 1 → m.at ≡ s.moment → IsSmall m → IsText m → length s.messages + 1 < 2 ^ 32 → s.last + 1 < 2 ^ 62
      → IsSound (record s { messages = s.messages ++ m ∷ []; last = s.last + 1; ids = with_known s.ids id (s.last + 1) s.moment })
  sound_more m id seq at small text room bound = record {
    config = h.config;
    incarnation = h.incarnation;
    last = bound;
    ascends = between_push (λ m. m.seq) 1 (s.last + 1) s.messages m seq h.ascends;
    few = omega (arith, room, length-append s.messages (m ∷ []));
    small = All-push IsSmall s.messages m h.small small;
    texts = All-push IsText s.messages m h.texts text;
    messages = rises_push (λ m. m.at) 0 s.moment s.messages m at h.messages;
    ids = ids_more id (s.last + 1);
  }

  pub sound_later : (now : ℕ) → s.moment ≤ now → IsSound (record s { moment = now; ids = remembered s now })
  sound_later now later = record {
    config = h.config;
    incarnation = h.incarnation;
    last = h.last;
    ascends = h.ascends;
    few = h.few;
    small = h.small;
    texts = h.texts;
    messages = rises_higher (λ m. m.at) 0 s.moment now s.messages later h.messages;
    ids = All-filter _ (λ (i : Id). i.at ≤ now) s.ids (All-weaker (λ (i : Id). i.at ≤ s.moment) (λ (i : Id). i.at ≤ now) (λ i l. omega arith) s.ids h.ids);
  }

  pub sound_config : (config : StreamConfig) → IsTrue (is_stream_config config) → IsSound (record s { config = config })
  sound_config config valid = record {
    config = valid;
    incarnation = h.incarnation;
    last = h.last;
    ascends = h.ascends;
    few = h.few;
    small = h.small;
    texts = h.texts;
    messages = h.messages;
    ids = h.ids;
  }

-- ---- the next message

above_all : (low high : ℕ) (ms : List Message) → Between (λ m. m.seq) low high ms → All (λ m. m.seq < high) ms
above_all low high [] h = All-nil (λ (m : Message). m.seq < high)
above_all low high (m ∷ ms) h = All-cons (λ (x : Message). x.seq < high) m ms (let q : m.seq + 1 ≤ high = between_bounds (λ (x : Message). x.seq) (m.seq + 1) high ms h.1 in omega arith) (above_all (m.seq + 1) high ms h.1)

pub above_last : (s : Stream) → IsSound s → All (λ m. m.seq < s.last + 1) s.messages
above_last s h = above_all 1 (s.last + 1) s.messages h.ascends

-- a message that was added last and goes again
pub last_undone : (ms : List Message) (m : Message) (n : ℕ) → m.seq ≡ n → All (λ x. x.seq < n) ms → filter (λ x. not (x.seq == n)) (ms ++ m ∷ []) ≡ ms
last_undone ms m n is above =
    filter-append (λ x. not (x.seq == n)) ms (m ∷ [])
    ∙ ap (λ (b : Bool). filter (λ x. not (x.seq == n)) ms ++ cond (not b) (m ∷ []) []) (eq-eqb m.seq n is)
    ∙ append-nil (filter (λ x. not (x.seq == n)) ms)
    ∙ filter_all (λ x. not (x.seq == n)) ms (All-weaker (λ (x : Message). x.seq < n) (λ x. not (x.seq == n) ≡ true) (λ x l. ap not (ne_eqb x.seq n (omega arith))) ms above)
