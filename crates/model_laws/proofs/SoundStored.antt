-- A sound stream that stores a message is sound.
use Rattle.std.proofs.Common.{◌≡◌, ℕ, ◌+◌, ◌≤◌, Bool, true, false, ◌||◌, cond, List, [], ◌∷◌, ◌++◌, refl, sym, ◌∙◌, subst, arith}
use Rattle.std.specs.Prelude.{Option, Some, None, find}
use Rattle.std.specs.List.{list_any}
use Rattle.std.proofs.lemmas.Bool.{true≢false, false_from_ne_true}
use Rattle.std.proofs.lemmas.List.Elements.{All-weaker}
use Rattle.js_base.specs.Bytes.{Bytes, same}
use Rattle.js_base.specs.declared.out.ApiError.{ApiError}
use Rattle.js_model.specs.declared.stream.Message.{Message}
use Rattle.js_model.specs.declared.stream.Id.{Id}
use Rattle.js_model.specs.declared.stream.Stream.{Stream}
use Rattle.js_model.specs.declared.consumer.Consumer.{Consumer}
use Rattle.js_model.specs.declared.event.Publish.{Publish}
use Rattle.js_model.specs.declared.reply.Verdict.TheVariants.{Take}
use Rattle.js_model.specs.Streams.{pending_seqs}
use Rattle.js_model.specs.Refusals.{first_refusal}
use Rattle.js_model.specs.Verdict.{verdict, message_of, known, first_of_all, early_checks, late_checks}
use Rattle.js_model.specs.Events.{with_message, with_id}
use Rattle.model_laws.proofs.Whole.{AreStored, IsSoundConsumer, IsSoundStream, AreDifferent}
use Rattle.js_model.proofs.Named.{none_some, same_is, same_self}
use Rattle.js_model.proofs.Parts.{between_push}
use Rattle.js_model.proofs.Lacking.{lacks-push}

pub any_append : {X : Type 0} (t : X → Bool) (xs ys : List X) → list_any t xs ≡ true → list_any t (xs ++ ys) ≡ true
any_append t [] ys h = absurd (true≢false (sym h))
any_append t (x ∷ xs) ys h = go (t x) (any_append t xs ys) h
  where
    go : (b : Bool) → (list_any t xs ≡ true → list_any t (xs ++ ys) ≡ true) → (b || list_any t xs) ≡ true → (b || list_any t (xs ++ ys)) ≡ true
    go true f k = refl
    go false f k = f k

pub stored_append : (pattern : Bytes) (xs ys : List Message) (ns : List ℕ) → AreStored xs pattern ns → AreStored (xs ++ ys) pattern ns
stored_append pattern xs ys ns h = record { stored = λ n e. any_append _ xs ys (h.stored n e) }

-- ---- ids

-- what a publish that is taken says of its id
pub taken_is_new : (s : Stream) (p : Publish) (room : Bool) → verdict s p room ≡ Take → known s p.wants.id ≡ None
unfolding verdict
taken_is_new s p room e = go (first_refusal (early_checks s p)) (known s p.wants.id) (first_refusal (late_checks s p room)) e
  where
    go : (early : Option ApiError) (found : Option Id) (late : Option ApiError) → first_of_all early found late ≡ Take → found ≡ None
    go (Some r) found late q = cc
    go None (Some i) late q = cc
    go None None late q = refl

-- an id that is not found is another one than each
not_found : (ids : List Id) (new : Id) → find (λ j. same j.id new.id) ids ≡ None → (i : Id) (rest : List Id) → ids ≡ i ∷ rest → (same new.id i.id ≡ false) × (find (λ j. same j.id new.id) rest ≡ None)
not_found [] new e i rest q = cc
not_found (j ∷ js) new e i rest q = go (same j.id new.id) refl e
  where
    parts : (j ≡ i) × (js ≡ rest)
    parts = (cc, cc)

    go : (b : Bool) → same j.id new.id ≡ b → cond b (Some j) (find (λ j. same j.id new.id) js) ≡ None → (same new.id i.id ≡ false) × (find (λ j. same j.id new.id) rest ≡ None)
    go true w k = absurd (none_some (sym k))
    go false w k = (
      subst (λ (i : Id). same new.id i.id ≡ false) parts.0 (false_from_ne_true (same new.id j.id) (λ r. true≢false (sym (rw (same_is new.id j.id r) (same_self j.id)) ∙ w))),
      subst (λ (l : List Id). find (λ j. same j.id new.id) l ≡ None) parts.1 k,
    )

pub different_push : (ids : List Id) (new : Id) → find (λ j. same j.id new.id) ids ≡ None → AreDifferent ids → AreDifferent (ids ++ new ∷ [])
different_push [] new e h = (record { none = refl }, tt)
different_push (i ∷ is) new e h = let w = not_found (i ∷ is) new e i is refl in (lacks-push is new w.0 h.0, different_push is new w.1 h.1)

-- ---- the stream

consumer_more : (messages more : List Message) (last : ℕ) (c : Consumer) → IsSoundConsumer messages last c → IsSoundConsumer (messages ++ more) (last + 1) c
consumer_more messages more last c k = record {
  config = k.config;
  named = k.named;
  cursor = let q : c.cursor ≤ last + 1 = k.cursor in omega arith;
  picks = k.picks;
  pending = k.pending;
  given_up = k.given_up;
  picks_stored = stored_append c.config.filter_subject messages more c.picks k.picks_stored;
  pending_stored = stored_append c.config.filter_subject messages more (pending_seqs c) k.pending_stored;
  given_up_stored = stored_append c.config.filter_subject messages more c.given_up k.given_up_stored;
  picks_pending = k.picks_pending;
  picks_given_up = k.picks_given_up;
  pending_given_up = k.pending_given_up;
  counts = k.counts;
  unacknowledged_pending = k.unacknowledged_pending;
  unacknowledged_given_up = k.unacknowledged_given_up;
  push = k.push;
}

abbrev stored_in : Stream → Publish → Stream
stored_in s p = record s { messages = s.messages ++ message_of s p ∷ []; last = s.last + 1 }

message_stored : (s : Stream) (p : Publish) → IsSoundStream s → IsSoundStream (stored_in s p)
message_stored s p h = record {
  config = h.config;
  messages = between_push (λ m. m.seq) 1 (s.last + 1) s.messages (message_of s p) refl h.messages;
  consumers = All-weaker (IsSoundConsumer s.messages s.last) (IsSoundConsumer (s.messages ++ message_of s p ∷ []) (s.last + 1)) (λ c k. consumer_more s.messages (message_of s p ∷ []) s.last c k) s.consumers h.consumers;
  ordered = h.ordered;
  ids = h.ids;
}

pub sound_stored : (s : Stream) (p : Publish) (room : Bool) → verdict s p room ≡ Take → IsSoundStream s → IsSoundStream (with_message s p)
sound_stored s p room e h = go p.wants.id (taken_is_new s p room e)
  where
    k : IsSoundStream (stored_in s p)
    k = message_stored s p h

    go : (id : Bytes) → known s id ≡ None → IsSoundStream (with_id (stored_in s p) id)
    go [] q = k
    go (byte ∷ more) q = record {
      config = k.config;
      messages = k.messages;
      consumers = k.consumers;
      ordered = k.ordered;
      ids = different_push s.ids (record { id = byte ∷ more; seq = s.last + 1; at = s.moment }) q h.ids;
    }
