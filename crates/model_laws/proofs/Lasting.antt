-- What outlives a crash of a state is sound, within the bounds of a volume and such as can be written, if the state is.
use Rattle.std.proofs.Common.{◌≡◌, ℕ, ◌≤◌, true, List, [], ◌∷◌, map, subst, sym, refl}
use Rattle.std.specs.Prelude.{All}
use Rattle.std.proofs.lemmas.List.{length-map}
use Rattle.std.proofs.lemmas.List.Elements.{All-map, All-weaker}
use Rattle.js_model.specs.declared.stream.Message.{Message}
use Rattle.js_model.specs.declared.stream.State.{State}
use Rattle.js_model.specs.declared.stream.State.TheVariants.{Vacant, Live}
use Rattle.js_model.specs.declared.consumer.Consumer.{Consumer}
use Rattle.js_model.specs.Consumers.{is_before}
use Rattle.js_model.specs.Lasting.{lasting, lasting_consumer}
use Rattle.model_laws.specs.Sound.{IsWellStoredConsumer, AreOrdered, IsWellStored, IsMatchedConsumer, IsMatched}
use Rattle.model_laws.specs.Bounds.{IsBoundedConsumer}
use Rattle.model_laws.specs.Laws.{LawSoundLasting, LawBoundedLasting, LawWritableLasting}

All-lasting : (P : Consumer → Type 0) (cs : List Consumer) → ((c : Consumer) → P c → P (lasting_consumer c)) → All P cs → All P (map lasting_consumer cs)
All-lasting P cs f h = All-map P lasting_consumer cs (All-weaker P (λ c. P (lasting_consumer c)) f cs h)

stored_consumer : (messages : List Message) (last : ℕ) (c : Consumer) → IsWellStoredConsumer messages last c → IsWellStoredConsumer messages last (lasting_consumer c)
stored_consumer messages last c h = record {
  config = h.config;
  named = h.named;
  cursor = h.cursor;
  picks = h.picks;
  pending = h.pending;
  given_up = h.given_up;
  picks_stored = h.picks_stored;
  pending_stored = h.pending_stored;
  given_up_stored = h.given_up_stored;
  picks_pending = h.picks_pending;
  picks_given_up = h.picks_given_up;
  pending_given_up = h.pending_given_up;
  counts = h.counts;
  unacknowledged_pending = h.unacknowledged_pending;
  unacknowledged_given_up = h.unacknowledged_given_up;
  push = λ e. refl;
}

ordered : (cs : List Consumer) → AreOrdered cs → AreOrdered (map lasting_consumer cs)
ordered [] h = h
ordered (c ∷ cs) h = (All-lasting (λ d. is_before c.name d.name ≡ true) cs (λ d e. e) h.0, ordered cs h.1)

stored : (s : State) → IsWellStored s → IsWellStored (lasting s)
stored (Vacant i) h = h
stored (Live s) h = record {
  config = h.config;
  messages = h.messages;
  consumers = All-lasting (IsWellStoredConsumer s.messages s.last) s.consumers (stored_consumer s.messages s.last) h.consumers;
  ordered = ordered s.consumers h.ordered;
  ids = h.ids;
}

matched : (s : State) → IsMatched s → IsMatched (lasting s)
matched (Vacant i) h = h
matched (Live s) h = All-lasting (IsMatchedConsumer s.messages) s.consumers (λ c k. record { picks = k.picks; pending = k.pending; given_up = k.given_up }) h

pub sound_lasting : LawSoundLasting
sound_lasting s h = record { stored = stored s h.stored; matched = matched s h.matched }

bounded_consumer : (c : Consumer) → IsBoundedConsumer c → IsBoundedConsumer (lasting_consumer c)
bounded_consumer c h = record { made = h.made; cursor = h.cursor; dseq = h.dseq; picks = h.picks; pending = h.pending; entries = h.entries; given_up = h.given_up }

pub bounded_lasting : LawBoundedLasting
bounded_lasting (Vacant i) h = h
bounded_lasting (Live s) h = record {
  incarnation = h.incarnation;
  made = h.made;
  last = h.last;
  moment = h.moment;
  messages = h.messages;
  each_message = h.each_message;
  ids = h.ids;
  each_id = h.each_id;
  consumers = subst (λ n. n ≤ 256) (sym (length-map s.consumers lasting_consumer)) h.consumers;
  each_consumer = All-lasting IsBoundedConsumer s.consumers bounded_consumer h.each_consumer;
}

pub writable_lasting : LawWritableLasting
writable_lasting (Vacant i) h = h
writable_lasting (Live s) h = h
