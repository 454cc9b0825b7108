-- What is asked of a stream that is opened, part by part.
use Rattle.std.proofs.Common.{◌≡◌, ℕ, ◌≤◌, ◌^◌, ◌&&◌, true, length}
use Rattle.std.specs.Prelude.{All}
use Rattle.std.specs.List.{list_all}
use Rattle.std.proofs.lemmas.Bool.{and_parts}
use Rattle.std.proofs.lemmas.List.Elements.{All-weaker}
use Rattle.js_model.specs.declared.stream.Stream.{Stream}
use Rattle.js_model.specs.declared.stream.State.TheVariants.{Live}
use Rattle.js_model.specs.declared.consumer.Consumer.{Consumer}
use Rattle.js_model.specs.Retention.{is_kept}
use Rattle.js_model.specs.Streams.{seqs}
use Rattle.model_laws.specs.SoundTests.{are_ascending, are_allowed, is_matched_consumer}
use Rattle.model_laws.proofs.SoundTests.{matched_test, all_decide, true_decides}
use Rattle.effects.specs.declared.durable.Body.{Body}
use Rattle.effects.specs.Durables.{stream_of}
use Rattle.effects.specs.Folding.{live}
use Rattle.effects.specs.Restorable.{Rises}
use Rattle.durable_checks.specs.Storable.{IsFormedBody, IsStorable, IsOpenable}
use Rattle.durable_checks.specs.Parts.{AreAscending, are_placed_in, is_sound_in}
use Rattle.durable_checks.specs.Limits.{are_within}
use Rattle.durable_checks.proofs.Storing.{storable_sound}
use Rattle.durable_checks.proofs.Settling.{within_settled, settled_within, settled_retained}

module _ (i : ℕ) (b : Body) (f : IsFormedBody b) (k : IsStorable (live i b)) where
  abbrev s : Stream
  s = stream_of i b

  one_ascends : (c : Consumer) → is_sound_in (seqs b.messages) b.last c ≡ true → AreAscending c
  one_ascends c h =
      let outer = and_parts (are_ascending b.last c && are_placed_in (seqs b.messages) c) (are_allowed c) h in
      record { last = b.last; ascending = (and_parts (are_ascending b.last c) (are_placed_in (seqs b.messages) c) outer.0).0 }

  pub ascending : All AreAscending b.consumers
  ascending =
      All-weaker (λ c. is_sound_in (seqs b.messages) b.last c ≡ true) AreAscending one_ascends b.consumers
      ((all_decide (λ c. is_sound_in (seqs b.messages) b.last c ≡ true) (is_sound_in (seqs b.messages) b.last) (λ c. true_decides (is_sound_in (seqs b.messages) b.last c)) b.consumers).0 (storable_sound i b f k))

  few : length b.messages ≤ 2 ^ 24
  few = k.bounded.messages

  pub openable_from : list_all (is_matched_consumer b.messages) b.consumers ≡ true → Rises (λ m. m.at) 0 b.moment b.messages → Rises (λ n. n.at) 0 b.moment b.ids → are_within b.config b.messages ≡ true → list_all (is_kept b.config.retention b.consumers) b.messages ≡ true → IsOpenable (live i b)
  openable_from matched messages ids within retained = record {
    matched = (matched_test (Live s)).0 matched;
    restorable = record { in_time = record { messages = messages; ids = ids }; settled_is = within_settled s k.stored.consumers few within retained };
  }

  pub openable_matched : IsOpenable (live i b) → list_all (is_matched_consumer b.messages) b.consumers ≡ true
  openable_matched h = (matched_test (Live s)).1 h.matched

  pub openable_within : IsOpenable (live i b) → are_within b.config b.messages ≡ true
  openable_within h = settled_within s k.stored.consumers few h.restorable.settled_is

  pub openable_retained : IsOpenable (live i b) → list_all (is_kept b.config.retention b.consumers) b.messages ≡ true
  openable_retained h = settled_retained s k.stored.consumers few h.restorable.settled_is
