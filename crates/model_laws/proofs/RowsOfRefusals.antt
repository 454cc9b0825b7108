-- Worked rows of what the laws refuse: a delivery that brings another payload, one that is counted as none, and a purge that takes what its filter does not match.
use Rattle.std.specs.Prelude.{◌≡◌, ◌≤◌, ◌^◌, ℕ, true, false, List, [], ◌∷◌, Some, None, codes, refl}
use Rattle.std.proofs.Common.{lit<, arith, sym, ap, ◌∙◌, subst, ◌⊎◌, inl, inr}
use Rattle.std.proofs.lemmas.Bool.{true≢false}
use Rattle.std.proofs.lemmas.List.Elements.{All-nil, All-cons, All-head}
use Rattle.js_base.specs.Bytes.{Bytes, same}
use Rattle.js_base.specs.declared.out.Out.{Out}
use Rattle.js_model.specs.declared.stream.Message.{Message}
use Rattle.js_model.specs.declared.stream.Stream.{Stream}
use Rattle.js_model.specs.declared.stream.State.{State}
use Rattle.js_model.specs.declared.stream.State.TheVariants.{Live}
use Rattle.js_model.specs.declared.consumer.Consumer.{Consumer}
use Rattle.js_model.specs.declared.event.What.{What}
use Rattle.js_model.specs.declared.event.What.TheVariants.{Purge}
use Rattle.js_model.specs.declared.reply.Reply.TheVariants.{Purged}
use Rattle.js_model.specs.declared.entry.Delivered.TheVariants.{Sent}
use Rattle.js_model.specs.declared.entry.PlaceEntry.{PlaceEntry}
use Rattle.js_model.specs.declared.entry.PlaceEntry.TheVariants.{Step, Deliver}
use Rattle.js_model.specs.Lists.{none}
use Rattle.js_model.specs.Streams.{passes_filter}
use Rattle.js_model.specs.Advance.{advance}
use Rattle.js_model.specs.Trim.{trim}
use Rattle.js_model.specs.Events.{without_messages, purge_list}
use Rattle.model_laws.specs.Leaving.{aged, purged, deleted, dropped, trimmed, unneeded, IsPushedOut, by_subject, by_count, by_bytes, Leaves}
use Rattle.model_laws.specs.Sendings.{Sending}
use Rattle.model_laws.specs.Order.{Stored, stored_of, stored_first, Brings, IsInOrder}
use Rattle.js_model.proofs.Named.{none_some}
use Rattle.js_model.proofs.Members.{IsIn, in_cons, in_from_contains}
use Rattle.js_model.proofs.Samples.{t0, orders, worker, inbox, event, message, to_worker}

-- ---- deliveries

-- nothing was sent to the consumer so far, and a pull of one message waits
abbrev asking : Consumer
asking = record {
  name = codes "W";
  made = t0;
  config = worker;
  picks = [];
  cursor = 1;
  dseq = 0;
  pending = [];
  given_up = [];
  waiting = record { reply = codes "_P"; batch = 1; bytes = None; end = None; no_wait = false; heartbeat = 0; mark = t0 } ∷ [];
  mark = t0;
}

-- the message 1 is stored: `hello` on `orders.a`
abbrev hello_message : Message
hello_message = message 1 t0 (codes "hello")

abbrev holding_hello : State
holding_hello = Live (record { incarnation = 1; made = t0; config = orders; messages = hello_message ∷ []; last = 1; moment = t0; ids = []; consumers = asking ∷ [] })

-- an output to the pull, with this payload
abbrev output : Bytes → Out
output payload = record { to = codes "_P"; subject = codes "orders.a"; reply = Some (codes "$JS.ACK.ORDERS.W.1.1.1.1700000000000000000.0"); headers = []; payload = payload }

-- the message 1 is sent to the consumer, with this count and this payload
abbrev sends_first : ℕ → Bytes → List PlaceEntry
sends_first count payload = Deliver 0 t0 [] (to_worker (Sent 1 count 1)) (output payload ∷ []) ∷ []

-- as it was stored, and counted as the first time, it may be sent
as_stored : IsInOrder (codes "W") holding_hello asking (sends_first 1 (codes "hello"))
as_stored = record {
  consecutive = (refl, tt);
  counts = All-cons (λ (x : Sending). 1 ≤ x.count) _ [] (lit< tt) (All-nil (λ (x : Sending). 1 ≤ x.count));
  start = record { picked = []; rising = 1 ∷ []; split = refl; part = none; ascends = (lit< tt, tt) };
  stored = (record { message = _; known = (0, lit< tt, refl); seq = refl; passes = refl; subject = refl; headers = refl; payload = refl }, tt);
}

-- but not with another payload
another_payload : IsInOrder (codes "W") holding_hello asking (sends_first 1 (codes "howdy")) → ⊥
another_payload h = brings h.stored.0
  where
    brings : Brings [] (stored_first holding_hello) 1 (output (codes "howdy")) → ⊥
    brings b = it (in_cons (in_from_contains (stored_first holding_hello) b.message b.known))
      where
        it : (stored_of hello_message ≡ b.message) ⊎ IsIn b.message [] → ⊥
        it (inl e) = let q : codes "hello" ≡ codes "howdy" = ap (λ (x : Stored). x.payload) e ∙ sym b.payload in true≢false (sym (ap (λ (p : Bytes). same p (codes "howdy")) q))
        it (inr i) = elim i [ ]

-- and not as sent no times
counted_as_none : IsInOrder (codes "W") holding_hello asking (sends_first 0 (codes "hello")) → ⊥
counted_as_none h = let l : 1 ≤ 0 = All-head (λ (x : Sending). 1 ≤ x.count) _ [] h.counts in omega arith

-- ---- a purge

-- the messages 1 and 2 are stored, on `orders.a` and on `orders.b`
abbrev two : Stream
two = record {
  incarnation = 1;
  made = t0;
  config = orders;
  messages = hello_message ∷ record { seq = 2; at = t0; subject = codes "orders.b"; headers = []; payload = codes "bye" } ∷ [];
  last = 2;
  moment = t0;
  ids = [];
  consumers = [];
}

-- all of `orders.b` is purged
abbrev purge_b : What
purge_b = Purge inbox (codes "orders.b") None None

-- what the purge leaves, before the limits
abbrev left_by_purge : Stream
left_by_purge = without_messages (advance two t0) (purge_list (advance two t0) (codes "orders.b") None None)

-- whatever it leaves, there is no reason for which the message 1 would be gone
other_subject : (new : State) → Leaves (Live two) (Step 0 (event purge_b) t0 (Purged 2) [] false) new hello_message → ⊥
unfolding advance trim
other_subject new (aged h) = true≢false h.limited
other_subject new (purged reply pattern below number e h) = not_b pattern e h.passes
  where
    not_b : (pattern : Bytes) → purge_b ≡ Purge reply pattern below number → passes_filter pattern (codes "orders.a") ≡ true → ⊥
    not_b pattern e h = let b : codes "orders.b" ≡ pattern = cc in true≢false (sym (subst (λ (p : Bytes). passes_filter p (codes "orders.a") ≡ true) (sym b) h))
other_subject new (deleted reply e) = cc
other_subject new (dropped reply e) = cc
other_subject new (trimmed room e h) = stays h.1
  where
    stays : IsPushedOut left_by_purge hello_message → ⊥
    stays (by_subject limit e l) = none_some e
    stays (by_count l) = let m : 2 ^ 24 ≤ 0 = l in absurd (omega arith)
    stays (by_bytes limit e l) = none_some e
other_subject new (unneeded room e h) = true≢false h.1
