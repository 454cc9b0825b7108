-- Events and deliveries keep the moments of what is stored in their order.
use Rattle.std.proofs.Common.{◌≡◌, ℕ, ◌+◌, ◌≤◌, List, [], ◌∷◌, ◌++◌, max, refl, arith}
use Rattle.std.specs.Prelude.{⊤}
use Rattle.std.proofs.lemmas.Bool.{and_parts}
use Rattle.js_base.specs.Bytes.{Bytes}
use Rattle.js_model.specs.Lists.{IsPart, none, keep, skip}
use Rattle.js_model.specs.declared.stream.Stream.{Stream}
use Rattle.js_model.specs.declared.stream.State.{State}
use Rattle.js_model.specs.declared.stream.State.TheVariants.{Vacant, Live}
use Rattle.js_model.specs.declared.event.Publish.{Publish}
use Rattle.js_model.specs.Advance.{advance}
use Rattle.js_model.specs.Verdict.{message_of}
use Rattle.js_model.specs.Events.{with_message, with_id}
use Rattle.js_model.proofs.Parts.{filter_part, young_part}
use Rattle.model_laws.proofs.Facts.{IsStreamFact, IfLive, at_event, at_delivery}
use Rattle.model_laws.proofs.Sounding.{IsProperWhat}
use Rattle.effects.specs.Restorable.{Rises, AreInTime, IsInTime}
use Rattle.effects.specs.Laws.{LawInTime, LawInTimeSent}

-- ---- lists of moments

rises_lower : {X : Type 0} (f : X → ℕ) (a b high : ℕ) (xs : List X) → a ≤ b → Rises f b high xs → Rises f a high xs
rises_lower f a b high [] h k = omega arith
rises_lower f a b high (x ∷ xs) h k = (let q : b ≤ f x = k.0 in omega arith, k.1)

rises_higher : {X : Type 0} (f : X → ℕ) (low a b : ℕ) (xs : List X) → a ≤ b → Rises f low a xs → Rises f low b xs
rises_higher f low a b [] h k = omega arith
rises_higher f low a b (x ∷ xs) h k = (k.0, rises_higher f (f x) a b xs h k.1)

rises_part : {X : Type 0} (f : X → ℕ) (low high : ℕ) {ys xs : List X} → IsPart ys xs → Rises f low high xs → Rises f low high ys
rises_part f low high none h = h
rises_part f low high (keep {x = x} p) h = (h.0, rises_part f (f x) high p h.1)
rises_part f low high (skip {x = x} {xs = xs} p) h = rises_part f low high p (rises_lower f low (f x) high xs h.0 h.1)

rises_push : {X : Type 0} (f : X → ℕ) (low high : ℕ) (xs : List X) (x : X) → f x ≡ high → Rises f low high xs → Rises f low high (xs ++ x ∷ [])
rises_push f low high [] x e h = (omega arith, omega arith)
rises_push f low high (y ∷ ys) x e h = (h.0, rises_push f (f y) high ys x e h.1)

-- ---- what changes keep

stored : (s : Stream) (p : Publish) → AreInTime s → AreInTime (with_message s p)
stored s p h = go p.wants.id
  where
    go : (id : Bytes) → AreInTime (with_id (record s { messages = s.messages ++ message_of s p ∷ []; last = s.last + 1 }) id)
    go [] = record { messages = rises_push (λ m. m.at) 0 s.moment s.messages (message_of s p) refl h.messages; ids = h.ids }
    go (byte ∷ more) = record {
      messages = rises_push (λ m. m.at) 0 s.moment s.messages (message_of s p) refl h.messages;
      ids = rises_push (λ i. i.at) 0 s.moment s.ids (record { id = byte ∷ more; seq = s.last + 1; at = s.moment }) refl h.ids;
    }

at_time : (s : Stream) (now : ℕ) → AreInTime s → AreInTime (advance s now)
unfolding advance
at_time s now h =
    let later : s.moment ≤ max s.moment now = omega arith in
    record {
      messages = rises_part (λ m. m.at) 0 (max s.moment now) (young_part s (max s.moment now)) (rises_higher (λ m. m.at) 0 s.moment (max s.moment now) s.messages later h.messages);
      ids = rises_part (λ i. i.at) 0 (max s.moment now) (filter_part _ s.ids) (rises_higher (λ i. i.at) 0 s.moment (max s.moment now) s.ids later h.ids);
    }

in_time_fact : IsStreamFact IsProperWhat ⊤ AreInTime
in_time_fact = record {
  change = record {
    gone = λ s reply g h. tt;
    only = λ s messages p h. record { messages = rises_part (λ m. m.at) 0 s.moment p h.messages; ids = h.ids };
    configured = λ s reply config g h. record { messages = h.messages; ids = h.ids };
    stored = λ s p room g e h. stored s p h;
    made = λ s reply name config g e r h. record { messages = h.messages; ids = h.ids };
    removed = λ s reply name c g e h. record { messages = h.messages; ids = h.ids };
    acked = λ s reply ack c g e q h. record { messages = h.messages; ids = h.ids };
    pulled = λ s reply name ask c g e h. record { messages = h.messages; ids = h.ids };
  };
  empty = λ i now reply config g h. record { messages = omega arith; ids = omega arith };
  time = at_time;
}

-- ---- the laws

live_from : (s : State) → IsInTime s → IfLive ⊤ AreInTime s
live_from (Vacant i) h = tt
live_from (Live s) h = h

from_live : (s : State) → IfLive ⊤ AreInTime s → IsInTime s
from_live (Vacant i) h = tt
from_live (Live s) h = h

pub in_time : LawInTime
in_time count old new e now reply outs x h = from_live new (at_event IsProperWhat ⊤ AreInTime in_time_fact old new e now reply outs x.event (and_parts _ _ x.proper).1 (live_from old h))

pub in_time_sent : LawInTimeSent
in_time_sent old new now listening d outs x h =
    from_live new (at_delivery IsProperWhat ⊤ AreInTime in_time_fact (λ s c k. record { messages = k.messages; ids = k.ids }) old new now listening d outs x (live_from old h))
