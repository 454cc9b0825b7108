-- What may be delivered: a message that is due again, the first pick, or the next one from the cursor on.
use Rattle.std.proofs.Common.{◌≡◌, ℕ, ◌-◌, ◌^◌, ◌<◌, ◌≤◌, Bool, true, false, ◌&&◌, cond, List, [], ◌∷◌, refl}
use Rattle.std.specs.Prelude.{filter, nat_lt, nat_le, ◌==◌, Contains}
use Rattle.std.specs.List.{list_any}
use Rattle.std.proofs.lemmas.Bool.{and_parts, leb-true, ltb-true, eqb-true}
use Rattle.js_model.specs.declared.stream.Message.{Message}
use Rattle.js_model.specs.declared.stream.Stream.{Stream}
use Rattle.js_model.specs.declared.consumer.Consumer.{Consumer}
use Rattle.js_model.specs.Streams.{takes}
use Rattle.js_model.specs.Deliver.{candidates, or_next, next_message, due_messages, is_due, may_wait}
use Rattle.js_model.proofs.Parts.{take_part}
use Rattle.js_model.proofs.Members.{IsIn, in_from_contains, in_filter, in_part}

-- why a message may be delivered
pub data IsReason (a : Stream) (c : Consumer) (m : Message) : Type 0 where
  again : list_any (λ p. p.seq == m.seq && is_due a.moment c p) c.pending ≡ true → IsReason a c m
  picked : (pick : ℕ) (rest : List ℕ) → c.picks ≡ pick ∷ rest → m.seq ≡ pick → may_wait c ≡ true → IsReason a c m
  onward : c.picks ≡ [] → takes c m ≡ true → c.cursor ≤ m.seq → may_wait c ≡ true → IsReason a c m

pub record IsCandidate (a : Stream) (c : Consumer) (m : Message) : Type 0 where
  pub stored : IsIn m a.messages
  pub reason : IsReason a c m
  pub number : c.dseq < 2 ^ 62 - 1

-- with a reason for what is in the list
record IsReasoned (a : Stream) (c : Consumer) (m : Message) : Type 0 where
  stored : IsIn m a.messages
  reason : IsReason a c m

next_is : (a : Stream) (c : Consumer) (m : Message) (picks : List ℕ) → c.picks ≡ picks → may_wait c ≡ true → IsIn m (next_message picks a c) → IsReasoned a c m
next_is a c m [] e w h =
    let k = in_filter (λ m. takes c m && nat_le c.cursor m.seq) m a.messages (in_part (take_part 1 (filter (λ m. takes c m && nat_le c.cursor m.seq) a.messages)) h) in
    record { stored = k.0; reason = onward e (and_parts _ _ k.1).0 (leb-true c.cursor m.seq (and_parts _ _ k.1).1) w }
next_is a c m (p ∷ ps) e w h = let k = in_filter (λ m. m.seq == p) m a.messages h in record { stored = k.0; reason = picked p ps e (eqb-true m.seq p k.1) w }

or_is : (a : Stream) (c : Consumer) (m : Message) (ms : List Message) → (IsIn m ms → IsReasoned a c m) → IsIn m (or_next ms a c) → IsReasoned a c m
or_is a c m [] f h = go (may_wait c) refl h
  where
    go : (b : Bool) → may_wait c ≡ b → IsIn m (cond b (next_message c.picks a c) []) → IsReasoned a c m
    go true e k = next_is a c m c.picks refl e k
    go false e k = elim k [ ]
or_is a c m (x ∷ xs) f h = f h

due_is : (a : Stream) (c : Consumer) (m : Message) → IsIn m (due_messages a c) → IsReasoned a c m
due_is a c m h = let k = in_filter (λ m. list_any (λ p. p.seq == m.seq && is_due a.moment c p) c.pending) m a.messages h in record { stored = k.0; reason = again k.1 }

pub candidate_is : (a : Stream) (c : Consumer) (m : Message) → Contains (candidates a c) m → IsCandidate a c m
unfolding candidates
candidate_is a c m h = go (nat_lt c.dseq (2 ^ 62 - 1)) refl (in_from_contains (candidates a c) m h)
  where
    go : (b : Bool) → nat_lt c.dseq (2 ^ 62 - 1) ≡ b → IsIn m (cond b (or_next (due_messages a c) a c) []) → IsCandidate a c m
    go true e k = let r = or_is a c m (due_messages a c) (due_is a c m) k in record { stored = r.stored; reason = r.reason; number = ltb-true c.dseq (2 ^ 62 - 1) e }
    go false e k = elim k [ ]
