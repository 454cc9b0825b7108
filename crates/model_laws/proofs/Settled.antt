-- A sequence that a consumer has delivered, and that waits for no acknowledgement, stays so and is not sent.
use Rattle.std.proofs.Common.{◌≡◌, ◌≢◌, ℕ, ◌+◌, ◌<◌, Bool, true, false, ◌&&◌, not, cond, List, [], ◌∷◌, map, refl, sym, ap, ◌∙◌, subst, arith}
use Rattle.std.specs.Prelude.{Option, Some, None, nat_lt, ◌==◌}
use Rattle.std.specs.List.{list_any}
use Rattle.std.proofs.lemmas.Bool.{true≢false, ne_eqb, eqb-false}
use Rattle.js_base.specs.Bytes.{Bytes, has}
use Rattle.js_base.specs.Moments.{plus}
use Rattle.js_base.specs.declared.out.Out.{Out}
use Rattle.js_model.specs.Lists.{Lacks}
use Rattle.js_model.specs.declared.stream.Message.{Message}
use Rattle.js_model.specs.declared.stream.Stream.{Stream}
use Rattle.js_model.specs.declared.consumer.Pending.{Pending}
use Rattle.js_model.specs.declared.consumer.Consumer.{Consumer}
use Rattle.js_model.specs.declared.ack.Ask.{Ask}
use Rattle.js_model.specs.declared.ack.AckKind.{AckKind}
use Rattle.js_model.specs.declared.ack.AckKind.TheVariants.{Ack as Acknowledge, Nak, Wpi, Next, Term}
use Rattle.js_model.specs.declared.entry.Delivered.{Delivered}
use Rattle.js_model.specs.declared.entry.Delivered.TheVariants.{Sent, TooSmall, Emptied}
use Rattle.js_model.specs.Streams.{confined, is_unacknowledged}
use Rattle.js_model.specs.Advance.{is_spent}
use Rattle.js_model.specs.Acknowledge.{acknowledged, moved}
use Rattle.js_model.specs.Pulls.{pulled, pulled_unless, pull_refusal}
use Rattle.js_model.specs.Deliver.{is_due, sent_to, with_pending, count_of, Delivers}
use Rattle.model_laws.specs.Acked.{is_sent}
use Rattle.js_model.proofs.Parts.{filter_part}
use Rattle.js_model.proofs.Lacking.{lacks-cons, lacks-head, lacks-tail, lacks-part, lacks-both}
use Rattle.model_laws.proofs.SoundAcks.{moved-seq}
use Rattle.model_laws.proofs.ConsumerFacts.{IsKept, acknowledged_entries}
use Rattle.js_model.proofs.Candidates.{IsReason, again, picked, onward, candidate_is}

-- the consumer has delivered the sequence
pub record IsPassed (n : ℕ) (c : Consumer) : Type 0 where
  pub picks : Lacks (λ m. m == n) c.picks
  pub below : n < c.cursor

-- and it does not wait for its acknowledgement
pub record IsSettled (n : ℕ) (c : Consumer) : Type 0 where
  pub passed : IsPassed n c
  pub pending : Lacks (λ p. p.seq == n) c.pending

-- a consumer with the same picks and cursor
passed_same : (n : ℕ) (c d : Consumer) → d.picks ≡ c.picks → d.cursor ≡ c.cursor → IsPassed n c → IsPassed n d
passed_same n c d e f h = record { picks = subst (Lacks (λ m. m == n)) (sym e) h.picks; below = let q : n < c.cursor = h.below in omega arith }

pub picks_pulled : (now : ℕ) (reply : Option Bytes) (ask : Option Ask) (c : Consumer) → ((pulled now reply ask c).picks ≡ c.picks) × ((pulled now reply ask c).cursor ≡ c.cursor) × ((pulled now reply ask c).pending ≡ c.pending)
picks_pulled now None ask c = (refl, refl, refl)
picks_pulled now (Some reply) ask c = go ask (pull_refusal c ask)
  where
    go : (ask : Option Ask) (block : Option Bytes) → ((pulled_unless block now reply ask c).picks ≡ c.picks) × ((pulled_unless block now reply ask c).cursor ≡ c.cursor) × ((pulled_unless block now reply ask c).pending ≡ c.pending)
    go None None = (refl, refl, refl)
    go (Some ask) None = (refl, refl, refl)
    go ask (Some block) = (refl, refl, refl)

pub passed_confined : (n : ℕ) (ns : List ℕ) (c : Consumer) → IsPassed n c → IsPassed n (confined ns c)
passed_confined n ns c h = record { picks = lacks-part (filter_part (has ns) c.picks) h.picks; below = h.below }

passed_acknowledged : (n now k : ℕ) (kind : AckKind) (c : Consumer) → IsPassed n c → IsPassed n (acknowledged now k kind c)
passed_acknowledged n now k kind c h = let e = (acknowledged_entries now k kind c).rest in passed_same n c (acknowledged now k kind c) (ap (λ (d : Consumer). d.picks) e) (ap (λ (d : Consumer). d.cursor) e) h

pub passed_kept : (n : ℕ) → IsKept (IsPassed n)
passed_kept n = record {
  confined = passed_confined n;
  time = λ now c h. record { picks = h.picks; below = h.below };
  acknowledged = λ now k kind c h. passed_acknowledged n now k kind c h;
  pulled = λ now reply ask c h. let e = picks_pulled now reply ask c in passed_same n c (pulled now reply ask c) e.0 e.1 h;
}

lacks_moved : (n k due : ℕ) (ps : List Pending) → Lacks (λ p. p.seq == n) ps → Lacks (λ p. p.seq == n) (map (moved k due) ps)
lacks_moved n k due [] h = h
lacks_moved n k due (p ∷ ps) h = lacks-cons (ap (λ s. s == n) (moved-seq k due p) ∙ lacks-head h) (lacks_moved n k due ps (lacks-tail h))

pending_acknowledged : (n now k : ℕ) (kind : AckKind) (c : Consumer) → Lacks (λ p. p.seq == n) c.pending → Lacks (λ p. p.seq == n) (acknowledged now k kind c).pending
pending_acknowledged n now k Acknowledge c h = lacks-part (filter_part _ c.pending) h
pending_acknowledged n now k (Nak delay) c h = lacks_moved n k _ c.pending h
pending_acknowledged n now k Wpi c h = lacks_moved n k _ c.pending h
pending_acknowledged n now k (Next ask) c h = lacks-part (filter_part _ c.pending) h
pending_acknowledged n now k Term c h = lacks-part (filter_part _ c.pending) h

pub settled_kept : (n : ℕ) → IsKept (IsSettled n)
settled_kept n = record {
  confined = λ ns c h. record { passed = passed_confined n ns c h.passed; pending = lacks-part (filter_part (λ p. has ns p.seq) c.pending) h.pending };
  time = λ now c h. record { passed = (passed_kept n).time now c h.passed; pending = lacks-part (filter_part (λ p. not (is_spent now c p)) c.pending) h.pending };
  acknowledged = λ now k kind c h. record { passed = passed_acknowledged n now k kind c h.passed; pending = pending_acknowledged n now k kind c h.pending };
  pulled = λ now reply ask c h. let e = picks_pulled now reply ask c in record { passed = passed_same n c (pulled now reply ask c) e.0 e.1 h.passed; pending = subst (Lacks (λ p. p.seq == n)) (sym e.2) h.pending };
}

-- ---- deliveries

-- a candidate is another sequence
pub other_candidate : (n : ℕ) (a : Stream) (c : Consumer) (m : Message) → IsSettled n c → IsReason a c m → m.seq ≢ n
other_candidate n a c m h (again e) q = true≢false (sym (subst (λ (k : ℕ). list_any (λ p. p.seq == k && is_due a.moment c p) c.pending ≡ true) q e) ∙ lacks-both (λ p. p.seq == n) (is_due a.moment c) c.pending h.pending)
other_candidate n a c m h (picked p rest e f w) q = eqb-false p n (lacks-head (subst (Lacks (λ m. m == n)) e h.passed.picks)) (sym f ∙ q)
other_candidate n a c m h (onward e t l w) q = let b : n < c.cursor = h.passed.below in absurd (omega arith)

lacks_with_pending : (n : ℕ) (ps : List Pending) (new : Pending) → (new.seq == n) ≡ false → Lacks (λ p. p.seq == n) ps → Lacks (λ p. p.seq == n) (with_pending ps new)
lacks_with_pending n [] new e h = lacks-cons e h
lacks_with_pending n (p ∷ ps) new e h = go (nat_lt p.seq new.seq) (p.seq == new.seq) (lacks_with_pending n ps new e (lacks-tail h))
  where
    go : (a b : Bool) → Lacks (λ p. p.seq == n) (with_pending ps new) → Lacks (λ p. p.seq == n) (cond a (p ∷ with_pending ps new) (cond b (new ∷ ps) (new ∷ p ∷ ps)))
    go true b r = lacks-cons (lacks-head h) r
    go false true r = lacks-cons e (lacks-tail h)
    go false false r = lacks-cons e h

pub passed_sent : (n now : ℕ) (m : Message) (c : Consumer) → IsPassed n c → IsPassed n (sent_to now m c)
passed_sent n now m c h = record { picks = lacks-part (filter_part (λ k. not (k == m.seq)) c.picks) h.picks; below = let b : n < c.cursor = h.below in omega arith }

settled_sent : (n now : ℕ) (m : Message) (c : Consumer) → m.seq ≢ n → IsSettled n c → IsSettled n (sent_to now m c)
settled_sent n now m c e h = record { passed = passed_sent n now m c h.passed; pending = go (is_unacknowledged c) }
  where
    go : (b : Bool) → Lacks (λ p. p.seq == n) (cond b c.pending (with_pending c.pending (record { seq = m.seq; count = count_of c m.seq + 1; due = plus now c.config.ack_wait })))
    go true = h.pending
    go false = lacks_with_pending n c.pending _ (ne_eqb m.seq n e) h.pending

pub settled_after : (n : ℕ) (a : Stream) (listening : List Bytes) (c after : Consumer) (d : Delivered) (outs : List Out) → Delivers a listening c d outs after → IsSettled n c → IsSettled n after
settled_after n a listening c after (Sent seq count dseq) outs x h =
    subst (IsSettled n) (sym x.after_is) (settled_sent n a.moment x.message c (other_candidate n a c x.message h (candidate_is a c x.message x.candidate).reason) h)
settled_after n a listening c after TooSmall outs x h = subst (IsSettled n) (sym x.after_is) (record { passed = record { picks = h.passed.picks; below = h.passed.below }; pending = h.pending })
settled_after n a listening c after Emptied outs x h = subst (IsSettled n) (sym x.after_is) (record { passed = record { picks = h.passed.picks; below = h.passed.below }; pending = h.pending })

pub not_sent : (n : ℕ) (a : Stream) (listening : List Bytes) (c after : Consumer) (d : Delivered) (outs : List Out) → Delivers a listening c d outs after → IsSettled n c → is_sent n d ≡ false
not_sent n a listening c after (Sent seq count dseq) outs x h = ne_eqb seq n (λ q. other_candidate n a c x.message h (candidate_is a c x.message x.candidate).reason (sym x.seq_is ∙ q))
not_sent n a listening c after TooSmall outs x h = refl
not_sent n a listening c after Emptied outs x h = refl
