-- What a change of one consumer makes of a stream.
use Rattle.std.proofs.Common.{◌≡◌, ◌⊎◌, inl, inr, ℕ, ◌+◌, ◌<◌, ◌≤◌, Bool, true, false, cond, List, map, Option, Some, None, refl, sym, ap, subst, ◌∙◌, arith}
use Rattle.std.specs.Prelude.{◌==◌}
use Rattle.std.specs.List.{list_any}
use Rattle.std.proofs.lemmas.Bool.{cases_lt, eq-eqb, true≢false}
use Rattle.js_base.specs.Bytes.{Bytes, has}
use Rattle.js_model.specs.declared.stream.Message.{Message}
use Rattle.js_model.specs.declared.consumer.Pending.{Pending}
use Rattle.js_model.specs.declared.consumer.Consumer.{Consumer}
use Rattle.js_model.specs.Acknowledge.{with_due, without}
use Rattle.js_model.specs.Lists.{Between}
use Rattle.js_model.specs.Streams.{by_name, in_place_of, seqs}
use Rattle.js_model.proofs.Parts.{between_map}
use Rattle.model_laws.proofs.SoundSent.{none_above}
use Rattle.model_laws.proofs.SoundTime.{has_between}
use Rattle.effects.specs.declared.durable.Body.{Body}
use Rattle.effects.specs.Folding.{live, acked, delivered, delivered_to, due_at, given_up_by, replaced, with_given_up}
use Rattle.effects.specs.Ranges.{is_within}
use Rattle.durable_checks.specs.Storable.{IsStorable}
use Rattle.replayed_consumer.specs.Delivering.{CanDeliver}
use Rattle.replayed_consumer.specs.Storable.{IsStorableConsumer, IsStoredSeq, Keeps, KeepsWith}
use Rattle.log_replay.specs.Made.{KeepsStorable, Replaces}
use Rattle.log_replay.specs.Taken.{CanSend, HasPending, IsThere}
use Rattle.log_replay.proofs.Holders.{changed_keeps}

abbrev with_consumers : Body → List Consumer → Body
with_consumers b cs = record b { consumers = cs }

-- what comes of it, and that it keeps what is storable
pub record IsChanged (b : Body) (made : Option Body) (cs : List Consumer) : Type 0 where
  pub made_is : made ≡ Some (with_consumers b cs)
  pub keeps : KeepsStorable b (with_consumers b cs)

module _ (b : Body) (name : Bytes) (Became : Consumer → Consumer → Type 0) (cs : List Consumer) (r : Replaces name Became b.consumers cs) where
  replaced_is : replaced b (Some r.other) ≡ Some (with_consumers b cs)
  replaced_is = ap (λ (ds : List Consumer). Some (with_consumers b ds)) (sym r.replaced)

  replaced_keeps : ((i : ℕ) → IsStorable (live i b) → IsStorableConsumer b.messages b.last r.one → IsStorableConsumer b.messages b.last r.other) → KeepsStorable b (with_consumers b cs)
  replaced_keeps keeps = subst (λ (ds : List Consumer). KeepsStorable b (with_consumers b ds)) (sym r.replaced) (changed_keeps b name r.one r.other r.found keeps)

-- ---- an end, another due time, and what is given up

pub ends : (b : Body) (name : Bytes) (low high : ℕ) (cs : List Consumer) → Replaces name (λ one other. (other ≡ without (is_within low high) one) × Keeps one other) b.consumers cs
    → IsChanged b (replaced b (acked low high (by_name b.consumers name))) cs
ends b name low high cs r = record {
  made_is = ap (λ (o : Option Consumer). replaced b (acked low high o)) r.found ∙ ap (λ (c : Consumer). replaced b (Some c)) (sym r.became.0) ∙ replaced_is b name _ cs r;
  keeps = replaced_keeps b name _ cs r (λ i k was. r.became.1.kept b.messages b.last was);
}

pub gives_up : (b : Body) (name : Bytes) (moment : ℕ) (cs : List Consumer) → Replaces name (λ one other. (other ≡ with_given_up moment one) × Keeps one other) b.consumers cs
    → IsChanged b (replaced b (given_up_by moment (by_name b.consumers name))) cs
gives_up b name moment cs r = record {
  made_is = ap (λ (o : Option Consumer). replaced b (given_up_by moment o)) r.found ∙ ap (λ (c : Consumer). replaced b (Some c)) (sym r.became.0) ∙ replaced_is b name _ cs r;
  keeps = replaced_keeps b name _ cs r (λ i k was. r.became.1.kept b.messages b.last was);
}

-- the one that is found is the one that was asked
found_fits : (P : Consumer → Type 0) (cs : List Consumer) (name : Bytes) (c : Consumer) → IsThere cs name P → by_name cs name ≡ Some c → P c
found_fits P cs name c there found = let same : there.consumer ≡ c = cc (there.found, found) in subst P same there.fits

pub dues : (b : Body) (name : Bytes) (seq due : ℕ) (cs : List Consumer) → IsThere b.consumers name (HasPending seq) → Replaces name (λ one other. (other ≡ with_due seq due one) × Keeps one other) b.consumers cs
    → IsChanged b (replaced b (due_at seq due (by_name b.consumers name))) cs
dues b name seq due cs there r = record {
  made_is =
      let waits = found_fits (HasPending seq) b.consumers name r.one there r.found in
      ap (λ (o : Option Consumer). replaced b (due_at seq due o)) r.found ∙ ap (λ (t : Bool). replaced b (cond t (Some (with_due seq due r.one)) None)) waits
      ∙ ap (λ (c : Consumer). replaced b (Some c)) (sym r.became.0) ∙ replaced_is b name _ cs r;
  keeps = replaced_keeps b name _ cs r (λ i k was. r.became.1.kept b.messages b.last was);
}

-- ---- a delivery

stored_seq : (i : ℕ) (b : Body) (n : ℕ) → IsStorable (live i b) → has (seqs b.messages) n ≡ true → IsStoredSeq b.messages b.last n
stored_seq i b n k h =
    let between : Between (λ n. n) 1 (b.last + 1) (seqs b.messages) = between_map (λ n. n) (λ (m : Message). m.seq) 1 (b.last + 1) b.messages k.stored.messages in
    record { least = has_between n 1 (b.last + 1) (seqs b.messages) between h; most = below between; stored = h }
  where
    below : Between (λ n. n) 1 (b.last + 1) (seqs b.messages) → n ≤ b.last
    below between = go (cases_lt b.last n)
      where
        go : (b.last < n) ⊎ (n ≤ b.last) → n ≤ b.last
        go (inl above) = absurd (true≢false (sym h ∙ none_above n 1 (b.last + 1) (seqs b.messages) between (omega (arith, above))))
        go (inr le) = le

pub delivers : (b : Body) (name : Bytes) (entry : Pending) (dseq : ℕ) (cs : List Consumer) → CanSend b name entry dseq
    → Replaces name (λ one other. (other ≡ delivered_to entry dseq one) × KeepsWith entry.seq one other) b.consumers cs
    → IsChanged b (replaced b (delivered entry dseq (by_name b.consumers name))) cs
delivers b name entry dseq cs can r = record {
  made_is =
      let next = (found_fits (λ c. CanDeliver c entry dseq) b.consumers name r.one can.there r.found).next in
      ap (λ (o : Option Consumer). replaced b (delivered entry dseq o)) r.found ∙ ap (λ (t : Bool). replaced b (cond t (Some (delivered_to entry dseq r.one)) None)) (eq-eqb dseq (r.one.dseq + 1) next)
      ∙ ap (λ (c : Consumer). replaced b (Some c)) (sym r.became.0) ∙ replaced_is b name _ cs r;
  keeps = replaced_keeps b name _ cs r (λ i k was. r.became.1.kept b.messages b.last (stored_seq i b entry.seq k can.stored) was);
}
