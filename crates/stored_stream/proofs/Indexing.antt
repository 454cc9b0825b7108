-- The index by subjects, through each change of the messages.
use Rattle.std.proofs.Common.{◌≡◌, ℕ, ◌<◌, ◌==◌, Bool, true, false, cond, not, List, [], ◌∷◌, ◌++◌, Some, None, refl, sym, ap, ◌∙◌, arith, append-nil, eq-eqb}
use Rattle.std.specs.Prelude.{All, filter, find}
use Rattle.std.proofs.lemmas.Bool.{ne_eqb}
use Rattle.std.proofs.lemmas.List.{map-append}
use Rattle.std.proofs.lemmas.List.Elements.{All-filter, All-map, filter-append, All-weaker}
use Rattle.js_base.specs.Bytes.{Bytes, same}
use Rattle.js_base.proofs.Meeting.{same_is}
use Rattle.js_model.specs.declared.stream.Message.{Message}
use Rattle.js_model.specs.Streams.{seqs}
use Rattle.subject_counts.specs.Sequences.{Subjects, seqs_of, AddsSeq, DropsSeq, KeepsSeqs, IsAbove}
use Rattle.stored_stream.specs.Indexed.{on_subject, AreIndexed}
use Rattle.stored_stream.proofs.Lists.{same_flip, filter_all, filter_swap, filter-map, ascends_push, ascends_filter, filter_one_less}

-- ---- a message more

seqs_on_push : (t : Bytes) (ms : List Message) (m : Message) → seqs (on_subject t (ms ++ m ∷ [])) ≡ cond (same t m.subject) (seqs (on_subject t ms) ++ m.seq ∷ []) (seqs (on_subject t ms))
seqs_on_push t ms m =
    ap seqs (filter-append (λ x. same x.subject t) ms (m ∷ []))
    ∙ map-append (λ x. x.seq) (on_subject t ms) (on_subject t (m ∷ []))
    ∙ ap (λ b. seqs (on_subject t ms) ++ seqs (cond b (m ∷ []) [])) (same_flip m.subject t)
    ∙ go (same t m.subject)
  where
    go : (b : Bool) → seqs (on_subject t ms) ++ seqs (cond b (m ∷ []) []) ≡ cond b (seqs (on_subject t ms) ++ m.seq ∷ []) (seqs (on_subject t ms))
    go true = refl
    go false = append-nil (seqs (on_subject t ms))

pub indexed_none : AreIndexed [] []
indexed_none = record { ascends = tt; at = λ t. refl }

pub indexed_more : (old new : Subjects) (ms : List Message) (m : Message) → AreIndexed old ms → All (λ x. x.seq < m.seq) ms → AddsSeq old new m.subject m.seq → AreIndexed new (ms ++ m ∷ [])
indexed_more old new ms m h above adds = record {
  ascends = rw map-append (ascends_push 0 m.seq (seqs ms) (omega arith) h.ascends (All-map (λ k. k < m.seq) (λ (x : Message). x.seq) ms above));
  at = λ t. adds.at t ∙ ap (λ (ns : List ℕ). cond (same t m.subject) (ns ++ m.seq ∷ []) ns) (h.at t) ∙ sym (seqs_on_push t ms m);
}

-- the sequences of a subject are below that of a message that is to come
pub above_subject : (subjects : Subjects) (ms : List Message) (m : Message) → AreIndexed subjects ms → All (λ x. x.seq < m.seq) ms → IsAbove m.seq (seqs_of subjects m.subject)
above_subject subjects ms m h above =
    rw (h.at m.subject) (All-map (λ k. k < m.seq) (λ (x : Message). x.seq) (on_subject m.subject ms) (All-filter (λ x. same x.subject m.subject) (λ x. x.seq < m.seq) ms above))

pub indexed_kept : (old new : Subjects) (ms : List Message) → AreIndexed old ms → KeepsSeqs old new → AreIndexed new ms
indexed_kept old new ms h keeps = record { ascends = h.ascends; at = λ t. keeps.at t ∙ h.at t }

-- a sequence that was added and dropped again
pub indexed_undone : (old mid new : Subjects) (ms : List Message) (m : Message) → AreIndexed old ms → All (λ x. x.seq < m.seq) ms → AddsSeq old mid m.subject m.seq → DropsSeq mid new m.subject m.seq → AreIndexed new ms
indexed_undone old mid new ms m h above adds drops = record {
  ascends = h.ascends;
  at = λ t. drops.at t ∙ ap (λ (ns : List ℕ). cond (same t m.subject) (filter (λ n. not (n == m.seq)) ns) ns) (adds.at t) ∙ undone t (same t m.subject) refl ∙ h.at t;
}
  where
    last_goes : (ns : List ℕ) → All (λ k. k < m.seq) ns → filter (λ n. not (n == m.seq)) (ns ++ m.seq ∷ []) ≡ ns
    last_goes ns below =
        filter-append (λ n. not (n == m.seq)) ns (m.seq ∷ [])
        ∙ ap (λ (b : Bool). filter (λ n. not (n == m.seq)) ns ++ cond (not b) (m.seq ∷ []) []) (eq-eqb m.seq m.seq refl)
        ∙ append-nil (filter (λ n. not (n == m.seq)) ns)
        ∙ filter_all (λ n. not (n == m.seq)) ns (All-weaker (λ k. k < m.seq) (λ k. not (k == m.seq) ≡ true) (λ k l. ap not (ne_eqb k m.seq (omega arith))) ns below)

    undone : (t : Bytes) (b : Bool) → same t m.subject ≡ b
        → cond b (filter (λ n. not (n == m.seq)) (cond b (seqs_of old t ++ m.seq ∷ []) (seqs_of old t))) (cond b (seqs_of old t ++ m.seq ∷ []) (seqs_of old t)) ≡ seqs_of old t
    undone t true e = last_goes (seqs_of old t) (rw (same_is t m.subject e) (above_subject old ms m h above))
    undone t false e = refl

-- ---- a message less

abbrev others : ℕ → List Message → List Message
others seq ms = filter (λ m. not (m.seq == seq)) ms

pub indexed_less : (old new : Subjects) (ms : List Message) (seq : ℕ) (m : Message) → AreIndexed old ms → find (λ x. x.seq == seq) ms ≡ Some m → DropsSeq old new m.subject seq → AreIndexed new (others seq ms)
indexed_less old new ms seq m h found drops = record {
  ascends = ascends_filter (λ x. x.seq) (λ x. not (x.seq == seq)) 0 ms h.ascends;
  at = λ t. drops.at t ∙ ap (λ (ns : List ℕ). cond (same t m.subject) (filter (λ n. not (n == seq)) ns) ns) (h.at t) ∙ less t (same t m.subject) refl;
}
  where
    less : (t : Bytes) (b : Bool) → same t m.subject ≡ b → cond b (filter (λ n. not (n == seq)) (seqs (on_subject t ms))) (seqs (on_subject t ms)) ≡ seqs (on_subject t (others seq ms))
    less t true e =
        filter-map (λ (x : Message). x.seq) (λ n. not (n == seq)) (on_subject t ms) ∙ ap seqs (filter_swap (λ x. not (x.seq == seq)) (λ x. same x.subject t) ms)
    less t false e =
        sym (ap seqs (filter_one_less (λ (x : Message). x.seq) (λ x. same x.subject t) seq 0 m ms h.ascends found (same_flip m.subject t ∙ e)))

-- nothing goes if none has the sequence
pub none_less : (ms : List Message) (seq : ℕ) → find (λ x. x.seq == seq) ms ≡ None → others seq ms ≡ ms
none_less [] seq h = refl
none_less (x ∷ ms) seq h = go (x.seq == seq) refl h (none_less ms seq)
  where
    go : (b : Bool) → (x.seq == seq) ≡ b → cond b (Some x) (find (λ y. y.seq == seq) ms) ≡ None → (find (λ y. y.seq == seq) ms ≡ None → others seq ms ≡ ms) → cond (not b) (x ∷ others seq ms) (others seq ms) ≡ x ∷ ms
    go true e k rest = absurd cc
    go false e k rest = ap (λ (ys : List Message). x ∷ ys) (rest k)
