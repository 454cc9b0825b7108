-- Messages that go one by one, and what is left without them.
use Rattle.std.proofs.Common.{◌≡◌, ℕ, ◌==◌, ◌&&◌, ◌||◌, Bool, true, false, cond, not, List, [], ◌∷◌, ◌++◌, Option, Some, None, refl, sym, ap, ◌∙◌, arith, subst}
use Rattle.std.specs.Prelude.{filter, IsSome}
use Rattle.std.specs.Option.{option_to_list}
use Rattle.std.proofs.lemmas.Bool.{eqb-true}
use Rattle.std.proofs.lemmas.Bool.Decides.{nat_tests}
use Rattle.std.proofs.lemmas.List.Elements.{filter_agree}
use Rattle.js_base.specs.Bytes.{Bytes, has}
use Rattle.js_model.specs.declared.stream.Message.{Message}
use Rattle.js_model.specs.declared.stream.Stream.{Stream}
use Rattle.js_model.specs.Events.{message_at, without_messages}
use Rattle.js_model.specs.Lists.{IsPart}
use Rattle.js_model.specs.Streams.{only, seqs}
use Rattle.js_model.specs.Trim.{trim}
use Rattle.js_model.proofs.Members.{found_in}
use Rattle.js_model.proofs.Parts.{filter_part}
use Rattle.retention.specs.Over.{next_over, IsOverOnlyOn}
use Rattle.retention.specs.Laws.{LawWithout}
use Rattle.retention.proofs.Confining.{only_own, only_within}
use Rattle.stored_stream.proofs.Indexing.{none_less}
use Rattle.stored_stream.proofs.Limiting.{over_on_less, within_less}
use Rattle.stored_stream.proofs.Lists.{eq_flip, or_false}
use Rattle.followed_stream.specs.Attended.{without_seq, without_seqs, IsAttended}
use Rattle.followed_stream.proofs.Attending.{coherent}

-- ---- one message

-- without a message, in the words of the machine
pub without_is : (s : Stream) (n : ℕ) (m : Message) → message_at s n ≡ Some m → without_messages s (m ∷ []) ≡ without_seq n s
without_is s n m found = ap (λ (ms : List Message). only s ms) (filter_agree (λ x. not (has (seqs (m ∷ [])) x.seq)) (λ x. not (x.seq == n)) agree s.messages)
  where
    is : m.seq ≡ n
    is = eqb-true m.seq n (found_in (λ x. x.seq == n) m s.messages found).1

    agree : (x : Message) → not (has (seqs (m ∷ [])) x.seq) ≡ not (x.seq == n)
    agree x = ap not (or_false (m.seq == x.seq) ∙ eq_flip m.seq x.seq ∙ ap (λ k. x.seq == k) is)

pub trim_without : LawWithout → (s : Stream) (n : ℕ) → IsAttended s → next_over s ≡ Some n → IsSome (message_at s n) × (trim (without_seq n s) ≡ trim s)
trim_without law s n attended over =
    let w = law s n (coherent s attended) over in
    (subst IsSome (sym w.1) refl, ap trim (sym (without_is s n w.0 w.1)) ∙ w.2)

pub over_only_less : (s : Stream) (n : ℕ) (t : Bytes) → IsOverOnlyOn s t → IsOverOnlyOn (without_seq n s) t
over_only_less s n t h = record { others = λ u e. over_on_less s (filter_part (λ m. not (m.seq == n)) s.messages) u (h.others u e) }

-- limits that hold go on holding
pub within_only : (s : Stream) {ms : List Message} → IsPart ms s.messages → next_over s ≡ None → next_over (only s ms) ≡ None
within_only s part h = within_less s part h

-- ---- several messages

filter_twice : (p q : Message → Bool) (ms : List Message) → filter p (filter q ms) ≡ filter (λ m. q m && p m) ms
filter_twice p q [] = refl
filter_twice p q (m ∷ ms) = go (q m) (filter_twice p q ms)
  where
    go : (b : Bool) → filter p (filter q ms) ≡ filter (λ x. q x && p x) ms → filter p (cond b (m ∷ filter q ms) (filter q ms)) ≡ cond (b && p m) (m ∷ filter (λ x. q x && p x) ms) (filter (λ x. q x && p x) ms)
    go true h = ap (λ (xs : List Message). cond (p m) (m ∷ xs) xs) h
    go false h = h

has_push : (ns : List ℕ) (n k : ℕ) → (not (has ns k) && not (k == n)) ≡ not (has (ns ++ n ∷ []) k)
has_push [] n k = grind (arith, nat_tests)
has_push (m ∷ ns) n k = go (m == k) (has_push ns n k)
  where
    go : (b : Bool) → (not (has ns k) && not (k == n)) ≡ not (has (ns ++ n ∷ []) k) → (not (b || has ns k) && not (k == n)) ≡ not (b || has (ns ++ n ∷ []) k)
    go true h = refl
    go false h = h

-- one after the other, they all go
pub without_one_more : (gone : List ℕ) (n : ℕ) (s : Stream) → without_seq n (without_seqs gone s) ≡ without_seqs (gone ++ n ∷ []) s
without_one_more gone n s =
    only_within (filter_part (λ m. not (m.seq == n)) (filter (λ m. not (has gone m.seq)) s.messages)) s
    ∙ ap (only s)
    (filter_twice (λ m. not (m.seq == n)) (λ m. not (has gone m.seq)) s.messages
    ∙ filter_agree (λ m. not (has gone m.seq) && not (m.seq == n)) (λ m. not (has (gone ++ n ∷ []) m.seq)) (λ m. has_push gone n m.seq) s.messages)

pub without_none : (s : Stream) → IsAttended s → without_seqs [] s ≡ s
without_none s h = ap (only s) (all s.messages) ∙ only_own s h.held
  where
    all : (ms : List Message) → filter (λ m. not (has [] m.seq)) ms ≡ ms
    all [] = refl
    all (m ∷ ms) = ap (λ (xs : List Message). m ∷ xs) (all ms)

pub without_messages_part : (s : Stream) (gone : List Message) → IsPart (filter (λ m. not (has (seqs gone) m.seq)) s.messages) s.messages
without_messages_part s gone = filter_part (λ m. not (has (seqs gone) m.seq)) s.messages

-- a sequence that is not there
pub without_absent : (s : Stream) (n : ℕ) → IsAttended s → message_at s n ≡ None → without_seq n s ≡ s
without_absent s n h e = ap (only s) (none_less s.messages n e) ∙ only_own s h.held

-- a delete
pub deleted_is : (s : Stream) (n : ℕ) (o : Option Message) → IsAttended s → message_at s n ≡ o → without_seq n s ≡ without_messages s (option_to_list o)
deleted_is s n None h e = without_absent s n h e ∙ sym (without_none s h)
deleted_is s n (Some m) h e = sym (without_is s n m e)
