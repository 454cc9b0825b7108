-- What a purge takes and what a limit drops of an ascending list of messages.
use Rattle.std.proofs.Common.{◌≡◌, ℕ, zero, suc, ◌+◌, ◌-◌, ◌<◌, ◌≤◌, Bool, true, false, ◌&&◌, cond, List, [], ◌∷◌, length, drop, take, refl, sym, ap, ◌∙◌, subst, arith, ◌⊎◌, inl, inr}
use Rattle.std.specs.Prelude.{Option, Some, None, nat_lt, nat_le, count_by, sum_by, IfSome}
use Rattle.std.proofs.lemmas.Bool.{true≢false, ltb-true, ltb-false, leb-false, lt-ltb, le-ltb, eq-eqb, or_parts, and_parts}
use Rattle.std.proofs.lemmas.List.Sums.{sum_by-cons}
use Rattle.js_base.specs.Bytes.{Bytes, same, has, last_of}
use Rattle.js_model.specs.Lists.{Between, IsPart}
use Rattle.js_model.specs.declared.stream.Message.{Message}
use Rattle.js_model.specs.declared.stream.Stream.{Stream}
use Rattle.js_model.specs.Streams.{seqs, size, passes_filter}
use Rattle.js_model.specs.Trim.{newest, newest_at, fitting, fitting_at, max_messages, trim}
use Rattle.js_model.specs.Events.{purge_list, all_but_last, is_below}
use Rattle.model_laws.specs.Leaving.{later_than, IsPurged, IsPushedOut, by_subject, by_count, by_bytes}
use Rattle.js_model.proofs.Parts.{filter_part, take_part, drop_part, all_part, part_trans, part_between, newest_at_part}
use Rattle.js_model.proofs.Members.{IsIn, in_cons, in_filter, in_part, in_bounds}
use Rattle.model_laws.proofs.Leaving.{in_part_by_seq}
use Rattle.model_laws.proofs.Whole.{has_member}

abbrev Ascending : ℕ → ℕ → List Message → Type 0
Ascending low high ms = Between (λ m. m.seq) low high ms

-- ---- the later ones

all_later : (m : Message) (low high : ℕ) (ms : List Message) → Ascending low high ms → m.seq < low → later_than m ms ≡ ms
all_later m low high [] h l = refl
all_later m low high (x ∷ ms) h l =
    let q : low ≤ x.seq = h.0 in
    ap (λ (b : Bool). cond b (x ∷ later_than m ms) (later_than m ms)) (lt-ltb m.seq x.seq (omega arith))
    ∙ ap (λ (l : List Message). x ∷ l) (all_later m (x.seq + 1) high ms h.1 (omega arith))

later_first : (low high : ℕ) (m : Message) (ms : List Message) → Ascending low high (m ∷ ms) → later_than m (m ∷ ms) ≡ ms
later_first low high m ms h =
    ap (λ (b : Bool). cond b (m ∷ later_than m ms) (later_than m ms)) (le-ltb m.seq m.seq (omega arith)) ∙ all_later m (m.seq + 1) high ms h.1 (omega arith)

later_rest : (low high : ℕ) (x m : Message) (ms : List Message) → Ascending low high (x ∷ ms) → IsIn m ms → later_than m (x ∷ ms) ≡ later_than m ms
later_rest low high x m ms h i =
    let q : x.seq + 1 ≤ m.seq = (in_bounds (λ m. m.seq) (x.seq + 1) high m ms h.1 i).0 in
    ap (λ (b : Bool). cond b (x ∷ later_than m ms) (later_than m ms)) (le-ltb m.seq x.seq (omega arith))

-- ---- the ends of a list

-- what is taken from the front has the others after it
after_taken : (n low high : ℕ) (m : Message) (ms : List Message) → Ascending low high ms → IsIn m (take n ms) → (1 ≤ n) × (length ms - n ≤ length (later_than m ms))
after_taken zero low high m ms h i = elim i [ ]
after_taken (suc n) low high m [] h i = elim i [ ]
after_taken (suc n) low high m (x ∷ ms) h i = (omega arith, go (λ k. (after_taken n (x.seq + 1) high m ms h.1 k).1) (in_cons i))
  where
    go : (IsIn m (take n ms) → length ms - n ≤ length (later_than m ms)) → (x ≡ m) ⊎ IsIn m (take n ms) → length (x ∷ ms) - suc n ≤ length (later_than m (x ∷ ms))
    go r (inl e) = subst (λ (z : Message). length (x ∷ ms) - suc n ≤ length (later_than z (x ∷ ms))) e (rw (later_first low high x ms h) (omega arith))
    go r (inr k) =
        let w : length ms - n ≤ length (later_than m ms) = r k in
        rw (later_rest low high x m ms h (in_part (take_part n ms) k)) (omega arith)

-- what is dropped from the front has the others after it
after_dropped : (n low high : ℕ) (m : Message) (ms : List Message) → Ascending low high ms → IsIn m ms → has (seqs (drop n ms)) m.seq ≡ false → (1 ≤ n) × (length ms - n ≤ length (later_than m ms))
after_dropped zero low high m ms h i e = absurd (true≢false (sym (has_member m ms i) ∙ e))
after_dropped (suc n) low high m [] h i e = elim i [ ]
after_dropped (suc n) low high m (x ∷ ms) h i e = (omega arith, go (λ k. (after_dropped n (x.seq + 1) high m ms h.1 k e).1) (in_cons i))
  where
    go : (IsIn m ms → length ms - n ≤ length (later_than m ms)) → (x ≡ m) ⊎ IsIn m ms → length (x ∷ ms) - suc n ≤ length (later_than m (x ∷ ms))
    go r (inl q) = subst (λ (z : Message). length (x ∷ ms) - suc n ≤ length (later_than z (x ∷ ms))) q (rw (later_first low high x ms h) (omega arith))
    go r (inr k) =
        let w : length ms - n ≤ length (later_than m ms) = r k in
        rw (later_rest low high x m ms h k) (omega arith)

-- ---- the three limits

newest_out : (n low high : ℕ) (m : Message) (ms : List Message) → Ascending low high ms → IsIn m ms → has (seqs (newest n ms)) m.seq ≡ false → n ≤ count_by (λ x. same x.subject m.subject) (later_than m ms)
newest_out n low high m [] h i e = elim i [ ]
newest_out n low high m (x ∷ ms) h i e = go (λ k f. newest_out n (x.seq + 1) high m ms h.1 k f) (in_cons i)
  where
    own : (b : Bool) → nat_lt (count_by (λ y. same y.subject x.subject) ms) n ≡ b → has (seqs (cond b (x ∷ newest n ms) (newest n ms))) x.seq ≡ false → n ≤ count_by (λ y. same y.subject x.subject) ms
    own true q f = absurd (true≢false (sym (eq-eqb x.seq x.seq refl) ∙ (or_parts _ _ f).0))
    own false q f = ltb-false (count_by (λ y. same y.subject x.subject) ms) n q

    rest : (b : Bool) → has (seqs (cond b (x ∷ newest n ms) (newest n ms))) m.seq ≡ false → has (seqs (newest n ms)) m.seq ≡ false
    rest true f = (or_parts _ _ f).1
    rest false f = f

    go : (IsIn m ms → has (seqs (newest n ms)) m.seq ≡ false → n ≤ count_by (λ y. same y.subject m.subject) (later_than m ms)) → (x ≡ m) ⊎ IsIn m ms → n ≤ count_by (λ y. same y.subject m.subject) (later_than m (x ∷ ms))
    go r (inl q) =
        subst (λ (z : Message). n ≤ count_by (λ y. same y.subject z.subject) (later_than z (x ∷ ms))) q
        (rw (later_first low high x ms h) (own (nat_lt (count_by (λ y. same y.subject x.subject) ms) n) refl (subst (λ (z : Message). has (seqs (newest n (x ∷ ms))) z.seq ≡ false) (sym q) e)))
    go r (inr k) = rw (later_rest low high x m ms h k) (r k (rest (nat_lt (count_by (λ y. same y.subject x.subject) ms) n) e))

fitting_out : (n low high : ℕ) (m : Message) (ms : List Message) → Ascending low high ms → IsIn m ms → has (seqs (fitting n ms)) m.seq ≡ false → n < size m + sum_by size (later_than m ms)
fitting_out n low high m [] h i e = elim i [ ]
fitting_out n low high m (x ∷ ms) h i e = go (λ k f. fitting_out n (x.seq + 1) high m ms h.1 k f) (in_cons i) (nat_le (sum_by size (x ∷ ms)) n) refl e
  where
    go : (IsIn m ms → has (seqs (fitting n ms)) m.seq ≡ false → n < size m + sum_by size (later_than m ms)) → (x ≡ m) ⊎ IsIn m ms → (b : Bool) → nat_le (sum_by size (x ∷ ms)) n ≡ b → has (seqs (cond b (x ∷ ms) (fitting n ms))) m.seq ≡ false → n < size m + sum_by size (later_than m (x ∷ ms))
    go r w true q f = absurd (true≢false (sym (has_member m (x ∷ ms) i) ∙ f))
    go r (inl w) false q f =
        let l : n < sum_by size (x ∷ ms) = leb-false (sum_by size (x ∷ ms)) n q in
        let s : sum_by size (x ∷ ms) ≡ size x + sum_by size ms = sum_by-cons size x ms in
        subst (λ (z : Message). n < size z + sum_by size (later_than z (x ∷ ms))) w (rw (later_first low high x ms h) (omega arith))
    go r (inr k) false q f = rw (later_rest low high x m ms h k) (r k f)

-- ---- all three

module _ (s : Stream) (m : Message) (high : ℕ) where
  abbrev first : List Message
  first = newest_at s.config.max_msgs_per_subject s.messages

  abbrev second : List Message
  second = last_of (max_messages s) first

  by_subjects : (o : Option ℕ) → s.config.max_msgs_per_subject ≡ o → Ascending 1 high s.messages → IsIn m s.messages → has (seqs (newest_at o s.messages)) m.seq ≡ false → IsPushedOut s m
  by_subjects None q h i e = absurd (true≢false (sym (has_member m s.messages i) ∙ e))
  by_subjects (Some n) q h i e = by_subject n q (newest_out n 1 high m s.messages h i e)

  by_number : Ascending 1 high first → IsIn m first → has (seqs second) m.seq ≡ false → IsPushedOut s m
  by_number h i e =
      let w = after_dropped (length first - max_messages s) 1 high m first h i e in
      let a : 1 ≤ length first - max_messages s = w.0 in
      let b : length first - (length first - max_messages s) ≤ length (later_than m first) = w.1 in
      by_count (omega arith)

  by_sizes : (o : Option ℕ) → s.config.max_bytes ≡ o → Ascending 1 high second → IsIn m second → has (seqs (fitting_at o second)) m.seq ≡ false → IsPushedOut s m
  by_sizes None q h i e = absurd (true≢false (sym (has_member m second i) ∙ e))
  by_sizes (Some n) q h i e = by_bytes n q (fitting_out n 1 high m second h i e)

  -- what the limits drop is pushed out by one of them
  pub pushed_out : Ascending 1 high s.messages → IsIn m s.messages → has (seqs (trim s).messages) m.seq ≡ false → IsPushedOut s m
  unfolding trim
  pushed_out h i e = subjects (has (seqs first) m.seq) refl
    where
      first_part : IsPart first s.messages
      first_part = newest_at_part s.config.max_msgs_per_subject s.messages

      second_part : IsPart second first
      second_part = drop_part (length first - max_messages s) first

      number : IsIn m first → (b : Bool) → has (seqs second) m.seq ≡ b → IsPushedOut s m
      number k false q = by_number (part_between (λ m. m.seq) 1 high first_part h) k q
      number k true q =
          by_sizes s.config.max_bytes refl (part_between (λ m. m.seq) 1 high (part_trans second_part first_part) h)
          (in_part_by_seq 1 high m second_part (part_between (λ m. m.seq) 1 high first_part h) k q) e

      subjects : (b : Bool) → has (seqs first) m.seq ≡ b → IsPushedOut s m
      subjects false q = by_subjects s.config.max_msgs_per_subject refl h i q
      subjects true q = number (in_part_by_seq 1 high m first_part h i q) (has (seqs second) m.seq) refl

-- ---- purges

-- the filter and the bound of a purge name the message
abbrev is_named : Bytes → Option ℕ → Message → Bool
is_named pattern below m = passes_filter pattern m.subject && is_below below m.seq

pub purge_takes : (s : Stream) (pattern : Bytes) (below keep : Option ℕ) (m : Message) (high : ℕ) → Ascending 1 high s.messages → IsIn m s.messages → has (seqs (purge_list s pattern below keep)) m.seq ≡ true → IsPurged s pattern below keep m
purge_takes s pattern below keep m high h i e = record { passes = (and_parts _ _ named.1).0; bound = stands below (and_parts _ _ named.1).1; last = behind keep (list_part keep) there_is }
  where
    ascending : Ascending 1 high (purge_list s pattern below None)
    ascending = part_between (λ m. m.seq) 1 high (filter_part (is_named pattern below) s.messages) h

    list_part : (o : Option ℕ) → IsPart (all_but_last o (purge_list s pattern below None)) (purge_list s pattern below None)
    list_part None = all_part (purge_list s pattern below None)
    list_part (Some n) = take_part (length (purge_list s pattern below None) - n) (purge_list s pattern below None)

    there_is : IsIn m (purge_list s pattern below keep)
    there_is = in_part_by_seq 1 high m (part_trans (list_part keep) (filter_part (is_named pattern below) s.messages)) h i e

    named : IsIn m s.messages × (is_named pattern below m ≡ true)
    named = in_filter (is_named pattern below) m s.messages (in_part (list_part keep) there_is)

    stands : (o : Option ℕ) → is_below o m.seq ≡ true → IfSome o (λ limit. m.seq < limit)
    stands None q = tt
    stands (Some limit) q = ltb-true m.seq limit q

    behind : (o : Option ℕ) → IsPart (all_but_last o (purge_list s pattern below None)) (purge_list s pattern below None) → IsIn m (all_but_last o (purge_list s pattern below None)) → IfSome o (λ number. number ≤ length (later_than m (purge_list s pattern below None)))
    behind None p k = tt
    behind (Some n) p k =
        let w = after_taken (length (purge_list s pattern below None) - n) 1 high m (purge_list s pattern below None) ascending k in
        let a : 1 ≤ length (purge_list s pattern below None) - n = w.0 in
        let b : length (purge_list s pattern below None) - (length (purge_list s pattern below None) - n) ≤ length (later_than m (purge_list s pattern below None)) = w.1 in
        omega arith
