-- A stored message leaves only by age, a purge, a delete, a drop, a limit or its retention.
use Rattle.std.proofs.Common.{◌≡◌, ℕ, ◌+◌, ◌<◌, ◌≤◌, Bool, true, false, ◌||◌, cond, List, [], ◌∷◌, max, refl, sym, ◌∙◌, subst, arith, ◌⊎◌, inl, inr}
use Rattle.std.specs.Prelude.{filter, nat_lt, ◌==◌}
use Rattle.std.proofs.lemmas.Bool.{true≢false, ltb-false, eqb-true, ne_eqb, or_from}
use Rattle.js_base.specs.Bytes.{has}
use Rattle.js_base.specs.Moments.{plus}
use Rattle.js_model.specs.Lists.{Between, IsPart, keep, none, skip}
use Rattle.js_model.specs.declared.stream.Message.{Message}
use Rattle.js_model.specs.declared.stream.Stream.{Stream}
use Rattle.js_model.specs.Streams.{seqs}
use Rattle.js_model.specs.Advance.{advance}
use Rattle.js_model.specs.Retention.{kept, is_kept}
use Rattle.model_laws.specs.Leaving.{IsAged}
use Rattle.js_model.proofs.Parts.{part_map}
use Rattle.js_model.proofs.Lacking.{has-part}
use Rattle.js_model.proofs.Members.{IsIn, here, there, in_cons, in_bounds}

-- ---- parts and members

-- no message below the first has the sequence
seq_below : (low high n : ℕ) (ms : List Message) → Between (λ m. m.seq) low high ms → n < low → has (seqs ms) n ≡ false
seq_below low high n [] h l = refl
seq_below low high n (m ∷ ms) h l = let q : low ≤ m.seq = h.0 in or_from _ _ (ne_eqb m.seq n (omega arith)) (seq_below (m.seq + 1) high n ms h.1 (omega arith))

-- a message whose sequence the part has is in the part
pub in_part_by_seq : (low high : ℕ) (m : Message) {ys xs : List Message} → IsPart ys xs → Between (λ m. m.seq) low high xs → IsIn m xs → has (seqs ys) m.seq ≡ true → IsIn m ys
in_part_by_seq low high m none h i e = i
in_part_by_seq low high m (keep {x = x} {ys = ys} {xs = xs} p) h i e = go (in_part_by_seq (x.seq + 1) high m p h.1) (in_cons i)
  where
    later : IsIn m xs → (b : Bool) → (x.seq == m.seq) ≡ b → (b || has (seqs ys) m.seq) ≡ true → has (seqs ys) m.seq ≡ true
    later q true w f = let b : x.seq + 1 ≤ m.seq = (in_bounds (λ m. m.seq) (x.seq + 1) high m xs h.1 q).0 in let c : x.seq ≡ m.seq = eqb-true x.seq m.seq w in absurd (omega arith)
    later q false w f = f

    go : (IsIn m xs → has (seqs ys) m.seq ≡ true → IsIn m ys) → (x ≡ m) ⊎ IsIn m xs → IsIn m (x ∷ ys)
    go r (inl q) = subst (λ (z : Message). IsIn z (x ∷ ys)) q here
    go r (inr q) = there (r q (later q (x.seq == m.seq) refl e))
in_part_by_seq low high m (skip {x = x} {ys = ys} {xs = xs} p) h i e = go (in_part_by_seq (x.seq + 1) high m p h.1) (in_cons i)
  where
    go : (IsIn m xs → has (seqs ys) m.seq ≡ true → IsIn m ys) → (x ≡ m) ⊎ IsIn m xs → IsIn m ys
    go r (inl q) = absurd (true≢false (sym (has-part m.seq (part_map (λ m. m.seq) p) e) ∙ subst (λ (z : Message). has (seqs xs) z.seq ≡ false) q (seq_below (x.seq + 1) high x.seq xs h.1 (omega arith))))
    go r (inr q) = r q e

pub in_passing : (t : Message → Bool) (m : Message) (ms : List Message) → IsIn m ms → t m ≡ true → IsIn m (filter t ms)
in_passing t m [] h e = elim h [ ]
in_passing t m (x ∷ ms) here e = subst (λ (b : Bool). IsIn m (cond b (m ∷ filter t ms) (filter t ms))) (sym e) here
in_passing t m (x ∷ ms) (there h) e = go (t x) (in_passing t m ms h e)
  where
    go : (b : Bool) → IsIn m (filter t ms) → IsIn m (cond b (x ∷ filter t ms) (filter t ms))
    go true k = there k
    go false k = k

-- ---- age

-- a message is young, or too old
pub young_or_aged : (s : Stream) (now : ℕ) (m : Message) → IsIn m s.messages → IsIn m (advance s now).messages ⊎ IsAged s now m
unfolding advance
young_or_aged s now m h = go (s.config.max_age == 0) refl
  where
    passes : (s.config.max_age == 0) ≡ false → (b : Bool) → nat_lt (max s.moment now) (plus m.at s.config.max_age) ≡ b → IsIn m (filter (λ m. nat_lt (max s.moment now) (plus m.at s.config.max_age)) s.messages) ⊎ IsAged s now m
    passes e true q = inl (in_passing (λ m. nat_lt (max s.moment now) (plus m.at s.config.max_age)) m s.messages h q)
    passes e false q = inr (record { limited = e; old = ltb-false (max s.moment now) (plus m.at s.config.max_age) q })

    go : (b : Bool) → (s.config.max_age == 0) ≡ b → IsIn m (cond b s.messages (filter (λ m. nat_lt (max s.moment now) (plus m.at s.config.max_age)) s.messages)) ⊎ IsAged s now m
    go true e = inl h
    go false e = passes e (nat_lt (max s.moment now) (plus m.at s.config.max_age)) refl

-- ---- retention

-- a message of a stream is kept, or its retention does not ask for it
pub kept_or_unneeded : (s : Stream) (m : Message) → IsIn m s.messages → IsIn m (kept s).messages ⊎ (is_kept s.config.retention s.consumers m ≡ false)
unfolding kept
kept_or_unneeded s m h = go (is_kept s.config.retention s.consumers m) refl
  where
    go : (b : Bool) → is_kept s.config.retention s.consumers m ≡ b → IsIn m (filter (is_kept s.config.retention s.consumers) s.messages) ⊎ (is_kept s.config.retention s.consumers m ≡ false)
    go true q = inl (in_passing (is_kept s.config.retention s.consumers) m s.messages h q)
    go false q = inr q
