-- Worked rows of a consumer that gives up one sequence more than are kept as given up, under interest retention.
use Rattle.std.proofs.Common.{◌≡◌, ℕ, zero, suc, ◌+◌, ◌-◌, ◌<◌, Bool, true, false, ◌||◌, cond, List, [], ◌∷◌, length, drop, refl, ap, ◌∙◌, arith}
use Rattle.std.specs.Prelude.{Some, codes, ◌==◌}
use Rattle.std.proofs.lemmas.Bool.{lt-ltb, ne_eqb, eq-eqb, or_from}
use Rattle.js_base.specs.Bytes.{has, last_of}
use Rattle.js_model.specs.declared.stream_config.Retention.TheVariants.{Interest}
use Rattle.js_model.specs.declared.stream.Message.{Message}
use Rattle.js_model.specs.declared.consumer.Consumer.{Consumer}
use Rattle.js_model.specs.Advance.{placed, consumer_at}
use Rattle.js_model.specs.Retention.{is_kept}
use Rattle.js_model.proofs.Samples.{t0, worker, message}

-- ---- numbers one after the other

-- so many, from this one on
count_up : ℕ → ℕ → List ℕ
count_up from zero = []
count_up from (suc n) = from ∷ count_up (suc from) n

placed_next : (from n : ℕ) → placed (count_up from n) (from + n) ≡ count_up from (suc n)
unfolding count_up
placed_next from zero = ap (λ (k : ℕ). k ∷ []) (let e : from + zero ≡ from = omega arith in e)
placed_next from (suc n) =
    let e : from + suc n ≡ suc from + n = omega arith in
    ap (λ (b : Bool). cond b (from ∷ placed (count_up (suc from) n) (from + suc n)) ((from + suc n) ∷ from ∷ count_up (suc from) n)) (lt-ltb from (from + suc n) (omega arith))
    ∙ ap (λ l. from ∷ l) (ap (placed (count_up (suc from) n)) e ∙ placed_next (suc from) n)

length_count_up : (from n : ℕ) → length (count_up from n) ≡ n
unfolding count_up
length_count_up from zero = refl
length_count_up from (suc n) = ap suc (length_count_up (suc from) n)

-- all but the first
last_next : (from n : ℕ) → last_of n (count_up from (suc n)) ≡ count_up (suc from) n
unfolding count_up
last_next from n = let e : length (count_up (suc from) n) ≡ n = length_count_up (suc from) n in ap (λ (k : ℕ). drop k (from ∷ count_up (suc from) n)) (let d : suc (length (count_up (suc from) n)) - n ≡ 1 = omega arith in d)

none_below : (m from n : ℕ) → m < from → has (count_up from n) m ≡ false
unfolding count_up
none_below m from zero l = refl
none_below m from (suc n) l = or_from (from == m) (has (count_up (suc from) n) m) (ne_eqb from m (omega arith)) (none_below m (suc from) n (omega arith))

first_of : (from n : ℕ) → has (count_up from (suc n)) from ≡ true
unfolding count_up
first_of from n = ap (λ (b : Bool). b || has (count_up (suc from) n) from) (eq-eqb from from refl)

-- ---- the rows

-- the sequences 1 to 65,536 are given up, and 65,537 was delivered as often as it may be, and is due
abbrev giving_up : Consumer
giving_up = record {
  name = codes "W";
  made = t0;
  config = record worker { max_deliver = Some 1 };
  picks = [];
  cursor = 65538;
  dseq = 65537;
  pending = record { seq = 65537; count = 1; due = t0 } ∷ [];
  given_up = count_up 1 65536;
  waiting = [];
  mark = t0;
}

-- 2 to 65,537 are given up then: the least one went
overflow : (consumer_at t0 giving_up).given_up ≡ count_up 2 65536
overflow = ap (last_of 65536) (placed_next 1 65536) ∙ last_next 1 65536

abbrev first : Message
first = message 1 t0 (codes "one")

-- its message is kept until then
kept_before : is_kept Interest (giving_up ∷ []) first ≡ true
kept_before = ap (λ (b : Bool). b || false) (first_of 1 65535)

-- and then counts as acknowledged
not_kept : is_kept Interest (consumer_at t0 giving_up ∷ []) first ≡ false
not_kept = ap (λ (l : List ℕ). has l 1 || false) overflow ∙ ap (λ (b : Bool). b || false) (none_below 1 2 65536 (omega arith))

-- the next one's is kept
next_kept : is_kept Interest (consumer_at t0 giving_up ∷ []) (message 2 t0 (codes "two")) ≡ true
next_kept = ap (λ (l : List ℕ). has l 2 || false) overflow ∙ ap (λ (b : Bool). b || false) (first_of 2 65535)
