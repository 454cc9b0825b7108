-- How many messages are awaited, counted one by one.
use Rattle.std.proofs.Common.{◌≡◌, ℕ, ◌+◌, ◌^◌, ◌<◌, ◌≤◌, Bool, true, false, cond, List, ◌∷◌, Some, None, length, sym, ap, ◌∙◌, arith}
use Rattle.std.specs.Prelude.{filter, find, nat_le}
use Rattle.js_base.specs.Bytes.{Bytes}
use Rattle.js_model.specs.declared.stream.Message.{Message}
use Rattle.js_model.specs.declared.consumer.Consumer.{Consumer}
use Rattle.js_model.specs.Lists.{Between}
use Rattle.js_model.proofs.Parts.{filter_part, part-length}
use Rattle.consumer_need.specs.Needs.{awaits}
use Rattle.followed_stream.specs.Followers.{awaited}
use Rattle.retention.proofs.Walking.{all_from, all_from_low, all_from_none, all_from_some}

pub at_most_one : (c : Consumer) (subject : Bytes) (seq : ℕ) → awaited c subject seq ≤ 1
at_most_one c subject seq = go (awaits c subject seq)
  where
    go : (b : Bool) → cond b 1 0 ≤ 1
    go true = omega arith
    go false = omega arith

-- so many are counted, and the others come from a sequence on
pub record IsCountTo (t : Message → Bool) (ms : List Message) (from count : ℕ) : Type 0 where
  pub rest : count + length (filter t (all_from from ms)) ≡ length (filter t ms)

module _ (t : Message → Bool) (high : ℕ) (ms : List Message) (ascends : Between (λ m. m.seq) 1 high ms) where
  pub counts_none : IsCountTo t ms 0 0
  counts_none =
      let all : length (filter t (all_from 0 ms)) ≡ length (filter t ms) = ap (λ (l : List Message). length (filter t l)) (all_from_low 1 high 0 ms ascends (omega arith)) in
      record { rest = omega (arith, all) }

  one_less : (first : Message) (l : List Message) → length (filter t (first ∷ l)) ≡ cond (t first) 1 0 + length (filter t l)
  one_less first l = go (t first)
    where
      go : (b : Bool) → length (cond b (first ∷ filter t l) (filter t l)) ≡ cond b 1 0 + length (filter t l)
      go true = omega arith
      go false = omega arith

  pub counts_more : (from count : ℕ) (m : Message) → IsCountTo t ms from count → Some m ≡ find (λ x. nat_le from x.seq) ms → IsCountTo t ms (m.seq + 1) (count + cond (t m) 1 0)
  counts_more from count m h e =
      let split : length (filter t (all_from from ms)) ≡ cond (t m) 1 0 + length (filter t (all_from (m.seq + 1) ms)) = ap (λ (l : List Message). length (filter t l)) (all_from_some 1 high from m ms ascends (sym e)) ∙ one_less m (all_from (m.seq + 1) ms) in
      let before : count + length (filter t (all_from from ms)) ≡ length (filter t ms) = h.rest in
      record { rest = omega (arith, split, before) }

  pub counts_all : (from count : ℕ) → IsCountTo t ms from count → None ≡ find (λ x. nat_le from x.seq) ms → count ≡ length (filter t ms)
  counts_all from count h e =
      let none : length (filter t (all_from from ms)) ≡ 0 = ap (λ (l : List Message). length (filter t l)) (all_from_none from ms (sym e)) in
      let before : count + length (filter t (all_from from ms)) ≡ length (filter t ms) = h.rest in
      omega (arith, none, before)

  pub counts_few : (from count : ℕ) → IsCountTo t ms from count → length ms < 2 ^ 32 → count < 2 ^ 32
  counts_few from count h l =
      let before : count + length (filter t (all_from from ms)) ≡ length (filter t ms) = h.rest in
      let most : length (filter t ms) ≤ length ms = part-length (filter_part t ms) in
      omega (arith, before, most)
