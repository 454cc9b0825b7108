-- The sequences of the first messages that pass, gathered one after the other.
use Rattle.std.proofs.Common.{◌≡◌, ℕ, ◌+◌, ◌<◌, ◌≤◌, ◌&&◌, Bool, true, false, cond, List, [], ◌∷◌, ◌++◌, Option, Some, None, length, take, refl, sym, ap, ◌∙◌, arith, append_assoc, append-nil}
use Rattle.std.specs.Prelude.{filter, find, nat_le, option_map}
use Rattle.std.proofs.lemmas.Bool.{le-leb}
use Rattle.std.proofs.lemmas.List.{length-append, take_at}
use Rattle.std.proofs.lemmas.List.Elements.{filter_agree}
use Rattle.js_model.specs.declared.stream.Message.{Message}
use Rattle.js_model.specs.Lists.{Between}
use Rattle.js_model.specs.Streams.{seqs}
use Rattle.stored_stream.specs.Selecting.{next_passing}
use Rattle.stored_stream.proofs.Purges.{take_long}
use Rattle.stored_stream.proofs.Selections.{rest_first}

-- those that pass from a sequence on
abbrev pub rest_from : (Message → Bool) → List Message → ℕ → List Message
rest_from t ms from = filter (λ m. nat_le from m.seq && t m) ms

pub record Gathers (t : Message → Bool) (ms : List Message) (most from : ℕ) (gone : List ℕ) : Type 0 where
  pub whole : gone ++ seqs (rest_from t ms from) ≡ seqs (filter t ms)
  pub few : length gone ≤ most

module _ (t : Message → Bool) (ms : List Message) (most : ℕ) where
  pub gathers_none : Gathers t ms most 0 []
  gathers_none = record { whole = ap seqs (filter_agree (λ m. nat_le 0 m.seq && t m) t (λ m. ap (λ b. b && t m) (le-leb 0 m.seq (omega arith))) ms); few = omega arith }

  pub gathers_more : (low high from n : ℕ) (gone : List ℕ) → Between (λ m. m.seq) low high ms → Gathers t ms most from gone → length gone < most → Some n ≡ next_passing t ms from → Gathers t ms most (n + 1) (gone ++ n ∷ [])
  gathers_more low high from n gone ascends h room found = go (find (λ m. nat_le from m.seq && t m) ms) refl found
    where
      go : (o : Option Message) → find (λ m. nat_le from m.seq && t m) ms ≡ o → Some n ≡ option_map (λ m. m.seq) o → Gathers t ms most (n + 1) (gone ++ n ∷ [])
      go None e f = absurd cc
      go (Some m) e f =
          let is : m.seq ≡ n = cc in
          record {
            whole = append_assoc gone (n ∷ []) (seqs (rest_from t ms (n + 1)))
                ∙ ap (λ (k : ℕ). gone ++ k ∷ seqs (rest_from t ms (k + 1))) (sym is)
                ∙ ap (λ (xs : List Message). gone ++ seqs xs) (sym (rest_first t from low high m ms ascends e))
                ∙ h.whole;
            few = omega (arith, length-append gone (n ∷ []), room);
          }

  nothing_left : (from : ℕ) (xs : List Message) → find (λ m. nat_le from m.seq && t m) xs ≡ None → rest_from t xs from ≡ []
  nothing_left from [] h = refl
  nothing_left from (x ∷ xs) h = go (nat_le from x.seq && t x) h (nothing_left from xs)
    where
      go : (b : Bool) → cond b (Some x) (find (λ m. nat_le from m.seq && t m) xs) ≡ None → (find (λ m. nat_le from m.seq && t m) xs ≡ None → rest_from t xs from ≡ []) → cond b (x ∷ rest_from t xs from) (rest_from t xs from) ≡ []
      go true e r = absurd cc
      go false e r = r e

  pub gathers_all : (from : ℕ) (gone : List ℕ) → Gathers t ms most from gone → None ≡ next_passing t ms from → gone ≡ take most (seqs (filter t ms))
  gathers_all from gone h none = go (find (λ m. nat_le from m.seq && t m) ms) refl none
    where
      go : (o : Option Message) → find (λ m. nat_le from m.seq && t m) ms ≡ o → None ≡ option_map (λ m. m.seq) o → gone ≡ take most (seqs (filter t ms))
      go (Some m) e f = absurd cc
      go None e f =
          let all : gone ≡ seqs (filter t ms) = sym (append-nil gone) ∙ ap (λ (xs : List Message). gone ++ seqs xs) (sym (nothing_left from ms e)) ∙ h.whole in
          sym (take_long most gone h.few) ∙ ap (take most) all

  pub gathers_full : (from : ℕ) (gone : List ℕ) → Gathers t ms most from gone → most ≤ length gone → gone ≡ take most (seqs (filter t ms))
  gathers_full from gone h full =
      let few : length gone ≤ most = h.few in
      let same : length gone ≡ most = omega arith in
      sym (take_at gone (seqs (rest_from t ms from)) most same) ∙ ap (take most) h.whole
