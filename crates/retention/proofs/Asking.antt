-- What each consumer is asked of a message tells whether it is kept.
use Rattle.std.proofs.Common.{◌≡◌, ℕ, Bool, ◌||◌, not, List, [], ◌∷◌, map, refl, sym, ap, ◌∙◌}
use Rattle.std.specs.List.{list_any}
use Rattle.js_base.specs.Bytes.{Bytes}
use Rattle.js_model.specs.declared.stream_config.Retention.{Retention as Policy}
use Rattle.js_model.specs.declared.stream_config.Retention.TheVariants.{Interest, WorkQueue}
use Rattle.js_model.specs.declared.stream.Message.{Message}
use Rattle.js_model.specs.declared.consumer.Consumer.{Consumer}
use Rattle.js_model.specs.Retention.{is_kept, needs}
use Rattle.js_model.specs.Streams.{takes}
use Rattle.consumer_need.specs.Needs.{needs_at, takes_subject}

module _ {X : Type 0} (f : X → Consumer) (xs : List X) (subject : Bytes) (seq : ℕ) (m : Message) (s : m.subject ≡ subject) (n : m.seq ≡ seq) where
  needed : list_any (λ x. needs_at (f x) subject seq) xs ≡ list_any (λ c. needs c m) (map f xs)
  needed =
      ap (λ t. list_any (λ x. needs_at (f x) t seq) xs) (sym s)
      ∙ ap (λ k. list_any (λ x. needs_at (f x) m.subject k) xs) (sym n)
      ∙ go xs
    where
      go : (ys : List X) → list_any (λ x. needs_at (f x) m.subject m.seq) ys ≡ list_any (λ c. needs c m) (map f ys)
      go [] = refl
      go (y ∷ ys) = ap (λ b. needs (f y) m || b) (go ys)

  taken : list_any (λ x. takes_subject (f x) subject) xs ≡ list_any (λ c. takes c m) (map f xs)
  taken = ap (λ t. list_any (λ x. takes_subject (f x) t) xs) (sym s) ∙ go xs
    where
      go : (ys : List X) → list_any (λ x. takes_subject (f x) m.subject) ys ≡ list_any (λ c. takes c m) (map f ys)
      go [] = refl
      go (y ∷ ys) = ap (λ b. takes (f y) m || b) (go ys)

  pub by_interest : (policy : Policy) (is_needed : Bool) → policy ≡ Interest → is_needed ≡ list_any (λ x. needs_at (f x) subject seq) xs → is_needed ≡ is_kept policy (map f xs) m
  by_interest policy is_needed p e = e ∙ needed ∙ sym (ap (λ q. is_kept q (map f xs) m) p)

  pub in_queue : (policy : Policy) (is_needed is_taken : Bool) → policy ≡ WorkQueue → is_needed ≡ list_any (λ x. needs_at (f x) subject seq) xs → is_taken ≡ list_any (λ x. takes_subject (f x) subject) xs → (is_needed || not is_taken) ≡ is_kept policy (map f xs) m
  in_queue policy is_needed is_taken p e t =
      ap (λ b. b || not is_taken) (e ∙ needed) ∙ ap (λ b. list_any (λ c. needs c m) (map f xs) || not b) (t ∙ taken) ∙ sym (ap (λ q. is_kept q (map f xs) m) p)
