-- A search from the first token on finds the numbers of the subscriptions that are sought.
use Rattle.std.proofs.Common.{◌≡◌, ℕ, Bool, true, false, inl, inr, List, [], Option, Some, None, refl, sym, ap, subst, ◌∙◌}
use Rattle.std.specs.Ordering.{nat_cmp}
use Rattle.std.specs.BTreeMap.{get}
use Rattle.std.proofs.lemmas.Bool.{true≢false}
use Rattle.js_base.specs.Bytes.{Bytes, has}
use Rattle.js_base.specs.Subjects.{tokens}
use Rattle.js_base.proofs.Meeting.{same_is, same_self}
use Rattle.route_index.specs.declared.seek.Seek.{Seek}
use Rattle.route_index.specs.Ids.{Ids, Patterns, subs_of, has_pattern, Mirrors}
use Rattle.route_index.specs.Searching.{fits, AddsFitting}
use Rattle.route_index.specs.Sought.{sought_ids}
use Rattle.route_index.proofs.Listing.{sought_of, sought_has}

pub both : (a b : Bool) → (a ≡ true → b ≡ true) → (b ≡ true → a ≡ true) → a ≡ b
both true b f g = sym (f refl)
both false true f g = g refl
both false false f g = refl

module _ (patterns : Patterns) (ids : Ids) (mirrors : Mirrors patterns ids) (seek : Seek) (subject : Bytes) where
  pub whole : (new : List ℕ) → AddsFitting seek ids [] (tokens subject) [] new → (id : ℕ) → has new id ≡ has (sought_ids seek subject (subs_of patterns)) id
  whole new adds id = both (has new id) (sought_of seek subject (get nat_cmp patterns id)) found finds ∙ sym (sought_has seek subject id patterns.entries mirrors.ordered)
    where
      matched : (text : Bytes) (o : Option Bytes) → fits seek (tokens text) (tokens subject) ≡ true → has_pattern o text ≡ true → sought_of seek subject o ≡ true
      matched text None h k = absurd (true≢false (sym k))
      matched text (Some own) h k = ap (λ t. fits seek (tokens t) (tokens subject)) (same_is own text k) ∙ h

      found : has new id ≡ true → sought_of seek subject (get nat_cmp patterns id) ≡ true
      found h = elim (adds.only id h) [
        | inl before ↦ absurd (true≢false (sym before))
        | inr f ↦ matched f.0 (get nat_cmp patterns id) f.1 (sym (mirrors.at f.0 id) ∙ f.2)
      ]

      there : (o : Option Bytes) → get nat_cmp patterns id ≡ o → sought_of seek subject o ≡ true → has new id ≡ true
      there None e h = absurd (true≢false (sym h))
      there (Some own) e h = adds.all own id h (mirrors.at own id ∙ ap (λ o. has_pattern o own) e ∙ same_self own)

      finds : sought_of seek subject (get nat_cmp patterns id) ≡ true → has new id ≡ true
      finds h = there (get nat_cmp patterns id) refl h

  pub whole_from : (front : Bytes) (parts : List Bytes) (old new : List ℕ) → front ≡ [] → parts ≡ tokens subject → old ≡ [] → AddsFitting seek ids front parts old new
      → (id : ℕ) → has new id ≡ has (sought_ids seek subject (subs_of patterns)) id
  whole_from front parts old new e f g adds =
      let P : Bytes → Type 0 = λ x. AddsFitting seek ids x parts old new in
      let Q : List Bytes → Type 0 = λ x. AddsFitting seek ids [] x old new in
      let R : List ℕ → Type 0 = λ x. AddsFitting seek ids [] (tokens subject) x new in
      whole new (subst R g (subst Q f (subst P e adds)))
