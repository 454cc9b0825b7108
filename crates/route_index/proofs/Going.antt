-- The steps of a search over the references of which it holds its tokens.
use Rattle.std.proofs.Common.{◌≡◌, ◌⊎◌, ℕ, suc, ◌==◌, ◌&&◌, Bool, true, false, List, [], ◌∷◌, ◌++◌, length, sym, ap, subst, ◌∙◌, arith, Bor}
use Rattle.std.proofs.lemmas.Bool.{eqb-true, ne_eqb}
use Rattle.js_base.specs.Bytes.{Bytes, is_empty, same}
use Rattle.js_base.specs.Subjects.{star, rest}
use Rattle.route_index.specs.Ids.{Ids}
use Rattle.route_index.specs.declared.seek.Seek.{Seek}
use Rattle.route_index.specs.Searching.{seeks_overlaps, AddsUnder, AddsFitting, AddsBelow, AddsEach, AddsAll, IsBare, IsDotless}
use Rattle.route_index.proofs.Parts.{texts}
use Rattle.route_index.proofs.Finding.{below_end, below_more, below_bare, search_end, search_step, step_all, step_each}

module _ (seek : Seek) (ids : Ids) (front token : Bytes) (dotless : IsDotless token) where
  pub ends_below : (refs : List (Bor Bytes)) (over : Bool) → over ≡ (length refs == 0) → over ≡ true → (old new : List ℕ) → AddsUnder ids (front ++ token) old new → AddsBelow seek ids front token (texts refs) old new
  ends_below [] over e h old new adds = below_end seek ids front token dotless old new adds
  ends_below (part ∷ refs) over e h old new adds =
      let none = eqb-true (length (part ∷ refs)) 0 (sym e ∙ h) in
      absurd (omega arith)

  pub goes_below : (refs : List (Bor Bytes)) (over : Bool) → over ≡ (length refs == 0) → over ≡ false → (mid here : Bytes) → mid ≡ front ++ token → here ≡ mid ++ 46 ∷ []
      → (old new : List ℕ) → AddsFitting seek ids here (texts refs) old new → AddsBelow seek ids front token (texts refs) old new
  goes_below [] over e h mid here f g old new adds = absurd (cc (e, h))
  goes_below (part ∷ refs) over e h mid here f g old new adds =
      let P : Bytes → Type 0 = λ path. AddsFitting seek ids path (texts (part ∷ refs)) old new in
      below_more seek ids front token dotless part.now (texts refs) old new (subst P (g ∙ ap (λ m. m ++ 46 ∷ []) f) adds)

  pub stays_above : (refs : List (Bor Bytes)) (over : Bool) → over ≡ (length refs == 0) → over ≡ false → (mid here : Bytes) → mid ≡ front ++ token → here ≡ mid ++ 46 ∷ []
      → (old : List ℕ) → IsBare ids here → AddsBelow seek ids front token (texts refs) old old
  stays_above [] over e h mid here f g old bare = absurd (cc (e, h))
  stays_above (part ∷ refs) over e h mid here f g old bare =
      let P : Bytes → Type 0 = λ path. IsBare ids path in
      below_bare seek ids front token dotless part.now (texts refs) old (subst P (g ∙ ap (λ m. m ++ 46 ∷ []) f) bare)

module _ (seek : Seek) (ids : Ids) (front : Bytes) where
  pub searches_none : (refs : List (Bor Bytes)) → refs ≡ [] → (old : List ℕ) → AddsFitting seek ids front (texts refs) old old
  searches_none refs e old =
      let P : List (Bor Bytes) → Type 0 = λ rs. AddsFitting seek ids front (texts rs) old old in
      subst P (sym e) (search_end seek ids front old)

  abbrev TakesAll : Bor Bytes → List (Bor Bytes) → Bool → Type 0
  TakesAll token others b = (seeks_overlaps seek && (same token.now rest && length others == 0)) ≡ b

  abbrev TakesEach : Bor Bytes → Bool → Type 0
  TakesEach token b = (seeks_overlaps seek && same token.now star) ≡ b

  -- whether references are at their end
  end_is : (token : Bor Bytes) (others : List (Bor Bytes)) (b : Bool) → TakesAll token others b → (seeks_overlaps seek && (same token.now rest && is_empty (texts others))) ≡ b
  end_is token [] b h = h
  end_is token (other ∷ others) b h = ap (λ c. seeks_overlaps seek && (same token.now rest && c)) (never (length others)) ∙ h
    where
      never : (n : ℕ) → false ≡ (suc n == 0)
      never n = sym (ne_eqb (suc n) 0 (λ e. omega (arith, e)))

  pub searches : (refs : List (Bor Bytes)) (token : Bor Bytes) (others : List (Bor Bytes)) → refs ≡ token ∷ others → (one two : Bytes) → one ≡ front → two ≡ one → (old first second new : List ℕ)
      → AddsUnder ids (front ++ rest) old first → AddsBelow seek ids one star (texts others) first second
      → (AddsBelow seek ids two token.now (texts others) second new) ⊎ ((token.now ≡ star) × (new ≡ second)) → TakesAll token others false → TakesEach token false → AddsFitting seek ids front (texts refs) old new
  searches refs token others e one two f g old first second new ends stars exact not_all not_each =
      let P : List (Bor Bytes) → Type 0 = λ rs. AddsFitting seek ids front (texts rs) old new in
      let Stars : Bytes → Type 0 = λ path. AddsBelow seek ids path star (texts others) first second in
      let Exact : Bytes → Type 0 = λ path. (AddsBelow seek ids path token.now (texts others) second new) ⊎ ((token.now ≡ star) × (new ≡ second)) in
      subst P (sym e) (search_step seek ids front token.now (texts others) old first second new ends (subst Stars f stars) (subst Exact (g ∙ f) exact) (end_is token others false not_all) not_each)

  pub searches_all : (refs : List (Bor Bytes)) (token : Bor Bytes) (others : List (Bor Bytes)) → refs ≡ token ∷ others → (old new : List ℕ) → TakesAll token others true → AddsAll ids front old new
      → AddsFitting seek ids front (texts refs) old new
  searches_all refs token others e old new h adds =
      let P : List (Bor Bytes) → Type 0 = λ rs. AddsFitting seek ids front (texts rs) old new in
      subst P (sym e) (step_all seek ids front token.now (texts others) old new (end_is token others true h) adds)

  pub searches_each : (refs : List (Bor Bytes)) (token : Bor Bytes) (others : List (Bor Bytes)) → refs ≡ token ∷ others → (one : Bytes) → one ≡ front → (old first new : List ℕ) → TakesEach token true
      → AddsUnder ids (front ++ rest) old first → AddsEach seek ids one (texts others) first new → AddsFitting seek ids front (texts refs) old new
  searches_each refs token others e one f old first new h ends each =
      let P : List (Bor Bytes) → Type 0 = λ rs. AddsFitting seek ids front (texts rs) old new in
      let Each : Bytes → Type 0 = λ path. AddsEach seek ids path (texts others) first new in
      subst P (sym e) (step_each seek ids front token.now (texts others) old first new h ends (subst Each f each))
