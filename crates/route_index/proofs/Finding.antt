-- What the steps of a search find.
use Rattle.std.proofs.Common.{◌≡◌, ◌⊎◌, inl, inr, ℕ, ◌||◌, ◌&&◌, Bool, true, false, List, [], ◌∷◌, ◌++◌, refl, sym, ap, ◌∙◌, append_assoc}
use Rattle.std.proofs.lemmas.Bool.{and_parts, and_from, true≢false}
use Rattle.js_base.specs.Bytes.{Bytes, is_empty, same, has}
use Rattle.js_base.specs.Subjects.{tokens, meets, star, rest}
use Rattle.js_base.proofs.Meeting.{same_is, same_self}
use Rattle.route_index.specs.Ids.{Ids, is_under}
use Rattle.route_index.specs.declared.seek.Seek.{Seek}
use Rattle.route_index.specs.declared.seek.Seek.TheVariants.{Matching, Overlapping}
use Rattle.route_index.specs.Searching.{seeks_overlaps, fits, AddsUnder, AddsFitting, AddsBelow, AddsEach, AddsAll, IsBare, IsDotless}
use Rattle.subject_match.proofs.Dots.{some_token}
use Rattle.route_index.proofs.Parts.{alone, tokens_alone, tokens_joined, left, joined, tokens_left}

-- one of two tests passed
pub either : (a b : Bool) → (a || b) ≡ true → (a ≡ true) ⊎ (b ≡ true)
either true b h = inl refl
either false b h = inr h

pub or_left : (a b : Bool) → a ≡ true → (a || b) ≡ true
or_left true b h = refl
or_left false b h = absurd (true≢false (sym h))

pub or_right : (a b : Bool) → b ≡ true → (a || b) ≡ true
or_right true b h = refl
or_right false b h = h

no_more : (ts : List Bytes) → is_empty ts ≡ true → ts ≡ []
no_more [] h = refl
no_more (t ∷ ts) h = absurd (true≢false (sym h))

-- ---- which patterns are sought

fits_done : (seek : Seek) → fits seek [] [] ≡ true
fits_done Matching = refl
fits_done Overlapping = refl

fits_too_long : (seek : Seek) (part : Bytes) (more : List Bytes) → fits seek (part ∷ more) [] ≡ false
fits_too_long Matching part more = refl
fits_too_long Overlapping part more = refl

fits_too_short : (seek : Seek) (part : Bytes) (parts : List Bytes) → fits seek [] (part ∷ parts) ≡ false
fits_too_short Matching part parts = refl
fits_too_short Overlapping part parts = refl

same_flip : (a b : Bytes) → same a b ≡ same b a
same_flip a b = go (same a b) (same b a) refl refl
  where
    go : (x y : Bool) → same a b ≡ x → same b a ≡ y → x ≡ y
    go true true h k = refl
    go true false h k = absurd (true≢false (sym (ap (λ t. same b t) (same_is a b h) ∙ same_self b) ∙ k))
    go false true h k = absurd (true≢false (sym (ap (λ t. same a t) (same_is b a k) ∙ same_self a) ∙ h))
    go false false h k = refl

-- by a token that is no wildcard of a pattern
pub fits_step : (seek : Seek) (token part : Bytes) (others more : List Bytes) → (seeks_overlaps seek && (same token rest && is_empty others)) ≡ false → (seeks_overlaps seek && same token star) ≡ false
    → fits seek (part ∷ more) (token ∷ others) ≡ ((same part rest && is_empty more) || ((same part star || same part token) && fits seek more others))
fits_step Matching token part others more h k = refl
fits_step Overlapping token part others more h k =
    ap (λ b. b || ((same part rest && is_empty more) || ((same token star || (same part star || same token part)) && meets others more))) h
    ∙ ap (λ b. (same part rest && is_empty more) || ((b || (same part star || same token part)) && meets others more)) k
    ∙ ap (λ b. (same part rest && is_empty more) || ((same part star || b) && meets others more)) (same_flip token part)

module _ (seek : Seek) (ids : Ids) where
  under_same : (a b : Bytes) (id : ℕ) → a ≡ b → is_under ids a id ≡ true → is_under ids b id ≡ true
  under_same a b id e h = ap (λ p. is_under ids p id) (sym e) ∙ h

  module _ (front token : Bytes) (dotless : IsDotless token) where
    -- no token is left: the pattern ends
    pub below_end : (old new : List ℕ) → AddsUnder ids (front ++ token) old new → AddsBelow seek ids front token [] old new
    below_end old new adds = record {
      kept = λ id h. adds.at id ∙ or_left _ _ h;
      all = all;
      only = only;
    }
      where
        all : (text : Bytes) (more : List Bytes) (id : ℕ) → tokens text ≡ token ∷ more → fits seek more [] ≡ true → is_under ids (front ++ text) id ≡ true → has new id ≡ true
        all text [] id e h under = adds.at id ∙ or_right _ _ (under_same (front ++ text) (front ++ token) id (ap (λ t. front ++ t) (alone text token e)) under)
        all text (part ∷ more) id e h under = absurd (true≢false (sym h ∙ fits_too_long seek part more))

        only : (id : ℕ) → has new id ≡ true
            → (has old id ≡ true) ⊎ ((text : Bytes) × (more : List Bytes) × (tokens text ≡ token ∷ more) × (fits seek more [] ≡ true) × (is_under ids (front ++ text) id ≡ true))
        only id h = elim (either _ _ (sym (adds.at id) ∙ h)) [
          | inl before ↦ inl before
          | inr under ↦ inr (token, [], tokens_alone token dotless, fits_done seek, under)
        ]

    abbrev path : Bytes
    path = (front ++ token) ++ 46 ∷ []

    deeper : (text : Bytes) → path ++ text ≡ front ++ (token ++ 46 ∷ text)
    deeper text = append_assoc (front ++ token) (46 ∷ []) text ∙ append_assoc front token (46 ∷ text)

    module _ (part : Bytes) (parts : List Bytes) where
      -- the search went on behind the token and its dot
      pub below_more : (old new : List ℕ) → AddsFitting seek ids path (part ∷ parts) old new → AddsBelow seek ids front token (part ∷ parts) old new
      below_more old new adds = record { kept = adds.kept; all = all; only = only }
        where
          all : (text : Bytes) (more : List Bytes) (id : ℕ) → tokens text ≡ token ∷ more → fits seek more (part ∷ parts) ≡ true → is_under ids (front ++ text) id ≡ true → has new id ≡ true
          all text [] id e h under = absurd (true≢false (sym h ∙ fits_too_short seek part parts))
          all text (second ∷ more) id e h under =
              adds.all (left (second ∷ more)) id (ap (λ ts. fits seek ts (part ∷ parts)) (tokens_left text token second more dotless e) ∙ h)
              (under_same (front ++ text) (path ++ left (second ∷ more)) id (ap (λ t. front ++ t) (joined text token second more e) ∙ sym (deeper (left (second ∷ more)))) under)

          only : (id : ℕ) → has new id ≡ true
              → (has old id ≡ true)
              ⊎ ((text : Bytes) × (more : List Bytes) × (tokens text ≡ token ∷ more) × (fits seek more (part ∷ parts) ≡ true) × (is_under ids (front ++ text) id ≡ true))
          only id h = elim (adds.only id h) [
            | inl before ↦ inl before
            | inr found ↦ inr (token ++ 46 ∷ found.0, tokens found.0, tokens_joined token found.0 dotless, found.1, under_same (path ++ found.0) (front ++ (token ++ 46 ∷ found.0)) id (deeper found.0) found.2)
          ]

      -- no pattern goes on so
      pub below_bare : (old : List ℕ) → IsBare ids path → AddsBelow seek ids front token (part ∷ parts) old old
      below_bare old bare = record { kept = λ id h. h; all = all; only = λ id h. inl h }
        where
          all : (text : Bytes) (more : List Bytes) (id : ℕ) → tokens text ≡ token ∷ more → fits seek more (part ∷ parts) ≡ true → is_under ids (front ++ text) id ≡ true → has old id ≡ true
          all text [] id e h under = absurd (true≢false (sym h ∙ fits_too_short seek part parts))
          all text (second ∷ more) id e h under =
              absurd (true≢false (sym (under_same (front ++ text) (path ++ left (second ∷ more)) id (ap (λ t. front ++ t) (joined text token second more e) ∙ sym (deeper (left (second ∷ more)))) under)
              ∙ bare.at (left (second ∷ more)) id))

  -- nothing is sought by no token
  pub search_end : (front : Bytes) (old : List ℕ) → AddsFitting seek ids front [] old old
  search_end front old = record { kept = λ id h. h; all = λ text id h under. absurd (some text (tokens text) refl h); only = λ id h. inl h }
    where
      some : (text : Bytes) (parts : List Bytes) → tokens text ≡ parts → fits seek parts [] ≡ true → ⊥
      some text [] e h = let none : is_empty (tokens text) ≡ true = ap is_empty e in true≢false (sym none ∙ some_token text)
      some text (part ∷ parts) e h = true≢false (sym h ∙ fits_too_long seek part parts)

  module _ (front token : Bytes) (others : List Bytes) (old one two new : List ℕ)
      (ends : AddsUnder ids (front ++ rest) old one) (stars : AddsBelow seek ids front star others one two)
      (exact : (AddsBelow seek ids front token others two new) ⊎ ((token ≡ star) × (new ≡ two)))
      (not_all : (seeks_overlaps seek && (same token rest && is_empty others)) ≡ false) (not_each : (seeks_overlaps seek && same token star) ≡ false) where
    step_is : (part : Bytes) (more : List Bytes) → fits seek (part ∷ more) (token ∷ others) ≡ ((same part rest && is_empty more) || ((same part star || same part token) && fits seek more others))
    step_is part more = fits_step seek token part others more not_all not_each

    kept_last : (id : ℕ) → has two id ≡ true → has new id ≡ true
    kept_last id h = elim exact [ inl adds ↦ adds.kept id h | inr e ↦ ap (λ ns. has ns id) e.1 ∙ h ]

    kept_ends : (id : ℕ) → has one id ≡ true → has new id ≡ true
    kept_ends id h = kept_last id (stars.kept id h)

    by_star : (text : Bytes) (more : List Bytes) (id : ℕ) → tokens text ≡ star ∷ more → fits seek more others ≡ true → is_under ids (front ++ text) id ≡ true → has new id ≡ true
    by_star text more id e h under = kept_last id (stars.all text more id e h under)

    by_token : (text : Bytes) (more : List Bytes) (id : ℕ) → tokens text ≡ token ∷ more → fits seek more others ≡ true → is_under ids (front ++ text) id ≡ true → has new id ≡ true
    by_token text more id e h under = elim exact [
      | inl adds ↦ adds.all text more id e h under
      | inr same' ↦ by_star text more id (e ∙ ap (λ t. t ∷ more) same'.0) h under
    ]

    all_of : (text : Bytes) (id : ℕ) (parts : List Bytes) → tokens text ≡ parts → fits seek parts (token ∷ others) ≡ true → is_under ids (front ++ text) id ≡ true → has new id ≡ true
    all_of text id [] e h under = absurd (true≢false (sym h ∙ fits_too_short seek token others))
    all_of text id (part ∷ more) e h under = elim (either (same part rest && is_empty more) ((same part star || same part token) && fits seek more others) (sym (step_is part more) ∙ h)) [
      | inl last ↦ kept_ends id (ends.at id ∙ or_right _ _ (under_same (front ++ text) (front ++ rest) id
          (ap (λ t. front ++ t) (alone text rest (e ∙ ap (λ t. t ∷ more) (same_is part rest (and_parts _ _ last).0) ∙ ap (λ ts. rest ∷ ts) (no_more more (and_parts _ _ last).1)))) under))
      | inr step ↦ elim (either (same part star) (same part token) (and_parts _ _ step).0) [
        | inl s ↦ by_star text more id (e ∙ ap (λ t. t ∷ more) (same_is part star s)) (and_parts _ _ step).1 under
        | inr s ↦ by_token text more id (e ∙ ap (λ t. t ∷ more) (same_is part token s)) (and_parts _ _ step).1 under
      ]
    ]

    abbrev Found : ℕ → Type 0
    Found id = (text : Bytes) × (fits seek (tokens text) (token ∷ others) ≡ true) × (is_under ids (front ++ text) id ≡ true)

    found_ends : (id : ℕ) → is_under ids (front ++ rest) id ≡ true → Found id
    found_ends id under = (rest, step_is rest [], under)

    found_below : (part text : Bytes) (more : List Bytes) (id : ℕ) → (same part star || same part token) ≡ true → tokens text ≡ part ∷ more → fits seek more others ≡ true
        → is_under ids (front ++ text) id ≡ true → Found id
    found_below part text more id s e h under =
        (text, ap (λ ts. fits seek ts (token ∷ others)) e ∙ step_is part more ∙ or_right (same part rest && is_empty more) _ (and_from _ _ s h), under)

    only_ends : (id : ℕ) → has one id ≡ true → (has old id ≡ true) ⊎ Found id
    only_ends id h = elim (either _ _ (sym (ends.at id) ∙ h)) [ inl before ↦ inl before | inr under ↦ inr (found_ends id under) ]

    only_stars : (id : ℕ) → has two id ≡ true → (has old id ≡ true) ⊎ Found id
    only_stars id h = elim (stars.only id h) [
      | inl before ↦ only_ends id before
      | inr found ↦ inr (found_below star found.0 found.1 id refl found.2 found.3 found.4)
    ]

    only_new : (id : ℕ) → has new id ≡ true → (has old id ≡ true) ⊎ Found id
    only_new id h = elim exact [
      | inl adds ↦ elim (adds.only id h) [
        | inl before ↦ only_stars id before
        | inr found ↦ inr (found_below token found.0 found.1 id (or_right (same token star) _ (same_self token)) found.2 found.3 found.4)
      ]
      | inr e ↦ only_stars id (ap (λ ns. has ns id) (sym e.1) ∙ h)
    ]

    -- the three ways to go on from a prefix: `>` at the end, `*`, and the subject's token
    pub search_step : AddsFitting seek ids front (token ∷ others) old new
    search_step = record {
      kept = λ id h. kept_ends id (ends.at id ∙ or_left _ _ h);
      all = λ text id h under. all_of text id (tokens text) refl h under;
      only = only_new;
    }

  -- at a pattern's last `>` all that begins with the prefix is sought
  pub step_all : (front token : Bytes) (others : List Bytes) (old new : List ℕ) → (seeks_overlaps seek && (same token rest && is_empty others)) ≡ true → AddsAll ids front old new
      → AddsFitting seek ids front (token ∷ others) old new
  step_all front token others old new h adds = record {
    kept = adds.kept;
    all = λ text id k under. adds.all text id under;
    only = λ id k. elim (adds.only id k) [ inl before ↦ inl before | inr found ↦ inr (found.0, fit (tokens found.0) (some_token found.0), found.1) ];
  }
    where
      fit_all : (seek : Seek) (part : Bytes) (more : List Bytes) → (seeks_overlaps seek && (same token rest && is_empty others)) ≡ true → fits seek (part ∷ more) (token ∷ others) ≡ true
      fit_all Matching part more k = absurd (true≢false (sym k))
      fit_all Overlapping part more k = or_left (same token rest && is_empty others) _ k

      fit : (parts : List Bytes) → is_empty parts ≡ false → fits seek parts (token ∷ others) ≡ true
      fit [] k = absurd (true≢false k)
      fit (part ∷ more) k = fit_all seek part more h

  -- at a pattern's `*` each token is sought
  pub step_each : (front token : Bytes) (others : List Bytes) (old one new : List ℕ) → (seeks_overlaps seek && same token star) ≡ true → AddsUnder ids (front ++ rest) old one
      → AddsEach seek ids front others one new → AddsFitting seek ids front (token ∷ others) old new
  step_each front token others old one new h ends each = record {
    kept = λ id k. each.kept id (ends.at id ∙ or_left _ _ k);
    all = λ text id k under. all text id (tokens text) refl k under;
    only = only;
  }
    where
      each_is : (seek : Seek) (part : Bytes) (more : List Bytes) → (seeks_overlaps seek && same token star) ≡ true → fits seek (part ∷ more) (token ∷ others) ≡ ((same part rest && is_empty more) || fits seek more others)
      each_is Matching part more k = absurd (true≢false (sym k))
      each_is Overlapping part more k = ap (λ t. meets (t ∷ others) (part ∷ more)) (same_is token star k)

      all : (text : Bytes) (id : ℕ) (parts : List Bytes) → tokens text ≡ parts → fits seek parts (token ∷ others) ≡ true → is_under ids (front ++ text) id ≡ true → has new id ≡ true
      all text id [] e k under = absurd (true≢false (sym k ∙ fits_too_short seek token others))
      all text id (part ∷ more) e k under = elim (either (same part rest && is_empty more) (fits seek more others) (sym (each_is seek part more h) ∙ k)) [
        | inl last ↦ each.kept id (ends.at id ∙ or_right _ _ (under_same (front ++ text) (front ++ rest) id
            (ap (λ t. front ++ t) (alone text rest (e ∙ ap (λ t. t ∷ more) (same_is part rest (and_parts _ _ last).0) ∙ ap (λ ts. rest ∷ ts) (no_more more (and_parts _ _ last).1)))) under))
        | inr goes ↦ each.all text part more id e goes under
      ]

      only : (id : ℕ) → has new id ≡ true → (has old id ≡ true) ⊎ ((text : Bytes) × (fits seek (tokens text) (token ∷ others) ≡ true) × (is_under ids (front ++ text) id ≡ true))
      only id k = elim (each.only id k) [
        | inl before ↦ elim (either _ _ (sym (ends.at id) ∙ before)) [ inl older ↦ inl older | inr under ↦ inr (rest, each_is seek rest [] h, under) ]
        | inr found ↦ inr (found.0, ap (λ ts. fits seek ts (token ∷ others)) found.3 ∙ each_is seek found.1 found.2 h ∙ or_right (same found.1 rest && is_empty found.2) _ found.4, found.5)
      ]
