-- What is found beneath a path piece by piece.
use Rattle.std.proofs.Common.{◌≡◌, ◌⊎◌, inl, inr, ℕ, zero, suc, ◌+◌, ◌<◌, ◌≤◌, ◌||◌, true, false, List, [], ◌∷◌, ◌++◌, Bor, length, take, get_or, sym, ap, subst, ◌∙◌, arith}
use Rattle.std.specs.List.{list_any}
use Rattle.std.proofs.lemmas.List.{map-append, take_more}
use Rattle.std.proofs.SliceLists.{take_long}
use Rattle.std.proofs.lemmas.Bool.{true≢false}
use Rattle.std.proofs.lemmas.List.Folds.{list_any-append}
use Rattle.js_base.specs.Bytes.{Bytes, same, has}
use Rattle.js_base.specs.Subjects.{tokens}
use Rattle.js_base.proofs.Meeting.{same_is}
use Rattle.route_index.specs.declared.seek.Seek.{Seek}
use Rattle.route_index.specs.declared.beneath.Piece.TheVariants.{Token, Text}
use Rattle.route_index.specs.Ids.{Ids, is_under}
use Rattle.route_index.specs.Searching.{fits, AddsUnder, AddsBelow, AddsEach, AddsAll, IsDotless, AreDotless}
use Rattle.route_index.specs.Beneath.{Covers, ArePieces}
use Rattle.route_index.proofs.Parts.{first_is, texts}
use Rattle.route_index.proofs.Finding.{either, or_left, or_right}

-- a piece that is listed was so before, or is the last one
last_or_before : (one part : Bytes) (parts : List Bytes) → list_any (same one) (parts ++ part ∷ []) ≡ true → (list_any (same one) parts ≡ true) ⊎ (one ≡ part)
last_or_before one part parts h = elim (either (list_any (same one) parts) (same one part || false) (sym (list_any-append (same one) parts (part ∷ [])) ∙ h)) [
  | inl before ↦ inl before
  | inr last ↦ elim (either (same one part) false last) [ inl is ↦ inr (same_is one part is) | inr none ↦ absurd (true≢false (sym none)) ]
]

-- the numbers that have been found are now also those under each pattern that begins with this prefix and one of these tokens and goes on so that
-- it is sought by the other tokens
pub record AddsAmong (seek : Seek) (ids : Ids) (front : Bytes) (others parts : List Bytes) (old new : List ℕ) : Type 0 where
  pub kept : (id : ℕ) → has old id ≡ true → has new id ≡ true
  pub all : (text token : Bytes) (more : List Bytes) (id : ℕ) → tokens text ≡ token ∷ more → list_any (same token) parts ≡ true → fits seek more others ≡ true → is_under ids (front ++ text) id ≡ true → has new id ≡ true
  pub only : (id : ℕ) → has new id ≡ true
      → (has old id ≡ true)
      ⊎ ((text token : Bytes) × (more : List Bytes) × (tokens text ≡ token ∷ more) × (fits seek more others ≡ true) × (is_under ids (front ++ text) id ≡ true))

-- .. or under each pattern that begins with this prefix and goes on with one of these texts
pub record AddsTexts (ids : Ids) (front : Bytes) (parts : List Bytes) (old new : List ℕ) : Type 0 where
  pub kept : (id : ℕ) → has old id ≡ true → has new id ≡ true
  pub all : (text : Bytes) (id : ℕ) → list_any (same text) parts ≡ true → is_under ids (front ++ text) id ≡ true → has new id ≡ true
  pub only : (id : ℕ) → has new id ≡ true → (has old id ≡ true) ⊎ ((text : Bytes) × (is_under ids (front ++ text) id ≡ true))

module _ (seek : Seek) (ids : Ids) (front : Bytes) (others : List Bytes) where
  pub among_none : (old : List ℕ) → AddsAmong seek ids front others [] old old
  among_none old = record { kept = λ id h. h; all = λ text token more id e none fit under. absurd (true≢false (sym none)); only = λ id h. inl h }

  pub among_more : (token : Bytes) (parts : List Bytes) (old mid new : List ℕ) → AddsAmong seek ids front others parts old mid → AddsBelow seek ids front token others mid new
      → AddsAmong seek ids front others (parts ++ token ∷ []) old new
  among_more token parts old mid new before below = record {
    kept = λ id h. below.kept id (before.kept id h);
    all = all;
    only = λ id h. elim (below.only id h) [
      | inl found ↦ before.only id found
      | inr f ↦ inr (f.0, token, f.1, f.2, f.3, f.4)
    ];
  }
    where
      all : (text one : Bytes) (more : List Bytes) (id : ℕ) → tokens text ≡ one ∷ more → list_any (same one) (parts ++ token ∷ []) ≡ true → fits seek more others ≡ true → is_under ids (front ++ text) id ≡ true
          → has new id ≡ true
      all text one more id e listed fit under = elim (last_or_before one token parts listed) [
        | inl earlier ↦ below.kept id (before.all text one more id e earlier fit under)
        | inr is ↦ below.all text more id (e ∙ ap (λ t. t ∷ more) is) fit under
      ]

  pub among_all : (parts : List Bytes) (old new : List ℕ) → Covers Token ids front parts → AddsAmong seek ids front others parts old new → AddsEach seek ids front others old new
  among_all parts old new covers adds = record {
    kept = adds.kept;
    all = λ text token more id e fit under.
        let found = covers.at text id under in
        adds.all text token more id e (ap (λ t. list_any (same t) parts) (first_is token found.0 more found.1.0 (sym e ∙ found.1.1)) ∙ found.2) fit under;
    only = adds.only;
  }

module _ (ids : Ids) (front : Bytes) where
  pub texts_none : (old : List ℕ) → AddsTexts ids front [] old old
  texts_none old = record { kept = λ id h. h; all = λ text id none under. absurd (true≢false (sym none)); only = λ id h. inl h }

  pub texts_more : (text : Bytes) (parts : List Bytes) (old mid new : List ℕ) → AddsTexts ids front parts old mid → AddsUnder ids (front ++ text) mid new → AddsTexts ids front (parts ++ text ∷ []) old new
  texts_more text parts old mid new before adds = record {
    kept = λ id h. adds.at id ∙ or_left _ _ (before.kept id h);
    all = all;
    only = λ id h. elim (either _ _ (sym (adds.at id) ∙ h)) [
      | inl found ↦ before.only id found
      | inr under ↦ inr (text, under)
    ];
  }
    where
      all : (one : Bytes) (id : ℕ) → list_any (same one) (parts ++ text ∷ []) ≡ true → is_under ids (front ++ one) id ≡ true → has new id ≡ true
      all one id listed under = elim (last_or_before one text parts listed) [
        | inl earlier ↦ adds.at id ∙ or_left _ _ (before.all one id earlier under)
        | inr is ↦ adds.at id ∙ or_right _ _ (ap (λ t. is_under ids (front ++ t) id) (sym is) ∙ under)
      ]

  pub texts_all : (parts : List Bytes) (old new : List ℕ) → Covers Text ids front parts → AddsTexts ids front parts old new → AddsAll ids front old new
  texts_all parts old new covers adds = record {
    kept = adds.kept;
    all = λ text id under. let found = covers.at text id under in adds.all text id (ap (λ t. list_any (same t) parts) found.1 ∙ found.2) under;
    only = adds.only;
  }

-- ---- by the references to the pieces

-- one reference more
texts_at : (refs : List (Bor Bytes)) (i : ℕ) (d : Bor Bytes) → i < length refs → texts (take (i + 1) refs) ≡ texts (take i refs) ++ (get_or refs i d).now ∷ []
texts_at refs i d h = ap texts (take_more refs i d h) ∙ map-append (λ (r : Bor Bytes). r.now) (take i refs) (get_or refs i d ∷ [])

module _ (refs : List (Bor Bytes)) (i : ℕ) (d : Bor Bytes) (within : i < length refs) where
  pub dotless_at : (held : List (Bor Bytes)) → refs ≡ held → ArePieces Token (texts held) → IsDotless (get_or refs i d).now
  dotless_at held e h = go refs i within (let P : List (Bor Bytes) → Type 0 = λ rs. AreDotless (texts rs) in subst P (sym e) h)
    where
      go : (rs : List (Bor Bytes)) (n : ℕ) → n < length rs → AreDotless (texts rs) → IsDotless (get_or rs n d).now
      go [] n less k = absurd (omega (arith, less))
      go (r ∷ rs) zero less k = k.0
      go (r ∷ rs) (suc n) less k = go rs n (omega (arith, less)) k.1

  pub among_next : (seek : Seek) (ids : Ids) (front path : Bytes) (others : List Bytes) (old mid new : List ℕ) → path ≡ front → AddsAmong seek ids front others (texts (take i refs)) old mid
      → AddsBelow seek ids front (get_or refs i d).now others mid new → AddsAmong seek ids path others (texts (take (i + 1) refs)) old new
  among_next seek ids front path others old mid new e before below =
      let P : Bytes → Type 0 = λ t. AddsAmong seek ids t others (texts (take (i + 1) refs)) old new in
      let Q : List Bytes → Type 0 = λ ts. AddsAmong seek ids front others ts old new in
      subst P (sym e) (subst Q (sym (texts_at refs i d within)) (among_more seek ids front others (get_or refs i d).now (texts (take i refs)) old mid new before below))

  pub texts_next : (ids : Ids) (front path : Bytes) (old mid new : List ℕ) → path ≡ front → AddsTexts ids front (texts (take i refs)) old mid → AddsUnder ids (front ++ (get_or refs i d).now) mid new
      → AddsTexts ids path (texts (take (i + 1) refs)) old new
  texts_next ids front path old mid new e before adds =
      let P : Bytes → Type 0 = λ t. AddsTexts ids t (texts (take (i + 1) refs)) old new in
      let Q : List Bytes → Type 0 = λ ts. AddsTexts ids front ts old new in
      subst P (sym e) (subst Q (sym (texts_at refs i d within)) (texts_more ids front (get_or refs i d).now (texts (take i refs)) old mid new before adds))

module _ (refs held : List (Bor Bytes)) (e : refs ≡ held) (i : ℕ) (past : length refs ≤ i) (ids : Ids) (front path : Bytes) (f : path ≡ front) (old new : List ℕ) where
  all_there : texts (take i refs) ≡ texts held
  all_there = ap texts (take_long refs i past ∙ e)

  pub among_done : (seek : Seek) (others : List Bytes) → Covers Token ids front (texts held) → AddsAmong seek ids path others (texts (take i refs)) old new → AddsEach seek ids front others old new
  among_done seek others covers adds =
      let P : Bytes → Type 0 = λ t. AddsAmong seek ids t others (texts (take i refs)) old new in
      let Q : List Bytes → Type 0 = λ ts. AddsAmong seek ids front others ts old new in
      among_all seek ids front others (texts held) old new covers (subst Q all_there (subst P f adds))

  pub texts_done : Covers Text ids front (texts held) → AddsTexts ids path (texts (take i refs)) old new → AddsAll ids front old new
  texts_done covers adds =
      let P : Bytes → Type 0 = λ t. AddsTexts ids t (texts (take i refs)) old new in
      let Q : List Bytes → Type 0 = λ ts. AddsTexts ids front ts old new in
      texts_all ids front (texts held) old new covers (subst Q all_there (subst P f adds))
