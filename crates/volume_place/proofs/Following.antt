-- What waits with more behind it leads to what all of it leads to.
use Rattle.std.proofs.Common.{◌≡◌, ◌⊎◌, ◌≤◌, ◌+◌, ◌-◌, ◌&&◌, inl, inr, ℕ, zero, suc, Bool, true, false, cond, List, [], ◌∷◌, ◌++◌, length, get_or, take, drop, Option, None, Some, refl, sym, ap, subst, ◌∙◌, arith}
use Rattle.std.specs.Prelude.{filter, nat_le, nat_lt, slice_get, unwrap_or}
use Rattle.std.specs.List.{list_all}
use Rattle.std.proofs.Math.Seq.{drop-append_seam, take-append_seam}
use Rattle.std.proofs.lemmas.Bool.{and_parts, leb-true, le-leb, lt-ltb, ltb-true, true≢false}
use Rattle.std.proofs.lemmas.List.Folds.{list_all-append}
use Rattle.std.proofs.lemmas.Option.{none-some, slice_get-get_or}
use Rattle.js_base.specs.Moments.{plus}
use Rattle.js_model.specs.declared.stream.Id.{Id}
use Rattle.effects.specs.Folding.{at_moment, fold_all, fold_in, fold_live, known_at, live, then_fold}
use Rattle.effects.specs.declared.durable.Body.{Body}
use Rattle.effects.specs.declared.durable.Durable.{Durable}
use Rattle.effects.specs.declared.effect.Effect.{Effect}
use Rattle.effects.specs.declared.effect.Effect.TheVariants as effects
use Rattle.effects.proofs.Removing.{fold_append}
use Rattle.place_engine.specs.Following.{begins_with_moment, followed, is_now, left_before, without_last_moment}
use Rattle.volume_place.specs.Moments.{LawMoments}
use Rattle.volume_place.specs.Tail.{ends_with_moment}

pub now_in : (effect : Effect) → is_now effect ≡ true → (moment : ℕ) × (effect ≡ effects.Now moment)
now_in (effects.MakeStream incarnation made config) is = absurd (true≢false (sym is))
now_in (effects.ChangeStream config) is = absurd (true≢false (sym is))
now_in effects.DropStream is = absurd (true≢false (sym is))
now_in (effects.PutHere seq at id subject headers payload) is = absurd (true≢false (sym is))
now_in (effects.Skip seq at id) is = absurd (true≢false (sym is))
now_in (effects.Remove low high) is = absurd (true≢false (sym is))
now_in (effects.MakeConsumer name made config cursor picks) is = absurd (true≢false (sym is))
now_in (effects.DropConsumer name) is = absurd (true≢false (sym is))
now_in (effects.Deliver name seq count due dseq) is = absurd (true≢false (sym is))
now_in (effects.Acked name low high) is = absurd (true≢false (sym is))
now_in (effects.Due name seq due) is = absurd (true≢false (sym is))
now_in (effects.GivenUp name moment) is = absurd (true≢false (sym is))
now_in (effects.Now moment) is = (moment, refl)

-- ---- two moments

-- what passes the second test passes the first
filter_within : {X : Type 0} (t u : X → Bool) → ((x : X) → u x ≡ true → t x ≡ true) → (xs : List X) → filter u (filter t xs) ≡ filter u xs
filter_within t u within [] = refl
filter_within {X} t u within (x ∷ xs) = go (t x) refl (filter_within t u within xs)
  where
    go : (b : Bool) → t x ≡ b → filter u (filter t xs) ≡ filter u xs → filter u (cond b (x ∷ filter t xs) (filter t xs)) ≡ cond (u x) (x ∷ filter u xs) (filter u xs)
    go true e rest = ap (λ (l : List X). cond (u x) (x ∷ l) l) rest
    go false e rest = fails (u x) refl
      where
        fails : (c : Bool) → u x ≡ c → filter u (filter t xs) ≡ cond c (x ∷ filter u xs) (filter u xs)
        fails true f = absurd (true≢false (sym (within x f) ∙ e))
        fails false f = rest

-- an id that is still known at the second is known at the first
known_later : (first second : ℕ) (b : Body) → first ≤ second → known_at second (at_moment first b) ≡ known_at second b
known_later first second b later =
    filter_within (λ (i : Id). nat_lt first (plus i.at b.config.duplicate_window)) (λ (i : Id). nat_lt second (plus i.at b.config.duplicate_window))
    (λ i known. let below = ltb-true second (plus i.at b.config.duplicate_window) known in lt-ltb first (plus i.at b.config.duplicate_window) (omega (arith, below, later))) b.ids

module _ (first second : ℕ) (after : Durable) where
  folds_second : (i : ℕ) (b : Body) → b.moment ≤ first → (c : Bool) → nat_le first second ≡ c
      → cond c (Some (live i (at_moment second (at_moment first b)))) None ≡ Some after → fold_live i b (effects.Now second) ≡ Some after
  folds_second i b past false e h = absurd (none-some after h)
  folds_second i b past true e h =
      let later : first ≤ second = leb-true first second e in
      ap (λ (c : Bool). cond c (Some (live i (at_moment second b))) None) (le-leb b.moment second (omega (arith, past, later)))
      ∙ ap (λ (ids : List Id). Some (live i (record b { moment = second; ids = ids }))) (sym (known_later first second b later))
      ∙ h

  folds_first : (i : ℕ) (b : Body) (c : Bool) → nat_le b.moment first ≡ c
      → then_fold (cond c (Some (live i (at_moment first b))) None) (effects.Now second) ≡ Some after → fold_live i b (effects.Now second) ≡ Some after
  folds_first i b false e h = absurd (none-some after h)
  folds_first i b true e h = folds_second i b (leb-true b.moment first e) (nat_le first second) refl h

  folds_in : (i : ℕ) (o : Option Body) → then_fold (fold_in i o (effects.Now first)) (effects.Now second) ≡ Some after → fold_in i o (effects.Now second) ≡ Some after
  folds_in i None h = absurd (none-some after h)
  folds_in i (Some b) h = folds_first i b (nat_le b.moment first) refl h

pub law_moments : LawMoments
law_moments None first second after h = absurd (none-some after h)
law_moments (Some d) first second after h = folds_in first second after d.incarnation d.body h

-- ---- a tail before more

ends_or_not : (tail : List Effect) → (without_last_moment tail ≡ tail) ⊎ ((moment : ℕ) × (tail ≡ without_last_moment tail ++ effects.Now moment ∷ []))
ends_or_not [] = inl refl
ends_or_not (effect ∷ []) = go (is_now effect) refl
  where
    go : (b : Bool) → is_now effect ≡ b → (cond b [] (effect ∷ []) ≡ effect ∷ []) ⊎ ((moment : ℕ) × (effect ∷ [] ≡ cond b [] (effect ∷ []) ++ effects.Now moment ∷ []))
    go true e = let now = now_in effect e in inr (now.0, ap (λ (x : Effect). x ∷ []) now.1)
    go false e = inl refl
ends_or_not (effect ∷ next ∷ more) = go (ends_or_not (next ∷ more))
  where
    go : (without_last_moment (next ∷ more) ≡ next ∷ more) ⊎ ((moment : ℕ) × (next ∷ more ≡ without_last_moment (next ∷ more) ++ effects.Now moment ∷ []))
        → (without_last_moment (effect ∷ next ∷ more) ≡ effect ∷ next ∷ more)
        ⊎ ((moment : ℕ) × (effect ∷ next ∷ more ≡ without_last_moment (effect ∷ next ∷ more) ++ effects.Now moment ∷ []))
    go (inl same) = inl (ap (λ (l : List Effect). effect ∷ l) same)
    go (inr ends) = inr (ends.0, ap (λ (l : List Effect). effect ∷ l) ends.1)

-- all of it waits on, or its last record, a moment, gives way to another one
abbrev pub Leaves : List Effect → List Effect → Type 0
Leaves more tail =
    (left_before more tail ≡ tail) ⊎ ((moment : ℕ) × (tail ≡ left_before more tail ++ effects.Now moment ∷ []) × (begins_with_moment more ≡ true))

pub leaves : (more tail : List Effect) → Leaves more tail
leaves more tail = go (begins_with_moment more) refl (ends_or_not tail)
  where
    go : (b : Bool) → begins_with_moment more ≡ b → (without_last_moment tail ≡ tail) ⊎ ((moment : ℕ) × (tail ≡ without_last_moment tail ++ effects.Now moment ∷ []))
        → (cond b (without_last_moment tail) tail ≡ tail)
        ⊎ ((moment : ℕ) × (tail ≡ cond b (without_last_moment tail) tail ++ effects.Now moment ∷ []) × (begins_with_moment more ≡ true))
    go false e h = inl refl
    go true e (inl same) = inl same
    go true e (inr ends) = inr (ends.0, ends.1, e)

-- what every record has, those that wait on have
pub all_left : (allowed : Effect → Bool) (tail more : List Effect) → list_all allowed tail ≡ true → list_all allowed (left_before more tail) ≡ true
all_left allowed tail more all = go (leaves more tail)
  where
    go : Leaves more tail → list_all allowed (left_before more tail) ≡ true
    go (inl same) = ap (list_all allowed) same ∙ all
    go (inr ends) =
        (and_parts (list_all allowed (left_before more tail)) (list_all allowed (effects.Now ends.0 ∷ []))
        (sym (list_all-append allowed (left_before more tail) (effects.Now ends.0 ∷ [])) ∙ ap (list_all allowed) (sym ends.1) ∙ all)).0

-- ---- what it leads to

fold_none : (es : List Effect) → fold_all es None ≡ None
fold_none [] = refl
fold_none (e ∷ es) = fold_none es

module _ (after : Durable) where
  replaces : (first second : ℕ) (rest : List Effect) (middle : Option Durable)
      → fold_all (effects.Now second ∷ rest) (then_fold middle (effects.Now first)) ≡ Some after → fold_all (effects.Now second ∷ rest) middle ≡ Some after
  replaces first second rest middle h = go (then_fold (then_fold middle (effects.Now first)) (effects.Now second)) refl h
    where
      go : (o : Option Durable) → then_fold (then_fold middle (effects.Now first)) (effects.Now second) ≡ o → fold_all rest o ≡ Some after
          → fold_all rest (then_fold middle (effects.Now second)) ≡ Some after
      go None e f = absurd (none-some after (sym (fold_none rest) ∙ f))
      go (Some d) e f = ap (fold_all rest) (law_moments middle first second d e) ∙ f

  gives_way : (first : ℕ) (more : List Effect) (middle : Option Durable) → begins_with_moment more ≡ true
      → fold_all more (then_fold middle (effects.Now first)) ≡ Some after → fold_all more middle ≡ Some after
  gives_way first [] middle begins h = absurd (true≢false (sym begins))
  gives_way first (effect ∷ rest) middle begins h =
      let now = now_in effect begins in
      subst (λ (e : Effect). fold_all (e ∷ rest) middle ≡ Some after) (sym now.1)
      (replaces first now.0 rest middle (subst (λ (e : Effect). fold_all (e ∷ rest) (then_fold middle (effects.Now first)) ≡ Some after) now.1 h))

  pub folds_on : (tail more : List Effect) (before : Option Durable) → fold_all (tail ++ more) before ≡ Some after → fold_all (followed tail more) before ≡ Some after
  folds_on tail more before h = go (leaves more tail)
    where
      left : List Effect
      left = left_before more tail

      go : Leaves more tail → fold_all (left_before more tail ++ more) before ≡ Some after
      go (inl same) = ap (λ (l : List Effect). fold_all (l ++ more) before) same ∙ h
      go (inr ends) =
          fold_append left more before
          ∙ gives_way ends.0 more (fold_all left before) ends.2
          (sym (ap (fold_all more) (fold_append left (effects.Now ends.0 ∷ []) before))
          ∙ sym (fold_append (left ++ effects.Now ends.0 ∷ []) more before)
          ∙ ap (λ (l : List Effect). fold_all (l ++ more) before) (sym ends.1)
          ∙ h)

-- ---- in a list that has them all

-- its last record tells whether a tail ends with a moment
ends_at : (tail : List Effect) (index : ℕ) (effect : Effect) → length tail ≡ index + 1 → slice_get tail index ≡ Some effect → ends_with_moment tail ≡ is_now effect
ends_at [] index effect so_many is = absurd (none-some effect is)
ends_at (last ∷ []) zero effect so_many is = ap (λ (o : Option Effect). is_now (unwrap_or o last)) is
ends_at (last ∷ []) (suc index) effect so_many is = absurd (none-some effect is)
ends_at (first ∷ next ∷ more) zero effect so_many is = absurd (omega (arith, so_many))
ends_at (first ∷ next ∷ more) (suc index) effect so_many is = ends_at (next ∷ more) index effect (omega (arith, so_many)) is

pub ends_by : (tail : List Effect) (effect : Effect) → slice_get tail (length tail - 1) ≡ Some effect → ends_with_moment tail ≡ is_now effect
ends_by [] effect is = absurd (none-some effect is)
ends_by (first ∷ more) effect is = ends_at (first ∷ more) (length (first ∷ more) - 1) effect (omega arith) is

pub ends_none : (tail : List Effect) → slice_get tail (length tail - 1) ≡ None → ends_with_moment tail ≡ false
ends_none [] is = refl
ends_none (first ∷ more) is =
    absurd (none-some (get_or (first ∷ more) (length (first ∷ more) - 1) first) (sym is ∙ slice_get-get_or (first ∷ more) (length (first ∷ more) - 1) first (omega arith)))

-- its first record tells whether it begins with one
pub begins_at : (more : List Effect) (effect : Effect) → slice_get more 0 ≡ Some effect → begins_with_moment more ≡ is_now effect
begins_at [] effect is = absurd (none-some effect is)
begins_at (first ∷ more) effect is = ap (λ (o : Option Effect). is_now (unwrap_or o first)) is

pub begins_none : (more : List Effect) → slice_get more 0 ≡ None → begins_with_moment more ≡ false
begins_none [] is = refl
begins_none (first ∷ more) is = absurd (none-some first (sym is))

-- without the last one of a tail that ends with a moment
cut_last : (tail more : List Effect) (index : ℕ) → ends_with_moment tail ≡ true → length tail ≡ index + 1
    → take index (tail ++ more) ++ drop (suc index) (tail ++ more) ≡ without_last_moment tail ++ more
cut_last [] more index ends so_many = absurd (true≢false (sym ends))
cut_last (last ∷ []) more zero ends so_many = ap (λ (b : Bool). cond b [] (last ∷ []) ++ more) (sym ends)
cut_last (last ∷ []) more (suc index) ends so_many = absurd (omega (arith, so_many))
cut_last (first ∷ next ∷ rest) more zero ends so_many = absurd (omega (arith, so_many))
cut_last (first ∷ next ∷ rest) more (suc index) ends so_many =
    ap (λ (l : List Effect). first ∷ l) (cut_last (next ∷ rest) more index ends (omega (arith, so_many)))

-- a tail that does not end with one stays
keeps_last : (tail : List Effect) → ends_with_moment tail ≡ false → without_last_moment tail ≡ tail
keeps_last [] ends = refl
keeps_last (last ∷ []) ends = ap (λ (b : Bool). cond b [] (last ∷ [])) ends
keeps_last (first ∷ next ∷ rest) ends = ap (λ (l : List Effect). first ∷ l) (keeps_last (next ∷ rest) ends)

-- a moment stands last, and another one first: the former is cut out
cut_out : (tail more : List Effect) (index : ℕ) → ends_with_moment tail ≡ true → begins_with_moment more ≡ true → length tail ≡ index + 1
    → take index (tail ++ more) ++ drop (index + 1) (tail ++ more) ≡ followed tail more
cut_out tail more index ends begins so_many =
    let next : index + 1 ≡ suc index = omega arith in
    ap (λ (n : ℕ). take index (tail ++ more) ++ drop n (tail ++ more)) next
    ∙ cut_last tail more index ends so_many
    ∙ ap (λ (b : Bool). cond b (without_last_moment tail) tail ++ more) (sym begins)

-- otherwise nothing is
cut_none : (tail more : List Effect) → (begins_with_moment more && ends_with_moment tail) ≡ false → tail ++ more ≡ followed tail more
cut_none tail more not_both = go (begins_with_moment more) not_both
  where
    go : (b : Bool) → (b && ends_with_moment tail) ≡ false → tail ++ more ≡ cond b (without_last_moment tail) tail ++ more
    go true ends = ap (λ (l : List Effect). l ++ more) (sym (keeps_last tail ends))
    go false ends = refl

pub ends_some : (tail : List Effect) → ends_with_moment tail ≡ true → 1 ≤ length tail
ends_some [] ends = absurd (true≢false (sym ends))
ends_some (first ∷ more) ends = omega arith

-- Of all records the first ones waited, and the others stand behind them.
module _ (tail more all waiting behind : List Effect) (count : ℕ) (is : all ≡ tail ++ more) (so_many : count ≡ length tail) (first : waiting ≡ take count all) (rest : behind ≡ drop count all) where
  waited : waiting ≡ tail
  waited = first ∙ ap (take count) is ∙ ap (λ (n : ℕ). take n (tail ++ more)) so_many ∙ take-append_seam tail more

  stands_behind : behind ≡ more
  stands_behind = rest ∙ ap (drop count) is ∙ ap (λ (n : ℕ). drop n (tail ++ more)) so_many ∙ drop-append_seam tail more

  -- a moment gave way
  pub replaced : (cut : List Effect) (index : ℕ) → begins_with_moment behind ≡ true → ends_with_moment waiting ≡ true → index + 1 ≡ count → cut ≡ take index all ++ drop (index + 1) all → cut ≡ followed tail more
  replaced cut index begins ends before is_cut =
      is_cut
      ∙ ap (λ (l : List Effect). take index l ++ drop (index + 1) l) is
      ∙ cut_out tail more index (ap ends_with_moment (sym waited) ∙ ends) (ap begins_with_moment (sym stands_behind) ∙ begins) (omega (arith, so_many, before))

  -- none did
  pub unreplaced : (begins_with_moment behind && ends_with_moment waiting) ≡ false → all ≡ followed tail more
  unreplaced not_both =
      is ∙ cut_none tail more (ap (λ (l : List Effect). begins_with_moment l && ends_with_moment tail) (sym stands_behind) ∙ ap (λ (l : List Effect). begins_with_moment behind && ends_with_moment l) (sym waited) ∙ not_both)
