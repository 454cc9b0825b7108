-- The first text beneath a path from one on, what was seen of the texts before it, and how many are left.
use Rattle.std.proofs.Common.{◌≡◌, ℕ, ◌+◌, ◌<◌, ◌≤◌, ◌==◌, ◌&&◌, ◌||◌, not, Bool, true, false, cond, List, [], ◌∷◌, ◌++◌, length, take, drop, filter, Option, Some, None, Bor, refl, sym, ap, subst, ◌∙◌, arith, append_assoc}
use Rattle.std.specs.Prelude.{nat_eq, IsSome, IfSome, MatchOption, slice_get}
use Rattle.std.specs.List.{list_any}
use Rattle.std.specs.Ordering.{nat_cmp}
use Rattle.std.specs.declared.ops.Bound.TheVariants.{Included, Unbounded}
use Rattle.std.specs.Cmp.Lexicographic.{slice_cmp, pointwise}
use Rattle.std.specs.Map.{lookup}
use Rattle.std.specs.BTreeMap.{get, is_at}
use Rattle.std.specs.BTreeMap.Range.{IsInRange, IsLeBy, IsRangeOf, IsEntryInRange}
use Rattle.std.specs.BTreeSet.{BTreeSet}
use Rattle.std.proofs.lemmas.Bool.{true≢false, eqb-true, and_parts}
use Rattle.std.proofs.lemmas.Map.Text.{is_eq-slice_cmp}
use Rattle.js_base.specs.Bytes.{Bytes, same}
use Rattle.js_base.proofs.Meeting.{same_is, same_self}
use Rattle.route_index.specs.declared.beneath.Piece.{Piece}
use Rattle.route_index.specs.declared.beneath.Piece.TheVariants.{Token, Text}
use Rattle.route_index.specs.Ids.{Ids, is_in, is_under}
use Rattle.route_index.specs.Searching.{IsDotless, AreDotless}
use Rattle.route_index.specs.Beneath.{is_after, IsPiece, ArePieces, HasPiece, Covers, EndsPiece, IsBeneath, IsFirstFrom, HasNoneFrom}
use Rattle.route_index.proofs.Fronts.{front_first, front_between}
use Rattle.route_index.proofs.Parts.{texts}
use Rattle.route_index.proofs.Pieces.{first_dotless}
use Rattle.route_index.proofs.Order.{after_behind, up_to, below_up_to}

abbrev Entries : Type 0
Entries = List (Bytes × BTreeSet ℕ)

-- ---- a text behind a prefix

pub rest_joined : (front text : Bytes) → pointwise nat_eq (take (length front) text) front ≡ true → text ≡ front ++ drop (length front) text
rest_joined [] text h = refl
rest_joined (x ∷ front) [] h = absurd (true≢false (sym h))
rest_joined (x ∷ front) (y ∷ text) h =
    let parts = and_parts (y == x) (pointwise nat_eq (take (length front) text) front) h in
    let first = eqb-true y x parts.0 in
    let more = rest_joined front text parts.1 in
    cc (first, more)

pub begins_with : (front text : Bytes) → pointwise nat_eq front (take (length front) text) ≡ true → pointwise nat_eq (take (length front) text) front ≡ true
begins_with [] text h = refl
begins_with (x ∷ front) [] h = absurd (true≢false (sym h))
begins_with (x ∷ front) (y ∷ text) h =
    let parts = and_parts (x == y) (pointwise nat_eq front (take (length front) text)) h in
    let first = eqb-true x y parts.0 in
    go first (begins_with front text parts.1)
  where
    go : x ≡ y → pointwise nat_eq (take (length front) text) front ≡ true → (y == x && pointwise nat_eq (take (length front) text) front) ≡ true
    go e more = ap (λ z. z == x && pointwise nat_eq (take (length front) text) front) (sym e) ∙ ap (λ b. b && pointwise nat_eq (take (length front) text) front) (self x) ∙ more
      where
        self : (z : ℕ) → (z == z) ≡ true
        self z = search arith

-- ---- the first text

-- a pattern with a number is there
has_set : (o : Option (BTreeSet ℕ)) (id : ℕ) → is_in o id ≡ true → IsSome o
has_set None id h = absurd (true≢false (sym h))
has_set (Some set) id h = search

module _ (ids : Ids) (path from : Bytes) where
  pub none_left : ((q : Bytes) → IsInRange (slice_cmp nat_cmp) (Included from) Unbounded q → get (slice_cmp nat_cmp) ids q ≡ None) → HasNoneFrom ids path from
  none_left h = record { at = λ other id under. go other id under (is_after from (path ++ other)) refl }
    where
      go : (other : Bytes) (id : ℕ) → is_under ids (path ++ other) id ≡ true → (b : Bool) → is_after from (path ++ other) ≡ b → b ≡ true
      go other id under true e = refl
      go other id under false e = absurd (true≢false (sym under ∙ ap (λ o. is_in o id) (h (path ++ other) (e, tt))))

  -- what a range from a text on says of its first entry
  abbrev pub IsHead : Bytes → Type 0
  IsHead first =
      IsSome (get (slice_cmp nat_cmp) ids first) × (is_after from first ≡ false)
      × ((q : Bytes) → is_after from q ≡ false → IsSome (get (slice_cmp nat_cmp) ids q) → is_after first q ≡ false)

  pub head_is : (entries others : Entries) (entry : Bytes × BTreeSet ℕ) → entries ≡ entry ∷ others → IsRangeOf (slice_cmp nat_cmp) (Included from) Unbounded ids entries → IsHead entry.0
  head_is entries others entry e range =
      let Within : Entries → Type 0 = λ es. IfSome (slice_get es 0) (IsEntryInRange (slice_cmp nat_cmp) (Included from) Unbounded ids) in
      let Least : Entries → Type 0 =
      λ es. (q : Bytes) → IsInRange (slice_cmp nat_cmp) (Included from) Unbounded q → IsSome (get (slice_cmp nat_cmp) ids q) → IfSome (slice_get es 0) (λ first. IsLeBy (slice_cmp nat_cmp) first.0 q) in
      let within = subst Within e range.1 in
      let there : IsSome (get (slice_cmp nat_cmp) ids entry.0) = rw within.1 search in
      (there, within.0.0, λ q f some. subst Least e range.2 q (f, tt) some)

  module _ (first : Bytes) (head : IsHead first) where
    pub found_first : (text : Bytes) → first ≡ path ++ text → IsFirstFrom ids path from text
    found_first text e = record {
      there = let P : Bytes → Type 0 = λ t. IsSome (get (slice_cmp nat_cmp) ids t) in subst P e head.0;
      reached = ap (is_after from) (sym e) ∙ head.1;
      least = λ other id under h. sym (after_behind path text other) ∙ ap (λ t. is_after t (path ++ other)) (sym e) ∙ head.2 (path ++ other) h (has_set _ id under);
    }

    pub no_first : IsBeneath path from → pointwise nat_eq (take (length path) first) path ≡ false → HasNoneFrom ids path from
    no_first beneath differs = record { at = λ other id under. go other id under (is_after from (path ++ other)) refl }
      where
        reached : is_after path first ≡ false
        reached = up_to path from first (ap (is_after path) beneath.1 ∙ front_first path beneath.0) head.1

        go : (other : Bytes) (id : ℕ) → is_under ids (path ++ other) id ≡ true → (b : Bool) → is_after from (path ++ other) ≡ b → b ≡ true
        go other id under true e = refl
        go other id under false e =
            absurd (true≢false (sym (begins_with path first (front_between path first other reached (head.2 (path ++ other) e (has_set _ id under)))) ∙ differs))

-- ---- what was seen

-- each pattern with a number that begins with the path and comes before `from` goes on with one of these pieces
pub record IsSeen (piece : Piece) (ids : Ids) (path from : Bytes) (parts : List Bytes) : Type 0 where
  pub at : (text : Bytes) (id : ℕ) → is_under ids (path ++ text) id ≡ true → is_after from (path ++ text) ≡ true → HasPiece piece text parts

listed_last : (part : Bytes) (parts : List Bytes) → list_any (same part) (parts ++ part ∷ []) ≡ true
listed_last part [] = ap (λ b. b || false) (same_self part)
listed_last part (other ∷ parts) = go (same part other) (listed_last part parts)
  where
    go : (b : Bool) → list_any (same part) (parts ++ part ∷ []) ≡ true → (b || list_any (same part) (parts ++ part ∷ [])) ≡ true
    go true h = refl
    go false h = h

listed_still : (one part : Bytes) (parts : List Bytes) → list_any (same one) parts ≡ true → list_any (same one) (parts ++ part ∷ []) ≡ true
listed_still one part [] h = absurd (true≢false (sym h))
listed_still one part (other ∷ parts) h = go (same one other) h (listed_still one part parts)
  where
    go : (b : Bool) → (b || list_any (same one) parts) ≡ true → (list_any (same one) parts ≡ true → list_any (same one) (parts ++ part ∷ []) ≡ true) → (b || list_any (same one) (parts ++ part ∷ [])) ≡ true
    go true k more = refl
    go false k more = more k

module _ (piece : Piece) (ids : Ids) (path : Bytes) where
  -- at the path nothing comes before it
  pub none_seen : IsSeen piece ids path path []
  none_seen = record { at = λ text id under h. absurd (true≢false (sym h ∙ front_first path text)) }

  pub seen_more : (from text part : Bytes) (past : ℕ) (parts : List Bytes) → IsFirstFrom ids path from text → EndsPiece piece text part (part ++ past ∷ []) → IsSeen piece ids path from parts
      → IsSeen piece ids path (path ++ (part ++ past ∷ [])) (parts ++ part ∷ [])
  seen_more from text part past parts first ends seen = record { at = λ other id under h. go other id under (sym (after_behind path (part ++ past ∷ []) other) ∙ h) (is_after from (path ++ other)) refl }
    where
      go : (other : Bytes) (id : ℕ) → is_under ids (path ++ other) id ≡ true → is_after (part ++ past ∷ []) other ≡ true → (b : Bool) → is_after from (path ++ other) ≡ b → HasPiece piece other (parts ++ part ∷ [])
      go other id under h true e = let found = seen.at other id under e in (found.0, found.1, listed_still found.0 part parts found.2)
      go other id under h false e = (part, ends.between other (first.least other id under e) h, listed_last part parts)

  -- all was seen if no text is left
  pub all_seen : (from : Bytes) (parts : List Bytes) → HasNoneFrom ids path from → IsSeen piece ids path from parts → Covers piece ids path parts
  all_seen from parts none seen = record { at = λ text id under. seen.at text id under (none.at text id under) }

-- ---- pieces

dotless_more : (parts : List Bytes) (part : Bytes) → AreDotless parts → IsDotless part → AreDotless (parts ++ part ∷ [])
dotless_more [] part h k = (k, tt)
dotless_more (other ∷ parts) part h k = (h.0, dotless_more parts part h.1 k)

pub pieces_more : (piece : Piece) (text part : Bytes) (parts : List Bytes) → IsPiece piece text part → ArePieces piece parts → ArePieces piece (parts ++ part ∷ [])
pieces_more Token text part parts is h = dotless_more parts part h (first_dotless text part is.0 is.1)
pieces_more Text text part parts is h = tt

pub no_pieces : (piece : Piece) → ArePieces piece []
no_pieces Token = tt
no_pieces Text = tt

-- ---- how many are left

-- how many entries do not come before `from`
abbrev pub left_from : Bytes → Entries → ℕ
left_from from es = length (filter (λ e. not (is_after from e.0)) es)

module _ (from end key : Bytes) (here : is_after from key ≡ false) (past : is_after end key ≡ true) where
  stays : (q : Bytes) → is_after end q ≡ false → is_after from q ≡ false
  stays q h = up_to from key q here (below_up_to key end q past h)

  abbrev kept : Bool → (Bytes × BTreeSet ℕ) → Entries → ℕ
  kept b e es = length (cond (not b) (e ∷ es) es)

  no_more : (es : Entries) → left_from end es ≤ left_from from es
  no_more [] = omega arith
  no_more (e ∷ es) = go (is_after end e.0) (is_after from e.0) refl refl (no_more es)
    where
      go : (a b : Bool) → is_after end e.0 ≡ a → is_after from e.0 ≡ b → left_from end es ≤ left_from from es
          → kept a e (filter (λ e. not (is_after end e.0)) es) ≤ kept b e (filter (λ e. not (is_after from e.0)) es)
      go true true f g h = h
      go true false f g h = omega (arith, h)
      go false true f g h = absurd (true≢false (sym g ∙ stays e.0 f))
      go false false f g h = omega (arith, h)

  fewer : (es : Entries) → IsSome (lookup (is_at (slice_cmp nat_cmp key)) es) → left_from end es < left_from from es
  fewer [] some = absurd (true≢false (sym some))
  fewer (e ∷ es) some = go (is_at (slice_cmp nat_cmp key) e.0) refl some (λ deeper. fewer es deeper)
    where
      more : left_from end es < left_from from es → (a b : Bool) → is_after end e.0 ≡ a → is_after from e.0 ≡ b
          → kept a e (filter (λ e. not (is_after end e.0)) es) < kept b e (filter (λ e. not (is_after from e.0)) es)
      more h true true f g = h
      more h true false f g = omega (arith, h)
      more h false true f g = absurd (true≢false (sym g ∙ stays e.0 f))
      more h false false f g = omega (arith, h)

      this : key ≡ e.0 → (a b : Bool) → is_after end e.0 ≡ a → is_after from e.0 ≡ b
          → kept a e (filter (λ e. not (is_after end e.0)) es) < kept b e (filter (λ e. not (is_after from e.0)) es)
      this is true true f g = absurd (true≢false (sym g ∙ ap (is_after from) (sym is) ∙ here))
      this is true false f g = let least = no_more es in omega (arith, least)
      this is false b f g = absurd (true≢false (sym past ∙ ap (is_after end) is ∙ f))

      go : (b : Bool) → is_at (slice_cmp nat_cmp key) e.0 ≡ b → IsSome (cond b (Some e.1) (lookup (is_at (slice_cmp nat_cmp key)) es))
          → (IsSome (lookup (is_at (slice_cmp nat_cmp key)) es) → left_from end es < left_from from es) → left_from end (e ∷ es) < left_from from (e ∷ es)
      go true is some deeper = this (same_is key e.0 (sym (is_eq-slice_cmp key e.0) ∙ is)) (is_after end e.0) (is_after from e.0) refl refl
      go false is some deeper = more (deeper some) (is_after end e.0) (is_after from e.0) refl refl

-- one text less is left behind the texts with its piece
pub less_left : (piece : Piece) (ids : Ids) (path from text part : Bytes) (past : ℕ) → IsFirstFrom ids path from text → EndsPiece piece text part (part ++ past ∷ [])
    → left_from (path ++ (part ++ past ∷ [])) ids.entries < left_from from ids.entries
less_left piece ids path from text part past first ends =
    fewer from (path ++ (part ++ past ∷ [])) (path ++ text) first.reached (after_behind path (part ++ past ∷ []) text ∙ ends.after) ids.entries first.there

-- ---- the next text

-- the path again, a piece and a byte
pub goes_from : (path from part : Bytes) (past : ℕ) (cut put end : Bytes) → IsBeneath path from → cut ≡ take (length path) from → put ≡ cut ++ part → end ≡ put ++ past ∷ [] → end ≡ path ++ (part ++ past ∷ [])
goes_from path from part past cut put end beneath e f g =
    g ∙ ap (λ t. t ++ past ∷ []) (f ∙ ap (λ t. t ++ part) (e ∙ ap (take (length path)) beneath.1 ∙ front_of path beneath.0)) ∙ append_assoc path part (past ∷ [])
  where
    front_of : (front more : Bytes) → take (length front) (front ++ more) ≡ front
    front_of [] more = refl
    front_of (x ∷ front) more = ap (λ t. x ∷ t) (front_of front more)

-- ---- the list of pieces

-- the pieces of all patterns before `from` are listed
abbrev pub AreListed : Piece → Ids → Bytes → Bytes → List (Bor Bytes) → Type 0
AreListed piece ids path from refs = IsBeneath path from × IsSeen piece ids path from (texts refs) × ArePieces piece (texts refs)

module _ (piece : Piece) (ids : Ids) (path : Bytes) where
  pub listed_none : (from : Bytes) (refs : List (Bor Bytes)) → from ≡ path → refs ≡ [] → AreListed piece ids path from refs
  listed_none from refs e f =
      let P : Bytes → Type 0 = λ t. AreListed piece ids path t refs in
      let Q : List (Bor Bytes) → Type 0 = λ rs. AreListed piece ids path path rs in
      subst P (sym e) (subst Q (sym f) (([], sym (append_nil path)), none_seen piece ids path, no_pieces piece))
    where
      append_nil : (xs : Bytes) → xs ++ [] ≡ xs
      append_nil [] = refl
      append_nil (x ∷ xs) = ap (λ ys. x ∷ ys) (append_nil xs)

  pub listed_more : (from end text : Bytes) (part : Bor Bytes) (past : ℕ) (refs refs' : List (Bor Bytes)) → AreListed piece ids path from refs → IsFirstFrom ids path from text → IsPiece piece text part.now
      → EndsPiece piece text part.now (part.now ++ past ∷ []) → refs' ≡ refs ++ part ∷ [] → end ≡ path ++ (part.now ++ past ∷ []) → AreListed piece ids path end refs'
  listed_more from end text part past refs refs' listed first is ends e f =
      let P : Bytes → Type 0 = λ t. AreListed piece ids path t refs' in
      let Seen : List Bytes → Type 0 = λ ts. IsSeen piece ids path (path ++ (part.now ++ past ∷ [])) ts in
      let parts : texts refs' ≡ texts refs ++ part.now ∷ [] = ap texts e ∙ texts_more refs in
      subst P (sym f) (
        ((part.now ++ past ∷ []), refl),
        subst Seen (sym parts) (seen_more piece ids path from text part.now past (texts refs) first ends listed.1),
        subst (ArePieces piece) (sym parts) (pieces_more piece text part.now (texts refs) is listed.2),
      )
    where
      texts_more : (rs : List (Bor Bytes)) → texts (rs ++ part ∷ []) ≡ texts rs ++ part.now ∷ []
      texts_more [] = refl
      texts_more (r ∷ rs) = ap (λ ts. r.now ∷ ts) (texts_more rs)

-- what stripping the path tells of the first pattern from `from` on
pub stripped : (ids : Ids) (path from first : Bytes) → IsHead ids path from first → IsBeneath path from → (whole prefix : Bytes) → whole ≡ first → prefix ≡ path → (o : Option (Bor Bytes))
    → MatchOption o (pointwise nat_eq (take (length prefix) whole) prefix ≡ false)
    (λ x. (pointwise nat_eq (take (length prefix) whole) prefix ≡ true) × (x.now ≡ drop (length prefix) whole) × (length x.now + length prefix ≡ length whole))
    → MatchOption o (HasNoneFrom ids path from) (λ text. IsFirstFrom ids path from text.now)
stripped ids path from first head beneath whole prefix e f None h = no_first ids path from first head beneath (ap (λ t. pointwise nat_eq (take (length t) first) t) (sym f) ∙ ap (λ t. pointwise nat_eq (take (length prefix) t) prefix) (sym e) ∙ h)
stripped ids path from first head beneath whole prefix e f (Some text) h =
    found_first ids path from first head text.now (sym e ∙ rest_joined prefix whole h.0 ∙ ap (λ t. prefix ++ t) (sym h.1) ∙ ap (λ t. t ++ text.now) f)
