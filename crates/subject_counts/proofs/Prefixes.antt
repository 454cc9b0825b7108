-- What a pattern has before its first wildcard: each subject that it matches begins so.
use Rattle.std.proofs.Common.{◌≡◌, ℕ, ◌+◌, ◌==◌, ◌&&◌, ◌||◌, Bool, true, false, cond, not, suc, List, [], ◌∷◌, Some, None, length, take, refl, sym, ap, ◌∙◌, arith}
use Rattle.std.specs.Prelude.{nat_eq, nat_lt, position}
use Rattle.std.specs.List.{before_first, onto_first, position_or_len, starts_with}
use Rattle.std.proofs.lemmas.Bool.{and_from, and_parts, eq-eqb, eqb-true, ltb-false, or_parts, or_right, true≢false}
use Rattle.std.proofs.lemmas.List.{take_all}
use Rattle.js_base.specs.Bytes.{Bytes, is_empty, same}
use Rattle.js_base.specs.Subjects.{matches, rest, star, tokens}
use Rattle.subject_counts.specs.Wildcards.{is_wildcard}

-- a text has a first token
first_token : (text : Bytes) → (token : Bytes) × (more : List Bytes) × (tokens text ≡ token ∷ more)
first_token [] = ([], [], refl)
first_token (b ∷ text) = go (b == 46) (first_token text)
  where
    go : (dot : Bool) → (token : Bytes) × (more : List Bytes) × (tokens text ≡ token ∷ more) → (token : Bytes) × (more : List Bytes) × (cond dot ([] ∷ tokens text) (onto_first b (tokens text)) ≡ token ∷ more)
    go true w = ([], tokens text, refl)
    go false w = (b ∷ w.0, w.1, ap (onto_first b) w.2)

without_wild : (r s e x m : Bool) → r ≡ false → s ≡ false → ((r && e) || ((s || x) && m)) ≡ true → (x && m) ≡ true
without_wild true s e x m f g h = absurd (true≢false f)
without_wild false true e x m f g h = absurd (true≢false g)
without_wild false false e x m f g h = h

-- a token that begins with another byte than a wildcard's stands for itself
plain_head : (b : ℕ) (p s : Bytes) (ps ss : List Bytes) → is_wildcard b ≡ false → matches ((b ∷ p) ∷ ps) (s ∷ ss) ≡ true → (same (b ∷ p) s ≡ true) × (matches ps ss ≡ true)
plain_head b p s ps ss w h =
    let no = or_parts (b == 42) (b == 62) w in
    and_parts (same (b ∷ p) s) (matches ps ss)
    (without_wild (same (b ∷ p) rest) (same (b ∷ p) star) (is_empty ps) (same (b ∷ p) s) (matches ps ss) (ap (λ c. c && same p []) no.1) (ap (λ c. c && same p []) no.0) h)

-- the subject begins with the byte, and the pattern behind it matches what is left
abbrev Behind : ℕ → Bytes → Bytes → Type 0
Behind b q t = (left : Bytes) × (t ≡ b ∷ left) × (matches (tokens q) (tokens left) ≡ true)

nothing_behind : (b : ℕ) (q : Bytes) → is_wildcard b ≡ false → (dot : Bool) → matches (cond dot ([] ∷ tokens q) (onto_first b (tokens q))) ([] ∷ []) ≡ true → Behind b q []
nothing_behind b q w true h = absurd (true≢false (sym h ∙ ap (λ ts. matches ts []) (first_token q).2))
nothing_behind b q w false h =
    let f = first_token q in
    absurd (true≢false (sym (plain_head b f.0 [] f.1 [] w (sym (ap (λ ts. matches (onto_first b ts) ([] ∷ [])) f.2) ∙ h)).0))

one_behind : (b c : ℕ) (q u : Bytes) → is_wildcard b ≡ false → (dot other : Bool) → (b == 46) ≡ dot → (c == 46) ≡ other
    → matches (cond dot ([] ∷ tokens q) (onto_first b (tokens q))) (cond other ([] ∷ tokens u) (onto_first c (tokens u))) ≡ true → Behind b q (c ∷ u)
one_behind b c q u w true true d e h = (u, ap (λ (x : ℕ). x ∷ u) (eqb-true c 46 e ∙ sym (eqb-true b 46 d)), h)
one_behind b c q u w true false d e h = absurd (true≢false (sym h ∙ ap (λ ts. matches ([] ∷ tokens q) (onto_first c ts)) (first_token u).2))
one_behind b c q u w false true d e h =
    let f = first_token q in
    absurd (true≢false (sym (plain_head b f.0 [] f.1 (tokens u) w (sym (ap (λ ts. matches (onto_first b ts) ([] ∷ tokens u)) f.2) ∙ h)).0))
one_behind b c q u w false false d e h =
    let f = first_token q in
    let g = first_token u in
    let k = plain_head b f.0 (c ∷ g.0) f.1 g.1 w (sym (ap (λ ts. matches (onto_first b ts) (onto_first c (tokens u))) f.2 ∙ ap (λ ts. matches ((b ∷ f.0) ∷ f.1) (onto_first c ts)) g.2) ∙ h) in
    let parts = and_parts (b == c) (same f.0 g.0) k.0 in (
      u,
      ap (λ (x : ℕ). x ∷ u) (sym (eqb-true b c parts.0)),
      ap (λ ts. matches ts (tokens u)) f.2
          ∙ ap (λ ts. matches (f.0 ∷ f.1) ts) g.2
          ∙ or_right (same f.0 rest && is_empty f.1) _ (and_from (same f.0 star || same f.0 g.0) (matches f.1 g.1) (or_right (same f.0 star) (same f.0 g.0) parts.1) k.1),
    )

behind : (b : ℕ) (q t : Bytes) → is_wildcard b ≡ false → matches (tokens (b ∷ q)) (tokens t) ≡ true → Behind b q t
behind b q [] w h = nothing_behind b q w (b == 46) h
behind b q (c ∷ u) w h = one_behind b c q u w (b == 46) (c == 46) refl refl h

suc_is : (n : ℕ) → 1 + n ≡ suc n
suc_is n = omega arith

-- each subject that the pattern matches begins with what it has before its first wildcard
begins : (pattern subject : Bytes) → matches (tokens pattern) (tokens subject) ≡ true → starts_with nat_eq subject (before_first is_wildcard pattern) ≡ true
begins [] subject h = refl
begins (b ∷ q) subject h = go (is_wildcard b) refl (λ t k. begins q t k)
  where
    go : (w : Bool) → is_wildcard b ≡ w → ((t : Bytes) → matches (tokens q) (tokens t) ≡ true → starts_with nat_eq t (before_first is_wildcard q) ≡ true)
        → starts_with nat_eq subject (take (cond (not w) (1 + position_or_len is_wildcard q) 0) (b ∷ q)) ≡ true
    go true e more = refl
    go false e more =
        let r = behind b q subject e h in
        ap (λ k. starts_with nat_eq subject (take k (b ∷ q))) (suc_is (position_or_len is_wildcard q))
        ∙ ap (λ t. starts_with nat_eq t (b ∷ before_first is_wildcard q)) r.1
        ∙ and_from (b == b) (starts_with nat_eq r.0 (before_first is_wildcard q)) (eq-eqb b b refl) (more r.0 r.2)

-- the place of the first wildcard is where it ends
pub begins_found : (pattern front : Bytes) (at : ℕ) → Some at ≡ position is_wildcard pattern → front ≡ take at pattern → (subject : Bytes) → matches (tokens pattern) (tokens subject) ≡ true → starts_with nat_eq subject front ≡ true
begins_found pattern front at found is subject h = go (nat_lt (position_or_len is_wildcard pattern) (length pattern)) found
  where
    go : (b : Bool) → Some at ≡ cond b (Some (position_or_len is_wildcard pattern)) None → starts_with nat_eq subject front ≡ true
    go false e = absurd cc
    go true e =
        let here : at ≡ position_or_len is_wildcard pattern = cc in
        ap (starts_with nat_eq subject) (is ∙ ap (λ n. take n pattern) here) ∙ begins pattern subject h

-- without one it is the whole pattern
pub begins_whole : (pattern : Bytes) → None ≡ position is_wildcard pattern → (subject : Bytes) → matches (tokens pattern) (tokens subject) ≡ true → starts_with nat_eq subject pattern ≡ true
begins_whole pattern none subject h = go (nat_lt (position_or_len is_wildcard pattern) (length pattern)) refl none
  where
    go : (b : Bool) → nat_lt (position_or_len is_wildcard pattern) (length pattern) ≡ b → None ≡ cond b (Some (position_or_len is_wildcard pattern)) None → starts_with nat_eq subject pattern ≡ true
    go true e f = absurd cc
    go false e f = ap (starts_with nat_eq subject) (sym (take_all (position_or_len is_wildcard pattern) pattern (ltb-false _ _ e))) ∙ begins pattern subject h
