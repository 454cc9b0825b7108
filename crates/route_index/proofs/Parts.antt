-- A text by its first token and what is left behind its dot.
use Rattle.std.proofs.Common.{◌≡◌, ℕ, ◌==◌, Bool, true, false, cond, List, [], ◌∷◌, ◌++◌, map, Bor, refl, sym, ap, ◌∙◌}
use Rattle.std.specs.List.{onto_first, join_with_byte}
use Rattle.std.proofs.lemmas.List.Splits.{slice_split_at, slice_split_none, join_with_byte-slice_split}
use Rattle.std.proofs.lemmas.List.Elements.{All-from_recursion, All-cons}
use Rattle.js_base.specs.Bytes.{Bytes}
use Rattle.js_base.specs.Subjects.{tokens}
use Rattle.route_index.specs.Searching.{IsDotless, AreDotless}

abbrev pub is_dot : ℕ → Bool
is_dot byte = byte == 46

pub first_is : (a b : Bytes) (more others : List Bytes) → a ∷ more ≡ b ∷ others → a ≡ b
first_is a b more others h = cc

pub more_are : (a b : Bytes) (more others : List Bytes) → a ∷ more ≡ b ∷ others → more ≡ others
more_are a b more others h = cc

-- the texts of references
abbrev pub texts : List (Bor Bytes) → List Bytes
texts refs = map (λ part. part.now) refs

-- a text of one token is that token
pub alone : (text token : Bytes) → tokens text ≡ token ∷ [] → text ≡ token
alone text token h = sym (join_with_byte-slice_split 46 text) ∙ ap (join_with_byte 46) h

pub tokens_alone : (token : Bytes) → IsDotless token → tokens token ≡ token ∷ []
tokens_alone token dotless = slice_split_none is_dot token dotless

-- a token, a dot and a text
pub tokens_joined : (token text : Bytes) → IsDotless token → tokens (token ++ 46 ∷ text) ≡ token ∷ tokens text
tokens_joined token text dotless = slice_split_at is_dot token 46 text dotless refl

-- what is left of a text after its first token, if there is a second
abbrev pub left : List Bytes → Bytes
left more = join_with_byte 46 more

pub joined : (text token second : Bytes) (more : List Bytes) → tokens text ≡ token ∷ second ∷ more → text ≡ token ++ 46 ∷ left (second ∷ more)
joined text token second more h = sym (join_with_byte-slice_split 46 text) ∙ ap (join_with_byte 46) h

pub tokens_left : (text token second : Bytes) (more : List Bytes) → IsDotless token → tokens text ≡ token ∷ second ∷ more → tokens (left (second ∷ more)) ≡ second ∷ more
tokens_left text token second more dotless h =
    more_are token token (tokens (left (second ∷ more))) (second ∷ more)
    (sym (tokens_joined token (left (second ∷ more)) dotless) ∙ ap tokens (sym (joined text token second more h)) ∙ h)

abbrev IsOther : ℕ → Type 0
IsOther byte = is_dot byte ≡ false

-- no token has a dot
pub dotless_tokens : (text : Bytes) → AreDotless (tokens text)
dotless_tokens [] = (All-from_recursion IsOther [] tt, tt)
dotless_tokens (byte ∷ text) = go (is_dot byte) refl (tokens text) (dotless_tokens text)
  where
    go : (b : Bool) → is_dot byte ≡ b → (parts : List Bytes) → AreDotless parts → AreDotless (cond b ([] ∷ parts) (onto_first byte parts))
    go true e parts h = (All-from_recursion IsOther [] tt, h)
    go false e [] h = (All-from_recursion IsOther (byte ∷ []) (e, tt), tt)
    go false e (part ∷ parts) h = (All-cons IsOther byte part e h.0, h.1)
