-- The pieces of texts, and which texts have the same.
use Rattle.std.proofs.Common.{◌≡◌, ℕ, List, [], ◌∷◌, ◌++◌, Some, ◌+◌, ◌-◌, length, take, drop, position, refl, sym, ap, subst, ◌∙◌}
use Rattle.std.proofs.lemmas.Bool.{true≢false}
use Rattle.js_base.specs.Bytes.{Bytes, is_empty}
use Rattle.js_base.specs.Subjects.{tokens}
use Rattle.subject_match.proofs.Dots.{some_token, tokens_by_dot}
use Rattle.route_index.specs.declared.beneath.Piece.TheVariants.{Token, Text}
use Rattle.route_index.specs.Searching.{IsDotless, AreDotless}
use Rattle.route_index.specs.Beneath.{is_after, EndsPiece}
use Rattle.route_index.proofs.Parts.{is_dot, dotless_tokens, tokens_joined, joined, left}
use Rattle.route_index.proofs.Order.{behind_after, only_itself, goes_on, next_after}

-- a first token has no dot
pub first_dotless : (text part : Bytes) (more : List Bytes) → tokens text ≡ part ∷ more → IsDotless part
first_dotless text part more e = (subst AreDotless e (dotless_tokens text)).0

-- the texts that go on with a dot behind a token have this token
pub dot_ends : (text part rest : Bytes) → tokens text ≡ part ∷ tokens rest → EndsPiece Token text part (part ++ 47 ∷ [])
dot_ends text part rest e = go (tokens rest) refl
  where
    dotless : IsDotless part
    dotless = first_dotless text part (tokens rest) e

    go : (more : List Bytes) → tokens rest ≡ more → EndsPiece Token text part (part ++ 47 ∷ [])
    go [] f = absurd (true≢false (sym (ap is_empty f) ∙ some_token rest))
    go (second ∷ more) f =
        let whole : text ≡ part ++ 46 ∷ left (second ∷ more) = joined text part second more (e ∙ ap (λ ts. part ∷ ts) f) in
        record {
          after = ap (is_after (part ++ 47 ∷ [])) whole ∙ next_after part (left (second ∷ more)) 46;
          between = λ other h k. let found = goes_on part (left (second ∷ more)) other 46 (ap (λ t. is_after t other) (sym whole) ∙ h) k in
              (tokens found.0, ap tokens found.1 ∙ tokens_joined part found.0 dotless);
        }

-- a text without a dot, and a text that is wanted whole, ends at itself
pub token_ends : (text : Bytes) → tokens text ≡ text ∷ [] → EndsPiece Token text text (text ++ 0 ∷ [])
token_ends text e = record { after = behind_after text 0; between = λ other h k. ([], ap tokens (only_itself text other h k) ∙ e) }

pub text_ends : (text : Bytes) → EndsPiece Text text text (text ++ 0 ∷ [])
text_ends text = record { after = behind_after text 0; between = only_itself text }

pub by_dot : (text : Bytes) (at : ℕ) → Some at ≡ position is_dot text → EndsPiece Token text (take at text) (take at text ++ 47 ∷ [])
by_dot text at h = dot_ends text (take at text) (take (length text - (at + 1)) (drop (at + 1) text)) (tokens_by_dot text at h)
