-- Subjects and patterns, by NATS' subject-based messaging: tokens joined by dots, and the wildcards `*` and `>`.
use Rattle.std.specs.Prelude.{ℕ, Bool, true, false, nat_lt, nat_le, ◌&&◌, ◌||◌, not, ◌==◌, IsTrue, ◌↔◌, ◌≡◌, List, [], ◌∷◌, length}
use Rattle.std.specs.List.{slice_split, list_all}
use Rattle.std.specs.Str.{is_utf8}
use Rattle.js_base.specs.Bytes.{Bytes, is_empty, same}
use Rattle.js_base.specs.ServerSubjects.{own_subjects, is_api}

-- the parts between the dots
abbrev pub tokens : Bytes → List Bytes
tokens text = slice_split (λ byte. byte == 46) text

-- the token `*`, which stands for one token, and the token `>`, which stands for all that are left
abbrev pub star : Bytes
star = 42 ∷ []

abbrev pub rest : Bytes
rest = 62 ∷ []

-- the pattern matches the subject
abbrev pub matches : List Bytes → List Bytes → Bool
matches [] [] = true
matches [] (_ ∷ _) = false
matches (_ ∷ _) [] = false
matches (p ∷ ps) (s ∷ ss) = (same p rest && is_empty ps) || ((same p star || same p s) && matches ps ss)

-- some subject is matched by both patterns
abbrev pub meets : List Bytes → List Bytes → Bool
meets [] [] = true
meets [] (_ ∷ _) = false
meets (_ ∷ _) [] = false
meets (p ∷ ps) (q ∷ qs) =
    (same p rest && is_empty ps) || ((same q rest && is_empty qs) || ((same p star || (same q star || same p q)) && meets ps qs))

abbrev pub is_wild : Bytes → Bool
is_wild token = same token star || same token rest

-- no token is a wildcard
abbrev pub is_plain : List Bytes → Bool
is_plain [] = true
is_plain (token ∷ more) = not (is_wild token) && is_plain more

-- no token before the last is `>`
abbrev pub is_pattern : List Bytes → Bool
is_pattern [] = true
is_pattern (token ∷ more) = (is_empty more || not (same token rest)) && is_pattern more

-- a byte that may stand in a token: no control byte, no blank, no DEL
abbrev pub is_token_byte : ℕ → Bool
is_token_byte byte = nat_lt 32 byte && not (byte == 127)

-- 1 to 1,024 bytes of such UTF-8, in tokens of which none is empty
abbrev pub is_spelled : Bytes → Bool
is_spelled text =
    nat_lt 0 (length text) && nat_le (length text) 1024 && list_all is_token_byte text && is_utf8 text && list_all (λ token. not (is_empty token)) (tokens text)

-- a text that is a pattern
abbrev pub is_pattern_text : Bytes → Bool
is_pattern_text text = is_spelled text && is_pattern (tokens text)

-- a text that is a subject without wildcards
abbrev pub is_subject_text : Bytes → Bool
is_subject_text text = is_spelled text && is_plain (tokens text)

-- a subject that may be published to: below `$JS.API.` any pattern, since clients put a consumer's filter there
abbrev pub is_publish_text : Bytes → Bool
is_publish_text text = is_subject_text text || (is_api text && is_pattern_text text)

-- a pattern that a stream may take: it meets no subject of the server's own
abbrev pub is_stream_subject : Bytes → Bool
is_stream_subject text = is_pattern_text text && not (meets (tokens text) (tokens own_subjects))

-- some subject without wildcards is matched by both
abbrev pub HasCommon : List Bytes → List Bytes → Type 0
HasCommon p q = (s : List Bytes) × (is_plain s ≡ true) × (matches p s ≡ true) × (matches q s ≡ true)

-- two patterns meet exactly if some subject is matched by both
abbrev pub LawMeet : Type 0
LawMeet = (p q : List Bytes) → IsTrue (is_pattern p) → IsTrue (is_pattern q) → IsTrue (meets p q) ↔ HasCommon p q
