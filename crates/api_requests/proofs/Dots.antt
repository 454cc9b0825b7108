-- What stands around the first dot of a text, and the tokens that it parts.
use Rattle.std.proofs.Common.{◌≡◌, ℕ, ◌+◌, ◌==◌, ◌⊎◌, inl, inr, Bool, true, false, ltb, not, ◌||◌, [], ◌∷◌, ◌++◌, Option, Some, None, option_map, length, take, drop, refl, sym, ◌∙◌, ap, subst, arith, length-append}
use Rattle.std.specs.List.{position_or_len}
use Rattle.std.proofs.Math.Seq.{take-append_seam, drop-append-add}
use Rattle.std.proofs.lemmas.Bool.{or_parts, eqb-true, lt-ltb}
use Rattle.std.proofs.lemmas.Bool.Decides.{nat_tests}
use Rattle.js_base.specs.Bytes.{Bytes, has}
use Rattle.api_requests.specs.ConsumerCalls.{Tokens, around_dot, tokens_by, tokens_of}
use Rattle.api_requests.specs.Laws.{with_filter, tokens_shown}

-- ---- the first dot

abbrev is_dot : ℕ → Bool
is_dot byte = byte == 46

-- the text has this before its first dot, and that behind it
pub record IsCut (text front rest : Bytes) : Type 0 where
  pub whole : text ≡ front ++ 46 ∷ rest
  pub one : has front 46 ≡ false

record Cut (text : Bytes) : Type 0 where
  front : Bytes
  rest : Bytes
  is : IsCut text front rest

cases_of : (text : Bytes) → (has text 46 ≡ false) ⊎ Cut text
cases_of [] = inl refl
cases_of (byte ∷ more) = go (is_dot byte) refl (cases_of more)
  where
    go : (dot : Bool) → is_dot byte ≡ dot → (has more 46 ≡ false) ⊎ Cut more → (has (byte ∷ more) 46 ≡ false) ⊎ Cut (byte ∷ more)
    go true is rest = inr (record { front = []; rest = more; is = record { whole = ap (λ (x : ℕ). x ∷ more) (eqb-true byte 46 is); one = refl } })
    go false is (inl none) = inl (ap (λ (b : Bool). b || has more 46) is ∙ none)
    go false is (inr cut) =
        inr (record {
          front = byte ∷ cut.front;
          rest = cut.rest;
          is = record { whole = ap (λ (x : Bytes). byte ∷ x) cut.is.whole; one = ap (λ (b : Bool). b || has cut.front 46) is ∙ cut.is.one };
        })

-- how many bytes stand before it
before : (front rest : Bytes) → has front 46 ≡ false → position_or_len is_dot (front ++ 46 ∷ rest) ≡ length front
before [] rest h = refl
before (byte ∷ front) rest h =
    let parts = or_parts (is_dot byte) (has front 46) h in
    rw (ap not parts.0, before front rest parts.1) (omega arith)

none_before : (text : Bytes) → has text 46 ≡ false → position_or_len is_dot text ≡ length text
none_before [] h = refl
none_before (byte ∷ more) h =
    let parts = or_parts (is_dot byte) (has more 46) h in
    rw (ap not parts.0, none_before more parts.1) (omega arith)

shorter : (front rest : Bytes) → ltb (length front) (length (front ++ 46 ∷ rest)) ≡ true
shorter front rest = lt-ltb _ _ (omega (arith, length-append front (46 ∷ rest)))

not_below : (n : ℕ) → ltb n n ≡ false
not_below n = grind (arith, nat_tests)

pub cut_again : (front rest : Bytes) → has front 46 ≡ false → around_dot (front ++ 46 ∷ rest) ≡ Some (front, rest)
cut_again front rest h =
    let behind : drop (length front + 1) (front ++ 46 ∷ rest) ≡ rest = drop-append-add front (46 ∷ rest) 1 in
    rw (before front rest h, shorter front rest, take-append_seam front (46 ∷ rest), behind) refl

pub without_dot : (text : Bytes) → has text 46 ≡ false → around_dot text ≡ None
without_dot text h = rw (none_before text h, not_below (length text)) refl

cut_there : (text : Bytes) (cut : Cut text) → around_dot text ≡ Some (cut.front, cut.rest)
cut_there text cut = ap around_dot cut.is.whole ∙ cut_again cut.front cut.rest cut.is.one

pub is_cut : (text front rest : Bytes) → around_dot text ≡ Some (front, rest) → IsCut text front rest
is_cut text front rest e = by (cases_of text)
  where
    by : (has text 46 ≡ false) ⊎ Cut text → IsCut text front rest
    by (inl none) = let nothing = without_dot text none in absurd (cc)
    by (inr cut) =
        let there = cut_there text cut in
        let same : ◌≡◌ {A = Bytes × Bytes} (cut.front, cut.rest) (front, rest) = cc in
        subst (λ (parts : Bytes × Bytes). IsCut text parts.0 parts.1) same cut.is

pub no_dot : (text : Bytes) → around_dot text ≡ None → has text 46 ≡ false
no_dot text e = by (cases_of text)
  where
    by : (has text 46 ≡ false) ⊎ Cut text → has text 46 ≡ false
    by (inl none) = none
    by (inr cut) = let there = cut_there text cut in absurd (cc)

-- ---- tokens

-- the text is that of these tokens
pub record AreTokens (text : Bytes) (tokens : Tokens) : Type 0 where
  pub spelled : text ≡ tokens_shown tokens
  pub one_stream : has tokens.stream 46 ≡ false
  pub one_consumer : has tokens.consumer 46 ≡ false

abbrev by_parts : Bytes × Bytes → Tokens
by_parts parts = tokens_by parts.0 parts.1 (around_dot parts.1)

by_second : (text stream rest : Bytes) (tokens : Tokens) (found : Option (Bytes × Bytes)) → IsCut text stream rest → around_dot rest ≡ found
    → ◌≡◌ {A = Option Tokens} (Some (tokens_by stream rest found)) (Some tokens) → AreTokens text tokens
by_second text stream rest tokens None first e made =
    let same : ◌≡◌ {A = Tokens} (record { stream = stream; consumer = rest; filter = None }) tokens = cc in
    subst (λ (t : Tokens). AreTokens text t) same (record { spelled = first.whole; one_stream = first.one; one_consumer = no_dot rest e })
by_second text stream rest tokens (Some (consumer, filter)) first e made =
    let second = is_cut rest consumer filter e in
    let same : ◌≡◌ {A = Tokens} (record { stream = stream; consumer = consumer; filter = Some filter }) tokens = cc in
    subst (λ (t : Tokens). AreTokens text t) same
    (record { spelled = first.whole ∙ ap (λ (x : Bytes). stream ++ 46 ∷ x) second.whole; one_stream = first.one; one_consumer = second.one })

by_first : (text : Bytes) (tokens : Tokens) (found : Option (Bytes × Bytes)) → around_dot text ≡ found → option_map by_parts found ≡ Some tokens → AreTokens text tokens
by_first text tokens None e made = absurd (cc)
by_first text tokens (Some (stream, rest)) e made = by_second text stream rest tokens (around_dot rest) (is_cut text stream rest e) refl made

pub are_tokens : (text : Bytes) (tokens : Tokens) → tokens_of text ≡ Some tokens → AreTokens text tokens
are_tokens text tokens made = by_first text tokens (around_dot text) refl made

again_by : (stream consumer : Bytes) (filter : Option Bytes) → has stream 46 ≡ false → has consumer 46 ≡ false
    → tokens_of (stream ++ 46 ∷ with_filter consumer filter) ≡ Some (record { stream = stream; consumer = consumer; filter = filter })
again_by stream consumer None h k =
    ap (λ (found : Option (Bytes × Bytes)). option_map by_parts found) (cut_again stream consumer h)
    ∙ ap (λ (found : Option (Bytes × Bytes)). Some (tokens_by stream consumer found)) (without_dot consumer k)
again_by stream consumer (Some filter) h k =
    ap (λ (found : Option (Bytes × Bytes)). option_map by_parts found) (cut_again stream (consumer ++ 46 ∷ filter) h)
    ∙ ap (λ (found : Option (Bytes × Bytes)). Some (tokens_by stream (consumer ++ 46 ∷ filter) found)) (cut_again consumer filter k)

pub tokens_again : (tokens : Tokens) → has tokens.stream 46 ≡ false → has tokens.consumer 46 ≡ false → tokens_of (tokens_shown tokens) ≡ Some tokens
tokens_again tokens h k = again_by tokens.stream tokens.consumer tokens.filter h k
