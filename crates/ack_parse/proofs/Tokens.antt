-- The tokens of a subject in a slice: nine of which the first two are right, or not.
use Rattle.std.proofs.Common.{◌≡◌, ◌≢◌, Bool, true, false, List, [], ◌∷◌, map, length, slice_index_or, Bor, Err, refl, ◌∙◌, if◌then◌else◌, arith}
use Rattle.js_base.specs.Bytes.{Bytes}
use Rattle.ack_parse.specs.Subjects.{is_ack, delivered_of, read_tokens}
use Rattle.ack_parse.specs.declared.fault.AckFault.TheVariants.{NotAck}

abbrev texts : List (Bor Bytes) → List Bytes
texts xs = map (λ token. token.now) xs

pub other_length : (xs : List (Bor Bytes)) → length xs ≢ 9 → read_tokens (texts xs) ≡ Err NotAck
other_length [] h = refl
other_length (_ ∷ []) h = refl
other_length (_ ∷ _ ∷ []) h = refl
other_length (_ ∷ _ ∷ _ ∷ []) h = refl
other_length (_ ∷ _ ∷ _ ∷ _ ∷ []) h = refl
other_length (_ ∷ _ ∷ _ ∷ _ ∷ _ ∷ []) h = refl
other_length (_ ∷ _ ∷ _ ∷ _ ∷ _ ∷ _ ∷ []) h = refl
other_length (_ ∷ _ ∷ _ ∷ _ ∷ _ ∷ _ ∷ _ ∷ []) h = refl
other_length (_ ∷ _ ∷ _ ∷ _ ∷ _ ∷ _ ∷ _ ∷ _ ∷ []) h = refl
other_length (_ ∷ _ ∷ _ ∷ _ ∷ _ ∷ _ ∷ _ ∷ _ ∷ _ ∷ []) h = absurd (h refl)
other_length (_ ∷ _ ∷ _ ∷ _ ∷ _ ∷ _ ∷ _ ∷ _ ∷ _ ∷ _ ∷ more) h = refl

-- nine tokens are read by the words that the first two should be
by_words : (d : Bor Bytes) (xs : List (Bor Bytes)) → length xs ≡ 9
    → read_tokens (texts xs) ≡ (
    if is_ack (slice_index_or xs 0 d).now (slice_index_or xs 1 d).now
    then delivered_of (slice_index_or xs 2 d).now (slice_index_or xs 3 d).now (slice_index_or xs 4 d).now (slice_index_or xs 5 d).now (slice_index_or xs 6 d).now (slice_index_or xs 7 d).now (slice_index_or xs 8 d).now
    else Err NotAck
    )
by_words d [] h = absurd (omega arith)
by_words d (_ ∷ []) h = absurd (omega arith)
by_words d (_ ∷ _ ∷ []) h = absurd (omega arith)
by_words d (_ ∷ _ ∷ _ ∷ []) h = absurd (omega arith)
by_words d (_ ∷ _ ∷ _ ∷ _ ∷ []) h = absurd (omega arith)
by_words d (_ ∷ _ ∷ _ ∷ _ ∷ _ ∷ []) h = absurd (omega arith)
by_words d (_ ∷ _ ∷ _ ∷ _ ∷ _ ∷ _ ∷ []) h = absurd (omega arith)
by_words d (_ ∷ _ ∷ _ ∷ _ ∷ _ ∷ _ ∷ _ ∷ []) h = absurd (omega arith)
by_words d (_ ∷ _ ∷ _ ∷ _ ∷ _ ∷ _ ∷ _ ∷ _ ∷ []) h = absurd (omega arith)
by_words d (_ ∷ _ ∷ _ ∷ _ ∷ _ ∷ _ ∷ _ ∷ _ ∷ _ ∷ []) h = refl
by_words d (_ ∷ _ ∷ _ ∷ _ ∷ _ ∷ _ ∷ _ ∷ _ ∷ _ ∷ _ ∷ more) h = absurd (omega arith)

if_true : {X : Type 0} (b : Bool) (x y : X) → b ≡ true → (if b then x else y) ≡ x
if_true true x y h = refl
if_true false x y h = absurd (cc)

if_false : {X : Type 0} (b : Bool) (x y : X) → b ≡ false → (if b then x else y) ≡ y
if_false true x y h = absurd (cc)
if_false false x y h = refl

pub nine : (d : Bor Bytes) (xs : List (Bor Bytes)) → length xs ≡ 9 → is_ack (slice_index_or xs 0 d).now (slice_index_or xs 1 d).now ≡ true
    → read_tokens (texts xs) ≡ delivered_of (slice_index_or xs 2 d).now (slice_index_or xs 3 d).now (slice_index_or xs 4 d).now (slice_index_or xs 5 d).now (slice_index_or xs 6 d).now (slice_index_or xs 7 d).now (slice_index_or xs 8 d).now
nine d xs h words = by_words d xs h ∙ if_true (is_ack (slice_index_or xs 0 d).now (slice_index_or xs 1 d).now) _ _ words

pub other_words : (d : Bor Bytes) (xs : List (Bor Bytes)) → length xs ≡ 9 → is_ack (slice_index_or xs 0 d).now (slice_index_or xs 1 d).now ≡ false → read_tokens (texts xs) ≡ Err NotAck
other_words d xs h words = by_words d xs h ∙ if_false (is_ack (slice_index_or xs 0 d).now (slice_index_or xs 1 d).now) _ _ words
