-- A log has the record of a change in at most as many bytes as it has with the message that it stores.
use Rattle.std.proofs.Common.{◌≡◌, ◌≤◌, ◌+◌, ◌++◌, ℕ, [], ◌∷◌, length, refl, sym, subst, arith}
use Rattle.std.proofs.lemmas.List.{length-append}
use Rattle.js_base.specs.Bytes.{Bytes}
use Rattle.effects.specs.declared.effect.Effect.{Effect}
use Rattle.effects.specs.declared.effect.Effect.TheVariants.{MakeStream, ChangeStream, DropStream, PutHere, Skip, Remove, MakeConsumer, DropConsumer, Deliver, Acked, Due, GivenUp, Now}
use Rattle.op_records.specs.Spelling.{long, spelled, spelled_record, spelled_spot, text}
use Rattle.stream_store.specs.Committing.{batch_length, no_spot, recorded_at}

put_length : (seq at : ℕ) (id subject headers payload : Bytes)
    → length (spelled_record (recorded_at no_spot (PutHere seq at id subject headers payload))) + length payload ≤ length (spelled (PutHere seq at id subject headers payload))
unfolding spelled spelled_record
put_length seq at id subject headers payload = omega (
  arith,
  length-append (text id) (text subject ++ (long headers ++ long payload)),
  length-append (text subject) (long headers ++ long payload),
  length-append (long headers) (long payload),
  length-append (text id) (spelled_spot no_spot),
)

at_most : (a b : ℕ) → a ≡ b → a ≤ b
at_most a b same = omega (arith, same)

one_length : (e : Effect) → length (spelled_record (recorded_at no_spot e)) ≤ length (spelled e)
unfolding spelled_record
one_length (MakeStream incarnation made config) = at_most _ _ refl
one_length (ChangeStream config) = at_most _ _ refl
one_length DropStream = at_most _ _ refl
one_length (PutHere seq at id subject headers payload) = let whole = put_length seq at id subject headers payload in omega (arith, whole)
one_length (Skip seq at id) = at_most _ _ refl
one_length (Remove low high) = at_most _ _ refl
one_length (MakeConsumer name made config cursor picks) = at_most _ _ refl
one_length (DropConsumer name) = at_most _ _ refl
one_length (Deliver name seq count due dseq) = at_most _ _ refl
one_length (Acked name low high) = at_most _ _ refl
one_length (Due name seq due) = at_most _ _ refl
one_length (GivenUp name moment) = at_most _ _ refl
one_length (Now moment) = at_most _ _ refl

pub logged_length : (e : Effect) → batch_length (e ∷ []) ≤ length (spelled e)
logged_length e = let one = one_length e in omega (arith, one, length-append (spelled_record (recorded_at no_spot e)) [])

-- of the record of a message
pub put_logged : (e : Effect) (seq at : ℕ) (id subject headers payload : Bytes) → e ≡ PutHere seq at id subject headers payload → batch_length (e ∷ []) + length payload ≤ length (spelled e)
put_logged e seq at id subject headers payload is =
    let put = PutHere seq at id subject headers payload in
    let one = put_length seq at id subject headers payload in
    subst (λ (x : Effect). batch_length (x ∷ []) + length payload ≤ length (spelled x)) (sym is) (omega (arith, one, length-append (spelled_record (recorded_at no_spot put)) []))
