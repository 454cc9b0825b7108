-- What the parts of a call make, one after the other, is what the call makes.
use Rattle.std.proofs.Common.{◌≡◌, Bool, true, false, not, List, [], ◌++◌, append-nil, Option, Some, None, Result, Ok, Err, refl, sym, subst, ap, inl, inr, IsErrAnd, MatchBool, MatchOption}
use Rattle.js_model.specs.declared.desk.PlaceAt.{PlaceAt}
use Rattle.js_api.specs.declared.fault.DeskFault.{DeskFault}
use Rattle.js_api.specs.Answering.{DeskAnswer, answered_by}
use Rattle.js_api.specs.Calls.{Answered}
use Rattle.js_api.specs.Entries.{DeskEntry}
use Rattle.js_api.specs.Leading.{Makes}
use Rattle.js_api.specs.Stages.{Then}

module _ {D : Type 0} (made : D → List DeskEntry → D → Type 0) where
  pub as_such : (P Q : List DeskEntry → Type 0) (a b : D) → Makes made P a b → ((entries : List DeskEntry) → P entries → Q entries) → Makes made Q a b
  as_such P Q a b h is = record { entries = h.entries; are = is h.entries h.are; led = h.led }

  pub nothing : (P : List DeskEntry → Type 0) (a : D) → made a [] a → P [] → Makes made P a a
  nothing P a led h = record { entries = []; are = h; led = led }

  -- what is made by a test
  pub if_so : (test : Bool) (P Q : List DeskEntry → Type 0) (a b : D) → test ≡ true → Makes made P a b → Makes made (λ entries. MatchBool test (P entries) (Q entries)) a b
  if_so test P Q a b is h = as_such P (λ entries. MatchBool test (P entries) (Q entries)) a b h (λ entries p. subst (λ (t : Bool). MatchBool t (P entries) (Q entries)) (sym is) p)

  pub if_not : (test : Bool) (P Q : List DeskEntry → Type 0) (a b : D) → test ≡ false → Makes made Q a b → Makes made (λ entries. MatchBool test (P entries) (Q entries)) a b
  if_not test P Q a b is h = as_such Q (λ entries. MatchBool test (P entries) (Q entries)) a b h (λ entries q. subst (λ (t : Bool). MatchBool t (P entries) (Q entries)) (sym is) q)

  -- a stage ended the call, whose fault was handed on
  pub stops_by : {X Y : Type 0} (first : Result X DeskFault → List DeskEntry → Type 0) (next : X → Result Y DeskFault → List DeskEntry → Type 0) (told : Result X DeskFault) (fault : DeskFault) (result : Result Y DeskFault) (a b : D)
      → told ≡ Err fault → IsErrAnd result (λ e. e ≡ fault) → Makes made (first told) a b → Makes made (Then first next result) a b
  stops_by first next told fault (Err e) a b is handed h =
      as_such (first told) (Then first next (Err e)) a b h (λ entries p. inl (record { fault = fault; result_is = ap Err handed; ended = subst (λ (r : Result _ DeskFault). first r entries) is p }))
  stops_by first next told fault (Ok y) a b is handed h = absurd handed

  module _ (more : (a b c : D) (first more : List DeskEntry) → made a first b → made b more c → made a (first ++ more) c) where
    pub both : (P Q R : List DeskEntry → Type 0) (a b c : D) → Makes made P a b → Makes made Q b c → ((xs ys : List DeskEntry) → P xs → Q ys → R (xs ++ ys)) → Makes made R a c
    both P Q R a b c h k joins = record {
      entries = h.entries ++ k.entries;
      are = joins h.entries k.entries h.are k.are;
      led = more a b c h.entries k.entries h.led k.led;
    }

    -- a stage gave something, by which the next one went on
    pub goes_on : {X Y : Type 0} (first : Result X DeskFault → List DeskEntry → Type 0) (next : X → Result Y DeskFault → List DeskEntry → Type 0) (told : Result X DeskFault) (given : X) (result : Result Y DeskFault)
        (a b c : D) → told ≡ Ok given → Makes made (first told) a b → Makes made (next given result) b c → Makes made (Then first next result) a c
    goes_on first next told given result a b c is h k =
        both (first told) (next given result) (Then first next result) a b c h k (λ xs ys p q. inr (record {
          given = given;
          before = xs;
          more = ys;
          entries_are = refl;
          first_is = subst (λ (r : Result _ DeskFault). first r xs) is p;
          next_is = q;
        }))

    -- and then nothing more
    pub ended : (P : List DeskEntry → Type 0) (a b c : D) → Makes made P a b → made b [] c → Makes made P a c
    ended P a b c h k = record { entries = h.entries; are = h.are; led = subst (λ (entries : List DeskEntry). made a entries c) (append-nil h.entries) (more a b c h.entries [] h.led k) }

-- a call gives what its stages gave
pub answered : {D X : Type 0} (made : D → List DeskEntry → D → Type 0) (says : X → DeskAnswer) (stages : Result X DeskFault → List DeskEntry → Type 0) (given : Result X DeskFault) (a b : D) → Makes made (stages given) a b
    → Makes made (Answered says stages (answered_by says given)) a b
answered made says stages given a b h = as_such made (stages given) (Answered says stages (answered_by says given)) a b h (λ entries s. record { given = given; result_is = refl; made = s })

-- ---- what was found or not

pub if_found : {D : Type 0} (made : D → List DeskEntry → D → Type 0) (Absent : List DeskEntry → Type 0) (Present : PlaceAt → List DeskEntry → Type 0) (found : Option PlaceAt) (at : PlaceAt) (a b : D)
    → found ≡ Some at → Makes made (Present at) a b → Makes made (λ entries. MatchOption found (Absent entries) (λ p. Present p entries)) a b
if_found made Absent Present found at a b is h = record {
  entries = h.entries;
  are = subst (λ (o : Option PlaceAt). MatchOption o (Absent h.entries) (λ p. Present p h.entries)) (sym is) h.are;
  led = h.led;
}

pub if_absent : {D : Type 0} (made : D → List DeskEntry → D → Type 0) (Absent : List DeskEntry → Type 0) (Present : PlaceAt → List DeskEntry → Type 0) (found : Option PlaceAt) (a b : D) → found ≡ None
    → Makes made Absent a b → Makes made (λ entries. MatchOption found (Absent entries) (λ p. Present p entries)) a b
if_absent made Absent Present found a b is h = record {
  entries = h.entries;
  are = subst (λ (o : Option PlaceAt). MatchOption o (Absent h.entries) (λ p. Present p h.entries)) (sym is) h.are;
  led = h.led;
}

-- ---- what a test of the opposite says

pub opposite_true : (test : Bool) → not test ≡ true → test ≡ false
opposite_true true is = absurd (cc)
opposite_true false is = refl

pub opposite_false : (test : Bool) → not test ≡ false → test ≡ true
opposite_false true is = refl
opposite_false false is = absurd (cc)
