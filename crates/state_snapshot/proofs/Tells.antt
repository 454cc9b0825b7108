-- Readings of several fields, one behind the other, are exact if each is.
use Rattle.std.proofs.Common.{◌≡◌, ℕ, ◌+◌, Bool, true, ◌++◌, length, Ok, refl, ap, subst, ◌∙◌}
use Rattle.js_base.specs.Bytes.{Bytes}
use Rattle.op_records.specs.Steps.{Reader, ◌>>=◌, continued, done, place}
use Rattle.op_records.specs.Fields.{only}
use Rattle.op_records.proofs.Spans.{Spans, span_then, span_front, span_back}
use Rattle.op_records.proofs.Steps.{both, value_is, place_is, passed}
use Rattle.op_records.proofs.Exact.{Batch, Exact}

-- a text from which this was read
pub record Took {B : Type 0} (Is : B → Bytes → Type 0) (bytes : Bytes) (at : ℕ) (b : B) (behind : ℕ) : Type 0 where
  pub text : Bytes
  pub is : Is b text
  pub there : Spans bytes at text behind

-- what is read stands there as some text that is one of its texts, and is read from each of these
pub record Tells {B : Type 0} (read : Reader B) (Is : B → Bytes → Type 0) : Type 0 where
  pub took : (bytes : Bytes) (at : ℕ) (b : B) (behind : ℕ) → Batch bytes → read bytes at ≡ Ok (b, behind) → Took Is bytes at b behind
  pub again : (bytes : Bytes) (at : ℕ) (b : B) (text : Bytes) (behind : ℕ) → Batch bytes → Is b text → Spans bytes at text behind → read bytes at ≡ Ok (b, behind)

-- ---- the last field

pub record Last {A B : Type 0} (text : A → Bytes) (Fits : A → Type 0) (make : A → B) (b : B) (all : Bytes) : Type 0 where
  pub value : A
  pub fits : Fits value
  pub made : make value ≡ b
  pub all_is : all ≡ text value

pub last_tells : {A B : Type 0} (read : Reader A) (text : A → Bytes) (Fits : A → Type 0) (make : A → B) → Exact read text Fits → Tells (read >>= λ a. done (make a)) (Last text Fits make)
last_tells {A} {B} read text Fits make exact = record {
  took = λ bytes at b behind batch e.
      let p = both bytes (λ (a : A). done (make a)) (read bytes at) b behind e in
      let q = exact.took bytes at p.value p.mid batch p.first in
      record {
        text = text p.value;
        is = record { value = p.value; fits = q.0; made = value_is (make p.value) p.mid b behind p.second; all_is = refl };
        there = subst (λ (k : ℕ). Spans bytes at (text p.value) k) (place_is (make p.value) p.mid b behind p.second) q.1;
      };
  again = λ bytes at b all behind batch is s.
      let one = exact.again bytes at is.value behind batch is.fits (subst (λ (l : Bytes). Spans bytes at l behind) is.all_is s) in
      ap (continued bytes (λ (a : A). done (make a))) one ∙ ap (λ (x : B). Ok (x, behind)) is.made;
}

-- ---- a field before others

pub record Then {A B : Type 0} (text : A → Bytes) (Fits : A → Type 0) (Is : A → B → Bytes → Type 0) (b : B) (all : Bytes) : Type 0 where
  pub value : A
  pub fits : Fits value
  pub rest : Bytes
  pub more : Is value b rest
  pub all_is : all ≡ text value ++ rest

pub then_tells : {A B : Type 0} (read : Reader A) (text : A → Bytes) (Fits : A → Type 0) (next : A → Reader B) (Is : A → B → Bytes → Type 0) → Exact read text Fits
    → ((a : A) → Tells (next a) (Is a)) → Tells (read >>= next) (Then text Fits Is)
then_tells {A} {B} read text Fits next Is exact tells = record {
  took = λ bytes at b behind batch e.
      let p = both bytes next (read bytes at) b behind e in
      let q = exact.took bytes at p.value p.mid batch p.first in
      let r = (tells p.value).took bytes p.mid b behind batch p.second in
      record {
        text = text p.value ++ r.text;
        is = record { value = p.value; fits = q.0; rest = r.text; more = r.is; all_is = refl };
        there = span_then bytes at (text p.value) p.mid r.text behind q.1 r.there;
      };
  again = λ bytes at b all behind batch is s.
      let two : Spans bytes at (text is.value ++ is.rest) behind = subst (λ (l : Bytes). Spans bytes at l behind) is.all_is s in
      let mid : ℕ = at + length (text is.value) in
      let one = exact.again bytes at is.value mid batch is.fits (span_front bytes at (text is.value) is.rest behind two) in
      ap (continued bytes next) one ∙ (tells is.value).again bytes mid b is.rest behind batch is.more (span_back bytes at (text is.value) is.rest behind two);
}

-- a text in front of a rest, and what the rest is
pub joined : (all front rest text : Bytes) → all ≡ front ++ rest → rest ≡ text → all ≡ front ++ text
joined all front rest text first more = first ∙ ap (λ (l : Bytes). front ++ l) more

-- ---- where a field begins, and a test of a value

pub place_tells : {B : Type 0} (next : ℕ → Reader B) (Is : B → Bytes → Type 0) → ((begin : ℕ) → Tells (next begin) Is) → Tells (place >>= next) Is
place_tells next Is tells = record {
  took = λ bytes at b behind batch e. (tells at).took bytes at b behind batch e;
  again = λ bytes at b text behind batch is s. (tells at).again bytes at b text behind batch is s;
}

pub record Tested {A B : Type 0} (may : A → Bool) (a : A) (Is : B → Bytes → Type 0) (b : B) (all : Bytes) : Type 0 where
  pub may_be : may a ≡ true
  pub more : Is b all

pub tested_tells : {A B : Type 0} (may : A → Bool) (begin : ℕ) (a : A) (next : A → Reader B) (Is : B → Bytes → Type 0) → Tells (next a) Is
    → Tells (only may begin a >>= next) (Tested may a Is)
tested_tells {A} {B} may begin a next Is tells = record {
  took = λ bytes at b behind batch e.
      let p = both bytes next (only may begin a bytes at) b behind e in
      let q = passed may begin a bytes at p.value p.mid p.first in
      let same : next a bytes at ≡ Ok (b, behind) = ap (λ (x : A). next x bytes at) q.value ∙ ap (λ (k : ℕ). next p.value bytes k) q.place ∙ p.second in
      let r = tells.took bytes at b behind batch same in
      record { text = r.text; is = record { may_be = ap may q.value ∙ q.may_be; more = r.is }; there = r.there };
  again = λ bytes at b text behind batch is s. rw is.may_be (tells.again bytes at b text behind batch is.more s);
}

-- ---- what is made of the fields

-- what is made of the fields has one text, with which it may stand there
pub exact_of : {B : Type 0} (read : Reader B) (Is : B → Bytes → Type 0) (text : B → Bytes) (Fits : B → Type 0) → Tells read Is → ((b : B) (all : Bytes) → Is b all → Fits b × (all ≡ text b))
    → ((b : B) → Fits b → Is b (text b)) → Exact read text Fits
exact_of read Is text Fits tells one back = record {
  took = λ bytes at b behind batch e.
      let t = tells.took bytes at b behind batch e in
      let is = one b t.text t.is in
      (is.0, subst (λ (l : Bytes). Spans bytes at l behind) is.1 t.there);
  again = λ bytes at b behind batch fits s. tells.again bytes at b (text b) behind batch (back b fits) s;
}
