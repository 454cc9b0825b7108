-- What a change of one set means for the sequences of each subject.
use Rattle.std.proofs.Common.{◌≡◌, ℕ, ◌==◌, not, Bool, true, false, cond, List, [], ◌∷◌, ◌++◌, Option, Some, None, refl, sym, ap, ◌∙◌, subst, ◌<◌, length, length-append, arith, Result, Ok, Err}
use Rattle.std.specs.Prelude.{filter, OnOk, OnErr}
use Rattle.std.specs.BTreeSet.{BTreeSet}
use Rattle.std.proofs.lemmas.Bool.{true≢false, ne_eqb}
use Rattle.js_base.specs.Bytes.{Bytes, same}
use Rattle.js_base.proofs.Meeting.{same_is}
use Rattle.subject_counts.specs.Sequences.{seqs_of, AddsSeq, DropsSeq, KeepsSeqs}
use Rattle.subject_counts.specs.SubjectMaps.{SubjectMap, set_at, shown, IsFilled, IsFilledAt, IsFilledBut, IsFilledSet}
use Rattle.subject_counts.proofs.Replacing.{Replaces, keys_in, seqs_of-shown}

module _ (old new : SubjectMap) (here : Bytes) (set : Option (BTreeSet ℕ)) (replaces : Replaces old new here set) where
  -- at the subject
  pub seqs_here : (t : Bytes) → same t here ≡ true → seqs_of (shown new) t ≡ keys_in set
  seqs_here t e = seqs_of-shown new t ∙ ap (λ u. keys_in (set_at new u)) (same_is t here e) ∙ ap keys_in replaces.this

  -- at another
  seqs_other : (t : Bytes) → same t here ≡ false → seqs_of (shown new) t ≡ seqs_of (shown old) t
  seqs_other t e = seqs_of-shown new t ∙ ap keys_in (replaces.others t e) ∙ sym (seqs_of-shown old t)

  -- the sequences of the subject are changed so
  changes : (change : List ℕ → List ℕ) → keys_in set ≡ change (seqs_of (shown old) here) → (t : Bytes) → seqs_of (shown new) t ≡ cond (same t here) (change (seqs_of (shown old) t)) (seqs_of (shown old) t)
  changes change e t = go (same t here) refl
    where
      go : (b : Bool) → same t here ≡ b → seqs_of (shown new) t ≡ cond b (change (seqs_of (shown old) t)) (seqs_of (shown old) t)
      go true f = seqs_here t f ∙ e ∙ ap (λ u. change (seqs_of (shown old) u)) (sym (same_is t here f))
      go false f = seqs_other t f

  pub adds : (seq : ℕ) → keys_in set ≡ seqs_of (shown old) here ++ seq ∷ [] → AddsSeq (shown old) (shown new) here seq
  adds seq e = record { at = changes (λ ns. ns ++ seq ∷ []) e }

  pub drops : (seq : ℕ) → keys_in set ≡ filter (λ n. not (n == seq)) (seqs_of (shown old) here) → DropsSeq (shown old) (shown new) here seq
  drops seq e = record { at = changes (λ ns. filter (λ n. not (n == seq)) ns) e }

  pub keeps : keys_in set ≡ seqs_of (shown old) here → KeepsSeqs (shown old) (shown new)
  keeps e = record { at = λ t. changes (λ ns. ns) e t ∙ either (same t here) (seqs_of (shown old) t) }
    where
      either : (b : Bool) (ns : List ℕ) → cond b ns ns ≡ ns
      either true ns = refl
      either false ns = refl

  -- each other set that had sequences has them
  pub filled_but : IsFilled old → IsFilledBut new here
  filled_but h = record { at = λ t e. subst IsFilledAt (sym (replaces.others t e)) (h.at t) }

  -- if this set has sequences, each has
  pub filled_with : IsFilledBut old here → IsFilledAt set → IsFilled new
  filled_with h k = record { at = λ t. go t (same t here) refl }
    where
      go : (t : Bytes) (b : Bool) → same t here ≡ b → IsFilledAt (set_at new t)
      go t true e = subst (λ u. IsFilledAt (set_at new u)) (sym (same_is t here e)) (subst IsFilledAt (sym replaces.this) k)
      go t false e = subst IsFilledAt (sym (replaces.others t e)) (h.at t e)

pub filled_all_but : (subjects : SubjectMap) (here : Bytes) → IsFilled subjects → IsFilledBut subjects here
filled_all_but subjects here h = record { at = λ t e. h.at t }

-- ---- the set that is there

module _ (subjects : SubjectMap) (here : Bytes) (set : BTreeSet ℕ) (is : Some set ≡ set_at subjects here) where
  pub seqs_there : seqs_of (shown subjects) here ≡ set.keys
  seqs_there = seqs_of-shown subjects here ∙ ap keys_in (sym is)

  pub filled_there : IsFilled subjects → IsFilledSet set
  filled_there h = subst IsFilledAt (sym is) (h.at here)

pub seqs_absent : (subjects : SubjectMap) (here : Bytes) → set_at subjects here ≡ None → seqs_of (shown subjects) here ≡ []
seqs_absent subjects here e = seqs_of-shown subjects here ∙ ap keys_in e

-- a set to which a sequence was added, or was not for want of memory
pub pushed_some : {X E : Type 0} (r : Result X E) (old new : List ℕ) (seq : ℕ) → OnOk r (new ≡ old ++ seq ∷ []) → OnErr r (new ≡ old) → 0 < length old → 0 < length new
pushed_some (Ok x) old new seq ok err h = rw ok (omega (arith, length-append old (seq ∷ [])))
pushed_some (Err x) old new seq ok err h = rw err h

-- ---- a subject that is not there, and one that went with its last sequence

pub drops_none : (subjects : SubjectMap) (here : Bytes) (seq : ℕ) → set_at subjects here ≡ None → DropsSeq (shown subjects) (shown subjects) here seq
drops_none subjects here seq absent = record { at = λ t. go t (same t here) refl }
  where
    go : (t : Bytes) (b : Bool) → same t here ≡ b → seqs_of (shown subjects) t ≡ cond b (filter (λ n. not (n == seq)) (seqs_of (shown subjects) t)) (seqs_of (shown subjects) t)
    go t true f =
        let none : seqs_of (shown subjects) t ≡ [] = ap (seqs_of (shown subjects)) (same_is t here f) ∙ seqs_absent subjects here absent in
        none ∙ sym (ap (filter (λ n. not (n == seq))) none)
    go t false f = refl

pub drops_after : (old mid new : SubjectMap) (here : Bytes) (seq : ℕ) → DropsSeq (shown old) (shown mid) here seq → KeepsSeqs (shown mid) (shown new) → DropsSeq (shown old) (shown new) here seq
drops_after old mid new here seq h k = record { at = λ t. k.at t ∙ h.at t }

-- a list without elements
pub none_left : (ns : List ℕ) → (length ns == 0) ≡ true → ns ≡ []
none_left [] e = refl
none_left (n ∷ ns) e = absurd (true≢false (sym e ∙ ne_eqb (length (n ∷ ns)) 0 (λ k. omega arith)))

pub some_left : (ns : List ℕ) → (length ns == 0) ≡ false → 0 < length ns
some_left [] e = absurd (true≢false e)
some_left (n ∷ ns) e = omega arith
