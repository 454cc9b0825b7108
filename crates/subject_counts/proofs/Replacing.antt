-- What a change of the map leaves at each subject.
use Rattle.std.proofs.Common.{◌≡◌, ℕ, Bool, true, false, cond, List, [], ◌∷◌, Option, Some, None, map, refl, sym, ap, ◌∙◌}
use Rattle.std.specs.declared.alloc.Global.{Global}
use Rattle.std.specs.declared.vec.Vec.{Vec}
use Rattle.std.specs.Ordering.{nat_cmp, is_eq, eq_by_cmp}
use Rattle.std.specs.Cmp.{eq_by_cmp_equiv}
use Rattle.std.specs.Cmp.Lexicographic.{slice_cmp, nat_list_cmp_total}
use Rattle.std.specs.Map.{lookup, IsKeyTest, AreApart, KeepsOthers}
use Rattle.std.specs.BTreeMap.{UpdatesBy, is_at}
use Rattle.std.specs.BTreeSet.{BTreeSet}
use Rattle.std.proofs.lemmas.Map.Text.{is_eq-slice_cmp}
use Rattle.js_base.specs.Bytes.{Bytes, same}
use Rattle.js_base.proofs.Meeting.{same_is}
use Rattle.subject_counts.specs.Sequences.{Subjects, seqs_of}
use Rattle.subject_counts.specs.SubjectMaps.{SubjectMap, set_at, shown}

-- the sequences of a set, none if there is no set
abbrev pub keys_in : Option (BTreeSet ℕ) → List ℕ
keys_in None = []
keys_in (Some set) = set.keys

-- what is seen of a subject is the list of its set
pub seqs_of-shown : (subjects : SubjectMap) (t : Bytes) → seqs_of (shown subjects) t ≡ keys_in (set_at subjects t)
seqs_of-shown subjects t = go subjects.entries
  where
    one : (b : Bool) (set : BTreeSet ℕ) (others : List ℕ) (found : Option (BTreeSet ℕ)) → others ≡ keys_in found → cond b set.keys others ≡ keys_in (cond b (Some set) found)
    one true set others found e = refl
    one false set others found e = e

    go : (es : List (Vec ℕ Global × BTreeSet ℕ)) → seqs_of (map (λ e. (e.0.items, e.1.keys)) es) t ≡ keys_in (lookup (is_at (λ key. slice_cmp nat_cmp t key.items)) es)
    go [] = refl
    go (e ∷ es) =
        ap (λ b. cond b e.1.keys (seqs_of (map (λ e. (e.0.items, e.1.keys)) es) t)) (sym (is_eq-slice_cmp t e.0.items))
        ∙ one (is_eq (slice_cmp nat_cmp t e.0.items)) e.1 _ _ (go es)

-- the same, of what was found
pub keys_found : (subjects : SubjectMap) (seen : Subjects) (t : Bytes) (found : Option (BTreeSet ℕ)) → shown subjects ≡ seen → found ≡ set_at subjects t → keys_in found ≡ seqs_of seen t
keys_found subjects seen t found e f = ap keys_in f ∙ sym (seqs_of-shown subjects t) ∙ ap (λ s. seqs_of s t) e

-- the set of one subject is another now, and those of the others are as they were
pub record Replaces (old new : SubjectMap) (here : Bytes) (set : Option (BTreeSet ℕ)) : Type 0 where
  pub this : set_at new here ≡ set
  pub others : (t : Bytes) → same t here ≡ false → set_at new t ≡ set_at old t

apart : (here t key : Bytes) → same t here ≡ false → is_eq (slice_cmp nat_cmp here key) ≡ true → is_eq (slice_cmp nat_cmp t key) ≡ false
apart here t key e f = is_eq-slice_cmp t key ∙ ap (same t) (sym (same_is here key (sym (is_eq-slice_cmp here key) ∙ f))) ∙ e

module _ (test other : Vec ℕ Global → Bool) (old new : List (Vec ℕ Global × BTreeSet ℕ)) where
  kept_apart : KeepsOthers (eq_by_cmp (λ x y. slice_cmp nat_cmp x.items y.items)) test old new → IsKeyTest (eq_by_cmp (λ x y. slice_cmp nat_cmp x.items y.items)) other → AreApart test other → lookup other new ≡ lookup other old
  unfolding KeepsOthers
  kept_apart h = h other

pub replaces_by : (here : Bytes) (old new : SubjectMap) (set : Option (BTreeSet ℕ)) → UpdatesBy (λ x y. slice_cmp nat_cmp x.items y.items) (λ key. slice_cmp nat_cmp here key.items) old new set → Replaces old new here set
replaces_by here old new set h = record {
  this = h.1;
  others = λ t e. kept_apart _ _ _ _ h.3 (λ x y. (eq_by_cmp_equiv nat_list_cmp_total).congr t x.items y.items) (λ key f. apart here t key.items e f);
}
