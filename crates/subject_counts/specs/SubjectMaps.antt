-- How the sequences of each subject are kept, this server's own: in a map from the subject to the set of its sequences.
use Rattle.std.specs.Prelude.{◌≡◌, ℕ, ◌<◌, false, length, map, Option, Some, None}
use Rattle.std.specs.Ordering.{nat_cmp}
use Rattle.std.specs.Cmp.Lexicographic.{slice_cmp}
use Rattle.std.specs.declared.alloc.Global.{Global}
use Rattle.std.specs.declared.vec.Vec.{Vec}
use Rattle.std.specs.BTreeMap.{BTreeMap, get_by}
use Rattle.std.specs.BTreeSet.{BTreeSet, IsOrdered}
use Rattle.js_base.specs.Bytes.{Bytes, same}
use Rattle.subject_counts.specs.Sequences.{Subjects}

abbrev pub SubjectMap : Type 0
SubjectMap = BTreeMap (Vec ℕ Global) (BTreeSet ℕ)

-- what is kept, as it is seen
abbrev pub shown : SubjectMap → Subjects
shown subjects = map (λ entry. (entry.0.items, entry.1.keys)) subjects.entries

-- the set that is kept for a subject
abbrev pub set_at : SubjectMap → Bytes → Option (BTreeSet ℕ)
set_at subjects subject = get_by (λ key. slice_cmp nat_cmp subject key.items) subjects

-- its sequences ascend, and there are some
pub record IsFilledSet (set : BTreeSet ℕ) : Type 0 where
  pub ordered : IsOrdered nat_cmp set
  pub some : 0 < length set.keys

abbrev pub IsFilledAt : Option (BTreeSet ℕ) → Type 0
IsFilledAt None = Unit {0}
IsFilledAt (Some set) = IsFilledSet set

-- each set that is kept has sequences
pub record IsFilled (subjects : SubjectMap) : Type 0 where
  pub at : (subject : Bytes) → IsFilledAt (set_at subjects subject)

-- each one but that of this subject has
pub record IsFilledBut (subjects : SubjectMap) (subject : Bytes) : Type 0 where
  pub at : (t : Bytes) → same t subject ≡ false → IsFilledAt (set_at subjects t)
