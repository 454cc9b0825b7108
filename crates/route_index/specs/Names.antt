-- The number under each text of each owner.
use Rattle.std.specs.Prelude.{◌≡◌, ℕ, ◌+◌, ◌==◌, ◌&&◌, Option, Some, None, if◌then◌else◌}
use Rattle.std.specs.Ordering.{nat_cmp}
use Rattle.std.specs.Cmp.Lexicographic.{slice_cmp}
use Rattle.std.specs.BTreeMap.{get, get_by, btree_map_len, IsEmpty}
use Rattle.js_base.specs.Bytes.{Bytes, same}
use Rattle.route_index.specs.declared.identifiers.Identifiers.{Identifiers}
use Rattle.route_index.specs.declared.names.Names.{Names}

-- ---- of one owner

abbrev pub number_in : Identifiers → Bytes → Option ℕ
number_in own text = get_by (λ key. slice_cmp nat_cmp text key.items) own.numbers

abbrev pub count_in : Identifiers → ℕ
count_in own = btree_map_len own.numbers

-- this is under the text now, and the others are as they were
pub record Sets (old new : Identifiers) (here : Bytes) (number : Option ℕ) : Type 0 where
  pub at : (text : Bytes) → number_in new text ≡ (if same here text then number else number_in old text)

-- one text more has a number
pub record PutsIn (old new : Identifiers) (here : Bytes) (number : ℕ) : Type 0 where
  pub sets : Sets old new here (Some number)
  pub count : count_in new ≡ count_in old + 1

-- one text less has a number
pub record RemovesIn (old new : Identifiers) (here : Bytes) : Type 0 where
  pub sets : Sets old new here None
  pub count : count_in new + 1 ≡ count_in old

pub record KeepsIn (old new : Identifiers) : Type 0 where
  pub at : (text : Bytes) → number_in new text ≡ number_in old text
  pub count : count_in new ≡ count_in old

-- some text that had this number has none any more
pub record RemovesSome (old new : Identifiers) (number : ℕ) : Type 0 where
  pub text : Bytes
  pub was : number_in old text ≡ Some number
  pub removes : RemovesIn old new text

-- ---- of all owners

abbrev pub number_or_none : Option Identifiers → Bytes → Option ℕ
number_or_none None text = None
number_or_none (Some own) text = number_in own text

abbrev pub count_or_zero : Option Identifiers → ℕ
count_or_zero None = 0
count_or_zero (Some own) = count_in own

-- the number under a text of an owner
abbrev pub number_of : Names → ℕ → Bytes → Option ℕ
number_of names n text = number_or_none (get nat_cmp names.owners n) text

-- how many texts an owner has
abbrev pub count_of : Names → ℕ → ℕ
count_of names n = count_or_zero (get nat_cmp names.owners n)

-- no owner has a text
abbrev pub HasNoTexts : Names → Type 0
HasNoTexts names = IsEmpty names.owners

pub record KeepsNames (old new : Names) : Type 0 where
  pub at : (n : ℕ) (text : Bytes) → number_of new n text ≡ number_of old n text
  pub counts : (n : ℕ) → count_of new n ≡ count_of old n

-- one text more has a number
pub record AddsName (old new : Names) (here : ℕ) (text : Bytes) (number : ℕ) : Type 0 where
  pub at : (n : ℕ) (other : Bytes) → number_of new n other ≡ (if here == n && same text other then Some number else number_of old n other)
  pub counts : (n : ℕ) → count_of new n ≡ count_of old n + (if here == n then 1 else 0)

-- this text, which had a number, has none any more
pub record DropsName (old new : Names) (here : ℕ) (text : Bytes) : Type 0 where
  pub at : (n : ℕ) (other : Bytes) → number_of new n other ≡ (if here == n && same text other then None else number_of old n other)
  pub counts : (n : ℕ) → count_of new n + (if here == n then 1 else 0) ≡ count_of old n

-- some text that had this number has none any more
pub record DropsSome (old new : Names) (here number : ℕ) : Type 0 where
  pub text : Bytes
  pub was : number_of old here text ≡ Some number
  pub drops : DropsName old new here text

-- this text has no number, and the others have theirs
pub record Cuts (old new : Names) (here : ℕ) (text : Bytes) : Type 0 where
  pub at : (n : ℕ) (other : Bytes) → number_of new n other ≡ (if here == n && same text other then None else number_of old n other)
