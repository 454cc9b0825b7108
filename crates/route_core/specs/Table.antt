-- How maps stand for the list of subscriptions.
use Rattle.std.specs.Prelude.{◌≡◌, ℕ, ◌<◌, ◌==◌, Bool, true, false, List, length, map, filter, Option, Some, None}
use Rattle.std.specs.List.{AllByRecursion}
use Rattle.std.specs.List.Sorted.{IsStrictlySortedBy}
use Rattle.std.specs.Ordering.{nat_cmp}
use Rattle.std.specs.Map.{keys_of, values_of, lookup}
use Rattle.std.specs.BTreeMap.{is_at}
use Rattle.js_base.specs.Bytes.{Bytes}
use Rattle.js_model.specs.Router.{Subscription, is_sub, is_spent}
use Rattle.route_index.specs.declared.sub.Sub.{Sub}
use Rattle.route_index.specs.declared.names.Names.{Names}
use Rattle.route_index.specs.Names.{number_of, count_of}

-- the subscriptions under their numbers
abbrev pub Numbered : Type 0
Numbered = List (ℕ × Subscription)

abbrev pub at_number : Numbered → ℕ → Option Subscription
at_number entries id = lookup (is_at (nat_cmp id)) entries

-- a subscription as the index knows it
abbrev pub indexed : ℕ × Subscription → Sub
indexed entry = record { id = entry.0; pattern = entry.1.pattern }

-- all numbers are below this one
abbrev pub AreBelow : ℕ → Numbered → Type 0
AreBelow id entries = AllByRecursion (λ entry. entry.0 < id) entries

-- there is one, and it was sent as many messages as it may get
abbrev pub is_spent_some : Option Subscription → Bool
is_spent_some None = false
is_spent_some (Some sub) = is_spent sub

-- there is one, and it is the session's under this identifier
abbrev pub is_sub_some : ℕ → Bytes → Option Subscription → Bool
is_sub_some n sid None = false
is_sub_some n sid (Some sub) = is_sub n sid sub

-- the number of each subscription is under its identifier
abbrev pub AreNamed : Numbered → Names → Type 0
AreNamed entries names = (id : ℕ) (sub : Subscription) → at_number entries id ≡ Some sub → number_of names sub.session sub.sid ≡ Some id

abbrev pub is_of : ℕ → Subscription → Bool
is_of n sub = sub.session == n

-- numbers ascend, the index has the patterns, and identifiers and numbers name each other
pub record Holds (entries : Numbered) (names : Names) (index : List Sub) (next : ℕ) : Type 0 where
  pub ordered : IsStrictlySortedBy nat_cmp (keys_of entries)
  pub below : AreBelow next entries
  pub patterns : index ≡ map indexed entries
  pub names_some : (n : ℕ) (sid : Bytes) (id : ℕ) → number_of names n sid ≡ Some id → is_sub_some n sid (at_number entries id) ≡ true
  pub is_named : AreNamed entries names
  pub counts : (n : ℕ) → count_of names n ≡ length (filter (is_of n) (values_of entries))
