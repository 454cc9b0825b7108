-- Subscriptions in the order of their adding, and those of them that match a subject or overlap with a pattern.
use Rattle.std.specs.Prelude.{ℕ, ◌<◌, Bool, not, ◌==◌, List, map, filter}
use Rattle.std.specs.List.{list_any, AllByRecursion}
use Rattle.js_base.specs.Bytes.{Bytes}
use Rattle.js_base.specs.Subjects.{tokens, matches, meets}
use Rattle.route_index.specs.declared.sub.Sub.{Sub}

abbrev pub id_of : Sub → ℕ
id_of sub = sub.id

abbrev pub is_match : Bytes → Sub → Bool
is_match subject sub = matches (tokens sub.pattern) (tokens subject)

-- the numbers of the subscriptions whose patterns match the subject, in their order
abbrev pub matching_ids : Bytes → List Sub → List ℕ
matching_ids subject subs = map id_of (filter (is_match subject) subs)

abbrev pub is_overlap : Bytes → Sub → Bool
is_overlap pattern sub = meets (tokens pattern) (tokens sub.pattern)

-- the numbers of the subscriptions whose patterns meet the pattern, in their order
abbrev pub overlapping_ids : Bytes → List Sub → List ℕ
overlapping_ids pattern subs = map id_of (filter (is_overlap pattern) subs)

-- the number is greater than all that are there
abbrev pub IsAbove : ℕ → List Sub → Type 0
IsAbove id subs = AllByRecursion (λ sub. sub.id < id) subs

-- a subscription of this number is there
abbrev pub is_there : ℕ → List Sub → Bool
is_there id subs = list_any (λ sub. sub.id == id) subs

-- the others
abbrev pub without : ℕ → List Sub → List Sub
without id subs = filter (λ sub. not (sub.id == id)) subs
