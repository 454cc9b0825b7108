-- The members of a JSON object that is made member by member. `put` of serde_json keeps them in ascending order of their keys.
use Rattle.std.specs.Prelude.{ℕ, negsuc, ◌==◌, if◌then◌else◌, List, [], ◌∷◌, map, Option, Some, None}
use Rattle.serde_json.specs.Data.{Data, number, string, object, unsigned, negative, Items, Members, no_members, put}
use Rattle.serde_json.specs.View.{items_of, members_view}
use Rattle.js_base.specs.Bytes.{Bytes}
use Rattle.js_json.specs.declared.object_builder.ObjectBuilder.{ObjectBuilder}

-- the members so far, as contracts see them
abbrev pub shown : ObjectBuilder → Members
shown made = members_view made.members.entries

-- these members beside the others
abbrev pub with_all : List (Bytes × Data) → Members → Members
with_all [] members = members
with_all ((key, value) ∷ more) members = with_all more (put key value members)

-- the object with these members
abbrev pub object_with : List (Bytes × Data) → Data
object_with members = object (with_all members no_members)

abbrev pub count : ℕ → Data
count n = number (unsigned n)

-- no limit is -1
abbrev pub limit : Option ℕ → Data
limit None = number (negative (negsuc 0))
limit (Some n) = count n

-- a number that is shown if it is not 0
abbrev pub count_unless_0 : Bytes → ℕ → Members → Members
count_unless_0 key n members = if n == 0 then members else put key (count n) members

-- a text that is shown if it is not empty
abbrev pub text_unless_empty : Bytes → Bytes → Members → Members
text_unless_empty key [] members = members
text_unless_empty key (byte ∷ more) members = put key (string (byte ∷ more)) members

abbrev pub texts : List Bytes → Items
texts list = items_of (map string list)
