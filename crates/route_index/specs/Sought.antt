-- The subscriptions that are sought: those that match a subject, or overlap with a pattern.
use Rattle.std.specs.Prelude.{ℕ, Bool, List, map, filter}
use Rattle.js_base.specs.Bytes.{Bytes}
use Rattle.js_base.specs.Subjects.{tokens}
use Rattle.route_index.specs.declared.seek.Seek.{Seek}
use Rattle.route_index.specs.declared.sub.Sub.{Sub}
use Rattle.route_index.specs.Subs.{id_of}
use Rattle.route_index.specs.Searching.{fits}

abbrev pub is_sought : Seek → Bytes → Sub → Bool
is_sought seek text sub = fits seek (tokens sub.pattern) (tokens text)

-- their numbers, in their order
abbrev pub sought_ids : Seek → Bytes → List Sub → List ℕ
sought_ids seek text subs = map id_of (filter (is_sought seek text) subs)
