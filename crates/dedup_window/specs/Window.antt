-- Message ids and how long they count, by JetStream's duplicate window.
use Rattle.std.specs.Prelude.{ℕ, ◌≤◌, nat_lt, List, filter, Option, option_map, find, All}
use Rattle.js_base.specs.Bytes.{Bytes, same}
use Rattle.js_base.specs.Moments.{plus}
use Rattle.js_model.specs.declared.stream.Id.{Id}

-- for how many nanoseconds an id counts, and the ids in the order of their adding
pub record Window : Type 0 where
  pub window : ℕ
  pub ids : List Id

-- the id of this text
abbrev pub id_of : List Id → Bytes → Option Id
id_of ids text = find (λ i. same i.id text) ids

-- its sequence
abbrev pub seq_of : List Id → Bytes → Option ℕ
seq_of ids text = option_map (λ i. i.seq) (id_of ids text)

-- the ids that still count at a moment
abbrev pub remembered : Window → ℕ → List Id
remembered w now = filter (λ i. nat_lt now (plus i.at w.window)) w.ids

-- no id was added later
abbrev pub IsLatest : ℕ → List Id → Type 0
IsLatest at ids = All (λ i. i.at ≤ at) ids
