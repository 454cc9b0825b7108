-- Which texts a map has as keys.
use Rattle.std.specs.Prelude.{ℕ, Bool, List, is_some}
use Rattle.std.specs.BTreeMap.{BTreeMap, get_by}
use Rattle.std.specs.Cmp.Lexicographic.{slice_cmp}
use Rattle.std.specs.Ordering.{nat_cmp}
use Rattle.std.specs.Borrow.{Bor}
use Rattle.js_base.specs.Bytes.{Bytes}

abbrev pub knows : BTreeMap (Bor (List ℕ)) ℕ → Bytes → Bool
knows known text = is_some (get_by (λ k. slice_cmp nat_cmp text k.now) known)
