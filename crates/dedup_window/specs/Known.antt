-- How the id of each text was added.
use Rattle.std.specs.Prelude.{◌≡◌, Option, if◌then◌else◌}
use Rattle.std.specs.Ordering.{nat_cmp}
use Rattle.std.specs.Cmp.Lexicographic.{slice_cmp}
use Rattle.std.specs.BTreeMap.{get_by}
use Rattle.js_base.specs.Bytes.{Bytes, same}
use Rattle.dedup_window.specs.declared.known.Added.{Added}
use Rattle.dedup_window.specs.declared.known.KnownIds.{KnownIds}

abbrev pub added_in : KnownIds → Bytes → Option Added
added_in known text = get_by (λ key. slice_cmp nat_cmp text key.items) known.ids

-- the id of this text was added so, and the others as before
pub record Sets (old new : KnownIds) (here : Bytes) (added : Option Added) : Type 0 where
  pub at : (text : Bytes) → added_in new text ≡ (if same here text then added else added_in old text)
