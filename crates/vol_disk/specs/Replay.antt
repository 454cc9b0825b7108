-- What calls make of files, one after another.
use Rattle.std.specs.Prelude.{ℕ, ◌==◌, List, [], ◌∷◌, if◌then◌else◌, unwrap_or}
use Rattle.std.specs.BTreeMap.{is_at}
use Rattle.std.specs.Map.{lookup}
use Rattle.std.specs.Ordering.{nat_cmp}
use Rattle.vol_disk.specs.FileState.{FileState, at_rest}
use Rattle.vol_disk.specs.Calls.{after}
use Rattle.vol_disk.specs.declared.call.Call.{Call}

-- the bytes of a file among those listed by number, of which one that is not listed has none
abbrev pub bytes_in : List (ℕ × List ℕ) → ℕ → List ℕ
bytes_in start file = unwrap_or (lookup (is_at (nat_cmp file)) start) []

-- a file after a call, which may be on another one
abbrev pub after_call : Call → ℕ → FileState → FileState
after_call call file s = if call.file == file then after call.deed call.is_done s else s

-- a file after these calls
abbrev pub after_calls : List Call → ℕ → FileState → FileState
after_calls [] file s = s
after_calls (call ∷ calls) file s = after_calls calls file (after_call call file s)

-- a file after these calls on files that held these bytes at rest
abbrev pub state_of : List (ℕ × List ℕ) → List Call → ℕ → FileState
state_of start calls file = after_calls calls file (at_rest (bytes_in start file))
