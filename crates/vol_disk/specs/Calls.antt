-- What a call does to its file.
use Rattle.std.specs.Prelude.{ℕ, ◌+◌, ◌≤◌, max, min, Bool, true, false, List, [], ◌∷◌, ◌++◌, length, replicate, take}
use Rattle.vol_disk.specs.Steps.{written, Torn, CutTo, Kept}
use Rattle.vol_disk.specs.FileState.{FileState, at_rest}
use Rattle.vol_disk.specs.declared.call.Deed.{Deed}
use Rattle.vol_disk.specs.declared.call.Deed.TheVariants.{Len, Read, Write, Grow, Cut, Sync, End}

-- what a call needs of its file
abbrev pub CanDo : Deed → FileState → Type 0
CanDo Len s = Unit {0}
CanDo (Read at count) s = at + count ≤ length s.bytes
CanDo (Write at bytes) s = at ≤ length s.bytes
CanDo (Grow count) s = Unit {0}
CanDo (Cut to) s = to ≤ length s.bytes
CanDo Sync s = Unit {0}
CanDo End s = Unit {0}

-- what it makes of the bytes that a crash leaves of a file that read as so long
abbrev pub step_of : ℕ → Deed → List ℕ → List ℕ → Type 0
step_of len Len = Kept
step_of len (Read at count) = Kept
step_of len (Write at bytes) = Torn at (length bytes)
step_of len (Grow count) = Torn len count
step_of len (Cut to) = CutTo to
step_of len Sync = Kept
step_of len End = Kept

-- the file with one length more among those that it had since the last sync
abbrev pub with_length : ℕ → FileState → FileState
with_length len s = record s { least = min s.least len; greatest = max s.greatest len }

-- the file with one range more that may hold any bytes
abbrev pub with_range : ℕ → ℕ → FileState → FileState
with_range from to s = record s { written = s.written ++ record { from = from; to = to } ∷ [] }

-- the file with these bytes
abbrev pub with_bytes : List ℕ → FileState → FileState
with_bytes bytes s = record s { bytes = bytes }

-- a file on which a write, or a cut, was tried: it reads as before, and a crash may leave any part of the call
abbrev pub after_write : ℕ → List ℕ → FileState → FileState
after_write at bytes s = with_range at (at + length bytes) (with_length (length (written at bytes s.bytes)) s)

abbrev pub after_cut : ℕ → FileState → FileState
after_cut to s = with_length (length (take to s.bytes)) s

abbrev pub zeros : ℕ → List ℕ
zeros count = replicate count 0

-- the file after a write that was done, and after one that was not
abbrev pub overwritten : ℕ → List ℕ → Bool → FileState → FileState
overwritten at bytes true s = with_bytes (written at bytes s.bytes) (after_write at bytes s)
overwritten at bytes false s = after_write at bytes s

-- The file after a call that was done, and after one that was not. A sync that failed changes nothing, and to grow is to write zeros at the end.
abbrev pub after : Deed → Bool → FileState → FileState
after Len done s = s
after (Read at count) done s = s
after (Write at bytes) done s = overwritten at bytes done s
after (Grow count) done s = overwritten (length s.bytes) (zeros count) done s
after (Cut to) true s = with_bytes (take to s.bytes) (after_cut to s)
after (Cut to) false s = after_cut to s
after Sync true s = at_rest s.bytes
after Sync false s = s
after End done s = s
