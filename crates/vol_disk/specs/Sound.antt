-- A file's length is always one of those that it had.
use Rattle.std.specs.Prelude.{ℕ, ◌==◌, Bool, true, false, List, [], ◌∷◌, length, take, if◌then◌else◌}
use Rattle.std.proofs.Math.Nat.{le_refl, le_trans, min-le_left, min-le_right, le-max_left, le-max_right}
use Rattle.vol_disk.specs.Steps.{written}
use Rattle.vol_disk.specs.FileState.{FileState, at_rest, IsSound}
use Rattle.vol_disk.specs.Calls.{with_length, overwritten, zeros, after}
use Rattle.vol_disk.specs.Replay.{after_call, after_calls, state_of, bytes_in}
use Rattle.vol_disk.specs.declared.call.Call.{Call}
use Rattle.vol_disk.specs.declared.call.Deed.{Deed}
use Rattle.vol_disk.specs.declared.call.Deed.TheVariants.{Len, Read, Write, Grow, Cut, Sync, End}

sound_at_rest : (bytes : List ℕ) → IsSound (at_rest bytes)
sound_at_rest bytes = record { no_shorter = le_refl (length bytes); no_longer = le_refl (length bytes) }

-- with one length more
sound_longer : (len : ℕ) (s : FileState) → IsSound s → IsSound (with_length len s)
sound_longer len s sound = record {
  no_shorter = le_trans (min-le_left s.least len) sound.no_shorter;
  no_longer = le_trans sound.no_longer (le-max_left s.greatest len);
}

sound_overwritten : (at : ℕ) (bytes : List ℕ) (is_done : Bool) (s : FileState) → IsSound s → IsSound (overwritten at bytes is_done s)
sound_overwritten at bytes true s sound = record {
  no_shorter = min-le_right s.least (length (written at bytes s.bytes));
  no_longer = le-max_right s.greatest (length (written at bytes s.bytes));
}
sound_overwritten at bytes false s sound = let longer = sound_longer (length (written at bytes s.bytes)) s sound in record { no_shorter = longer.no_shorter; no_longer = longer.no_longer }

pub sound_after : (deed : Deed) (is_done : Bool) (s : FileState) → IsSound s → IsSound (after deed is_done s)
sound_after Len is_done s sound = sound
sound_after (Read at count) is_done s sound = sound
sound_after (Write at bytes) is_done s sound = sound_overwritten at bytes is_done s sound
sound_after (Grow count) is_done s sound = sound_overwritten (length s.bytes) (zeros count) is_done s sound
sound_after (Cut to) true s sound = record {
  no_shorter = min-le_right s.least (length (take to s.bytes));
  no_longer = le-max_right s.greatest (length (take to s.bytes));
}
sound_after (Cut to) false s sound = sound_longer (length (take to s.bytes)) s sound
sound_after Sync true s sound = sound_at_rest s.bytes
sound_after Sync false s sound = sound
sound_after End is_done s sound = sound

sound_call : (call : Call) (file : ℕ) (s : FileState) → IsSound s → IsSound (after_call call file s)
sound_call call file s sound = go (call.file == file)
  where
    go : (b : Bool) → IsSound (if b then after call.deed call.is_done s else s)
    go true = sound_after call.deed call.is_done s sound
    go false = sound

sound_calls : (calls : List Call) (file : ℕ) (s : FileState) → IsSound s → IsSound (after_calls calls file s)
sound_calls [] file s sound = sound
sound_calls (call ∷ calls) file s sound = sound_calls calls file (after_call call file s) (sound_call call file s sound)

pub sound_of : (start : List (ℕ × List ℕ)) (calls : List Call) (file : ℕ) → IsSound (state_of start calls file)
sound_of start calls file = sound_calls calls file (at_rest (bytes_in start file)) (sound_at_rest (bytes_in start file))
