-- A disk that is told by its calls keeps the laws of a volume.
use Rattle.std.specs.Prelude.{ℕ, List, length, refl}
use Rattle.std.proofs.Common.{sym, subst}
use Rattle.std.proofs.Math.Nat.{le_refl, le_trans}
use Rattle.std.proofs.lemmas.List.{take_all}
use Rattle.vol_disk.specs.Clock.{IsClocked}
use Rattle.vol_disk.specs.Images.{IsHonest}
use Rattle.vol_disk.specs.Sound.{sound_of}
use Rattle.vol_disk.specs.MemDisk.{AreLeft, disk_after}
use Rattle.vol_disk.specs.declared.call.Call.{Call}

pub clocked : (start : List (ℕ × List ℕ)) (calls : List Call) → IsClocked (disk_after start calls)
clocked start calls =
    let all = le_refl (length calls) in
    record {
      counts_now = λ t image le now. (
        length calls,
        le,
        all,
        subst (λ (cs : List Call). AreLeft start cs image) (sym (take_all (length calls) calls all)) (record { bytes = now.bytes; left = now.left }),
      );
      only_now = λ image since.
          let now = subst (λ (cs : List Call). AreLeft start cs image) (take_all since.0 calls since.1) since.3 in
          record { bytes = now.bytes; left = now.left };
      earlier = λ t u image le since. (since.0, le_trans le since.1, since.2, since.3);
    }

pub honest : (start : List (ℕ × List ℕ)) (calls : List Call) → IsHonest (disk_after start calls)
honest start calls file =
    let sound = sound_of start calls file in
    record { no_shorter = sound.no_shorter; no_longer = sound.no_longer; stays = λ k low none. refl }
