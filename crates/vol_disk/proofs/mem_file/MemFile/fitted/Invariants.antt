use Rattle.std.proofs.Common.{◌≡◌, ◌⊎◌, ℕ, ◌<◌, false, length, get_or}
use Rattle.vol_disk.specs.Images.{AreBytes}
use Rattle.vol_disk.specs.Left.{is_written}
use Rattle.vol_disk.proofs.mem_file.MemFile.fitted.Given as goal

abbrev pub invariant-loop-place : goal.invariant-loop-place
invariant-loop-place l = record {
  size : length l.left.items ≡ l.place;
  bytes : AreBytes l.left.items;
  stays : (k : ℕ) → k < l.place → k < l.self.least → is_written l.self.written k ≡ false → get_or l.left.items k 0 ≡ get_or l.self.bytes k 0;
  wanted : (k : ℕ) → k < l.place → k < length l.wanted → (get_or l.left.items k 0 ≡ get_or l.wanted k 0) ⊎ ((k < l.self.least) × (is_written l.self.written k ≡ false));
}
