-- The files that are cleared, one after the other.
use Rattle.std.proofs.Common.{◌≡◌, ◌≢◌, ◌≤◌, ◌<◌, ◌⊎◌, inl, inr, ℕ, ◌+◌, min, false, List, [], length, refl, sym, ap, subst, ◌∙◌, arith}
use Rattle.std.proofs.lemmas.Bool.{cases_eq, true≢false}
use Rattle.std.proofs.lemmas.List.{nil_from_length}
use Rattle.vol_disk.specs.Clock.{IsClocked}
use Rattle.vol_disk.specs.Disk.{Disk, IsLeftBelow}
use Rattle.vol_disk.specs.Does.{Does, Rests}
use Rattle.vol_disk.specs.Images.{IsHonest, IsImage}
use Rattle.vol_disk.specs.Moments.{Elsewhere, LeavesOnly, Quiet}
use Rattle.vol_disk.specs.Steps.{Kept}
use Rattle.vol_disk.proofs.Moments.{empty_behind, joined, quiet, quiet_on, rests_on, started, widened}
use Rattle.effects.specs.declared.durable.Durable.{Durable}
use Rattle.block_table.specs.Blocks.{Blocks, has_block}
use Rattle.message_block.specs.Changing.{ChangesOnly}
use Rattle.stream_store.specs.Base.{IsBaseOf}
use Rattle.stream_store.specs.Clearing.{AreCleared, AreUsedLeft, IsCleared, IsUsed, Spares}
use Rattle.stream_store.specs.Holding.{Holds}
use Rattle.stream_store.specs.Opening.{KeepsHeld, RestsBut}
use Rattle.stream_store.specs.StoreState.{StoreState}
use Rattle.stream_store.proofs.Committing.{base_spared, spared_leaves}
use Rattle.stream_store.proofs.OneReading.{holds_same}

-- ---- calls that write nothing

pub spares_none : (Used : ℕ → Type 0) (disk : Disk) → IsClocked disk → Spares Used disk disk
spares_none Used disk clocked = record {
  used = λ file is. record { seen = refl; leaves = λ bytes left. left };
  empty = λ file is. record { seen = refl; leaves = λ bytes left. left };
  any_moment = started disk (AreUsedLeft Used disk) clocked (λ image now file is. now.left file);
}

pub rests_quiet : (file : ℕ) (old new : Disk) → Quiet old new → Rests file old new
rests_quiet file old new still = record { seen = still.seen file; leaves = still.leaves file }

pub spares_quiet : (Used : ℕ → Type 0) (old new : Disk) → Quiet old new → Spares Used old new
spares_quiet Used old new still = record {
  used = λ file is. rests_quiet file old new still;
  empty = λ file is. rests_quiet file old new still;
  any_moment = widened old new (AreUsedLeft Used old) (IsImage old) still.any_moment (λ image was file is. was.left file);
}

-- a look at a file
pub looked_at : (file : ℕ) (old new : Disk) → IsClocked old → Does file Kept old new → new.seen file ≡ old.seen file → Quiet old new
looked_at file old new clocked does same = quiet_on old old new file (quiet old clocked) does same

-- a file that has no bytes is left alone
pub cleared_still : (file : ℕ) (old new : Disk) → length (old.seen file) ≡ 0 → new.seen file ≡ old.seen file → IsCleared old new file
cleared_still file old new none same = let empty = nil_from_length (old.seen file) none in record { empty = same ∙ empty; durable = λ some. absurd (some empty) }

-- ---- one file behind another

pub spares_then : (Used : ℕ → Type 0) (old mid new : Disk) → Spares Used old mid → Spares Used mid new → Spares Used old new
spares_then Used old mid new first second = record {
  used = λ file is. rests_on file old mid new (first.used file is) (second.used file is);
  empty = λ file is. let rests = first.empty file is in rests_on file old mid new rests (second.empty file (rests.seen ∙ is));
  any_moment = joined old mid new (AreUsedLeft Used old) (AreUsedLeft Used mid) first.any_moment second.any_moment (λ image left file is. (first.used file is).leaves (image file) (left file is));
}

-- fewer files are used
pub spares_fewer : (Used Fewer : ℕ → Type 0) (old new : Disk) → ((file : ℕ) → Fewer file → Used file) → Spares Used old new → Spares Fewer old new
spares_fewer Used Fewer old new leads spares = record {
  used = λ file is. spares.used file (leads file is);
  empty = spares.empty;
  any_moment = widened old new (AreUsedLeft Fewer old) (AreUsedLeft Used old) spares.any_moment (λ image left file is. left file (leads file is));
}

-- a file that is neither used nor empty
pub spares_one : (b : Blocks) (file : ℕ) (old new : Disk) → 2 ≤ file → has_block b file ≡ false → old.seen file ≢ [] → ChangesOnly file old new → Spares (IsUsed b) old new
spares_one b file old new high free some changes = record {
  used = λ other is. changes.elsewhere other (apart other is);
  empty = λ other is. changes.elsewhere other (λ same. some (subst (λ (n : ℕ). old.seen n ≡ []) same is));
  any_moment = widened old new (AreUsedLeft (IsUsed b) old) (Elsewhere file old) changes.any_moment (λ image left other is. left other (apart other is));
}
  where
    apart : (other : ℕ) → IsUsed b other → other ≢ file
    apart other (inl low) same = absurd (omega (arith, low, same, high))
    apart other (inr has) same = absurd (true≢false (sym has ∙ subst (λ (n : ℕ). has_block b n ≡ false) (sym same) free))

module _ (b : Blocks) (file : ℕ) (old mid new : Disk) (still : Quiet old mid) (changes : ChangesOnly file mid new) where
  pub dropped_spares : 2 ≤ file → has_block b file ≡ false → length (old.seen file) ≢ 0 → Spares (IsUsed b) old new
  dropped_spares high free some =
      spares_then (IsUsed b) old mid new (spares_quiet (IsUsed b) old mid still) (spares_one b file mid new high free (λ none. some (ap (λ (l : List ℕ). length l) (sym (still.seen file) ∙ none))) changes)

  pub dropped_elsewhere : (other : ℕ) → other ≢ file → Rests other old new
  dropped_elsewhere other apart = rests_on other old mid new (rests_quiet other old mid still) (changes.elsewhere other apart)

-- the files below this one are cleared, and the others rest
pub record AreClearedBelow (b : Blocks) (upto : ℕ) (old now : Disk) : Type 0 where
  pub spares : Spares (IsUsed b) old now
  pub cleared : (file : ℕ) → 2 ≤ file → file < upto → has_block b file ≡ false → IsCleared old now file
  pub ahead : (file : ℕ) → upto ≤ file → Rests file old now

pub cleared_first : (b : Blocks) (old now : Disk) → Quiet old now → AreClearedBelow b 2 old now
cleared_first b old now still = record {
  spares = spares_quiet (IsUsed b) old now still;
  cleared = λ file high low free. absurd (omega (arith, high, low));
  ahead = λ file behind. rests_quiet file old now still;
}

pub cleared_more : (b : Blocks) (file : ℕ) (old mid new : Disk) → AreClearedBelow b file old mid → (has_block b file ≡ false → IsCleared mid new file) → Spares (IsUsed b) mid new
    → ((other : ℕ) → other ≢ file → Rests other mid new) → AreClearedBelow b (file + 1) old new
cleared_more b file old mid new so_far here spares elsewhere = record {
  spares = spares_then (IsUsed b) old mid new so_far.spares spares;
  cleared = cleared;
  ahead = λ other behind. rests_on other old mid new (so_far.ahead other (omega (arith, behind))) (elsewhere other (λ same. omega (arith, behind, same)));
}
  where
    now : has_block b file ≡ false → IsCleared old new file
    now free =
        let rests = so_far.ahead file (omega arith) in
        record { empty = (here free).empty; durable = λ some. (here free).durable (λ none. some (sym rests.seen ∙ none)) }

    before : (other : ℕ) → other ≢ file → IsCleared old mid other → IsCleared old new other
    before other ne is =
        let rests = elsewhere other ne in
        record { empty = rests.seen ∙ is.empty; durable = λ some bytes left. is.durable some bytes (rests.leaves bytes left) ∙ sym rests.seen }

    cleared : (other : ℕ) → 2 ≤ other → other < file + 1 → has_block b other ≡ false → IsCleared old new other
    cleared other high low free = elim (cases_eq other file) [
      | inl same ↦ subst (IsCleared old new) (sym same) (now (subst (λ (n : ℕ). has_block b n ≡ false) same free))
      | inr ne ↦ before other ne (so_far.cleared other high (omega (arith, low, ne)) free)
    ]

-- behind the last file with bytes all are empty
pub cleared_all : (b : Blocks) (end upto : ℕ) (old entry now : Disk) → IsHonest entry → Quiet old entry → IsLeftBelow end entry → min end 65536 ≤ upto → AreClearedBelow b upto old now → AreCleared b old now
cleared_all b end upto old entry now honest still left all is file could free = elim (reached upto file) [
  | inl low ↦ is.cleared file could.low low free
  | inr behind ↦
      let none = empty_behind old entry end file honest still left (omega (arith, all, behind, could.high)) in
      record { empty = (is.spares.empty file none).seen ∙ none; durable = λ some. absurd (some none) }
]
  where
    reached : (upto file : ℕ) → (file < upto) ⊎ (upto ≤ file)
    reached upto file = grind arith

-- behind calls on a log
pub cleared_behind : (b : Blocks) (log : ℕ) (old mid new : Disk) → log < 2 → RestsBut log old mid → AreCleared b mid new → AreCleared b old new
cleared_behind b log old mid new low rests all file could free =
    let is = all file could free in
    let same = (rests file (λ is_log. omega (arith, is_log, low, could.low))).seen in
    record { empty = is.empty; durable = λ some. is.durable (λ none. some (sym same ∙ none)) }

-- an opening that clears
pub cleared_opening : (b : Blocks) (old mid new : Disk) → RestsBut 0 old mid → AreCleared b mid new → AreCleared b old new
cleared_opening b old mid new = cleared_behind b 0 old mid new (omega arith)

-- ---- what the volume holds

pub keeps_base : (store : StoreState) (base : Durable) (old new : Disk) → Spares (IsUsed store.blocks) old new → IsBaseOf store.log store.blocks base old → IsBaseOf store.log store.blocks base new
keeps_base store base old new spares is = base_spared store.log store.blocks base old new is spares.used

pub leaves_base : (store : StoreState) (base : Durable) (old new : Disk) → Spares (IsUsed store.blocks) old new → IsBaseOf store.log store.blocks base old → LeavesOnly old new (λ image. Holds image base)
leaves_base store base old new spares is = spared_leaves store.log store.blocks base old new is spares.any_moment

pub held_cleared : (store : StoreState) (base : Durable) (old mid new : Disk) → Holds old.seen base → KeepsHeld old mid → LeavesOnly mid new (λ image. Holds image base) → KeepsHeld old new
held_cleared store base old mid new found opens leaves d seen all =
    let same : d ≡ base = holds_same old.seen d base seen found in
    joined old mid new (λ image. Holds image d) (λ image. Holds image base) (opens d seen all) leaves (λ image h. subst (Holds image) (sym same) h)
