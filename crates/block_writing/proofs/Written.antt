-- Runs that were written one after the other, and blocks that were dropped.
use Rattle.std.proofs.Common.{◌≡◌, ◌≢◌, ◌≤◌, ◌<◌, ◌⊎◌, inl, inr, ℕ, suc, ◌+◌, ◌&&◌, ◌||◌, ◌==◌, Bool, true, false, not, List, [], ◌∷◌, ◌++◌, All, length, take, drop, get_or, refl, sym, ap, subst, ◌∙◌, arith, take-append-drop, drop-cons}
use Rattle.std.specs.Io.{StartsWith}
use Rattle.std.proofs.lemmas.Bool.{cases_eq, true≢false, and_from, and_parts, eq-eqb, ne_eqb}
use Rattle.std.proofs.lemmas.List.{take_more, take_all}
use Rattle.std.proofs.lemmas.List.Elements.{All-nil, All-cons, All-head, All-tail, All-push, All-weaker, All-append}
use Rattle.std.proofs.lemmas.List.Folds.{list_any_at, list_any-append}
use Rattle.js_base.specs.Bytes.{Bytes}
use Rattle.vol_disk.specs.Disk.{Disk, Files}
use Rattle.vol_disk.specs.Does.{Rests}
use Rattle.vol_disk.specs.Images.{IsDurable}
use Rattle.vol_disk.specs.Clock.{IsClocked}
use Rattle.vol_disk.specs.Moments.{LeavesOnly, Elsewhere}
use Rattle.vol_disk.proofs.Moments as moments
use Rattle.message_block.specs.Standing.{Stands}
use Rattle.message_block.specs.Changing.{ChangesFrom, ChangesOnly}
use Rattle.message_block.proofs.Standing.{stands_at_rest}
use Rattle.block_table.specs.declared.block.Block.{Block}
use Rattle.block_table.specs.Blocks.{Blocks, has_block, is_among}
use Rattle.block_writing.specs.declared.run.Run.{Run}
use Rattle.block_writing.specs.Runs.{AreApart}
use Rattle.block_writing.specs.Writing.{IsWithin, AreWithin, AreAsLong, IsUntouched, IsInFront, AreKept, ChangesRuns, IsWritten}
use Rattle.block_writing.specs.Dropping.{is_unused, AreUsedKept, ChangesUnused, IsEmptied, AreEmptied}
use Rattle.block_writing.proofs.Messages.{all_front, all_last}

-- ---- parts of lists

module _ {X : Type 0} where
  pub parts : (xs : List X) (i : ℕ) (x : X) → i < length xs → x ≡ get_or xs i x → take i xs ++ (x ∷ drop (suc i) xs) ≡ xs
  parts xs i x within is =
      ap (λ (y : X). take i xs ++ (y ∷ drop (suc i) xs)) is ∙ ap (λ (l : List X). take i xs ++ l) (sym (drop-cons xs i x within)) ∙ take-append-drop i xs

  pub one_more : (xs : List X) (i : ℕ) (x : X) → i < length xs → x ≡ get_or xs i x → take (i + 1) xs ≡ take i xs ++ x ∷ []
  one_more xs i x within is = take_more xs i x within ∙ ap (λ (y : X). take i xs ++ y ∷ []) (sym is)

  -- what holds of more holds of the first ones
  pub all_first : (P : X → Type 0) (xs ys : List X) → All P (xs ++ ys) → All P xs
  all_first P [] ys h = All-nil P
  all_first P (x ∷ xs) ys h = All-cons P x xs (All-head P x (xs ++ ys) h) (all_first P xs ys (All-tail P x (xs ++ ys) h))

  pub all_there : (P : X → Type 0) (xs : List X) (y : X) (ys : List X) → All P (xs ++ y ∷ ys) → P y
  all_there P [] y ys h = All-head P y ys h
  all_there P (x ∷ xs) y ys h = all_there P xs y ys (All-tail P x (xs ++ y ∷ ys) h)

pub apart_before : (xs : List Run) (r : Run) (ys : List Run) → AreApart (xs ++ r ∷ ys) → All (λ run. run.file ≢ r.file) xs
apart_before [] r ys h = All-nil (λ (run : Run). run.file ≢ r.file)
apart_before (x ∷ xs) r ys h =
    All-cons (λ (run : Run). run.file ≢ r.file) x xs (λ is. all_there (λ (other : Run). other.file ≢ x.file) xs r ys h.0 (sym is)) (apart_before xs r ys h.1)

-- ---- runs

pub none_changed : (disk : Disk) → IsClocked disk → ChangesRuns [] disk disk
none_changed disk clocked = record {
  elsewhere = λ file untouched. record { seen = refl; leaves = λ bytes left. left };
  stands = λ file front before stands. stands;
  any_moment = λ fronts before stand. moments.started disk (AreKept [] fronts disk) clocked (λ image left. record { front = λ file. (stand file).left (image file) (left.left file); untouched = λ file none. left.left file });
}

-- more runs say less
pub more_changed : (xs ys : List Run) (old new : Disk) → ChangesRuns xs old new → ChangesRuns (xs ++ ys) old new
more_changed xs ys old new h = record {
  elsewhere = λ file untouched. h.elsewhere file (all_first (λ (run : Run). run.file ≢ file) xs ys untouched);
  stands = λ file front before stands. h.stands file front (all_first (λ (run : Run). run.file ≡ file → length front ≤ run.at) xs ys before) stands;
  any_moment = λ fronts before stand.
      moments.widened old new (AreKept (xs ++ ys) fronts old) (AreKept xs fronts old)
      (h.any_moment fronts (λ file. all_first (λ (run : Run). run.file ≡ file → length (fronts file) ≤ run.at) xs ys (before file)) stand)
      (λ image kept. record { front = kept.front; untouched = λ file untouched. kept.untouched file (all_first (λ (run : Run). run.file ≢ file) xs ys untouched) });
}

module _ (xs : List Run) (run : Run) (old mid new : Disk) (so_far : ChangesRuns xs old mid) (changes : ChangesFrom run.file run.at mid new) where
  elsewhere : (file : ℕ) → IsUntouched (xs ++ run ∷ []) file → Rests file old new
  elsewhere file untouched =
      moments.rests_on file old mid new (so_far.elsewhere file (all_front (λ (r : Run). r.file ≢ file) xs run untouched))
      (changes.elsewhere file (λ is. all_last (λ (r : Run). r.file ≢ file) xs run untouched (sym is)))

  stands : (file : ℕ) (front : Bytes) → IsInFront (xs ++ run ∷ []) file (length front) → Stands old file front → Stands new file front
  stands file front before st = go (cases_eq file run.file)
    where
      there : Stands mid file front
      there = so_far.stands file front (all_front (λ (r : Run). r.file ≡ file → length front ≤ r.at) xs run before) st

      go : (file ≡ run.file) ⊎ (file ≢ run.file) → Stands new file front
      go (inl is) =
          subst (λ (f : ℕ). Stands new f front) (sym is)
          (changes.stands front (all_last (λ (r : Run). r.file ≡ file → length front ≤ r.at) xs run before (sym is)) (subst (λ (f : ℕ). Stands mid f front) is there))
      go (inr ne) = stands_at_rest file mid new front (changes.elsewhere file ne) there

  any_moment : (fronts : ℕ → Bytes) → ((file : ℕ) → IsInFront (xs ++ run ∷ []) file (length (fronts file))) → ((file : ℕ) → Stands old file (fronts file)) → LeavesOnly old new (AreKept (xs ++ run ∷ []) fronts old)
  any_moment fronts before stand =
      moments.joined old mid new (AreKept (xs ++ run ∷ []) fronts old) (λ image. StartsWith (image run.file) (fronts run.file) × Elsewhere run.file mid image)
      ((more_changed xs (run ∷ []) old mid so_far).any_moment fronts before stand)
      (changes.any_moment (fronts run.file) (all_last (λ (r : Run). r.file ≡ run.file → length (fronts run.file) ≤ r.at) xs run (before run.file) refl) (stood run.file))
      kept
    where
      stood : (file : ℕ) → Stands mid file (fronts file)
      stood file = so_far.stands file (fronts file) (all_front (λ (r : Run). r.file ≡ file → length (fronts file) ≤ r.at) xs run (before file)) (stand file)

      kept : (image : Files) → StartsWith (image run.file) (fronts run.file) × Elsewhere run.file mid image → AreKept (xs ++ run ∷ []) fronts old image
      kept image h = record { front = front; untouched = untouched }
        where
          front : (file : ℕ) → StartsWith (image file) (fronts file)
          front file = elim (cases_eq file run.file) [
            | inl is ↦ subst (λ (f : ℕ). StartsWith (image f) (fronts f)) (sym is) h.0
            | inr ne ↦ (stood file).left (image file) (h.1 file ne)
          ]

          untouched : (file : ℕ) → IsUntouched (xs ++ run ∷ []) file → old.leaves file (image file)
          untouched file none =
              (so_far.elsewhere file (all_front (λ (r : Run). r.file ≢ file) xs run none)).leaves (image file)
              (h.1 file (λ is. all_last (λ (r : Run). r.file ≢ file) xs run none (sym is)))

  pub one_changed : ChangesRuns (xs ++ run ∷ []) old new
  one_changed = record { elsewhere = elsewhere; stands = stands; any_moment = any_moment }

-- what was written stands behind a run of another file
pub written_on : (xs : List Run) (run : Run) (old mid new : Disk) → ChangesFrom run.file run.at mid new → All (λ r. r.file ≢ run.file) xs → All (IsWritten old mid) xs → All (IsWritten old new) xs
written_on [] run old mid new changes ne h = All-nil (IsWritten old new)
written_on (x ∷ xs) run old mid new changes ne h =
    All-cons (IsWritten old new) x xs
    (stands_at_rest x.file mid new (take x.at (old.seen x.file) ++ x.bytes) (changes.elsewhere x.file (All-head (λ (r : Run). r.file ≢ run.file) x xs ne)) (All-head (IsWritten old mid) x xs h))
    (written_on xs run old mid new changes (All-tail (λ (r : Run). r.file ≢ run.file) x xs ne) (All-tail (IsWritten old mid) x xs h))

-- a write that leaves its file as long leaves them all so
pub stay_as_long : (file at : ℕ) (old mid new : Disk) → AreAsLong old mid → ChangesFrom file at mid new → length (new.seen file) ≡ length (mid.seen file) → AreAsLong old new
stay_as_long file at old mid new so_far changes same other = go (cases_eq other file)
  where
    go : (other ≡ file) ⊎ (other ≢ file) → length (new.seen other) ≡ length (old.seen other)
    go (inl is) = subst (λ (f : ℕ). length (new.seen f) ≡ length (mid.seen f)) (sym is) same ∙ so_far other
    go (inr ne) = ap length (changes.elsewhere other ne).seen ∙ so_far other

-- ---- as they are written

pub record AreWrittenSo (runs : List Run) (i : ℕ) (old now : Disk) : Type 0 where
  pub changes : ChangesRuns (take i runs) old now
  pub written : All (IsWritten old now) (take i runs)

module _ (runs : List Run) (i : ℕ) (run : Run) (old mid : Disk) (within : i < length runs) (is : run ≡ get_or runs i run) (apart : AreApart runs) (so_far : AreWrittenSo runs i old mid) where
  before : All (λ r. r.file ≢ run.file) (take i runs)
  before = apart_before (take i runs) run (drop (suc i) runs) (subst AreApart (sym (parts runs i run within is)) apart)

  -- its file is as it was
  pub rests : Rests run.file old mid
  rests = so_far.changes.elsewhere run.file before

  pub ends_within : AreWithin old runs → run.at + length run.bytes ≤ length (mid.seen run.file)
  ends_within h =
      let one = all_there (IsWithin old) (take i runs) run (drop (suc i) runs) (subst (AreWithin old) (sym (parts runs i run within is)) h) in
      subst (λ (l : Bytes). run.at + length run.bytes ≤ length l) (sym rests.seen) one

  pub failed : (new : Disk) → ChangesFrom run.file run.at mid new → ChangesRuns runs old new
  failed new changes =
      subst (λ (l : List Run). ChangesRuns l old new) (joined (take i runs) (drop (suc i) runs) ∙ parts runs i run within is)
      (more_changed (take i runs ++ run ∷ []) (drop (suc i) runs) old new (one_changed (take i runs) run old mid new so_far.changes changes))
    where
      joined : (xs ys : List Run) → (xs ++ run ∷ []) ++ ys ≡ xs ++ (run ∷ ys)
      joined [] ys = refl
      joined (x ∷ xs) ys = ap (λ (l : List Run). x ∷ l) (joined xs ys)

  pub wrote : (new : Disk) → ChangesFrom run.file run.at mid new → Stands new run.file (take run.at (mid.seen run.file) ++ run.bytes) → AreWrittenSo runs (i + 1) old new
  wrote new changes there =
      let more = sym (one_more runs i run within is) in
      record {
        changes = subst (λ (l : List Run). ChangesRuns l old new) more (one_changed (take i runs) run old mid new so_far.changes changes);
        written = subst (All (IsWritten old new)) more (All-push (IsWritten old new) (take i runs) run (written_on (take i runs) run old mid new changes before so_far.written)
            (subst (λ (l : Bytes). Stands new run.file (take run.at l ++ run.bytes)) rests.seen there));
      }

-- ---- blocks

pub none_dropped : (b : Blocks) (ks : List Block) (disk : Disk) → IsClocked disk → ChangesUnused b ks disk disk
none_dropped b ks disk clocked = record {
  elsewhere = λ file used. record { seen = refl; leaves = λ bytes left. left };
  any_moment = moments.started disk (AreUsedKept b ks disk) clocked (λ image left file used. left.left file);
}

pub one_dropped : (b : Blocks) (ks : List Block) (i : ℕ) (d : Block) (old mid new : Disk) → i < length ks → has_block b (get_or ks i d).file ≡ false →
    ChangesUnused b ks old mid → ChangesOnly (get_or ks i d).file mid new → ChangesUnused b ks old new
one_dropped b ks i d old mid new within free so_far changes = record {
  elsewhere = λ file used. moments.rests_on file old mid new (so_far.elsewhere file used) (changes.elsewhere file (other file used));
  any_moment = moments.joined old mid new (AreUsedKept b ks old) (Elsewhere (get_or ks i d).file mid) so_far.any_moment changes.any_moment
      (λ image h file used. (so_far.elsewhere file used).leaves (image file) (h file (other file used)));
}
  where
    unused : is_unused b ks (get_or ks i d).file ≡ true
    unused =
        and_from (is_among ks (get_or ks i d).file) (not (has_block b (get_or ks i d).file))
        (list_any_at (λ (x : Block). x.file == (get_or ks i d).file) ks i d within (eq-eqb (get_or ks i d).file (get_or ks i d).file refl))
        (ap not free)

    other : (file : ℕ) → is_unused b ks file ≡ false → file ≢ (get_or ks i d).file
    other file used same = true≢false (sym unused ∙ sym (ap (is_unused b ks) same) ∙ used)

-- ---- blocks that are emptied

pub none_emptied : (b : Blocks) (disk : Disk) → AreEmptied b [] disk
none_emptied b disk file unused = absurd (true≢false (sym unused))

module _ (b : Blocks) (ks : List Block) (k : Block) (file : ℕ) where
  -- an unused one of these is among the first of them, or it is the last
  unused_before : is_unused b (ks ++ k ∷ []) file ≡ true → file ≢ k.file → is_unused b ks file ≡ true
  unused_before unused ne =
      let p = and_parts (is_among (ks ++ k ∷ []) file) (not (has_block b file)) unused in
      and_from (is_among ks file) (not (has_block b file)) (first (is_among ks file) (sym (list_any-append (λ (x : Block). x.file == file) ks (k ∷ [])) ∙ p.0)) p.1
    where
      first : (t : Bool) → (t || (k.file == file || false)) ≡ true → t ≡ true
      first true h = refl
      first false h = absurd (true≢false (sym h ∙ ap (λ (t : Bool). t || false) (ne_eqb k.file file (λ is. ne (sym is)))))

  unused_has : is_unused b ks file ≡ true → has_block b file ≡ true → ⊥
  unused_has unused has = true≢false (sym (and_parts (is_among ks file) (not (has_block b file)) unused).1 ∙ ap not has)

pub emptied_still : (disk new : Disk) (file : ℕ) → Rests file disk new → IsEmptied disk file → IsEmptied new file
emptied_still disk new file rests e = record { empty = rests.seen ∙ e.empty; durable = λ bytes left. e.durable bytes (rests.leaves bytes left) ∙ sym rests.seen }

module _ (b : Blocks) (ks : List Block) (i : ℕ) (d : Block) (within : i < length ks) where
  -- the next one is emptied
  pub emptied_more : (mid new : Disk) → AreEmptied b (take i ks) mid → ChangesOnly (get_or ks i d).file mid new → new.seen (get_or ks i d).file ≡ [] → IsDurable new (get_or ks i d).file
      → AreEmptied b (take (i + 1) ks) new
  emptied_more mid new so_far changes empty durable file unused = go (cases_eq file (get_or ks i d).file)
    where
      go : (file ≡ (get_or ks i d).file) ⊎ (file ≢ (get_or ks i d).file) → IsEmptied new file
      go (inl is) = subst (IsEmptied new) (sym is) (record { empty = empty; durable = durable })
      go (inr ne) =
          emptied_still mid new file (changes.elsewhere file ne)
          (so_far file (unused_before b (take i ks) (get_or ks i d) file (subst (λ (l : List Block). is_unused b l file ≡ true) (take_more ks i d within) unused) ne))

  -- it is a block of the table
  pub emptied_on : (disk : Disk) → AreEmptied b (take i ks) disk → has_block b (get_or ks i d).file ≡ true → AreEmptied b (take (i + 1) ks) disk
  emptied_on disk so_far has file unused = go (cases_eq file (get_or ks i d).file)
    where
      go : (file ≡ (get_or ks i d).file) ⊎ (file ≢ (get_or ks i d).file) → IsEmptied disk file
      go (inl is) = absurd (unused_has b (take (i + 1) ks) (get_or ks i d) file unused (subst (λ (n : ℕ). has_block b n ≡ true) (sym is) has))
      go (inr ne) = so_far file (unused_before b (take i ks) (get_or ks i d) file (subst (λ (l : List Block). is_unused b l file ≡ true) (take_more ks i d within) unused) ne)

pub emptied_all : (b : Blocks) (ks : List Block) (i : ℕ) (disk : Disk) → length ks ≤ i → AreEmptied b (take i ks) disk → AreEmptied b ks disk
emptied_all b ks i disk past so_far file unused = so_far file (ap (λ (l : List Block). is_unused b l file) (take_all i ks past) ∙ unused)
