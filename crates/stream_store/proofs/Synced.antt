-- Files of blocks that were synced, one after the other.
use Rattle.std.proofs.Common.{◌≡◌, ◌≤◌, ◌<◌, ℕ, ◌+◌, ◌==◌, ◌||◌, Bool, true, false, List, [], ◌∷◌, ◌++◌, Option, Some, None, get_or, take, length, refl, sym, ap, subst, ◌∙◌}
use Rattle.std.specs.Option.{option_to_list}
use Rattle.std.proofs.lemmas.Bool.{true≢false, eqb-true}
use Rattle.std.proofs.lemmas.List.{take_more, take_all}
use Rattle.std.proofs.lemmas.List.Folds.{list_any-append}
use Rattle.vol_disk.specs.Clock.{IsClocked}
use Rattle.vol_disk.specs.Disk.{Disk}
use Rattle.vol_disk.specs.Does.{Does}
use Rattle.vol_disk.specs.Images.{IsDurable}
use Rattle.vol_disk.specs.Steps.{Kept}
use Rattle.vol_disk.specs.Moments.{Quiet}
use Rattle.vol_disk.proofs.Moments.{quiet, quiet_durable, quiet_on}
use Rattle.block_table.specs.declared.block.Block.{Block}
use Rattle.block_table.specs.Blocks.{Blocks, blocks, is_among}
use Rattle.stream_store.specs.Reading.{AreSynced}

pub synced_none : (disk : Disk) (file : ℕ) → is_among [] file ≡ true → IsDurable disk file
synced_none disk file is = absurd (true≢false (sym is))

-- a file that is among these, or the last one
among_push : (ks : List Block) (k : Block) (file : ℕ) → is_among (ks ++ k ∷ []) file ≡ (is_among ks file || (k.file == file || false))
among_push ks k file = list_any-append (λ (x : Block). x.file == file) ks (k ∷ [])

pub synced_one : (ks : List Block) (k : Block) (mid new : Disk) → IsClocked mid → ((file : ℕ) → is_among ks file ≡ true → IsDurable mid file) → Does k.file Kept mid new → new.seen k.file ≡ mid.seen k.file → IsDurable new k.file
    → (file : ℕ) → is_among (ks ++ k ∷ []) file ≡ true → IsDurable new file
synced_one ks k mid new clocked so_far does same durable file is = go (is_among ks file) refl (sym (among_push ks k file) ∙ is)
  where
    still : Quiet mid new
    still = quiet_on mid mid new k.file (quiet mid clocked) does same

    last : (t : Bool) → (k.file == file) ≡ t → (t || false) ≡ true → IsDurable new file
    last true e h = subst (IsDurable new) (eqb-true k.file file e) durable
    last false e h = absurd (true≢false (sym h))

    go : (t : Bool) → is_among ks file ≡ t → (t || (k.file == file || false)) ≡ true → IsDurable new file
    go true e h = quiet_durable mid new file still (so_far file e)
    go false e h = last (k.file == file) refl h

pub synced_more : (ks : List Block) (i : ℕ) (d : Block) (mid new : Disk) → i < length ks → IsClocked mid → ((file : ℕ) → is_among (take i ks) file ≡ true → IsDurable mid file) → Does (get_or ks i d).file Kept mid new
    → new.seen (get_or ks i d).file ≡ mid.seen (get_or ks i d).file → IsDurable new (get_or ks i d).file → (file : ℕ) → is_among (take (i + 1) ks) file ≡ true → IsDurable new file
synced_more ks i d mid new within clocked so_far does same durable file there =
    let more = take_more ks i d within in
    synced_one (take i ks) (get_or ks i d) mid new clocked so_far does same durable file (ap (λ (l : List Block). is_among l file) (sym more) ∙ there)

pub synced_all : (ks : List Block) (i : ℕ) (disk : Disk) → length ks ≤ i → ((file : ℕ) → is_among (take i ks) file ≡ true → IsDurable disk file) → (file : ℕ) → is_among ks file ≡ true → IsDurable disk file
synced_all ks i disk past so_far file is = so_far file (ap (λ (l : List Block). is_among l file) (take_all i ks past) ∙ is)

-- ---- a table's

pub synced_none_written : (b : Blocks) (disk : Disk) → b.writing ≡ None → ((file : ℕ) → is_among b.older file ≡ true → IsDurable disk file) → AreSynced b disk
synced_none_written b disk none older file is =
    let same : blocks b ≡ b.older = ap (λ (o : Option Block). b.older ++ option_to_list o) none ∙ append_none b.older in
    older file (ap (λ (l : List Block). is_among l file) (sym same) ∙ is)
  where
    append_none : (xs : List Block) → xs ++ [] ≡ xs
    append_none [] = refl
    append_none (x ∷ xs) = ap (λ (l : List Block). x ∷ l) (append_none xs)

pub synced_written : (b : Blocks) (k : Block) (mid new : Disk) → b.writing ≡ Some k → IsClocked mid → ((file : ℕ) → is_among b.older file ≡ true → IsDurable mid file) → Does k.file Kept mid new → new.seen k.file ≡ mid.seen k.file → IsDurable new k.file → AreSynced b new
synced_written b k mid new is clocked older does same durable file there =
    let all : blocks b ≡ b.older ++ k ∷ [] = ap (λ (o : Option Block). b.older ++ option_to_list o) is in
    synced_one b.older k mid new clocked older does same durable file (ap (λ (l : List Block). is_among l file) (sym all) ∙ there)
