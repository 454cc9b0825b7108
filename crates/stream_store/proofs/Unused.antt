-- The files of blocks that a commit leaves without messages.
use Rattle.std.proofs.Common.{◌≡◌, ◌≢◌, ◌≤◌, inl, inr, ℕ, ◌==◌, ◌||◌, not, Bool, true, false, cond, List, [], ◌∷◌, ◌++◌, Option, Some, None, All, map, refl, sym, ap, subst, ◌∙◌}
use Rattle.std.specs.Prelude.{unwrap_or}
use Rattle.std.specs.Option.{option_to_list}
use Rattle.std.proofs.lemmas.Bool.{true≢false, eqb-true, eq-eqb, or_left, or_right, or_parts, and_from}
use Rattle.std.proofs.lemmas.List.Elements.{All-nil, All-cons, All-head, All-tail}
use Rattle.std.proofs.lemmas.List.Folds.{list_any-append}
use Rattle.vol_disk.specs.Disk.{Disk}
use Rattle.vol_disk.specs.Does.{Rests}
use Rattle.effects.specs.declared.effect.Effect.{Effect}
use Rattle.block_table.specs.declared.block.Block.{Block}
use Rattle.block_table.specs.declared.placed.Placed.{Placed}
use Rattle.block_table.specs.Blocks.{Blocks, blocks, has_block, is_among, is_used}
use Rattle.block_table.specs.Closing.{closed}
use Rattle.block_table.specs.Puts.{fits, put_at}
use Rattle.block_table.specs.Tables.{IsTable}
use Rattle.block_table.proofs.Closing.{law_closed}
use Rattle.block_table.proofs.Tables.{block_is, table_put, used_more}
use Rattle.block_writing.specs.declared.run.Run.{Run}
use Rattle.block_writing.specs.Dropping.{is_unused, IsEmptied}
use Rattle.block_writing.specs.Planning.{Planned}
use Rattle.block_writing.specs.Writing.{IsUntouched}
use Rattle.stream_store.specs.Committing.{EmptiesUnused, touches, writes_in}
use Rattle.stream_store.specs.Staging.{AreBehindLogs, HasDropped, IsPrepared, block_of, blocks_of, is_written}
use Rattle.stream_store.specs.Steps.{takes_away, with_steps}
use Rattle.stream_store.specs.StoreState.{StoreState}
use Rattle.stream_store.specs.declared.staging.Staged.{Staged}
use Rattle.stream_store.specs.declared.steps.Step.{Step}
use Rattle.stream_store.specs.declared.steps.Step.TheVariants as step

-- ---- files

pub among_either : (xs ys : List Block) (file : ℕ) → is_among (xs ++ ys) file ≡ (is_among xs file || is_among ys file)
among_either xs ys file = list_any-append (λ (k : Block). k.file == file) xs ys

pub among_runs : (runs : List Run) (file : ℕ) → is_among (map block_of runs) file ≡ is_written runs file
among_runs [] file = refl
among_runs (run ∷ runs) file = ap (λ (t : Bool). (run.file == file) || t) (among_runs runs file)

pub untouched : (runs : List Run) (file : ℕ) → is_written runs file ≡ false → IsUntouched runs file
untouched [] file none = All-nil (λ (run : Run). run.file ≢ file)
untouched (run ∷ runs) file none =
    let parts = or_parts (run.file == file) (is_written runs file) none in
    All-cons (λ (run : Run). run.file ≢ file) run runs (λ is. true≢false (sym (eq-eqb run.file file is) ∙ parts.0)) (untouched runs file parts.1)

pub behind_among : (ks : List Block) (file : ℕ) → AreBehindLogs ks → is_among ks file ≡ true → 2 ≤ file
behind_among [] file h is = absurd (true≢false (sym is))
behind_among (k ∷ ks) file h is = go (behind_among ks file (All-tail (λ (k : Block). 2 ≤ k.file) k ks h)) (k.file == file) refl is
  where
    go : (is_among ks file ≡ true → 2 ≤ file) → (t : Bool) → (k.file == file) ≡ t → (t || is_among ks file) ≡ true → 2 ≤ file
    go more true e there = subst (λ (n : ℕ). 2 ≤ n) (eqb-true k.file file e) (All-head (λ (k : Block). 2 ≤ k.file) k ks h)
    go more false e there = more there

-- ---- a block that holds a message is one as long as none goes

used_block : (b : Blocks) (file : ℕ) → IsTable b → is_used b.placed file ≡ true → has_block b file ≡ true
used_block b file table used = go (is_among (option_to_list b.writing) file) refl
  where
    go : (t : Bool) → is_among (option_to_list b.writing) file ≡ t → has_block b file ≡ true
    go true e = among_either b.older (option_to_list b.writing) file ∙ or_right (is_among b.older file) (is_among (option_to_list b.writing) file) e
    go false e = sym (block_is b file table e) ∙ used

older_used : (ps : List Placed) (ks : List Block) (file : ℕ) → All (λ k. is_used ps k.file ≡ true) ks → is_among ks file ≡ true → is_used ps file ≡ true
older_used ps [] file h is = absurd (true≢false (sym is))
older_used ps (k ∷ ks) file h is = go (older_used ps ks file (All-tail (λ (k : Block). is_used ps k.file ≡ true) k ks h)) (k.file == file) refl is
  where
    go : (is_among ks file ≡ true → is_used ps file ≡ true) → (t : Bool) → (k.file == file) ≡ t → (t || is_among ks file) ≡ true → is_used ps file ≡ true
    go more true e there = subst (λ (n : ℕ). is_used ps n ≡ true) (eqb-true k.file file e) (All-head (λ (k : Block). is_used ps k.file ≡ true) k ks h)
    go more false e there = more there

none_goes : (steps : List Step) (b : Blocks) (file : ℕ) → takes_away steps ≡ false → IsTable b → is_used b.placed file ≡ true → has_block (with_steps steps b) file ≡ true
none_goes [] b file none table used = used_block b file table used
none_goes (step.Put seq spot ∷ steps) b file none table used =
    go (λ e. none_goes steps (put_at seq spot b) file none (table_put seq spot b table e) (used_more seq spot b.placed file used)) (none_goes steps b file none table used)
    (fits seq spot b) refl
  where
    go : (fits seq spot b ≡ true → has_block (with_steps steps (put_at seq spot b)) file ≡ true) → has_block (with_steps steps b) file ≡ true
        → (f : Bool) → fits seq spot b ≡ f → has_block (with_steps steps (unwrap_or (cond f (Some (put_at seq spot b)) None) b)) file ≡ true
    go was_put was_not true e = was_put e
    go was_put was_not false e = was_not
none_goes (step.Remove low high ∷ steps) b file none table used = absurd (true≢false none)
none_goes (step.Clear ∷ steps) b file none table used = absurd (true≢false none)
none_goes (step.Close ∷ steps) b file none table used = none_goes steps (closed b) file none (law_closed.table b table) used

-- ---- what is staged

module _ (b : Blocks) (steps : List Step) (runs : List Run) (all : Bool) (all_is : all ≡ takes_away steps) (file : ℕ) where
  abbrev listed : List Block
  listed = blocks_of all b ++ map block_of runs

  listed_is : is_among listed file ≡ (is_among (blocks_of all b) file || is_written runs file)
  listed_is = among_either (blocks_of all b) (map block_of runs) file ∙ ap (λ (t : Bool). is_among (blocks_of all b) file || t) (among_runs runs file)

  blocks_listed : IsTable b → has_block b file ≡ true → has_block (with_steps steps b) file ≡ false → is_among (blocks_of all b) file ≡ true
  blocks_listed table has free = go all refl
    where
      kept : takes_away steps ≡ false → (t : Bool) → is_among b.older file ≡ t → (t || is_among (option_to_list b.writing) file) ≡ true → is_among (option_to_list b.writing) file ≡ true
      kept none true e there = absurd (true≢false (sym (none_goes steps b file none table (older_used b.placed b.older file table.held e)) ∙ free))
      kept none false e there = there

      go : (t : Bool) → all ≡ t → is_among (cond t (blocks b) (option_to_list b.writing)) file ≡ true
      go true e = has
      go false e = kept (sym all_is ∙ e) (is_among b.older file) refl (sym (among_either b.older (option_to_list b.writing) file) ∙ has)

  pub left_listed : IsTable b → has_block b file ≡ true → has_block (with_steps steps b) file ≡ false → is_among listed file ≡ true
  left_listed table has free = listed_is ∙ or_left (is_among (blocks_of all b) file) (is_written runs file) (blocks_listed table has free)

  pub begun_listed : is_written runs file ≡ true → is_among listed file ≡ true
  begun_listed there = listed_is ∙ or_right (is_among (blocks_of all b) file) (is_written runs file) there

  pub only_listed : is_among listed file ≡ true → (has_block b file || is_written runs file) ≡ true
  only_listed there = go (is_among (blocks_of all b) file) refl (sym listed_is ∙ there)
    where
      has : (t : Bool) → is_among (cond t (blocks b) (option_to_list b.writing)) file ≡ true → has_block b file ≡ true
      has true e = e
      has false e = among_either b.older (option_to_list b.writing) file ∙ or_right (is_among b.older file) (is_among (option_to_list b.writing) file) e

      go : (t : Bool) → is_among (blocks_of all b) file ≡ t → (t || is_written runs file) ≡ true → (has_block b file || is_written runs file) ≡ true
      go true e or = or_left (has_block b file) (is_written runs file) (has all e)
      go false e or = or_right (has_block b file) (is_written runs file) or

-- ---- what is cut behind the commit

module _ (b : Blocks) (es : List Effect) (staged : Staged) (s : IsPrepared b es staged) (file : ℕ) where
  touched_is : touches b es file ≡ (has_block b file || is_written staged.runs.items file)
  touched_is =
      ap (λ (o : Option Planned). has_block b file || writes_in o file) s.planned.made_is
      ∙ ap (λ (l : List Run). has_block b file || is_written l file) (sym s.runs)

  named : touches b es file ≡ true → has_block (with_steps staged.steps.items b) file ≡ false → is_among staged.blocks.items file ≡ true
  named touched free = go (has_block b file) refl (sym touched_is ∙ touched)
    where
      go : (t : Bool) → has_block b file ≡ t → (t || is_written staged.runs.items file) ≡ true → is_among staged.blocks.items file ≡ true
      go true e or = s.left file e free
      go false e or = s.begun file or

  named_only : is_among staged.blocks.items file ≡ true → touches b es file ≡ true
  named_only there = touched_is ∙ s.only file there

  not_named : touches b es file ≡ false → is_among staged.blocks.items file ≡ false
  not_named none = go (is_among staged.blocks.items file) refl
    where
      go : (t : Bool) → is_among staged.blocks.items file ≡ t → t ≡ false
      go true e = absurd (true≢false (sym (named_only e) ∙ none))
      go false e = refl

  not_written : touches b es file ≡ false → is_written staged.runs.items file ≡ false
  not_written none = (or_parts (has_block b file) (is_written staged.runs.items file) (sym touched_is ∙ none)).1

pub rests_after : (file : ℕ) (old mid new : Disk) → Rests file old mid → Rests file mid new → Rests file old new
rests_after file old mid new first second = record { seen = second.seen ∙ first.seen; leaves = λ bytes left. first.leaves bytes (second.leaves bytes left) }

-- what was to be cut already, and what the commit may leave without messages
module _ (store after : StoreState) (es : List Effect) (staged : Staged) (s : IsPrepared store.blocks es staged) (after_is : after.blocks ≡ with_steps staged.steps.items store.blocks) (ks : List Block)
    (ks_are : ks ≡ store.unused ++ staged.blocks.items) (old mid new : Disk) (written : (file : ℕ) → 2 ≤ file → is_written staged.runs.items file ≡ false → Rests file old mid)
    (dropped : HasDropped after.blocks ks after.unused new) (others : (file : ℕ) → is_among ks file ≡ false → Rests file mid new) where
  among_is : (file : ℕ) → is_among ks file ≡ (is_among store.unused file || is_among staged.blocks.items file)
  among_is file = ap (λ (l : List Block). is_among l file) ks_are ∙ among_either store.unused staged.blocks.items file

  unused_both : (b : Blocks) (file : ℕ) → is_among ks file ≡ true → has_block b file ≡ false → is_unused b ks file ≡ true
  unused_both b file among free = and_from (is_among ks file) (not (has_block b file)) among (ap not free)

  -- each file that is no block now was listed
  was_listed : (file : ℕ) → (touches store.blocks es file || is_among store.unused file) ≡ true → has_block after.blocks file ≡ false → is_among ks file ≡ true
  was_listed file any free = among_is file ∙ go (touches store.blocks es file) refl any
    where
      go : (t : Bool) → touches store.blocks es file ≡ t → (t || is_among store.unused file) ≡ true → (is_among store.unused file || is_among staged.blocks.items file) ≡ true
      go true e or = or_right (is_among store.unused file) (is_among staged.blocks.items file) (named store.blocks es staged s file e (ap (λ (b : Blocks). has_block b file) (sym after_is) ∙ free))
      go false e or = or_left (is_among store.unused file) (is_among staged.blocks.items file) or

  emptied : (file : ℕ) → (touches store.blocks es file || is_among store.unused file) ≡ true → has_block after.blocks file ≡ false → is_among after.unused file ≡ false → IsEmptied new file
  emptied file any free done = go dropped
    where
      there : is_among ks file ≡ true
      there = was_listed file any free

      go : HasDropped after.blocks ks after.unused new → IsEmptied new file
      go (inl (none, all)) = all file (unused_both after.blocks file there free)
      go (inr same) = absurd (true≢false (sym there ∙ sym (ap (λ (l : List Block). is_among l file) same) ∙ done))

  late : (file : ℕ) → is_among after.unused file ≡ true → (touches store.blocks es file || is_among store.unused file) ≡ true
  late file there = go dropped
    where
      of_either : (t : Bool) → is_among store.unused file ≡ t → (t || is_among staged.blocks.items file) ≡ true → (touches store.blocks es file || is_among store.unused file) ≡ true
      of_either true e or = or_right (touches store.blocks es file) (is_among store.unused file) e
      of_either false e or = or_left (touches store.blocks es file) (is_among store.unused file) (named_only store.blocks es staged s file or)

      go : HasDropped after.blocks ks after.unused new → (touches store.blocks es file || is_among store.unused file) ≡ true
      go (inl (none, all)) = absurd (true≢false (sym there ∙ ap (λ (l : List Block). is_among l file) none))
      go (inr same) = of_either (is_among store.unused file) refl (sym (among_is file) ∙ sym (ap (λ (l : List Block). is_among l file) same) ∙ there)

  elsewhere : (file : ℕ) → 2 ≤ file → touches store.blocks es file ≡ false → is_among store.unused file ≡ false → Rests file old new
  elsewhere file high none kept =
      rests_after file old mid new (written file high (not_written store.blocks es staged s file none))
      (others file (among_is file ∙ ap (λ (t : Bool). t || is_among staged.blocks.items file) kept ∙ not_named store.blocks es staged s file none))

  pub empties : EmptiesUnused store after es old new
  empties = record { emptied = emptied; late = late; elsewhere = elsewhere }
