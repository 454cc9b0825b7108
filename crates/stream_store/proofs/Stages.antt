-- What a commit is going to write.
use Rattle.std.proofs.Common.{◌≡◌, ◌≤◌, ◌<◌, ◌^◌, ◌↔◌, ℕ, ◌+◌, Bool, true, false, cond, List, [], ◌∷◌, ◌++◌, Some, None, IsTrue, All, get_or, take, length, map, sym, ap, ◌∙◌, arith}
use Rattle.std.specs.Prelude.{is_some}
use Rattle.std.specs.List.{flat_map}
use Rattle.std.specs.Option.{option_to_list}
use Rattle.std.proofs.lemmas.Bool.{true≢false}
use Rattle.std.proofs.lemmas.List.{append_assoc, map-append, take_more, take_all}
use Rattle.std.proofs.lemmas.List.Elements.{All-nil, All-cons, All-head, All-tail, All-append, All-weaker}
use Rattle.effects.specs.declared.effect.Effect.{Effect}
use Rattle.op_records.specs.Spelling.{spelled_record}
use Rattle.block_table.specs.declared.block.Block.{Block}
use Rattle.block_table.specs.Blocks.{Blocks, blocks}
use Rattle.block_table.specs.Placings.{placing}
use Rattle.block_table.specs.Tables.{IsFile, IsTable}
use Rattle.block_writing.specs.declared.run.Run.{Run}
use Rattle.block_writing.specs.Laws.{ArePlannedBy}
use Rattle.block_writing.specs.Planning.{Planned, begun, planned}
use Rattle.block_writing.proofs.Commits.{law_plans}
use Rattle.stream_store.specs.Committing.{batch_length}
use Rattle.stream_store.specs.Placing.{blocks_by, blocks_then, can_place, plan_of}
use Rattle.stream_store.specs.Staging.{AreBehindLogs, IsPrepared, IsStaged, block_of, blocks_of}
use Rattle.stream_store.specs.Steps.{with_steps}
use Rattle.stream_store.specs.declared.staging.Staged.{Staged}
use Rattle.stream_store.specs.declared.steps.Step.{Step}
use Rattle.stream_store.proofs.Folding.{all_length, goes_on_by}

-- ---- lists that are added to

pub pushed_block : (old now : List Block) (xs : List Block) (i : ℕ) (d : Block) → i < length xs → now ≡ (old ++ take i xs) ++ get_or xs i d ∷ [] → now ≡ old ++ take (i + 1) xs
pushed_block old now xs i d within pushed =
    pushed ∙ append_assoc old (take i xs) (get_or xs i d ∷ []) ∙ ap (λ (l : List Block). old ++ l) (sym (take_more xs i d within))

pub all_pushed : (old now : List Block) (xs : List Block) (i : ℕ) → length xs ≤ i → now ≡ old ++ take i xs → now ≡ old ++ xs
all_pushed old now xs i past so_far = so_far ∙ ap (λ (l : List Block). old ++ l) (take_all i xs past)

pub pushed_run : (old now : List Block) (runs : List Run) (i : ℕ) (r : Run) → i < length runs → r ≡ get_or runs i r → now ≡ (old ++ map block_of (take i runs)) ++ block_of r ∷ [] → now ≡ old ++ map block_of (take (i + 1) runs)
pushed_run old now runs i r within is pushed =
    pushed ∙ append_assoc old (map block_of (take i runs)) (block_of r ∷ [])
    ∙ ap (λ (l : List Block). old ++ l) (sym (map-append block_of (take i runs) (r ∷ [])) ∙ ap (map block_of) (ap (λ (x : Run). take i runs ++ x ∷ []) is ∙ sym (take_more runs i r within)))

pub all_runs_pushed : (old now : List Block) (runs : List Run) (i : ℕ) → length runs ≤ i → now ≡ old ++ map block_of (take i runs) → now ≡ old ++ map block_of runs
all_runs_pushed old now runs i past so_far = so_far ∙ ap (λ (l : List Run). old ++ map block_of l) (take_all i runs past)

-- ---- the plan

pub plan_length : (b : Blocks) (es : List Effect) (made : Planned) → plan_of b es ≡ Some made → length (flat_map spelled_record made.records) ≡ batch_length es
plan_length b es made is =
    let g = goes_on_by b es (begun b) made is in
    ap (λ l. length (flat_map spelled_record l)) g.records ∙ all_length b es (placing b) g.more made.placing g.next

-- there is a plan
pub not_without : (b : Blocks) (es : List Effect) → can_place b es ≡ true → plan_of b es ≡ None → ⊥
not_without b es can none = true≢false (sym can ∙ ap is_some none)

-- where messages lie behind it
pub blocks_after : (b : Blocks) (es : List Effect) (made : Planned) → plan_of b es ≡ Some made → blocks_by b es (Some made) ≡ blocks_then b es
blocks_after b es made is = sym (ap (blocks_by b es) is)

-- the log has no room
pub past_end : (fits : Bool) (n : ℕ) → (IsTrue fits ↔ (n ≤ 2 ^ 31)) → fits ≡ false → 2 ^ 31 < n
past_end fits n value none =
    let refused : ¬ (n ≤ 2 ^ 31) = λ le. true≢false (sym (value.1 le) ∙ none) in
    omega (arith, refused)

-- what was staged
module _ (b : Blocks) (es : List Effect) (staged : Staged) where
  pub staged_length : IsStaged b es staged → length staged.batch ≡ batch_length es
  staged_length s = ap length s.batch ∙ plan_length b es s.prepared.made s.prepared.planned.made_is

  pub staged_blocks : IsPrepared b es staged → with_steps staged.steps.items b ≡ blocks_then b es
  staged_blocks s = ap (λ (l : List Step). with_steps l b) s.steps ∙ blocks_after b es s.made s.planned.made_is

-- ---- the blocks that may be dropped

pub behind_logs : (b : Blocks) (all : Bool) → IsTable b → AreBehindLogs (blocks_of all b)
behind_logs b all table = go all (All-weaker (λ (k : Block). IsFile k.file) (λ k. 2 ≤ k.file) (λ k file. file.low) (blocks b) table.blocks_are.files)
  where
    second : (xs ys : List Block) → AreBehindLogs (xs ++ ys) → AreBehindLogs ys
    second [] ys h = h
    second (x ∷ xs) ys h = second xs ys (All-tail (λ (k : Block). 2 ≤ k.file) x (xs ++ ys) h)

    go : (all : Bool) → AreBehindLogs (blocks b) → AreBehindLogs (cond all (blocks b) (option_to_list b.writing))
    go true h = h
    go false h = second b.older (option_to_list b.writing) h

behind_runs : (runs : List Run) → All (λ run. 2 ≤ run.file) runs → AreBehindLogs (map block_of runs)
behind_runs [] h = All-nil (λ (k : Block). 2 ≤ k.file)
behind_runs (run ∷ runs) h = All-cons (λ (k : Block). 2 ≤ k.file) (block_of run) (map block_of runs) (All-head (λ (r : Run). 2 ≤ r.file) run runs h) (behind_runs runs (All-tail (λ (r : Run). 2 ≤ r.file) run runs h))

pub left_behind : (b : Blocks) (es : List Effect) (made : Planned) (all : Bool) → ArePlannedBy b es made → AreBehindLogs (blocks_of all b ++ map block_of made.runs)
left_behind b es made all planned =
    let files = (law_plans.runs b es made planned).files in
    All-append (λ (k : Block). 2 ≤ k.file) (blocks_of all b) (map block_of made.runs) (behind_logs b all planned.table) (behind_runs made.runs files)
