-- Steps that a table takes, and the steps of changes.
use Rattle.std.proofs.Common.{◌≡◌, ◌≤◌, ◌<◌, ℕ, ◌+◌, List, [], ◌∷◌, ◌++◌, Option, Some, None, get_or, drop, take, length, refl, sym, ap, ◌∙◌}
use Rattle.std.specs.Prelude.{unwrap_or}
use Rattle.std.proofs.lemmas.List.{at_drop_all, at_drop_more, append-nil, append_assoc, take_more, take_all}
use Rattle.js_base.specs.Bytes.{Bytes}
use Rattle.js_base.specs.declared.spot.Spot.{Spot}
use Rattle.effects.specs.declared.effect.Effect.{Effect}
use Rattle.effects.specs.declared.effect.Effect.TheVariants.{PutHere}
use Rattle.block_table.specs.Blocks.{Blocks}
use Rattle.block_table.specs.Puts.{put}
use Rattle.stream_store.specs.Steps.{AddsStep, blocks_in, steps_of, with_step, with_steps}
use Rattle.stream_store.specs.declared.late.LateTable.{LateTable}
use Rattle.stream_store.specs.declared.steps.Step.{Step}
use Rattle.stream_store.specs.declared.steps.Step.TheVariants as step

-- ---- a step

pub put_taken : (seq : ℕ) (spot : Spot) (b c : Blocks) → put seq spot b ≡ Some c → c ≡ with_step (step.Put seq spot) b
put_taken seq spot b c h = sym (ap (λ (o : Option Blocks). unwrap_or o b) h)

pub put_left_out : (seq : ℕ) (spot : Spot) (b c : Blocks) → put seq spot b ≡ None → c ≡ b → c ≡ with_step (step.Put seq spot) b
put_left_out seq spot b c h same = same ∙ sym (ap (λ (o : Option Blocks). unwrap_or o b) h)

-- ---- steps that wait

pub taken_one : (steps : List Step) (i : ℕ) (s : Step) (b c : Blocks) → i < length steps → s ≡ get_or steps i s → c ≡ with_step s b → with_steps (drop (i + 1) steps) c ≡ with_steps (drop i steps) b
taken_one steps i s b c within is taken =
    ap (with_steps (drop (i + 1) steps)) (taken ∙ ap (λ (x : Step). with_step x b) is) ∙ sym (at_drop_more (λ (l : List Step). with_steps l b) steps i s within)

pub taken_all : (steps : List Step) (i : ℕ) (b : Blocks) → length steps ≤ i → with_steps (drop i steps) b ≡ b
taken_all steps i b past = at_drop_all (λ (l : List Step). with_steps l b) steps i past

-- a table for which no step waits any more
pub table_then : (old new : LateTable) → blocks_in new ≡ blocks_in old → length new.steps.items ≤ new.taken → new.table ≡ blocks_in old
table_then old new same none = sym (taken_all new.steps.items new.taken new.table none) ∙ same

-- ---- the step of one change

module _ (old new : List Step) (seq at : ℕ) (id subject headers payload : Bytes) (spots : List Spot) (used : ℕ) where
  pub put_step : (spot : Spot) → used < length spots → spot ≡ get_or spots used spot → new ≡ old ++ step.Put seq spot ∷ [] → AddsStep old (PutHere seq at id subject headers payload) (drop used spots) new (drop (used + 1) spots)
  put_step spot within is pushed es =
      ap (λ (l : List Step). l ++ steps_of es (drop (used + 1) spots)) pushed ∙ append_assoc old (step.Put seq spot ∷ []) (steps_of es (drop (used + 1) spots))
      ∙ ap (λ (x : Spot). old ++ (step.Put seq x ∷ steps_of es (drop (used + 1) spots))) is
      ∙ sym (at_drop_more (λ (l : List Spot). old ++ steps_of (PutHere seq at id subject headers payload ∷ es) l) spots used spot within)

  -- no spot is left
  pub no_spot_left : length spots ≤ used → AddsStep old (PutHere seq at id subject headers payload) (drop used spots) old (drop used spots)
  no_spot_left past es =
      at_drop_all (λ (l : List Spot). old ++ steps_of es l) spots used past ∙ sym (at_drop_all (λ (l : List Spot). old ++ steps_of (PutHere seq at id subject headers payload ∷ es) l) spots used past)

-- a step that needs no spot
pub pushed_step : (old new : List Step) (s : Step) (more : List Step) → new ≡ old ++ s ∷ [] → new ++ more ≡ old ++ (s ∷ more)
pushed_step old new s more pushed = ap (λ (l : List Step). l ++ more) pushed ∙ append_assoc old (s ∷ []) more

-- ---- the steps of changes

-- those so far, and those of the rest
abbrev pub AreSteps : List Step → List Effect → ℕ → List Spot → ℕ → Type 0
AreSteps steps es i spots used = steps ++ steps_of (drop i es) (drop used spots) ≡ steps_of es spots

pub no_steps : (es : List Effect) (spots : List Spot) → AreSteps [] es 0 spots 0
no_steps es spots = refl

module _ (steps : List Step) (es : List Effect) (i : ℕ) (e : Effect) (spots : List Spot) (used : ℕ) (within : i < length es) (is : e ≡ get_or es i e) (so_far : AreSteps steps es i spots used) where
  next_steps : steps ++ steps_of (e ∷ drop (i + 1) es) (drop used spots) ≡ steps_of es spots
  next_steps = ap (λ (x : Effect). steps ++ steps_of (x ∷ drop (i + 1) es) (drop used spots)) is ∙ sym (at_drop_more (λ (l : List Effect). steps ++ steps_of l (drop used spots)) es i e within) ∙ so_far

  -- its step was added
  pub step_added : (now : List Step) (after : ℕ) → AddsStep steps e (drop used spots) now (drop after spots) → AreSteps now es (i + 1) spots after
  step_added now after added = added (drop (i + 1) es) ∙ next_steps

pub all_steps : (steps : List Step) (es : List Effect) (i : ℕ) (spots : List Spot) (used : ℕ) → length es ≤ i → AreSteps steps es i spots used → steps ≡ steps_of es spots
all_steps steps es i spots used past so_far =
    sym (append-nil steps) ∙ sym (at_drop_all (λ (l : List Effect). steps ++ steps_of l (drop used spots)) es i past) ∙ so_far

-- ---- steps that a copy of a table takes

pub steps_push : (steps : List Step) (s : Step) (b : Blocks) → with_steps (steps ++ s ∷ []) b ≡ with_step s (with_steps steps b)
steps_push [] s b = refl
steps_push (x ∷ steps) s b = steps_push steps s (with_step x b)

pub then_one : (steps : List Step) (i : ℕ) (d : Step) (b c new : Blocks) → i < length steps → c ≡ with_steps (take i steps) b → new ≡ with_step (get_or steps i d) c → new ≡ with_steps (take (i + 1) steps) b
then_one steps i d b c new within so_far taken =
    taken ∙ ap (with_step (get_or steps i d)) so_far ∙ sym (steps_push (take i steps) (get_or steps i d) b)
    ∙ ap (λ (l : List Step). with_steps l b) (sym (take_more steps i d within))

pub then_all : (steps : List Step) (i : ℕ) (b c : Blocks) → length steps ≤ i → c ≡ with_steps (take i steps) b → c ≡ with_steps steps b
then_all steps i b c past so_far = so_far ∙ ap (λ (l : List Step). with_steps l b) (take_all i steps past)
