-- Records of a log, one after the other, and the two things that each of them makes.
use Rattle.std.proofs.Common.{◌≡◌, ℕ, List, [], ◌∷◌, ◌++◌, Option, Some, None, refl, ap, ◌∙◌}
use Rattle.js_model.proofs.Named.{some_is, none_some}
use Rattle.effects.specs.declared.durable.Durable.{Durable}
use Rattle.effects.specs.Folding.{fold}
use Rattle.record_fold.specs.Misfits.{misfit}
use Rattle.block_table.specs.Blocks.{Blocks}
use Rattle.op_records.specs.declared.record.Record.{Record}
use Rattle.log_records.specs.Logged.{Logged, effect_of, blocks_after, with_blocks, both, fold_record, fold_records, then_record}
use Rattle.log_records.specs.Misfits.{blocks_misfit, misfit_behind, misfit_of}

pub records_append : (rs ss : List Record) (g : Option Logged) → fold_records (rs ++ ss) g ≡ fold_records ss (fold_records rs g)
records_append [] ss g = refl
records_append (r ∷ rs) ss g = records_append rs ss (then_record g r)

pub no_records : (rs : List Record) → fold_records rs None ≡ None
no_records [] = refl
no_records (r ∷ rs) = no_records rs

-- ---- one record

-- what outlives a crash, and the blocks
pub record IsFoldOf (g : Logged) (r : Record) (d : Durable) (b : Blocks) : Type 0 where
  pub durable : fold g.durable (effect_of r) ≡ Some d
  pub blocks : blocks_after r g.blocks ≡ Some b

pub fold_parts : (g : Logged) (r : Record) (h : Logged) → fold_record g r ≡ Some h → IsFoldOf g r h.durable h.blocks
unfolding fold_record
fold_parts g r h e = go (fold g.durable (effect_of r)) (blocks_after r g.blocks) refl refl e
  where
    go : (d : Option Durable) (b : Option Blocks) → fold g.durable (effect_of r) ≡ d → blocks_after r g.blocks ≡ b → both d b ≡ Some h → IsFoldOf g r h.durable h.blocks
    go None b p q e = absurd (none_some e)
    go (Some d) None p q e = absurd (none_some e)
    go (Some d) (Some b) p q e =
        let is = some_is e in
        record { durable = p ∙ ap (λ (x : Logged). Some x.durable) is; blocks = q ∙ ap (λ (x : Logged). Some x.blocks) is }

pub fold_both : (g : Logged) (r : Record) (d : Durable) (b : Blocks) → IsFoldOf g r d b → fold_record g r ≡ Some (record { durable = d; blocks = b })
unfolding fold_record
fold_both g r d b f = ap (λ (o : Option Durable). both o (blocks_after r g.blocks)) f.durable ∙ ap (with_blocks d) f.blocks

-- ---- one that does not fit

pub record IsUnfitAt (g : Logged) (r : Record) (at : ℕ) : Type 0 where
  pub unfit : fold_record g r ≡ None
  pub place : misfit_of g r ≡ at

pub durable_unfit : (g : Logged) (r : Record) → fold g.durable (effect_of r) ≡ None → IsUnfitAt g r (misfit g.durable (effect_of r))
unfolding fold_record misfit_of
durable_unfit g r e = record { unfit = ap (λ (o : Option Durable). both o (blocks_after r g.blocks)) e; place = ap (λ (o : Option Durable). misfit_behind o g r) e }

pub blocks_unfit : (g : Logged) (r : Record) (d : Durable) → fold g.durable (effect_of r) ≡ Some d → blocks_after r g.blocks ≡ None → IsUnfitAt g r (blocks_misfit r g.blocks)
unfolding fold_record misfit_of
blocks_unfit g r d e none = record {
  unfit = ap (λ (o : Option Durable). both o (blocks_after r g.blocks)) e ∙ ap (with_blocks d) none;
  place = ap (λ (o : Option Durable). misfit_behind o g r) e;
}
