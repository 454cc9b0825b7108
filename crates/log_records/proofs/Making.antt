-- How a record is taken: what it makes, or which field does not fit.
use Rattle.std.proofs.Common.{◌≡◌, ℕ, ◌<◌, ◌^◌, Some, None, IsTrue, length, sym, ap, ◌∙◌}
use Rattle.js_base.specs.Bytes.{Bytes}
use Rattle.js_base.specs.declared.spot.Spot.{Spot}
use Rattle.effects.specs.declared.durable.Durable.{Durable}
use Rattle.effects.specs.Folding.{fold, vacant}
use Rattle.block_table.specs.Blocks.{Blocks, no_blocks}
use Rattle.block_table.specs.Puts.{put}
use Rattle.op_records.specs.Allowed.{may_stand}
use Rattle.op_records.specs.declared.record.Record.{Record}
use Rattle.op_records.specs.declared.record.Record.TheVariants.{Put}
use Rattle.record_fold.specs.Faults.{IsFoldFault}
use Rattle.record_fold.specs.declared.fault.FoldFault.{FoldFault}
use Rattle.record_fold.specs.declared.fault.FoldFault.TheVariants.{Misfit, NoMemory as Refused}
use Rattle.durable_checks.specs.Storable.{IsStorable}
use Rattle.log_records.specs.Unread.{unread_subject}
use Rattle.log_records.specs.Logged.{Logged, effect_of}
use Rattle.log_records.specs.Misfits.{spot_misfit}
use Rattle.log_records.specs.Holding.{held_in, IsReplayStorable, made_in, IsSoundMade}
use Rattle.log_records.specs.Reading.{IsTaken, IsTakeFault}
use Rattle.log_records.specs.declared.held.Held.{Held}
use Rattle.log_records.specs.declared.held.Held.TheVariants.{Replayed}
use Rattle.log_records.specs.declared.made.Made.{Made}
use Rattle.log_records.proofs.Keeping.{beginning_logged, stays_logged}
use Rattle.log_records.proofs.Logging.{IsFoldOf, fold_both, durable_unfit, blocks_unfit}

-- ---- where a log begins

pub vacant_storable : (incarnation : ℕ) → incarnation < 2 ^ 62 → IsStorable (vacant incarnation)
vacant_storable incarnation number = record { stored = tt; bounded = number }

pub beginning_sound : (incarnation : ℕ) (subject : Bytes) → incarnation < 2 ^ 62 → subject ≡ unread_subject
    → IsSoundMade (record { held = Replayed (vacant incarnation); table = no_blocks; subject = subject })
beginning_sound incarnation subject number is = record { logged = beginning_logged incarnation; replay = vacant_storable incarnation number; subject = is }

-- ---- a record that fits

pub taken : (old : Made) (r : Record) (held : Held) (table : Blocks) → IsSoundMade old → IsTrue (may_stand r) → IsFoldOf (made_in old) r (held_in held) table → IsReplayStorable held
    → IsTaken old r (record { held = held; table = table; subject = old.subject })
taken old r held table s is f replay = record {
  fits = fold_both (made_in old) r (held_in held) table f;
  sound = record { logged = stays_logged (made_in old) r (held_in held) table s.logged is f; replay = replay; subject = s.subject };
}

-- ---- one that does not

pub durable_fault : (g : Logged) (r : Record) (fault : FoldFault) → IsFoldFault g.durable (effect_of r) fault → IsTakeFault g r fault
durable_fault g r (Misfit at) h = let u = durable_unfit g r h.0 in (u.unfit, h.1 ∙ sym u.place)
durable_fault g r Refused h = tt

pub spot_fault : (g : Logged) (seq at : ℕ) (id : Bytes) (spot : Spot) (made : Durable) (field len : ℕ) (table : Blocks) → fold g.durable (effect_of (Put seq at id spot)) ≡ Some made → put seq spot g.blocks ≡ None
    → len ≡ length id → table ≡ g.blocks → field ≡ spot_misfit len spot table → IsTakeFault g (Put seq at id spot) (Misfit field)
spot_fault g seq at id spot made field len table e none long same is =
    let u = blocks_unfit g (Put seq at id spot) made e none in
    (u.unfit, is ∙ ap (λ (n : ℕ). spot_misfit n spot table) long ∙ ap (spot_misfit (length id) spot) same ∙ sym u.place)
