-- Why a record is not folded: it does not fit and this field is wrong, or memory ran out.
use Rattle.std.specs.Prelude.{◌≡◌, ℕ, false, Option, None}
use Rattle.js_base.specs.Bytes.{Bytes}
use Rattle.js_model.specs.declared.consumer.Consumer.{Consumer}
use Rattle.effects.specs.declared.durable.Body.{Body}
use Rattle.effects.specs.declared.durable.Durable.{Durable}
use Rattle.effects.specs.declared.effect.Effect.{Effect}
use Rattle.effects.specs.Folding.{fold, is_next}
use Rattle.record_fold.specs.Misfits.{misfit, numbered_at, named_at, after_name}
use Rattle.record_fold.specs.Changes.{changed, changed_in, fields_before}
use Rattle.record_fold.specs.declared.change.Change.{Change}
use Rattle.record_fold.specs.declared.fault.FoldFault.{FoldFault}
use Rattle.record_fold.specs.declared.fault.FoldFault.TheVariants.{Misfit, NoMemory as OutOfMemory}

abbrev pub IsFoldFault : Durable → Effect → FoldFault → Type 0
IsFoldFault old e (Misfit at) = (fold old e ≡ None) × (at ≡ misfit old e)
IsFoldFault old e OutOfMemory = Unit {0}

-- nothing comes of it, and the field stands there
abbrev pub IsMisfitAt : {X : Type 0} → ℕ → Option X → FoldFault → Type 0
IsMisfitAt place made (Misfit at) = (made ≡ None) × (at ≡ place)
IsMisfitAt place made OutOfMemory = Unit {0}

-- of a sequence and its moment
abbrev pub IsNumberFault : ℕ → ℕ → Body → FoldFault → Type 0
IsNumberFault seq at b (Misfit place) = (is_next seq at b ≡ false) × (place ≡ numbered_at seq b)
IsNumberFault seq at b OutOfMemory = Unit {0}

-- of the change of a consumer
abbrev pub IsChangeFault : Change → Consumer → FoldFault → Type 0
IsChangeFault change c (Misfit at) = (changed change c ≡ None) × (at ≡ after_name c.name (fields_before change))
IsChangeFault change c OutOfMemory = Unit {0}

-- and if it is looked for by a name
abbrev pub IsChangeFaultIn : Bytes → Change → Option Consumer → FoldFault → Type 0
IsChangeFaultIn name change found (Misfit at) = (changed_in change found ≡ None) × (at ≡ named_at name (fields_before change) found)
IsChangeFaultIn name change found OutOfMemory = Unit {0}
