-- What is known of fields of which none is refused.
use Rattle.std.proofs.Common.{◌≡◌, ℕ, zero, suc, Bool, true, false, not, List, [], ◌∷◌, ◌++◌, take, drop, Option, Some, None, Ok, refl, if◌then◌else◌}
use Rattle.std.specs.List.{list_all}
use Rattle.std.proofs.lemmas.Bool.{and_parts}
use Rattle.serde_json.specs.Data.{Members}
use Rattle.js_base.specs.Bytes.{Bytes}
use Rattle.js_base.specs.declared.out.ApiError.{ApiError}
use Rattle.js_model.specs.Refusals.{Check, first_refusal, name_mismatch}
use Rattle.js_model.specs.declared.stream_config.StreamConfig.{StreamConfig}
use Rattle.stream_config.specs.Table.{Line, table}
use Rattle.stream_config.specs.Reading.{check, checks, config_in, refusal_in, config_unless, reading, names_another}

-- ---- none is refused if each passes

-- each of these fields passes
abbrev pub Passing : Members → List Line → Type 0
Passing fields [] = Unit {0}
Passing fields (row ∷ rows) = ((check fields row).0 ≡ false) × Passing fields rows

passed_one : (first : Check) (more : List Check) → first.0 ≡ false → first_refusal more ≡ None → first_refusal (first ∷ more) ≡ None
passed_one first more passes none = rw passes none

pub none_refused : (fields : Members) (rows : List Line) → Passing fields rows → first_refusal (checks fields rows) ≡ None
none_refused fields [] passes = refl
none_refused fields (row ∷ rows) passes = passed_one (check fields row) (checks fields rows) passes.0 (none_refused fields rows passes.1)

first_passes : (refused : Bool) → not refused ≡ true → refused ≡ false
first_passes true h = absurd (cc)
first_passes false h = refl

-- the first ones pass, and so do the others
pub passing_from : (fields : Members) (n : ℕ) (rows : List Line) → list_all (λ row. not (check fields row).0) (take n rows) ≡ true → Passing fields (drop n rows) → Passing fields rows
passing_from fields zero rows first passes = passes
passing_from fields (suc n) [] first passes = tt
passing_from fields (suc n) (row ∷ rows) first passes =
    let parts = and_parts (not (check fields row).0) (list_all (λ row. not (check fields row).0) (take n rows)) first in
    (first_passes (check fields row).0 parts.0, passing_from fields n rows parts.1 passes)

-- ---- and the other way round

parted : (first : Bool) (e : ApiError) (more : Option ApiError) → (if first then Some e else more) ≡ None → (first ≡ false) × (more ≡ None)
parted true e more none = absurd (cc)
parted false e more none = (refl, none)

pub each_passes : (fields : Members) (rows : List Line) → first_refusal (checks fields rows) ≡ None → Passing fields rows
each_passes fields [] none = tt
each_passes fields (row ∷ rows) none =
    let parts = parted (check fields row).0 (check fields row).1 (first_refusal (checks fields rows)) none in
    (parts.0, each_passes fields rows parts.1)

first_none : (cs ds : List Check) → first_refusal (cs ++ ds) ≡ None → first_refusal cs ≡ None
first_none [] ds none = refl
first_none (c ∷ cs) ds none =
    let parts = parted c.0 c.1 (first_refusal (cs ++ ds)) none in
    passed_one c cs parts.0 (first_none cs ds parts.1)

unless_read : (refusal : Option ApiError) (config other : StreamConfig) → config_unless refusal config ≡ Ok other → (refusal ≡ None) × (other ≡ config)
unless_read None config other e = (refl, cc)
unless_read (Some refusal) config other e = absurd (cc)

-- a configuration that is read is that of fields that pass
pub read_passes : (name : Bytes) (fields : Members) (config : StreamConfig) → reading name fields ≡ Ok config → Passing fields table × (config ≡ config_in name fields)
unfolding reading
read_passes name fields config e =
    let parts = unless_read (refusal_in name fields) (config_in name fields) config e in
    (each_passes fields table (first_none (checks fields table) ((names_another name fields, name_mismatch) ∷ []) parts.0), parts.1)
