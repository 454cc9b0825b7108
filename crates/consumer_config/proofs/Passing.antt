-- What is known of fields of which none is refused.
use Rattle.std.proofs.Common.{◌≡◌, ℕ, zero, suc, Bool, true, false, not, List, [], ◌∷◌, ◌++◌, take, drop, Option, Some, None, Ok, refl, if◌then◌else◌}
use Rattle.std.specs.List.{list_all}
use Rattle.std.proofs.lemmas.Bool.{and_parts}
use Rattle.serde_json.specs.Data.{Members}
use Rattle.js_base.specs.Bytes.{Bytes}
use Rattle.js_base.specs.declared.out.ApiError.{ApiError}
use Rattle.js_model.specs.Refusals.{Check, first_refusal}
use Rattle.js_model.specs.declared.consumer_config.ConsumerConfig.{ConsumerConfig}
use Rattle.consumer_config.specs.Table.{Line, table}
use Rattle.consumer_config.specs.Reading.{check, checks, start_checks, name_checks, config_in, refusal_in, config_unless, reading}

-- ---- none is refused if each passes

-- each of these fields passes
abbrev pub Passing : Members → List Line → Type 0
Passing fields [] = Unit {0}
Passing fields (row ∷ rows) = ((check fields row).0 ≡ false) × Passing fields rows

passed_one : (first : Check) (more : List Check) → first.0 ≡ false → first_refusal more ≡ None → first_refusal (first ∷ more) ≡ None
passed_one first more passes none = rw passes none

pub none_refused : (fields : Members) (rows : List Line) → Passing fields rows → first_refusal (checks fields rows) ≡ None
none_refused fields [] passes = refl
none_refused fields (row ∷ rows) passes = passed_one (check fields row) (checks fields rows) passes.0 (none_refused fields rows passes.1)

first_passes : (refused : Bool) → not refused ≡ true → refused ≡ false
first_passes true h = absurd (cc)
first_passes false h = refl

-- the first ones pass, and so do the others
pub passing_from : (fields : Members) (n : ℕ) (rows : List Line) → list_all (λ row. not (check fields row).0) (take n rows) ≡ true → Passing fields (drop n rows) → Passing fields rows
passing_from fields zero rows first passes = passes
passing_from fields (suc n) [] first passes = tt
passing_from fields (suc n) (row ∷ rows) first passes =
    let parts = and_parts (not (check fields row).0) (list_all (λ row. not (check fields row).0) (take n rows)) first in
    (first_passes (check fields row).0 parts.0, passing_from fields n rows parts.1 passes)

-- ---- and the other way round

parted : (first : Bool) (e : ApiError) (more : Option ApiError) → (if first then Some e else more) ≡ None → (first ≡ false) × (more ≡ None)
parted true e more none = absurd (cc)
parted false e more none = (refl, none)

each_passes : (fields : Members) (rows : List Line) → first_refusal (checks fields rows) ≡ None → Passing fields rows
each_passes fields [] none = tt
each_passes fields (row ∷ rows) none =
    let parts = parted (check fields row).0 (check fields row).1 (first_refusal (checks fields rows)) none in
    (parts.0, each_passes fields rows parts.1)

-- none of the first checks fails, and none of the others
none_twice : (cs ds : List Check) → first_refusal (cs ++ ds) ≡ None → (first_refusal cs ≡ None) × (first_refusal ds ≡ None)
none_twice [] ds none = (refl, none)
none_twice (c ∷ cs) ds none =
    let parts = parted c.0 c.1 (first_refusal (cs ++ ds)) none in
    let more = none_twice cs ds parts.1 in
    (passed_one c cs parts.0 more.0, more.1)

-- the first of two checks passes, and so does the second
pub both_pass : (c d : Check) → first_refusal (c ∷ d ∷ []) ≡ None → (c.0 ≡ false) × (d.0 ≡ false)
both_pass c d none =
    let first = parted c.0 c.1 (first_refusal (d ∷ [])) none in
    (first.0, (parted d.0 d.1 None first.1).0)

unless_read : (refusal : Option ApiError) (config other : ConsumerConfig) → config_unless refusal config ≡ Ok other → (refusal ≡ None) × (other ≡ config)
unless_read None config other e = (refl, cc)
unless_read (Some refusal) config other e = absurd (cc)

-- what is known of a configuration that is read
pub record IsRead (name : Bytes) (fields : Members) (config : ConsumerConfig) : Type 0 where
  pub passes : Passing fields table
  pub starts : first_refusal (start_checks fields) ≡ None
  pub config_is : config ≡ config_in name fields

pub is_read : (name : Bytes) (fields : Members) (config : ConsumerConfig) → reading name fields ≡ Ok config → IsRead name fields config
unfolding reading
is_read name fields config e =
    let parts = unless_read (refusal_in name fields) (config_in name fields) config e in
    let first = none_twice (checks fields table) (start_checks fields ++ name_checks name fields) parts.0 in
    record {
      passes = each_passes fields table first.0;
      starts = (none_twice (start_checks fields) (name_checks name fields) first.1).0;
      config_is = parts.1;
    }
