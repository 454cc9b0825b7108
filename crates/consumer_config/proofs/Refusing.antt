-- The first refusal, of fields that are looked at one after the other.
use Rattle.std.proofs.Common.{◌≡◌, List, [], ◌∷◌, ◌++◌, true, false, Option, Some, None, Ok, Err, refl, sym, subst, ◌∙◌}
use Rattle.serde_json.specs.Data.{Members}
use Rattle.js_base.specs.Bytes.{Bytes}
use Rattle.js_base.specs.declared.out.ApiError.{ApiError}
use Rattle.js_model.specs.Refusals.{Check, first_refusal}
use Rattle.js_model.specs.declared.consumer_config.ConsumerConfig.{ConsumerConfig}
use Rattle.consumer_config.specs.declared.fault.ConfigFault.{ConfigFault}
use Rattle.consumer_config.specs.declared.fault.ConfigFault.TheVariants.{Refused, NoMemory as OutOfMemory}
use Rattle.consumer_config.specs.Table.{table}
use Rattle.consumer_config.specs.Reading.{checks, start_checks, name_checks, refusal_in, config_in, config_unless, reading}
use Rattle.consumer_config.specs.Answers.{Passes, ReadsConfig}

-- what stands behind checks that pass decides
pub passed : (cs ds : List Check) → first_refusal cs ≡ None → first_refusal (cs ++ ds) ≡ first_refusal ds
passed [] ds none = refl
passed ((false, e) ∷ cs) ds none = passed cs ds none
passed ((true, e) ∷ cs) ds none = absurd (cc)

-- what stands behind a check that fails does not count
pub failed : (cs ds : List Check) (e : ApiError) → first_refusal cs ≡ Some e → first_refusal (cs ++ ds) ≡ Some e
failed [] ds e some = absurd (cc)
failed ((false, _) ∷ cs) ds e some = failed cs ds e some
failed ((true, _) ∷ cs) ds e some = some

stopped : (fault : ConfigFault) (cs ds : List Check) → Passes (Err fault) (first_refusal cs) → Passes (Err fault) (first_refusal (cs ++ ds))
stopped (Refused e) cs ds some = failed cs ds e some
stopped OutOfMemory cs ds some = tt

refused : (fault : ConfigFault) (refusal : Option ApiError) (config : ConsumerConfig) → Passes (Err fault) refusal → ReadsConfig (Err fault) (config_unless refusal config)
refused (Refused e) refusal config some = rw some refl
refused OutOfMemory refusal config some = tt

-- the checks behind those of the fields
abbrev later : Bytes → Members → List Check
later name fields = start_checks fields ++ name_checks name fields

-- a field is refused
pub refused_field : (name : Bytes) (fields : Members) (fault : ConfigFault) → Passes (Err fault) (first_refusal (checks fields table)) → ReadsConfig (Err fault) (reading name fields)
unfolding reading
refused_field name fields fault some = refused fault (refusal_in name fields) (config_in name fields) (stopped fault (checks fields table) (later name fields) some)

-- what the policy needs is missing
pub refused_start : (name : Bytes) (fields : Members) (fault : ConfigFault) → first_refusal (checks fields table) ≡ None
    → Passes (Err fault) (first_refusal (start_checks fields)) → ReadsConfig (Err fault) (reading name fields)
unfolding reading
refused_start name fields fault none some =
    refused fault (refusal_in name fields) (config_in name fields)
    (subst (Passes (Err fault)) (sym (passed (checks fields table) (later name fields) none)) (stopped fault (start_checks fields) (name_checks name fields) some))

-- a name is refused
pub refused_name : (name : Bytes) (fields : Members) (fault : ConfigFault) → first_refusal (checks fields table) ≡ None → first_refusal (start_checks fields) ≡ None
    → Passes (Err fault) (first_refusal (name_checks name fields)) → ReadsConfig (Err fault) (reading name fields)
unfolding reading
refused_name name fields fault none start some =
    refused fault (refusal_in name fields) (config_in name fields)
    (subst (Passes (Err fault)) (sym (passed (checks fields table) (later name fields) none ∙ passed (start_checks fields) (name_checks name fields) start)) some)

-- nothing is refused
pub read_whole : (name : Bytes) (fields : Members) (config : ConsumerConfig) → first_refusal (checks fields table) ≡ None
    → first_refusal (start_checks fields) ≡ None → first_refusal (name_checks name fields) ≡ None → config ≡ config_in name fields → reading name fields ≡ Ok config
unfolding reading
read_whole name fields config none start same is = rw (passed (checks fields table) (later name fields) none, passed (start_checks fields) (name_checks name fields) start, same, is) refl
