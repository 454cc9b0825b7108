-- The first refusal, of fields that are looked at one after the other.
use Rattle.std.proofs.Common.{◌≡◌, List, [], ◌∷◌, ◌++◌, true, false, Option, Some, None, Ok, Err, refl, sym, subst}
use Rattle.serde_json.specs.Data.{Members}
use Rattle.js_base.specs.Bytes.{Bytes}
use Rattle.js_base.specs.declared.out.ApiError.{ApiError}
use Rattle.js_model.specs.Refusals.{Check, first_refusal, name_mismatch}
use Rattle.js_model.specs.declared.stream_config.StreamConfig.{StreamConfig}
use Rattle.stream_config.specs.declared.fault.ConfigFault.{ConfigFault}
use Rattle.stream_config.specs.declared.fault.ConfigFault.TheVariants.{Refused, NoMemory as OutOfMemory}
use Rattle.stream_config.specs.Table.{table}
use Rattle.stream_config.specs.Reading.{checks, names_another, refusal_in, config_in, config_unless, reading}
use Rattle.stream_config.specs.Answers.{Passes, ReadsConfig}

-- what stands behind checks that pass decides
pub passed : (cs ds : List Check) → first_refusal cs ≡ None → first_refusal (cs ++ ds) ≡ first_refusal ds
passed [] ds none = refl
passed ((false, e) ∷ cs) ds none = passed cs ds none
passed ((true, e) ∷ cs) ds none = absurd (cc)

-- what stands behind a check that fails does not count
pub failed : (cs ds : List Check) (e : ApiError) → first_refusal cs ≡ Some e → first_refusal (cs ++ ds) ≡ Some e
failed [] ds e some = absurd (cc)
failed ((false, _) ∷ cs) ds e some = failed cs ds e some
failed ((true, _) ∷ cs) ds e some = some

pub stopped : (fault : ConfigFault) (cs ds : List Check) → Passes (Err fault) (first_refusal cs) → Passes (Err fault) (first_refusal (cs ++ ds))
stopped (Refused e) cs ds some = failed cs ds e some
stopped OutOfMemory cs ds some = tt

refused : (fault : ConfigFault) (refusal : Option ApiError) (config : StreamConfig) → Passes (Err fault) refusal → ReadsConfig (Err fault) (config_unless refusal config)
refused (Refused e) refusal config some = rw some refl
refused OutOfMemory refusal config some = tt

-- a field is refused
pub refused_field : (name : Bytes) (fields : Members) (fault : ConfigFault) → Passes (Err fault) (first_refusal (checks fields table)) → ReadsConfig (Err fault) (reading name fields)
unfolding reading
refused_field name fields fault some = refused fault (refusal_in name fields) (config_in name fields) (stopped fault (checks fields table) ((names_another name fields, name_mismatch) ∷ []) some)

-- the name is refused
pub refused_name : (name : Bytes) (fields : Members) (fault : ConfigFault) → first_refusal (checks fields table) ≡ None
    → Passes (Err fault) (first_refusal ((names_another name fields, name_mismatch) ∷ [])) → ReadsConfig (Err fault) (reading name fields)
unfolding reading
refused_name name fields fault none some =
    refused fault (refusal_in name fields) (config_in name fields) (subst (Passes (Err fault)) (sym (passed (checks fields table) ((names_another name fields, name_mismatch) ∷ []) none)) some)

-- nothing is refused
pub read_whole : (name : Bytes) (fields : Members) (config : StreamConfig) → first_refusal (checks fields table) ≡ None
    → first_refusal ((names_another name fields, name_mismatch) ∷ []) ≡ None → config ≡ config_in name fields → reading name fields ≡ Ok config
unfolding reading
read_whole name fields config none same is = rw (passed (checks fields table) ((names_another name fields, name_mismatch) ∷ []) none, same, is) refl
