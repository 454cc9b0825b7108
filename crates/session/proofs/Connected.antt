-- What is read of a CONNECT's text.
use Rattle.std.proofs.Common.{◌≡◌, Option, Some, None, Result, Ok, Err, refl, sym, ap, subst, ◌∙◌}
use Rattle.std.specs.Prelude.{option_and_then}
use Rattle.std.specs.Option.{ok_or}
use Rattle.std.specs.Result.{result_ok}
use Rattle.serde_json.specs.Data.{Members}
use Rattle.js_base.specs.Bytes.{Bytes}
use Rattle.js_json.specs.Objects.{object_of}
use Rattle.js_json.specs.Answers.{ReadsObject}
use Rattle.js_json.specs.declared.fault.JsonFault.{JsonFault}
use Rattle.js_json.specs.declared.fault.JsonFault.TheVariants.{NotJson, NotObject, BadField, NoMemory}
use Rattle.session.specs.Connecting.{connect_options, options_in}
use Rattle.session.specs.Asking.{ReadsConnect, stop_by}
use Rattle.session.specs.declared.connect.ConnectOptions.{ConnectOptions}
use Rattle.session.specs.declared.ending.Refusal.TheVariants.{BadConnect}
use Rattle.session.specs.declared.stop.Stop.{Stop}
use Rattle.session.specs.declared.stop.Stop.TheVariants as stops

-- the options that an object has
options-of : (text : Bytes) (fields : Members) → object_of text ≡ Ok fields → connect_options text ≡ options_in fields
unfolding connect_options
options-of text fields h = ap (λ (read : Result Members JsonFault). option_and_then options_in (result_ok read)) h

-- a text that is no object has none
options-none : (text : Bytes) (fault : JsonFault) → object_of text ≡ Err fault → connect_options text ≡ None
unfolding connect_options
options-none text fault h = ap (λ (read : Result Members JsonFault). option_and_then options_in (result_ok read)) h

found : (options : Option ConnectOptions) (all : Option ConnectOptions) → all ≡ options → ReadsConnect (ok_or options (stops.Refused BadConnect)) all
found (Some options) all h = h
found None all h = (refl, h)

pub reads_object : (text : Bytes) (fields : Members) (options : Option ConnectOptions) (result : Result ConnectOptions Stop) → object_of text ≡ Ok fields → options ≡ options_in fields
    → result ≡ ok_or options (stops.Refused BadConnect) → ReadsConnect result (connect_options text)
reads_object text fields options result h e f =
    subst (λ (r : Result ConnectOptions Stop). ReadsConnect r (connect_options text)) (sym f) (found options (connect_options text) (options-of text fields h ∙ sym e))

pub reads_none : (text : Bytes) (fault : JsonFault) (stop : Stop) → ReadsObject (Err fault) (object_of text) → stop ≡ stop_by fault → ReadsConnect (Err stop) (connect_options text)
reads_none text fault stop h e = subst (λ (s : Stop). ReadsConnect (Err s) (connect_options text)) (sym e) (by_fault fault h)
  where
    by_fault : (fault : JsonFault) → ReadsObject (Err fault) (object_of text) → ReadsConnect (Err (stop_by fault)) (connect_options text)
    by_fault NoMemory h = tt
    by_fault NotJson h = (refl, options-none text NotJson h)
    by_fault NotObject h = (refl, options-none text NotObject h)
    by_fault (BadField name) h = (refl, options-none text (BadField name) h)
