use Rattle.js_json.proofs.Objects.{no_entries}
use Rattle.js_json.proofs.fields.Fields.is_empty.Goals as goal

pub returns : goal.returns
returns c =
    let none = no_entries c.args.self.now.by_name.entries in
    let told = c.is_empty.ensures in
    record { value = (λ empty. none.0 (told.0 empty), λ empty. told.1 (none.1 empty)) }
