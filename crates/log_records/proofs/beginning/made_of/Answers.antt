use Rattle.std.proofs.lemmas.Bool.{and_parts}
use Rattle.js_model.specs.Configs.{is_number}
use Rattle.state_snapshot.specs.Allowed.{is_body_if_any}
use Rattle.log_records.proofs.beginning.made_of.Goals as goal

pub made_from-requires : goal.made_from-requires
made_from-requires c =
    let s = c.args.snapshot in
    let parts = and_parts (is_number s.incarnation) (is_body_if_any s.body) c.requires.allowed in
    record { number = parts.0; allowed = parts.1 }
