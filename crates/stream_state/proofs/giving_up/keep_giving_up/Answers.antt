use Rattle.std.proofs.Common.{rules, tests, ap, ◌∙◌}
use Rattle.std.specs.Prelude.{filter}
use Rattle.std.proofs.lemmas.Fn.{filter_same}
use Rattle.js_base.specs.Bytes.{Bytes}
use Rattle.js_model.specs.Streams.{by_name}
use Rattle.followed_stream.specs.Asked.{gives_up}
use Rattle.stream_state.proofs.giving_up.keep_giving_up.Goals as goal

pub returns : goal.returns
returns c =
    let test = λ (name : Bytes). gives_up c.args.now (by_name c.args.stream.now.consumers name) in
    record { value = c.from_vec.ensures ∙ filter_same _ test _ (λ x b f' k. search (rules, tests)) _ _ c.retain.ensures.filtered ∙ ap (filter test) c.into_vec-names.ensures }
