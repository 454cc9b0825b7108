use Rattle.std.proofs.Common.{ℕ, not, ap, ◌∙◌}
use Rattle.std.specs.List.{insert, position}
use Rattle.js_base.specs.Bytes.{Bytes}
use Rattle.js_model.specs.declared.consumer.Consumer.{Consumer}
use Rattle.js_model.specs.Consumers.{is_before}
use Rattle.record_fold.proofs.Placing.{place_is, new_at}
use Rattle.log_replay.proofs.consumers.add_one.Goals as goal

pub returns : goal.returns
returns c =
    let consumers = c.args.consumers.now.items in
    let test = λ (n : Bytes) (d : Consumer). not (is_before d.name n) in
    let at = c.new_place.ensures.value ∙ ap (λ (n : Bytes). position (test n) c.as_slice.result.now) c.name.ensures.value ∙ ap (position (test c.args.new.name)) c.as_slice.ensures.value in
    let is = place_is (test c.args.new.name) consumers c.new_place.result c.unwrap_or-place.result c.len.result at c.unwrap_or-place.ensures (c.len.ensures ∙ c.args.consumers.now.ok.0) in
    record { ok = c.in_ok-insert.ensures.items ∙ ap (λ (k : ℕ). insert consumers k c.args.new) is ∙ new_at c.args.new consumers }
