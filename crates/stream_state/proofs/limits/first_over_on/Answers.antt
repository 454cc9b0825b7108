use Rattle.std.proofs.Common.{None, cond, ap, sym, ◌∙◌}
use Rattle.std.specs.Prelude.{is_some, option_map}
use Rattle.js_model.specs.declared.stream.Message.{Message}
use Rattle.js_model.specs.declared.stream_config.StreamConfig.{StreamConfig}
use Rattle.stream_view.specs.Counting.{seqs_on}
use Rattle.retention.specs.Firsts.{first_number}
use Rattle.retention.proofs.Walking.{first_if_over, none_if_within, none_without_limit, over_subject-on}
use Rattle.stored_stream.proofs.Limiting.{none_counted_over}
use Rattle.stream_state.proofs.limits.first_over_on.Goals as goal

pub returns-in_err-limit : goal.returns-in_err-limit
returns-in_err-limit c =
    let s = c.args.stream.now in
    record {
      value = c.from_residual.ensures
          ∙ sym (ap (option_map (λ (m : Message). m.seq)) (none_without_limit s (ap (λ (config : StreamConfig). is_some config.max_msgs_per_subject) (sym c.config.ensures.value) ∙ ap is_some c.in_err-limit.was)));
    }

pub returns-in_err-counts : goal.returns-in_err-counts
returns-in_err-counts c =
    let s = c.args.stream.now in
    let t = c.args.subject.now in
    record {
      value = c.from_residual-in_err-counts.ensures
          ∙ sym (over_subject-on s t c.requires.others ∙ ap (λ b. cond b (first_number (seqs_on s t)) None) (sym (none_counted_over s t (sym c.in_err-counts.ensures.value))));
    }

pub returns-then-limit-counts : goal.returns-then-limit-counts
returns-then-limit-counts c =
    let s = c.args.stream.now in
    record {
      value = first_if_over s c.args.subject.now c.in_ok-limit.limit c.in_ok-counts.counts (ap (λ (config : StreamConfig). config.max_msgs_per_subject) (sym c.config.ensures.value) ∙ c.in_ok-limit.was) c.in_ok-counts.ensures.value c.if-limit-counts.true
          ∙ sym (over_subject-on s c.args.subject.now c.requires.others);
    }

pub returns-else-limit-counts : goal.returns-else-limit-counts
returns-else-limit-counts c =
    let s = c.args.stream.now in
    record {
      value = none_if_within s c.args.subject.now c.in_ok-limit.limit c.in_ok-counts.counts (ap (λ (config : StreamConfig). config.max_msgs_per_subject) (sym c.config.ensures.value) ∙ c.in_ok-limit.was) c.in_ok-counts.ensures.value c.if-limit-counts.false
          ∙ sym (over_subject-on s c.args.subject.now c.requires.others);
    }
