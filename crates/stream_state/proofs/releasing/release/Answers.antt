use Rattle.std.proofs.Common.{ap, sym, ◌∙◌}
use Rattle.js_model.specs.declared.stream_config.StreamConfig.{StreamConfig}
use Rattle.js_model.specs.Retention.{kept}
use Rattle.js_model.specs.declared.stream.Stream.{Stream}
use Rattle.stream_state.proofs.Drops.{nothing_noted}
use Rattle.stream_state.proofs.Unkept.{limits_keep_all}
use Rattle.stream_state.proofs.releasing.release.Goals as goal

pub returns-in-Limits-clause-left : goal.returns-in-Limits-clause-left
returns-in-Limits-clause-left c =
    sym (limits_keep_all c.args.stream.now c.requires.sound (ap (λ (config : StreamConfig). config.retention) (sym c.config.ensures.value) ∙ c.in-Limits.is))

pub returns-in-Limits-clause-gone : goal.returns-in-Limits-clause-gone
returns-in-Limits-clause-gone c =
    let s = c.args.stream.now in
    nothing_noted c.args.gone.now s (kept s).messages c.requires.sound
    (ap (λ (x : Stream). x.messages) (sym (limits_keep_all s c.requires.sound (ap (λ (config : StreamConfig). config.retention) (sym c.config.ensures.value) ∙ c.in-Limits.is))))
