use Rattle.std.proofs.Common.{ap, sym, ◌∙◌}
use Rattle.std.specs.Prelude.{is_some}
use Rattle.js_model.specs.Streams.{only}
use Rattle.js_model.specs.Trim.{newest_at}
use Rattle.js_model.specs.declared.stream.Message.{Message}
use Rattle.js_model.specs.declared.stream.Stream.{Stream}
use Rattle.js_model.specs.declared.stream_config.StreamConfig.{StreamConfig}
use Rattle.retention.specs.Over.{is_over_on}
use Rattle.retention.proofs.Confining.{only_own}
use Rattle.stored_stream.specs.Selecting.{next_passing}
use Rattle.followed_stream.proofs.Followings.{sound_as}
use Rattle.stream_state.proofs.Drops.{drops_left, drops_more, drops_none, drops_noted, nothing_noted, room_less}
use Rattle.stream_state.proofs.Thinning.{from_next, no_limit, thin_above, thin_all, thin_more, thin_none, thin_there, thins_none}
use Rattle.stream_state.proofs.trimming.trim_subjects.Goals as goal

pub first_crowded-requires : goal.first_crowded-requires
first_crowded-requires c = record { sound = sound_as c.loop-seq.stream c.stored.result.now c.stored.ensures.value c.loop-seq.invariant.0.leaves.attended }

pub loop-seq-init : goal.loop-seq-init
loop-seq-init c = (drops_none c.args.gone.now c.args.stream.now c.requires.sound, thins_none c.args.stream.now, c.requires.room)

pub loop-seq-smaller : goal.loop-seq-smaller
loop-seq-smaller c =
    let i = c.loop-seq.invariant in
    let next = c.in-Some.ensures.value ∙ ap (λ (x : Stream). next_passing (λ (m : Message). is_over_on x m.subject) x.messages c.unwrap_or.result) c.stored.ensures.value
    ∙ ap (next_passing (λ (m : Message). is_over_on c.loop-seq.stream m.subject) c.loop-seq.stream.messages) c.unwrap_or.ensures
    ∙ sym (from_next _ c.loop-seq.last _ c.loop-seq.stream c.loop-seq.gone i.0 i.1) in
    c.take_out.ensures.fewer (thin_there _ c.loop-seq.last _ c.loop-seq.stream c.loop-seq.gone i.0 i.1 c.in-Some.seq next)

pub loop-seq-preserved : goal.loop-seq-preserved
loop-seq-preserved c =
    let i = c.loop-seq.invariant in
    let mid = c.loop-seq.stream in
    let n = c.in-Some.seq in
    let next = c.in-Some.ensures.value ∙ ap (λ (x : Stream). next_passing (λ (m : Message). is_over_on x m.subject) x.messages c.unwrap_or.result) c.stored.ensures.value
    ∙ ap (next_passing (λ (m : Message). is_over_on mid m.subject) mid.messages) c.unwrap_or.ensures
    ∙ sym (from_next _ c.loop-seq.last _ mid c.loop-seq.gone i.0 i.1) in
    let there = thin_there _ c.loop-seq.last _ mid c.loop-seq.gone i.0 i.1 n next in (
      drops_more _ c.loop-seq.last _ mid c.take_out.new.stream c.loop-seq.gone c.take_out.new.gone n c.requires.sound i.0 there
          (thin_above _ c.loop-seq.last _ mid c.loop-seq.gone i.0 i.1 n next) c.take_out.ensures.left c.take_out.ensures.sound c.take_out.ensures.noted,
      thin_more _ c.loop-seq.last _ mid c.loop-seq.gone i.0 i.1 n c.take_out.new.stream next c.take_out.ensures.left,
      room_less mid c.take_out.new.stream n _ c.loop-seq.gone c.take_out.new.gone i.2 (c.take_out.ensures.fewer there) c.take_out.ensures.noted,
    )

pub returns-clause-left : goal.returns-clause-left
returns-clause-left c =
    let i = c.loop-seq.invariant in
    let none = c.in_default.ensures.value ∙ ap (λ (x : Stream). next_passing (λ (m : Message). is_over_on x m.subject) x.messages c.unwrap_or.result) c.stored.ensures.value
    ∙ ap (next_passing (λ (m : Message). is_over_on c.loop-seq.stream m.subject) c.loop-seq.stream.messages) c.unwrap_or.ensures
    ∙ sym (from_next _ c.loop-seq.last _ c.loop-seq.stream c.loop-seq.gone i.0 i.1) in
    drops_left _ c.loop-seq.last _ c.loop-seq.stream c.loop-seq.gone _ i.0 (thin_all _ c.loop-seq.last _ c.loop-seq.stream c.loop-seq.gone i.0 i.1 (thin_none c.loop-seq.stream none))

pub returns-clause-gone : goal.returns-clause-gone
returns-clause-gone c =
    let i = c.loop-seq.invariant in
    let none = c.in_default.ensures.value ∙ ap (λ (x : Stream). next_passing (λ (m : Message). is_over_on x m.subject) x.messages c.unwrap_or.result) c.stored.ensures.value
    ∙ ap (next_passing (λ (m : Message). is_over_on c.loop-seq.stream m.subject) c.loop-seq.stream.messages) c.unwrap_or.ensures
    ∙ sym (from_next _ c.loop-seq.last _ c.loop-seq.stream c.loop-seq.gone i.0 i.1) in
    drops_noted _ c.loop-seq.last _ c.loop-seq.stream c.loop-seq.gone _ i.0 (thin_all _ c.loop-seq.last _ c.loop-seq.stream c.loop-seq.gone i.0 i.1 (thin_none c.loop-seq.stream none))

pub returns-then-is_none-clause-left : goal.returns-then-is_none-clause-left
returns-then-is_none-clause-left c =
    let s = c.args.stream.now in
    sym (ap (only s) (no_limit s.config.max_msgs_per_subject s.messages (ap (λ (config : StreamConfig). is_some config.max_msgs_per_subject) (sym c.config.ensures.value) ∙ c.if-is_none.ensures)) ∙ only_own s c.requires.sound.held)

pub returns-then-is_none-clause-gone : goal.returns-then-is_none-clause-gone
returns-then-is_none-clause-gone c =
    let s = c.args.stream.now in
    nothing_noted c.args.gone.now s (newest_at s.config.max_msgs_per_subject s.messages) c.requires.sound
    (sym (no_limit s.config.max_msgs_per_subject s.messages (ap (λ (config : StreamConfig). is_some config.max_msgs_per_subject) (sym c.config.ensures.value) ∙ c.if-is_none.ensures)))
