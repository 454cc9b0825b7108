use Rattle.std.proofs.Common.{◌≡◌, Option, Some, None, true, false, refl, sym, ◌∙◌}
use Rattle.std.specs.Prelude.{is_some}
use Rattle.std.proofs.lemmas.Bool.{true≢false}
use Rattle.js_model.specs.Events.{message_at}
use Rattle.js_model.proofs.Parts.{filter_part}
use Rattle.retention.specs.Over.{next_over}
use Rattle.followed_stream.proofs.Going.{deleted_is, within_only, without_absent}
use Rattle.stream_state.proofs.Drops.{has_place, nothing_noted, room_less}
use Rattle.stream_state.proofs.Proper.{proper_only}
use Rattle.stream_state.proofs.Publishing.{deleted_noted}
use Rattle.stream_state.proofs.Unkept.{outside_less}
use Rattle.stream_state.proofs.Settling.{trimmed}
use Rattle.stream_state.proofs.state.StreamState.delete.Goals as goal

nothing_there : {X : Type 0} (o : Option X) → is_some o ≡ false → o ≡ None
nothing_there None e = refl
nothing_there (Some x) e = absurd (true≢false e)

pub invariant_of-self : goal.invariant_of-self
invariant_of-self c =
    let s = c.self.inside.stream in
    record {
      attended = c.take_out.ensures.sound;
      proper = rw c.take_out.ensures.left (proper_only s _ c.self.invariant.proper);
      within = rw c.take_out.ensures.left (within_only s (filter_part _ s.messages) c.self.invariant.within);
      kept = rw c.take_out.ensures.left (outside_less c.self.inside.loose s (filter_part _ s.messages) c.self.invariant.kept);
    }

pub returns-clause-left : goal.returns-clause-left
returns-clause-left c =
    let s = c.self.inside.stream in
    rw (← c.self.view_is) (c.take_out.ensures.left ∙ deleted_is s c.args.seq _ c.self.invariant.attended refl)

pub returns-clause-settled : goal.returns-clause-settled
returns-clause-settled c =
    let s = c.self.inside.stream in
    let within : next_over c.take_out.new.stream ≡ None = rw c.take_out.ensures.left (within_only s (filter_part _ s.messages) c.self.invariant.within) in
    trimmed c.take_out.new.stream c.take_out.ensures.sound within

pub take_out-requires : goal.take_out-requires
take_out-requires c =
    let s = c.self.inside.stream in
    let there : is_some (message_at s c.args.seq) ≡ true = rw (← c.self.view_is) at (sym c.has.ensures.value ∙ c.if-not-has.false) in
    record { sound = c.self.invariant.attended; room = λ below. has_place s c.args.seq false c.args.gone.now there (rw (← c.self.view_is) at c.requires.room) }

pub returns-clause-gone : goal.returns-clause-gone
returns-clause-gone c =
    let s = c.self.inside.stream in
    let there : is_some (message_at s c.args.seq) ≡ true = rw (← c.self.view_is) at (sym c.has.ensures.value ∙ c.if-not-has.false) in
    rw (← c.self.view_is) (deleted_noted s c.take_out.new.stream c.args.seq c.args.gone.now c.take_out.new.gone c.self.invariant.attended there c.take_out.ensures.left c.take_out.ensures.sound c.take_out.ensures.noted)

pub returns-clause-room : goal.returns-clause-room
returns-clause-room c =
    let s = c.self.inside.stream in
    let there : is_some (message_at s c.args.seq) ≡ true = rw (← c.self.view_is) at (sym c.has.ensures.value ∙ c.if-not-has.false) in
    room_less s c.take_out.new.stream c.args.seq _ c.args.gone.now c.take_out.new.gone (rw (← c.self.view_is) at c.requires.room) (c.take_out.ensures.fewer there) c.take_out.ensures.noted

pub returns-then-not-has-clause-left : goal.returns-then-not-has-clause-left
returns-then-not-has-clause-left c =
    let s = c.self.inside.stream in
    let none : message_at s c.args.seq ≡ None = nothing_there (message_at s c.args.seq) (rw (← c.self.view_is) at (sym c.has.ensures.value ∙ c.if-not-has.true)) in
    rw (← c.self.view_is) (sym (without_absent s c.args.seq c.self.invariant.attended none) ∙ deleted_is s c.args.seq _ c.self.invariant.attended refl)

pub returns-then-not-has-clause-settled : goal.returns-then-not-has-clause-settled
returns-then-not-has-clause-settled c = rw (← c.self.view_is) (trimmed c.self.inside.stream c.self.invariant.attended c.self.invariant.within)

pub returns-then-not-has-clause-gone : goal.returns-then-not-has-clause-gone
returns-then-not-has-clause-gone c = rw (← c.self.view_is) (nothing_noted c.args.gone.now c.self.inside.stream c.self.inside.stream.messages c.self.invariant.attended refl)
