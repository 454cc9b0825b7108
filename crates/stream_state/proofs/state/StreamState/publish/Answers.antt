use Rattle.std.proofs.Common.{true, ap, ◌∙◌}
use Rattle.js_model.specs.Events.{with_message}
use Rattle.js_model.specs.Trim.{trim}
use Rattle.stream_state.proofs.Proper.{proper_message, proper_trim}
use Rattle.stream_state.proofs.Publishing.{last_of_new, published_noted, published_room}
use Rattle.stream_state.proofs.Settling.{published_kept, trimmed}
use Rattle.stream_state.proofs.Taken.{taken, next_number, has_room, over_own}
use Rattle.stream_state.proofs.state.StreamState.publish.Goals as goal

pub store-requires : goal.store-requires
store-requires c =
    let s = c.self.inside.stream in
    let p = c.args.publish.now in
    let h = taken s p true (rw (← c.self.view_is) at c.requires.taken) in
    record {
      numbers = next_number s p c.self.invariant.attended.sound h;
      room = has_room s c.self.invariant.within;
      proper = c.requires.proper;
      new_id = h.new_id;
      id_room = h.window;
    }

pub trim_on-requires : goal.trim_on-requires
trim_on-requires c =
    record {
      sound = c.in_ok-store.ensures.sound;
      others = rw (c.in_ok-store.ensures.ok, c.as_slice.ensures) (over_own c.self.inside.stream c.args.publish.now c.self.invariant.within);
      room = published_room c.self.inside.stream c.store.new.self c.args.publish.now c.args.gone.now c.skip_from.new.self _ c.in_ok-store.ensures.ok c.skip_from.ensures.value (rw (← c.self.view_is) at c.requires.room);
    }

pub invariant_of-self-2 : goal.invariant_of-self-2
invariant_of-self-2 c =
    let s = c.self.inside.stream in
    let p = c.args.publish.now in
    let left = c.trim_on.ensures.left ∙ ap trim c.in_ok-store.ensures.ok in
    let own = last_of_new s c.store.new.self p c.last-seq.result c.in_ok-store.ensures.ok c.last-seq.ensures.value in
    record {
      attended = c.trim_on.ensures.sound;
      proper = rw left (proper_trim (with_message s p) (proper_message s p c.self.invariant.proper));
      within = c.trim_on.ensures.within;
      kept = rw (c.join-self-inside.ensures.value, left) (published_kept c.self.inside.loose c.one.result s p c.last-seq.result c.one.ensures.value own c.self.invariant.kept);
    }

pub returns-clause-ok : goal.returns-clause-ok
returns-clause-ok c = rw (← c.self.view_is) (c.trim_on.ensures.left ∙ ap trim c.in_ok-store.ensures.ok)

pub returns-clause-settled : goal.returns-clause-settled
returns-clause-settled c = trimmed c.trim_on.new.stream c.trim_on.ensures.sound c.trim_on.ensures.within

pub returns-clause-seq : goal.returns-clause-seq
returns-clause-seq c = rw (← c.self.view_is) (last_of_new c.self.inside.stream c.store.new.self c.args.publish.now c.last-seq.result c.in_ok-store.ensures.ok c.last-seq.ensures.value)

pub returns-clause-gone : goal.returns-clause-gone
returns-clause-gone c =
    let s = c.self.inside.stream in
    let own = last_of_new s c.store.new.self c.args.publish.now c.last-seq.result c.in_ok-store.ensures.ok c.last-seq.ensures.value in
    rw (← c.self.view_is) (published_noted s c.store.new.self c.args.publish.now c.args.gone.now c.skip_from.new.self c.trim_on.new.gone c.last-seq.result c.in_ok-store.ensures.ok own c.skip_from.ensures.value c.trim_on.ensures.gone)

pub returns-clause-room : goal.returns-clause-room
returns-clause-room c = c.trim_on.ensures.room

pub returns-in_err-store-clause-settled : goal.returns-in_err-store-clause-settled
returns-in_err-store-clause-settled c = rw c.in_err-store.ensures.err (trimmed c.self.inside.stream c.self.invariant.attended c.self.invariant.within)
