use Rattle.std.proofs.Common.{◌≡◌, ℕ, None, List, ap, sym, ◌∙◌, length}
use Rattle.std.proofs.lemmas.List.{length-map}
use Rattle.js_model.specs.declared.stream.Message.{Message}
use Rattle.js_model.specs.declared.stream.Stream.{Stream}
use Rattle.js_model.specs.Events.{purge_list}
use Rattle.js_model.specs.Streams.{seqs}
use Rattle.retention.specs.Over.{next_over}
use Rattle.followed_stream.specs.Attended.{without_seqs}
use Rattle.followed_stream.proofs.Followings.{sound_as}
use Rattle.followed_stream.proofs.Going.{within_only, without_messages_part}
use Rattle.stream_state.proofs.Proper.{proper_only}
use Rattle.stream_state.proofs.Publishing.{purge_ascends, purge_part, purge_there}
use Rattle.stream_state.proofs.Unkept.{outside_less}
use Rattle.stream_state.proofs.Settling.{trimmed}
use Rattle.stream_state.proofs.state.StreamState.purge.Goals as goal

pub purge_seqs-requires : goal.purge_seqs-requires
purge_seqs-requires c = record { sound = sound_as c.self.inside.stream c.stored.result.now c.stored.ensures.value c.self.invariant.attended }

pub invariant_of-self : goal.invariant_of-self
invariant_of-self c =
    let s = c.self.inside.stream in
    let list = purge_list s c.args.pattern.now c.args.below c.args.keep in
    let gone : c.in_ok-seqs.seqs.items ≡ seqs list = c.in_ok-seqs.ensures.value ∙ ap (λ (x : Stream). seqs (purge_list x c.args.pattern.now c.args.below c.args.keep)) c.stored.ensures.value in
    let left : c.remove_all.new.stream ≡ without_seqs (seqs list) s = c.remove_all.ensures.left ∙ ap (λ (ns : List ℕ). without_seqs ns s) (c.as_slice.ensures.value ∙ gone) in
    record {
      attended = c.remove_all.ensures.sound;
      proper = rw left (proper_only s _ c.self.invariant.proper);
      within = rw left (within_only s (without_messages_part s list) c.self.invariant.within);
      kept = rw left (outside_less c.self.inside.loose s (without_messages_part s list) c.self.invariant.kept);
    }

pub returns-clause-ok : goal.returns-clause-ok
returns-clause-ok c =
    let s = c.self.inside.stream in
    let list = purge_list s c.args.pattern.now c.args.below c.args.keep in
    let gone : c.in_ok-seqs.seqs.items ≡ seqs list = c.in_ok-seqs.ensures.value ∙ ap (λ (x : Stream). seqs (purge_list x c.args.pattern.now c.args.below c.args.keep)) c.stored.ensures.value in
    let left : c.remove_all.new.stream ≡ without_seqs (seqs list) s = c.remove_all.ensures.left ∙ ap (λ (ns : List ℕ). without_seqs ns s) (c.as_slice.ensures.value ∙ gone) in
    rw (← c.self.view_is) left

pub returns-clause-count : goal.returns-clause-count
returns-clause-count c =
    let list = purge_list c.self.inside.stream c.args.pattern.now c.args.below c.args.keep in
    let gone : c.in_ok-seqs.seqs.items ≡ seqs list = c.in_ok-seqs.ensures.value ∙ ap (λ (x : Stream). seqs (purge_list x c.args.pattern.now c.args.below c.args.keep)) c.stored.ensures.value in
    rw (← c.self.view_is) (c.len.ensures ∙ sym c.as_slice.ensures.len ∙ ap length (c.as_slice.ensures.value ∙ gone) ∙ length-map list (λ (m : Message). m.seq))

pub returns-clause-settled : goal.returns-clause-settled
returns-clause-settled c =
    let s = c.self.inside.stream in
    let list = purge_list s c.args.pattern.now c.args.below c.args.keep in
    let gone : c.in_ok-seqs.seqs.items ≡ seqs list = c.in_ok-seqs.ensures.value ∙ ap (λ (x : Stream). seqs (purge_list x c.args.pattern.now c.args.below c.args.keep)) c.stored.ensures.value in
    let left : c.remove_all.new.stream ≡ without_seqs (seqs list) s = c.remove_all.ensures.left ∙ ap (λ (ns : List ℕ). without_seqs ns s) (c.as_slice.ensures.value ∙ gone) in
    let within : next_over c.remove_all.new.stream ≡ None = rw left (within_only s (without_messages_part s list) c.self.invariant.within) in
    trimmed c.remove_all.new.stream c.remove_all.ensures.sound within

pub returns-in_err-seqs-clause-settled : goal.returns-in_err-seqs-clause-settled
returns-in_err-seqs-clause-settled c = rw (← c.self.view_is) (trimmed c.self.inside.stream c.self.invariant.attended c.self.invariant.within)

pub remove_all-requires : goal.remove_all-requires
remove_all-requires c =
    let s = c.self.inside.stream in
    let list = purge_list s c.args.pattern.now c.args.below c.args.keep in
    let gone : c.as_slice.result.now ≡ seqs list = c.as_slice.ensures.value ∙ c.in_ok-seqs.ensures.value ∙ ap (λ (x : Stream). seqs (purge_list x c.args.pattern.now c.args.below c.args.keep)) c.stored.ensures.value in
    let part = purge_part s c.args.pattern.now c.args.below c.args.keep in
    record {
      sound = c.self.invariant.attended;
      room = rw (← c.self.view_is) at c.requires.room;
      ascends = rw gone (purge_ascends s list c.self.invariant.attended part);
      there = rw gone (purge_there s list part);
    }

pub returns-clause-gone : goal.returns-clause-gone
returns-clause-gone c = rw (← c.self.view_is) c.remove_all.ensures.gone

pub returns-clause-room : goal.returns-clause-room
returns-clause-room c = c.remove_all.ensures.room
