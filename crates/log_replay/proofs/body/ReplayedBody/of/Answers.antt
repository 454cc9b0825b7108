use Rattle.std.proofs.Common.{◌+◌, sym, subst, refl}
use Rattle.std.proofs.lemmas.List.Elements.{All-weaker}
use Rattle.model_laws.specs.Bounds.{IsWritableMessage}
use Rattle.dedup_window.specs.Window.{IsLatest}
use Rattle.message_store.specs.Stored.{IsSmall}
use Rattle.log_replay.proofs.Restored.{all_replayable, rises_latest}
use Rattle.log_replay.proofs.Small.{is_small}
use Rattle.log_replay.proofs.body.ReplayedBody.of.Goals as goal

pub store_of-requires : goal.store_of-requires
store_of-requires c =
    let b = c.args.body in
    let s = c.requires.storable.1 in
    record {
      ascend = (b.last + 1, s.stored.messages);
      small = All-weaker IsWritableMessage IsSmall is_small b.messages c.requires.formed.writable;
      few = s.bounded.messages;
    }

pub window_of-requires : goal.window_of-requires
window_of-requires c =
    let b = c.args.body in
    let s = c.requires.storable.1 in
    rw c.as_slice.ensures (record { apart = s.stored.ids; rise = (b.moment, c.requires.in_time); few = s.bounded.ids })

pub replayed_of-requires : goal.replayed_of-requires
replayed_of-requires c = record { replayable = all_replayable c.requires.storable.0 c.args.body c.requires.formed c.requires.storable.1 }

pub invariant_of-result : goal.invariant_of-result
invariant_of-result c =
    let b = c.args.body in
    rw c.in_ok-ids.ensures.value (record { counts = refl; latest = subst (IsLatest b.moment) (sym c.as_slice.ensures) (rises_latest 0 b.moment b.ids c.requires.in_time) })
