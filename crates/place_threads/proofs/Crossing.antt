-- The stream of a place goes from thread to thread, and so does a place with it: each type by the types of its fields.
use denote.Param.Send.{IsSend, IsSync, sendable}
use Rattle.std.proofs.Crossing.{crosses}
use Rattle.std.proofs.Crossing as heap
use Rattle.stored_stream.proofs.stored.StoredStream.TheSendSync as stored
use Rattle.place_records.proofs.made.Made.TheSendSync as made
use Rattle.pull_queue.proofs.queue.PullQueue.TheSendSync as pulls
use Rattle.js_model.proofs.consumer_config.ConsumerConfig.TheSendSync as config
use Rattle.pending_table.proofs.tree.Tree.TheLaws.TheKnot as knot
use Rattle.pending_table.specs.contracts.table.PendingTable as pending
use Rattle.stream_store.proofs.store.Store.TheSendSync as store
use Rattle.effects.proofs.effect.Effect.TheSendSync as effect
use Rattle.js_base.proofs.blob.Blob.TheSendSync as blob
use Rattle.js_base.proofs.moment.Moment.TheSendSync as moment
use Rattle.consumer_progress.specs.contracts.progress.ConsumerProgress as progress
use Rattle.consumer_state.specs.contracts.consumer.Consumer as consumer
use Rattle.followed_stream.specs.contracts.follower.Follower as follower
use Rattle.followed_stream.specs.contracts.followed.FollowedStream as followed
use Rattle.stream_state.specs.contracts.state.StreamState as state
use Rattle.memory_place.specs.contracts.live_stream.LiveStream as live
use Rattle.memory_place.specs.contracts.slot.Slot as slot

pub pending_send : IsSend pending.the_row
pending_send = search (sendable, crosses, heap.send, knot.send-Tree) depth 20

pub progress_send : IsSend progress.the_row
progress_send = search (sendable, crosses, heap.send, pending_send) depth 20

pub consumer_send : IsSend consumer.the_row
consumer_send = search (sendable, crosses, heap.send, progress_send, pulls.the_send, config.the_send, config.the_field_send, blob.the_send, moment.the_send) depth 20

pub follower_send : IsSend follower.the_row
follower_send = search (sendable, crosses, consumer_send) depth 20

pub followed_send : IsSend followed.the_row
followed_send = search (sendable, crosses, follower_send, stored.the_send) depth 20

pub state_send : IsSend state.the_row
state_send = search (sendable, crosses, heap.send, followed_send) depth 20

pub live_send : IsSend live.the_row
live_send = search (sendable, crosses, state_send) depth 20

pub slot_send : IsSend slot.the_row
slot_send = search (sendable, crosses, live_send) depth 20

-- ---- several threads may see it

pub pending_sync : IsSync pending.the_row
pending_sync = search (sendable, crosses, heap.sync, knot.sync-Tree) depth 20

pub progress_sync : IsSync progress.the_row
progress_sync = search (sendable, crosses, pending_sync) depth 20

pub consumer_sync : IsSync consumer.the_row
consumer_sync = search (sendable, crosses, heap.sync, progress_sync, pulls.the_sync, config.the_sync, config.the_field_sync, blob.the_sync, moment.the_sync) depth 20

pub follower_sync : IsSync follower.the_row
follower_sync = search (sendable, crosses, consumer_sync) depth 20

pub followed_sync : IsSync followed.the_row
followed_sync = search (sendable, crosses, follower_sync, stored.the_sync) depth 20

pub state_sync : IsSync state.the_row
state_sync = search (sendable, crosses, heap.sync, followed_sync) depth 20

pub live_sync : IsSync live.the_row
live_sync = search (sendable, crosses, state_sync) depth 20

pub slot_sync : IsSync slot.the_row
slot_sync = search (sendable, crosses, live_sync) depth 20

-- ---- a place is its stream, its volume, and what is beside them

pub ruleset place_crosses = (
  sendable,
  crosses,
  heap.send,
  heap.sync,
  slot_send,
  slot_sync,
  made.the_send,
  made.the_sync,
  made.the_field_send,
  made.the_field_sync,
  store.the_send,
  store.the_sync,
  effect.the_send,
  effect.the_sync,
  effect.the_field_send,
  effect.the_field_sync,
  moment.the_send,
  moment.the_sync,
)
