-- What is seen of a place on a volume.
use Rattle.std.specs.Prelude.{◌+◌, ℕ, unwrap_or}
use Rattle.js_model.specs.declared.event.What.{What}
use Rattle.js_model.specs.declared.stream.State.{State}
use Rattle.effects.specs.Durables.{durable_of}
use Rattle.vol_disk.specs.Disk.{Disk}
use Rattle.snapshot_bound.specs.Asking.{event_growth}
use Rattle.snapshot_bound.specs.Bounds.{bound}
use Rattle.stream_store.specs.Rooms.{OutgrowsLogs}
use Rattle.place_engine.specs.Preparing.{RoomCauses}
use Rattle.place_engine.specs.Stepping.{Seen}
use Rattle.volume_place.specs.Contents.{Contents}
use Rattle.volume_place.specs.Images.{base, left}
use Rattle.volume_place.specs.Rooms.{room_in}

-- with what is asked the place would come to more than a log can begin with
abbrev pub outgrows_log : State → What → Type 0
outgrows_log state what = OutgrowsLogs (bound (durable_of state) + event_growth state what)

abbrev pub causes_of : {V : Type 0} → (V → ℕ) → RoomCauses V
causes_of refusals = record { refusals = refusals; outgrows_log = outgrows_log }

-- a generation is told once the log has one
abbrev pub seen_of : {V : Type 0} → Type 0 → (V → Disk) → (V → ℕ) → (V → ℕ) → Contents V → Seen
seen_of told disk faults refusals place = record {
  place = record {
    state = place.state;
    stored = place.stored;
    stopped = place.stopped;
    volume = record { faults = faults place.vol; refusals = refusals place.vol; moment = (disk place.vol).moment; generation = unwrap_or place.store.log.head 0 };
  };
  is_base = base told disk place.stopped place.vol;
  waiting = place.waiting;
  room = room_in place.stopped place.fixed place.store place.state place.waiting;
  left_since = left told disk place.vol;
}
