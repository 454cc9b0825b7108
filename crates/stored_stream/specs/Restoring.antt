-- Streams that can be restored from what was kept of them, this server's own.
use Rattle.std.specs.Prelude.{◌≤◌, ◌^◌, length}
use Rattle.js_model.specs.declared.stream.Stream.{Stream}
use Rattle.dedup_window.specs.Mirrors.{AreApart}
use Rattle.stored_stream.specs.Stored.{IsSound, Rises}

-- what is stored is sound, no id comes twice, and the ids stand in the order of their adding
pub record IsRestorable (s : Stream) : Type 0 where
  pub sound : IsSound s
  pub apart : AreApart s.ids
  pub in_time : Rises (λ i. i.at) 0 s.moment s.ids
  pub few_ids : length s.ids ≤ 2 ^ 20
