-- Where a consumer stands among those of a stream, in the order of their names; this server's own.
use Rattle.std.specs.Prelude.{◌≡◌, ℕ, ◌<◌, List, Option, Some, None, length, slice_get}
use Rattle.js_base.specs.Bytes.{Bytes}
use Rattle.js_model.specs.declared.consumer.Consumer.{Consumer}
use Rattle.js_model.specs.Streams.{by_name}

-- the consumer of a name stands at the place
pub record IsNamedAt (cs : List Consumer) (name : Bytes) (place : ℕ) : Type 0 where
  pub within : place < length cs
  pub found : slice_get cs place ≡ by_name cs name

-- it stands there, or there is none
abbrev pub IsPlaceOf : List Consumer → Bytes → Option ℕ → Type 0
IsPlaceOf cs name None = by_name cs name ≡ None
IsPlaceOf cs name (Some place) = IsNamedAt cs name place
