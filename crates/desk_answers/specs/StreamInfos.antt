-- Informations of streams that can be shown together.
use Rattle.std.specs.Prelude.{◌≤◌, List, length}
use Rattle.std.specs.List.{All}
use Rattle.js_model.specs.declared.reply.StreamInfo.{StreamInfo}
use Rattle.place_engine.specs.Shown.{IsSoundInfo}

-- the informations of at most 32 streams, whose numbers can be added and whose texts can be printed
pub record AreSound (infos : List StreamInfo) : Type 0 where
  pub few : length infos ≤ 32
  pub each : All IsSoundInfo infos
