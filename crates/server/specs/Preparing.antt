-- The making of the stream that the command line names, before a link is served.
use Rattle.std.specs.Prelude.{◌≡◌, ℕ, List, [], ◌∷◌, Option, Some, None, Result, Ok}
use Rattle.js_base.specs.declared.out.ApiError.{ApiError}
use Rattle.js_model.specs.PlaceStates.{PlaceIn}
use Rattle.link_edge.specs.Moments.{ReadsMoments}
use Rattle.stream_config.specs.Defaults.{default_config}
use Rattle.js_api.specs.declared.fault.DeskFault.{DeskFault}
use Rattle.js_api.specs.Entries.{DeskEntry}
use Rattle.js_api.specs.Leading.{Leads}
use Rattle.js_api.specs.Making.{MakesStream}
use Rattle.js_api.specs.Worlds.{Scene, SoloStep, opening}
use Rattle.server.specs.declared.words.NamedStream.{NamedStream}

-- The clock was read once, and the entries of the making of this stream, which came to that, led a desk over places that were opened so from its
-- opening to this scene.
pub record IsMaking (opened : List PlaceIn) (stream : NamedStream) (result : Result (Option ApiError) DeskFault) (clock_old clock_new : Option (List ℕ)) (after : Scene) : Type 0 where
  pub moment : ℕ
  pub entries : List DeskEntry
  pub read : ReadsMoments clock_old (moment ∷ []) clock_new
  pub makes : MakesStream stream.name (default_config stream.name stream.subject) moment result entries
  pub led : Leads SoloStep (opening opened) entries after

-- the stream that the command line names was made, or was not, as the result tells; if it names none, the desk is as it was opened, and the clock
-- was not read
abbrev pub Prepares : List PlaceIn → Option NamedStream → Result (Option ApiError) DeskFault → Option (List ℕ) → Option (List ℕ) → Scene → Type 0
Prepares opened None result clock_old clock_new after = (result ≡ Ok None) × (after ≡ opening opened) × (clock_new ≡ clock_old)
Prepares opened (Some stream) result clock_old clock_new after = IsMaking opened stream result clock_old clock_new after
