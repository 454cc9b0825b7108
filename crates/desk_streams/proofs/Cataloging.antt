-- What a call tells the catalog of a stream that it makes or changes, the hold, and the end of the call.
use Rattle.std.proofs.Common.{ℕ, Bool, true, List, [], ◌∷◌, ◌++◌, append-nil, append_assoc, Option, None, Result, refl, sym, ap, ◌∙◌}
use Rattle.js_base.specs.Bytes.{Bytes}
use Rattle.js_base.specs.declared.out.ApiError.{ApiError}
use Rattle.js_model.specs.declared.stream_config.StreamConfig.{StreamConfig}
use Rattle.js_model.specs.declared.event.What.{What}
use Rattle.js_model.specs.declared.event.What.TheVariants as whats
use Rattle.js_model.specs.declared.desk.PlaceAt.{PlaceAt}
use Rattle.js_model.specs.Proper.{reply_of}
use Rattle.js_model.specs.Catalog as catalog
use Rattle.js_api.specs.declared.fault.DeskFault.{DeskFault}
use Rattle.js_api.specs.declared.outcome.Outcome.{Outcome}
use Rattle.js_api.specs.Entries.{DeskEntry, Looked}
use Rattle.js_api.specs.Leading.{Makes}
use Rattle.js_api.specs.Stages.{Ending}
use Rattle.js_api.specs.Holding.{Holds}
use Rattle.js_api.specs.OneStream.{IsOnStream, IsEnded, IsAdding, IsChanging, GoesOnChanged, free_unless_made}
use Rattle.js_api.specs.Making.{MakesAt, IsMaking}
use Rattle.desk_streams.specs.MakingAt.{IsMadeAt}

module _ {D : Type 0} (made : D → List DeskEntry → D → Type 0) (more : (a b c : D) (first more : List DeskEntry) → made a first b → made b more c → made a (first ++ more) c) where
  -- ---- the place of a new stream

  pub adding : {X : Type 0} (stream : Bytes) (config : StreamConfig) (GoesOn : catalog.CatTold → Result X DeskFault → List DeskEntry → Type 0) (told : catalog.CatTold) (result : Result X DeskFault) (a b c : D)
      → made a (Looked true (catalog.Add stream config.subjects) told ∷ []) b → Makes made (GoesOn told result) b c → Makes made (IsAdding stream config GoesOn result) a c
  adding stream config GoesOn told result a b c h k = record {
    entries = Looked true (catalog.Add stream config.subjects) told ∷ k.entries;
    are = record { added = told; more = k.entries; entries_are = refl; went_on = k.are };
    led = more a b c (Looked true (catalog.Add stream config.subjects) told ∷ []) k.entries h k.led;
  }

  pub made_at : (at : PlaceAt) (what : What) (now : ℕ) (outcome : Outcome) (a b c : D) → Makes made (Holds at what now outcome) a b → made b (free_unless_made at outcome.became) c
      → Makes made (IsMadeAt at what now outcome) a c
  made_at at what now outcome a b c h k = record {
    entries = h.entries ++ free_unless_made at outcome.became;
    are = record { held = h.entries; entries_are = refl; holds = h.are };
    led = more a b c h.entries (free_unless_made at outcome.became) h.led k;
  }

  pub on_new_stream : (name : Bytes) (at : PlaceAt) (what : What) (now : ℕ) (outcome : Outcome) (result : Result Bool DeskFault) (a b c : D) → Makes made (IsMadeAt at what now outcome) a b
      → Makes made (Ending outcome.fault (IsEnded name (reply_of what) outcome.became) result) b c → Makes made (IsOnStream name at what now (free_unless_made at) result) a c
  on_new_stream name at what now outcome result a b c h e = record {
    entries = h.entries ++ e.entries;
    are = record {
      outcome = outcome;
      held = h.are.held;
      ended = e.entries;
      entries_are = ap (λ (entries : List DeskEntry). entries ++ e.entries) h.are.entries_are ∙ append_assoc h.are.held (free_unless_made at outcome.became) e.entries;
      holds = h.are.holds;
      ends = e.are;
    };
    led = more a b c h.entries e.entries h.led e.led;
  }

  -- ---- a stream that is changed

  pub changing : (config : StreamConfig) (to : Option Bytes) (now : ℕ) (at : PlaceAt) (told : catalog.CatTold) (result : Result Bool DeskFault) (a b c : D)
      → made a (Looked true (catalog.Change at.place config.subjects) told ∷ []) b → Makes made (GoesOnChanged at config to now told result) b c → Makes made (IsChanging config to now at result) a c
  changing config to now at told result a b c h k = record {
    entries = Looked true (catalog.Change at.place config.subjects) told ∷ k.entries;
    are = record { changed = told; more = k.entries; entries_are = refl; went_on = k.are };
    led = more a b c (Looked true (catalog.Change at.place config.subjects) told ∷ []) k.entries h k.led;
  }

-- ---- the stream that the command line names

pub making_at : {D : Type 0} (made : D → List DeskEntry → D → Type 0) (config : StreamConfig) (now : ℕ) (at : PlaceAt) (outcome : Outcome) (result : Result (Option ApiError) DeskFault) (a b : D)
    → Makes made (IsMadeAt at (whats.Make None config) now outcome) a b → Ending outcome.fault (IsMaking outcome.became) result [] → Makes made (MakesAt config now at result) a b
making_at made config now at outcome result a b h e = record {
  entries = h.entries;
  are = record {
    outcome = outcome;
    held = h.are.held;
    ended = [];
    entries_are = h.are.entries_are ∙ ap (λ (entries : List DeskEntry). h.are.held ++ entries) (sym (append-nil (free_unless_made at outcome.became)));
    holds = h.are.holds;
    ends = e;
  };
  led = h.led;
}
