-- That the batches of a log are read in one way, that its messages may be read later, and that another log can begin with what it made.
use Rattle.std.specs.Prelude.{◌≡◌, ◌↔◌, ℕ, List, map, All, IsTrue, Option, Some, option_map}
use Rattle.std.specs.List.{list_all}
use Rattle.js_base.specs.Bytes.{Bytes}
use Rattle.model_laws.specs.Bounds.{IsWritableMessage}
use Rattle.effects.specs.declared.durable.Durable.{Durable}
use Rattle.effects.specs.declared.effect.Effect.{Effect}
use Rattle.effects.specs.Folding.{fold, fold_all}
use Rattle.durable_checks.specs.Storable.{IsFormed, IsStorable}
use Rattle.op_records.specs.Allowed.{may_stand}
use Rattle.op_records.specs.Laws.{IsBatch}
use Rattle.op_records.specs.declared.record.Record.{Record}
use Rattle.block_table.specs.Blocks.{Blocks}
use Rattle.block_table.specs.Tables.{IsTable}
use Rattle.state_snapshot.specs.Snapshots.{snapshot_of}
use Rattle.state_snapshot.specs.Spelling.{spelled_snapshot}
use Rattle.log_records.specs.Unread.{unread, unread_effect, stored_messages}
use Rattle.log_records.specs.Logged.{IsLogged, Logged, fold_records}
use Rattle.log_records.specs.Beginnings.{CanBegin}
use Rattle.log_records.specs.Batches.{Begins, Gives, closed_in}
use Rattle.log_records.specs.Damage.{HasBadBatch}
use Rattle.log_records.specs.Ends.{IsLastIn}

pub record LawBatches : Type 0 where
  pub one : (batches : List Bytes) (g h : Logged) → Gives batches g → Gives batches h → g ≡ h
  pub whole : (batches : List Bytes) (g : Logged) (at : ℕ) → Gives batches g → ¬ HasBadBatch batches at
  pub one_offset : (batches : List Bytes) (at other : ℕ) → HasBadBatch batches at → HasBadBatch batches other → at ≡ other
  pub last : (batches : List Bytes) (g : Logged) (at : ℕ) → IsLastIn batches g at → Gives batches g
  pub one_last : (batches : List Bytes) (g h : Logged) (at other : ℕ) → IsLastIn batches g at → IsLastIn batches h other → at ≡ other

-- records make of unread messages what they make of messages, and what is asked at the end of a batch looks at none
pub record LawUnread : Type 0 where
  pub one : (d : Durable) (e : Effect) → fold (unread d) (unread_effect e) ≡ option_map unread (fold d e)
  pub all : (es : List Effect) (d : Option Durable) → fold_all (map unread_effect es) (option_map unread d) ≡ option_map unread (fold_all es d)
  pub storable : (d : Durable) → IsStorable (unread d) ↔ IsStorable d
  pub again : (d : Durable) → unread (unread d) ≡ unread d
  pub formed : (d : Durable) → IsFormed d ↔ (IsFormed (unread d) × All IsWritableMessage (stored_messages d))

-- the bytes of the snapshot of what a log made
abbrev pub snapshot_in : Logged → Bytes
snapshot_in g = spelled_snapshot (snapshot_of g.durable g.blocks)

-- What records make of what a log made is such again, and a snapshot of it, which looks at no message, begins another log.
pub record LawBegins : Type 0 where
  pub logged : (records : List Record) (g h : Logged) → IsTrue (list_all may_stand records) → fold_records records (Some g) ≡ Some h → IsLogged g → IsLogged h
  pub table : (records : List Record) (g h : Logged) → fold_records records (Some g) ≡ Some h → IsTable g.blocks → IsTable h.blocks
  pub closed : (g : Logged) → IsLogged g → IsLogged (closed_in g)
  pub begins : (g : Logged) → IsLogged g → CanBegin g → IsBatch (snapshot_in g) → Begins (snapshot_in g) g
  pub unread : (d : Durable) (b : Blocks) → snapshot_of (unread d) b ≡ snapshot_of d b
