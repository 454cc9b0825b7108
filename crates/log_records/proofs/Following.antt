-- Records make of what a log has made such a thing again.
use Rattle.std.proofs.Common.{◌≡◌, Bool, true, false, cond, List, [], ◌∷◌, Option, Some, None, IsTrue, refl, sym, ap, subst, ◌∙◌}
use Rattle.std.specs.List.{list_all}
use Rattle.std.proofs.lemmas.Bool.{and_parts}
use Rattle.js_model.proofs.Named.{some_is, none_some}
use Rattle.effects.specs.declared.durable.Body.{Body}
use Rattle.effects.specs.declared.effect.Effect.{Effect}
use Rattle.effects.specs.declared.effect.Effect.TheVariants.{MakeStream, ChangeStream, DropStream, PutHere, Skip, Remove, MakeConsumer, DropConsumer, Deliver, Acked, Due, GivenUp, Now}
use Rattle.block_table.specs.Blocks.{Blocks}
use Rattle.block_table.specs.Closing.{closed}
use Rattle.block_table.specs.Puts.{fits, put_at}
use Rattle.block_table.specs.Tables.{IsTable}
use Rattle.block_table.proofs.Tables.{table_none, table_put, table_removed}
use Rattle.op_records.specs.declared.record.Record.{Record}
use Rattle.op_records.specs.declared.record.Record.TheVariants.{Put, Change}
use Rattle.op_records.specs.Allowed.{may_stand}
use Rattle.op_records.specs.Laws.{IsBatch}
use Rattle.state_snapshot.specs.Snapshots.{snapshot_of}
use Rattle.state_snapshot.proofs.SnapshotsExact.{law_snapshot}
use Rattle.state_snapshot.proofs.Writable.{law_writable}
use Rattle.log_records.specs.Logged.{Logged, HasBlocksOf, IsLogged, blocks_by, blocks_after, fold_record, fold_records}
use Rattle.log_records.specs.Beginnings.{CanBegin}
use Rattle.log_records.specs.Batches.{Begins, closed_in}
use Rattle.log_records.specs.Laws.{LawBegins, snapshot_in}
use Rattle.log_records.proofs.Begun.{snapshot_unread, told_again}
use Rattle.log_records.proofs.Keeping.{stays_logged}
use Rattle.log_records.proofs.Logging.{fold_parts, no_records}

-- ---- what records make

-- by each record
each_keeps : (P : Logged → Type 0) → ((g h : Logged) (r : Record) → IsTrue (may_stand r) → fold_record g r ≡ Some h → P g → P h)
    → (records : List Record) (g h : Logged) → IsTrue (list_all may_stand records) → fold_records records (Some g) ≡ Some h → P g → P h
each_keeps P keeps [] g h allowed e p = subst P (some_is e) p
each_keeps P keeps (r ∷ rs) g h allowed e p =
    let parts = and_parts (may_stand r) (list_all may_stand rs) allowed in
    go (fold_record g r) refl e (λ mid is. keeps g mid r parts.0 is p) (λ mid f q. each_keeps P keeps rs mid h parts.1 f q)
  where
    go : (o : Option Logged) → fold_record g r ≡ o → fold_records rs o ≡ Some h → ((mid : Logged) → fold_record g r ≡ Some mid → P mid) → ((mid : Logged) → fold_records rs (Some mid) ≡ Some h → P mid → P h) → P h
    go None is e one on = absurd (none_some (sym (no_records rs) ∙ e))
    go (Some mid) is e one on = on mid e (one mid is)

logged_kept : (g h : Logged) (r : Record) → IsTrue (may_stand r) → fold_record g r ≡ Some h → IsLogged g → IsLogged h
logged_kept g h r allowed e l = stays_logged g r h.durable h.blocks l allowed (fold_parts g r h e)

-- ---- and the blocks of it

change_table : (e : Effect) (b : Blocks) → IsTable b → IsTable (blocks_by e b)
change_table (MakeStream incarnation made config) b t = table_none
change_table (ChangeStream config) b t = t
change_table DropStream b t = table_none
change_table (PutHere seq at id subject headers payload) b t = t
change_table (Skip seq at id) b t = t
change_table (Remove low high) b t = table_removed low high b t
change_table (MakeConsumer name made config cursor picks) b t = t
change_table (DropConsumer name) b t = t
change_table (Deliver name seq count due dseq) b t = t
change_table (Acked name low high) b t = t
change_table (Due name seq due) b t = t
change_table (GivenUp name moment) b t = t
change_table (Now moment) b t = t

table_after : (r : Record) (b c : Blocks) → blocks_after r b ≡ Some c → IsTable b → IsTable c
table_after (Put seq at id spot) b c e t = go (fits seq spot b) refl e
  where
    go : (f : Bool) → fits seq spot b ≡ f → cond f (Some (put_at seq spot b)) None ≡ Some c → IsTable c
    go true is e = subst IsTable (some_is e) (table_put seq spot b t is)
    go false is e = absurd (none_some e)
table_after (Change f) b c e t = subst IsTable (some_is e) (change_table f b t)

table_kept : (records : List Record) (g h : Logged) → fold_records records (Some g) ≡ Some h → IsTable g.blocks → IsTable h.blocks
table_kept [] g h e t = subst (λ (x : Logged). IsTable x.blocks) (some_is e) t
table_kept (r ∷ rs) g h e t = go (fold_record g r) refl e (λ mid f q. table_kept rs mid h f q)
  where
    go : (o : Option Logged) → fold_record g r ≡ o → fold_records rs o ≡ Some h → ((mid : Logged) → fold_records rs (Some mid) ≡ Some h → IsTable mid.blocks → IsTable h.blocks) → IsTable h.blocks
    go None is e on = absurd (none_some (sym (no_records rs) ∙ e))
    go (Some mid) is e on = on mid e (table_after r g.blocks mid.blocks (fold_parts g r mid is).blocks t)

-- ---- at the end of a batch

pub logged_closed : (g : Logged) → IsLogged g → IsLogged (closed_in g)
logged_closed g l = record { formed = l.formed; vacant = still g.durable.body l.vacant; messages = l.messages; placed = l.placed }
  where
    still : (o : Option Body) → HasBlocksOf o g.blocks → HasBlocksOf o (closed g.blocks)
    still None none = ap closed none
    still (Some body) none = tt

-- ---- a snapshot begins another log

begins : (g : Logged) → IsLogged g → CanBegin g → IsBatch (snapshot_in g) → Begins (snapshot_in g) g
begins g l can batch = record {
  snapshot = snapshot_of g.durable g.blocks;
  reads = (law_snapshot (snapshot_in g) (snapshot_of g.durable g.blocks) batch).1 (record { allowed = law_writable g.durable g.blocks l.formed can.storable can.table; bytes_are = refl });
  begun_is = told_again g l;
  can = can;
}

pub law_begins : LawBegins
law_begins = record {
  logged = each_keeps IsLogged logged_kept;
  table = table_kept;
  closed = logged_closed;
  begins = begins;
  unread = snapshot_unread;
}
