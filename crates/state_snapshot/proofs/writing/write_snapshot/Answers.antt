use Rattle.std.proofs.Common.{◌≡◌, ◌++◌, Option, OnOk, option_map, sym, subst}
use Rattle.effects.specs.declared.durable.Body.{Body}
use Rattle.state_snapshot.specs.Snapshots.{body_in}
use Rattle.state_snapshot.specs.Spelling.{spelled_snapshot, spelled_with}
use Rattle.state_snapshot.proofs.Writable.{body_spots, body_writable, vacant_number}
use Rattle.state_snapshot.proofs.writing.write_snapshot.Goals as goal

pub put_live-requires : goal.put_live-requires
put_live-requires c =
    let d = c.args.durable.now in
    let b = c.args.table.now in
    let body = c.in-Some.body in
    record {
      placed = body_spots d b body c.in-Some.is c.requires.spots;
      allowed = body_writable d b body c.in-Some.is c.requires.formed c.requires.storable c.older-older.ensures.table;
    }

pub write_vacant-requires : goal.write_vacant-requires
write_vacant-requires c = record { number = vacant_number c.args.durable.now c.in-None.is c.requires.storable }

pub returns-in-Some : goal.returns-in-Some
unfolding spelled_snapshot
returns-in-Some c =
    let i = c.args.durable.now.incarnation in
    record { ok = subst (λ (o : Option Body). OnOk c.put_live.result (c.put_live.new.into.items ≡ c.args.into.now.items ++ spelled_with i (option_map (body_in c.args.table.now) o))) (sym c.in-Some.is) c.put_live.ensures.ok }

pub returns-in-None : goal.returns-in-None
unfolding spelled_snapshot
returns-in-None c =
    let i = c.args.durable.now.incarnation in
    record { ok = subst (λ (o : Option Body). OnOk c.write_vacant.result (c.write_vacant.new.into.items ≡ c.args.into.now.items ++ spelled_with i (option_map (body_in c.args.table.now) o))) (sym c.in-None.is) c.write_vacant.ensures.ok }
