use Rattle.std.proofs.Common.{◌∙◌, List, ap, refl, sym, subst}
use Rattle.std.proofs.Math.Path.{fun_ext}
use Rattle.std.proofs.lemmas.Result.{err_from_is_err_and}
use Rattle.std.specs.List.{AllZip}
use Rattle.js_model.specs.Streams.{seqs}
use Rattle.js_model.specs.declared.stream.Message.{Message}
use Rattle.vol_disk.specs.Disk.{Files}
use Rattle.vol_disk.proofs.Moments.{quiet_durable, quiet_then}
use Rattle.block_reading.specs.Damage.{IsToldBy}
use Rattle.block_reading.specs.Reading.{IsMessagesFault}
use Rattle.block_reading.specs.Standing.{AreStoredIn}
use Rattle.stream_store.specs.Holding.{last_of}
use Rattle.stream_store.specs.Reading.{IsReadOf}
use Rattle.stream_store.specs.declared.reading.Found.{Found}
use Rattle.stream_store.proofs.Finding.{blocks_back, blocks_told}
use Rattle.stream_store.proofs.Messages.{formed_found, placed_found, storable_found, stored_found}
use Rattle.stream_store.proofs.Faults.{messages_roomy, volume_roomy}
use Rattle.stream_store.proofs.reading.read_blocks.Goals as goal

pub read_messages-requires : goal.read_messages-requires
read_messages-requires g c = record { placed = c.requires.logged.placed ∙ sym (ap seqs c.messages_of.ensures.value) }

pub returns-clause-read : goal.returns-clause-read
returns-clause-read g c = record {
  messages = c.in_ok-messages.messages;
  told = subst (λ (l : List Message). AllZip IsToldBy l c.in_ok-messages.messages) c.messages_of.ensures.value c.in_ok-messages.ensures.told;
  durable = c.with_messages.ensures.value;
  table = refl;
}

pub returns-clause-placed : goal.returns-clause-placed
returns-clause-placed g c =
    let read = c.args.read in
    let f : Found = record { durable = c.with_messages.result; table = read.table } in
    let is : IsReadOf read f = record {
      messages = c.in_ok-messages.messages;
      told = subst (λ (l : List Message). AllZip IsToldBy l c.in_ok-messages.messages) c.messages_of.ensures.value c.in_ok-messages.ensures.told;
      durable = c.with_messages.ensures.value;
      table = refl;
    } in
    placed_found read f c.requires.logged is

pub returns-clause-formed : goal.returns-clause-formed
returns-clause-formed g c =
    let read = c.args.read in
    let f : Found = record { durable = c.with_messages.result; table = read.table } in
    let is : IsReadOf read f = record {
      messages = c.in_ok-messages.messages;
      told = subst (λ (l : List Message). AllZip IsToldBy l c.in_ok-messages.messages) c.messages_of.ensures.value c.in_ok-messages.ensures.told;
      durable = c.with_messages.ensures.value;
      table = refl;
    } in
    formed_found read f c.requires.logged is c.in_ok-messages.ensures.allowed

pub returns-clause-storable : goal.returns-clause-storable
returns-clause-storable g c =
    let read = c.args.read in
    let f : Found = record { durable = c.with_messages.result; table = read.table } in
    let is : IsReadOf read f = record {
      messages = c.in_ok-messages.messages;
      told = subst (λ (l : List Message). AllZip IsToldBy l c.in_ok-messages.messages) c.messages_of.ensures.value c.in_ok-messages.ensures.told;
      durable = c.with_messages.ensures.value;
      table = refl;
    } in
    storable_found read f c.requires.logged is c.requires.storable

pub returns-clause-stored : goal.returns-clause-stored
returns-clause-stored g c = λ told.
    let read = c.args.read in
    let f : Found = record { durable = c.with_messages.result; table = read.table } in
    let is : IsReadOf read f = record {
      messages = c.in_ok-messages.messages;
      told = subst (λ (l : List Message). AllZip IsToldBy l c.in_ok-messages.messages) c.messages_of.ensures.value c.in_ok-messages.ensures.told;
      durable = c.with_messages.ensures.value;
      table = refl;
    } in
    let old = g.V.Vol.disk c.args.vol.now in
    let mid = g.V.Vol.disk c.sync_blocks.new.vol in
    let new = g.V.Vol.disk c.read_messages.new.vol in
    let still = c.sync_blocks.ensures.quiet told in
    stored_found read f c.requires.logged is old
    (rw (← c.last_of-last.ensures.value) (subst (λ (x : Files). AreStoredIn x read.table c.last_of-last.result is.messages) (fun_ext still.seen) (c.in_ok-messages.ensures.stored told)))

pub returns-clause-synced : goal.returns-clause-synced
returns-clause-synced g c = λ told file has.
    let old = g.V.Vol.disk c.args.vol.now in
    let mid = g.V.Vol.disk c.sync_blocks.new.vol in
    let new = g.V.Vol.disk c.read_messages.new.vol in
    quiet_durable mid new file (c.read_messages.ensures.quiet told) (c.in_ok-sync_blocks.ensures.synced told file has)

pub returns-in_err-messages-clause-fault : goal.returns-in_err-messages-clause-fault
returns-in_err-messages-clause-fault g c = λ told.
    let read = c.args.read in
    let old = g.V.Vol.disk c.args.vol.now in
    let mid = g.V.Vol.disk c.sync_blocks.new.vol in
    let p = err_from_is_err_and c.from_residual-in_err-messages.result c.from_residual-in_err-messages.ensures.1 in
    let fault = c.in_err-messages.field-0.0 in
    let there = subst (λ (l : List Message). IsMessagesFault mid.seen read.table (last_of read.durable) l fault) c.messages_of.ensures.value (rw (← c.last_of-last.ensures.value) (c.in_err-messages.ensures.fault told)) in
    rw (p.1, p.2) (blocks_back read old mid _ (c.sync_blocks.ensures.quiet told) (blocks_told read mid fault there))

pub returns-in_err-messages-clause-quiet : goal.returns-in_err-messages-clause-quiet
returns-in_err-messages-clause-quiet g c = λ told.
    quiet_then (g.V.Vol.disk c.args.vol.now) (g.V.Vol.disk c.sync_blocks.new.vol) (g.V.Vol.disk c.read_messages.new.vol) (c.sync_blocks.ensures.quiet told) (c.read_messages.ensures.quiet told)

-- no fault is told for want of room

pub returns-in_err-sync_blocks-clause-no_room : goal.returns-in_err-sync_blocks-clause-no_room
returns-in_err-sync_blocks-clause-no_room g c = volume_roomy c.from_residual.result c.from_residual.ensures.1

pub returns-in_err-messages-clause-no_room : goal.returns-in_err-messages-clause-no_room
returns-in_err-messages-clause-no_room g c = messages_roomy c.from_residual-in_err-messages.result c.in_err-messages.field-0.0 c.from_residual-in_err-messages.ensures.1
