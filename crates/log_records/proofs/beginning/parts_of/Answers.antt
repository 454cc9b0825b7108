use Rattle.std.proofs.Common.{◌≡◌, List, map, sym, ap, refl, subst, ◌∙◌}
use Rattle.std.proofs.lemmas.Bool.{true≢false}
use Rattle.js_model.specs.declared.stream.Message.{Message}
use Rattle.block_table.specs.declared.block.Block.{Block}
use Rattle.block_table.specs.declared.placed.Placed.{Placed}
use Rattle.block_table.specs.Blocks.{Blocks}
use Rattle.block_table.specs.Restoring.{table_of}
use Rattle.block_table.specs.Tables.{IsTable}
use Rattle.log_records.specs.Beginnings.{blocks_told, body_told, message_told, place_told}
use Rattle.log_records.proofs.Begun.{none_there, some_there, told_there}
use Rattle.log_records.proofs.beginning.parts_of.Goals as goal

pub returns-in_default-clause-table : goal.returns-in_default-clause-table
returns-in_default-clause-table c =
    let told = c.args.told in
    let placed : c.as_slice-3.result.now ≡ map place_told told.messages = c.as_slice-3.ensures.value ∙ c.in_ok-placed.ensures.value ∙ ap (map place_told) c.as_slice-2.ensures in
    let same : table_of c.as_slice-3.result.now c.into_vec-older.result.items told.writing ≡ blocks_told told =
    ap (λ (ps : List Placed). table_of ps c.into_vec-older.result.items told.writing) placed ∙ ap (λ (ks : List Block). table_of (map place_told told.messages) ks told.writing) c.into_vec-older.ensures in
    (λ e. absurd (true≢false (sym e)), λ t. absurd (none_there c.in_default.is c.in_ok-table.ensures.table (subst IsTable (sym same)) t))

pub returns-clause-body : goal.returns-clause-body
returns-clause-body c = ap (λ (ms : List Message). record (body_told c.args.told) { messages = ms }) (c.in_ok-messages.ensures.value ∙ ap (map message_told) c.as_slice.ensures)

pub returns-clause-blocks : goal.returns-clause-blocks
returns-clause-blocks c =
    let told = c.args.told in
    let placed : c.as_slice-3.result.now ≡ map place_told told.messages = c.as_slice-3.ensures.value ∙ c.in_ok-placed.ensures.value ∙ ap (map place_told) c.as_slice-2.ensures in
    let same : table_of c.as_slice-3.result.now c.into_vec-older.result.items told.writing ≡ blocks_told told =
    ap (λ (ps : List Placed). table_of ps c.into_vec-older.result.items told.writing) placed ∙ ap (λ (ks : List Block). table_of (map place_told told.messages) ks told.writing) c.into_vec-older.ensures in
    told_there (λ (table : Blocks). table ≡ table_of c.as_slice-3.result.now c.into_vec-older.result.items told.writing) c.in-Some.is c.in_ok-table.ensures.value ∙ same

pub returns-clause-table : goal.returns-clause-table
returns-clause-table c =
    let told = c.args.told in
    let placed : c.as_slice-3.result.now ≡ map place_told told.messages = c.as_slice-3.ensures.value ∙ c.in_ok-placed.ensures.value ∙ ap (map place_told) c.as_slice-2.ensures in
    let same : table_of c.as_slice-3.result.now c.into_vec-older.result.items told.writing ≡ blocks_told told =
    ap (λ (ps : List Placed). table_of ps c.into_vec-older.result.items told.writing) placed ∙ ap (λ (ks : List Block). table_of (map place_told told.messages) ks told.writing) c.into_vec-older.ensures in
    (λ e. subst IsTable same (some_there c.in-Some.is c.in_ok-table.ensures.table), λ t. refl)
