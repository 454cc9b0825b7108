use Rattle.std.proofs.Common.{◌≡◌, ◌++◌, Option, IsTrue, OnOk, sym, subst}
use Rattle.std.specs.Option.{option_to_list}
use Rattle.op_records.specs.Allowed.{is_list}
use Rattle.op_records.specs.Spelling.{spelled_list}
use Rattle.block_table.specs.declared.block.Block.{Block}
use Rattle.state_snapshot.specs.Allowed.{is_block}
use Rattle.state_snapshot.specs.Spelling.{spelled_block}
use Rattle.state_snapshot.proofs.writing.put_writing.Goals as goal

pub put_list-requires : goal.put_list-requires
put_list-requires c = record { allowed = subst (λ (o : Option Block). IsTrue (is_list is_block (option_to_list o))) c.in-Some.is c.requires.allowed }

pub returns-in-Some : goal.returns-in-Some
returns-in-Some c =
    record { ok = subst (λ (o : Option Block). OnOk c.put_list.result (c.put_list.new.into.items ≡ c.args.into.now.items ++ spelled_list spelled_block (option_to_list o))) (sym c.in-Some.is) c.put_list.ensures.ok }

pub returns-in-None : goal.returns-in-None
returns-in-None c =
    record { ok = subst (λ (o : Option Block). OnOk c.put_count.result (c.put_count.new.into.items ≡ c.args.into.now.items ++ spelled_list spelled_block (option_to_list o))) (sym c.in-None.is) c.put_count.ensures.ok }
