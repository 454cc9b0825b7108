use Rattle.std.proofs.Common.{◌≡◌, ◌++◌, IsTrue, sym, ap, subst, ◌∙◌}
use Rattle.std.proofs.lemmas.Result.{on_ok_weaker}
use Rattle.js_model.specs.declared.stream.Message.{Message}
use Rattle.effects.specs.declared.effect.Effect.{Effect}
use Rattle.effects.specs.declared.effect.Effect.TheVariants.{PutHere}
use Rattle.op_records.specs.Allowed.{is_record}
use Rattle.op_records.specs.Blocks.{is_block_message}
use Rattle.op_records.specs.Spelling.{spelled}
use Rattle.block_writing.specs.Plans.{IsAdded, IsPut, WritesBlock}
use Rattle.block_writing.proofs.Plans.{no_spot, put_added, rest_added, restart_added}
use Rattle.block_writing.proofs.Runs.{id_allowed, put_allowed}
use Rattle.block_writing.proofs.commit.Plan.add.Goals as goal

pub put-requires-clause-allowed : goal.put-requires-clause-allowed
put-requires-clause-allowed c =
    subst (λ (m : Message). IsTrue (is_block_message m)) (sym c.in_ok-message-in-PutHere.ensures.value)
    (put_allowed c.in-PutHere.seq c.in-PutHere.at c.in-PutHere.id c.in-PutHere.subject c.in-PutHere.headers c.in-PutHere.payload
    (subst (λ (x : Effect). IsTrue (is_record x)) c.in-PutHere.is c.requires.allowed))

pub put-requires-clause-id : goal.put-requires-clause-id
put-requires-clause-id c =
    id_allowed c.in-PutHere.seq c.in-PutHere.at c.in-PutHere.id c.in-PutHere.subject c.in-PutHere.headers c.in-PutHere.payload
    (subst (λ (x : Effect). IsTrue (is_record x)) c.in-PutHere.is c.requires.allowed)

pub returns-in_ok-message-in-PutHere-clause-ok : goal.returns-in_ok-message-in-PutHere-clause-ok
returns-in_ok-message-in-PutHere-clause-ok c =
    let m = c.in_ok-message-in-PutHere.message in
    on_ok_weaker {Q = IsAdded c.args.table.now c.args.effect.now c.args.self.now c.put.new.self c.args.placing.now c.put.new.placing} c.put.result
    (λ (h : IsPut c.args.table.now c.in-PutHere.id m c.args.self.now c.put.new.self c.args.placing.now c.put.new.placing).
    put_added c.args.table.now c.args.effect.now c.in-PutHere.id m c.args.self.now c.put.new.self c.args.placing.now c.put.new.placing
    (c.in-PutHere.is ∙ ap (λ (x : Message). PutHere x.seq x.at c.in-PutHere.id x.subject x.headers x.payload) (sym c.in_ok-message-in-PutHere.ensures.value)) h)
    c.put.ensures.ok

pub returns-in_ok-message-in-PutHere-clause-no_room : goal.returns-in_ok-message-in-PutHere-clause-no_room
returns-in_ok-message-in-PutHere-clause-no_room c = λ err.
    no_spot c.args.table.now c.args.effect.now c.in-PutHere.id c.in_ok-message-in-PutHere.message c.args.placing.now
    (c.in-PutHere.is ∙ ap (λ (x : Message). PutHere x.seq x.at c.in-PutHere.id x.subject x.headers x.payload) (sym c.in_ok-message-in-PutHere.ensures.value))
    (c.put.ensures.no_room err)

pub returns-in_default : goal.returns-in_default
returns-in_default c = record {
  ok = on_ok_weaker {Q = IsAdded c.args.table.now c.args.effect.now c.args.self.now c.change.new.self c.args.placing.now c.args.placing.now} c.change.result
      (λ (h : c.change.new.self.batch.items ≡ c.args.self.now.batch.items ++ spelled c.args.effect.now).
      rest_added c.args.table.now c.args.effect.now c.args.self.now c.change.new.self c.args.placing.now c.in_default.not-PutHere c.in_default.not-MakeStream c.in_default.not-DropStream h
      c.change.ensures.spots c.change.ensures.runs)
      c.change.ensures.batch;
  block = on_ok_weaker {Q = WritesBlock c.args.placing.now} c.change.result (λ (h : c.change.new.self.batch.items ≡ c.args.self.now.batch.items ++ spelled c.args.effect.now). c.requires.block) c.change.ensures.batch;
  no_room = λ err. absurd (c.change.ensures.room err);
}

pub returns-in-MakeStream-clause-ok : goal.returns-in-MakeStream-clause-ok
returns-in-MakeStream-clause-ok c =
    on_ok_weaker {Q = IsAdded c.args.table.now c.args.effect.now c.args.self.now c.change-in-MakeStream.new.self c.args.placing.now c.restart.new.self} c.change-in-MakeStream.result
    (λ (h : c.change-in-MakeStream.new.self.batch.items ≡ c.args.self.now.batch.items ++ spelled c.args.effect.now).
    restart_added c.args.table.now c.args.effect.now c.args.self.now c.change-in-MakeStream.new.self c.args.placing.now c.restart.new.self c.in-MakeStream.is c.restart.ensures h
    c.change-in-MakeStream.ensures.spots c.change-in-MakeStream.ensures.runs)
    c.change-in-MakeStream.ensures.batch

pub returns-in-MakeStream-clause-no_room : goal.returns-in-MakeStream-clause-no_room
returns-in-MakeStream-clause-no_room c = λ err. absurd (c.change-in-MakeStream.ensures.room err)
