use Rattle.std.proofs.Common.{◌≡◌, ◌++◌, ◌∷◌, [], List, ap, ◌∙◌}
use Rattle.std.proofs.lemmas.Result.{on_ok_weaker}
use Rattle.js_base.specs.Bytes.{Bytes}
use Rattle.op_records.specs.Blocks.{spelled_message}
use Rattle.block_writing.specs.declared.run.Run.{Run}
use Rattle.block_writing.specs.Planning.{run_at, with_message}
use Rattle.block_writing.proofs.Messages.{added_other, added_same}
use Rattle.block_writing.proofs.run.add_message.Goals as goal

pub returns-then-last-spot : goal.returns-then-last-spot
returns-then-last-spot c =
    let bytes = spelled_message c.args.message.now in
    record {
      ok = on_ok_weaker {Q = c.begin_run-then-last-spot.new.runs.items ≡ with_message c.args.runs.now.items c.args.spot bytes} c.begin_run-then-last-spot.result
          (λ (e : c.begin_run-then-last-spot.new.runs.items ≡ c.push.new.self.items ++ run_at c.args.spot bytes ∷ []).
          e ∙ ap (λ (l : List Run). l ++ run_at c.args.spot bytes ∷ []) c.in_ok-push.ensures.items
          ∙ added_other c.args.runs.now.items c.pop.new.self.items c.in-Some.last c.args.spot bytes c.in-Some.ensures.items c.if-last-spot.true)
          c.begin_run-then-last-spot.ensures.ok;
    }

pub returns : goal.returns
returns c =
    let bytes = spelled_message c.args.message.now in
    record {
      ok = c.in_ok-push-2.ensures.items
          ∙ added_same c.args.runs.now.items c.pop.new.self.items c.in-Some.last c.args.spot bytes c.from_vec.result c.in-Some.ensures.items c.if-last-spot.false
          (c.from_vec.ensures ∙ c.in_ok-write_message.ensures.ok ∙ ap (λ (l : Bytes). l ++ bytes) c.into_vec-bytes.ensures);
    }
