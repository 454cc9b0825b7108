use Rattle.std.proofs.Common.{◌≡◌, ◌<◌, ◌≤◌, ◌^◌, None, length, sym, subst, ◌∙◌, arith}
use Rattle.std.proofs.lemmas.Bool.{OnTrue_from}
use Rattle.js_base.specs.Bytes.{Bytes}
use Rattle.dedup_window.specs.Window.{seq_of}
use Rattle.log_replay.proofs.Ids.{empty_new, fresh, fresh_new, is_none_at}
use Rattle.log_replay.proofs.body.ReplayedBody.takes_id.Goals as goal

pub returns-then-is_empty : goal.returns-then-is_empty
returns-then-is_empty c = record { new = empty_new c.args.self.now.ids c.args.id.now c.if-is_empty.ensures }

pub returns : goal.returns
returns c = record {
  new = OnTrue_from c.is_none.result _ (λ is.
      let i = c.self.inside in
      let short : length c.args.id.now ≤ 256 = omega arith in
      let room : length i.ids.ids < 2 ^ 20 = omega arith in
      let none = sym c.seq_of.ensures.value ∙ is_none_at c.seq_of.result c.is_none.result c.is_none.ensures is in
      rw (← c.self.view_is) (fresh_new i.ids.ids c.args.id.now (fresh i.ids.ids c.args.id.now short room (subst (λ (text : Bytes). seq_of i.ids.ids text ≡ None) c.as_slice.ensures none))));
}
