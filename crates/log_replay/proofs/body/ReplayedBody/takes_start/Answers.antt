use Rattle.std.proofs.Common.{◌<◌, ◌≤◌, length, sym, ap, ◌∙◌, arith}
use Rattle.std.specs.List.{position}
use Rattle.std.proofs.lemmas.Bool.{OnTrue_from}
use Rattle.record_fold.proofs.Replacing.{has_name}
use Rattle.log_replay.specs.Kept.{shown}
use Rattle.log_replay.proofs.Picking.{starts}
use Rattle.log_replay.proofs.body.ReplayedBody.takes_start.Goals as goal

pub returns : goal.returns
returns c = record {
  start = OnTrue_from c.are_stored.result _ (λ is.
      let i = c.self.inside in
      let room : length i.consumers.items < 256 = omega (arith, c.len.ensures, i.consumers.ok.0) in
      let few : length c.args.picks.now ≤ 65536 = omega arith in
      rw (← c.self.view_is)
      (starts (shown i.made i.moment i.last i.config i.messages i.ids i.consumers.items) c.args.name.now c.args.cursor c.args.picks.now c.place_of.result
      (c.place_of.ensures.value ∙ ap (position (has_name c.args.name.now)) c.as_slice.ensures.value)
      (sym c.is_some.ensures ∙ c.if-is_some.false) room (sym c.is_reached.ensures.value ∙ c.if-not-is_reached.false) (sym c.ascend.ensures.value ∙ c.if-not-ascend.false) few
      (sym c.are_stored.ensures.value ∙ is)));
}
