use Rattle.std.proofs.Common.{◌∙◌, refl, drop, ◌+◌, Ok}
use Rattle.js_api.specs.Stages.{Sends, SendsOne, Gives}
use Rattle.desk_ground.proofs.Outs.{next_left, none_left, sends_same}
use Rattle.desk_ground.proofs.Stages.{goes_on, nothing, stops_by}
use Rattle.desk_ground.proofs.telling.send_all.Goals as goal

pub loop-out-init : goal.loop-out-init
loop-out-init g c = record { sends = λ after result h. h; setting = refl; phase = refl }

pub loop-out-preserved : goal.loop-out-preserved
loop-out-preserved g c = record {
  sends = λ after result h. c.loop-out.invariant.sends after result
      (sends_same g.G.Ground.made _ _ result _ _ (next_left _ _ _ c.loop-out-test.true c.out-item.is)
      (goes_on g.G.Ground.made g.met.G.Ground.made_more (SendsOne c.out-item.result) (λ _. Sends (drop (c.loop-out.out-index + 1) c.args.outs.now)) c.send.result tt result _ _ _ c.in_ok-send.was c.send.ensures.made h));
  setting = c.send.ensures.setting ∙ c.loop-out.invariant.setting;
  phase = c.send.ensures.phase ∙ c.loop-out.invariant.phase;
}

pub returns-in_err-send-clause-made : goal.returns-in_err-send-clause-made
returns-in_err-send-clause-made g c =
    c.loop-out.invariant.sends _ _
    (sends_same g.G.Ground.made _ _ _ _ _ (next_left _ _ _ c.loop-out-test.true c.out-item.is)
    (stops_by g.G.Ground.made (SendsOne c.out-item.result) (λ _. Sends (drop (c.loop-out.out-index + 1) c.args.outs.now)) c.send.result _ _ _ _ c.in_err-send.was c.from_residual.ensures.1 c.send.ensures.made))

pub returns-clause-made : goal.returns-clause-made
returns-clause-made g c =
    c.loop-out.invariant.sends _ (Ok tt)
    (sends_same g.G.Ground.made _ _ _ _ _ (none_left _ _ c.loop-out-test.false) (nothing g.G.Ground.made (Gives tt (Ok tt)) _ (g.met.G.Ground.made_nothing _) (record { result_is = refl; entries_are = refl })))
