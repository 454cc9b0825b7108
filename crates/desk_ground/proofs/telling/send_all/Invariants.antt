use Rattle.std.proofs.Common.{◌≡◌, drop, Result}
use Rattle.js_api.specs.declared.fault.DeskFault.{DeskFault}
use Rattle.js_api.specs.Leading.{Makes}
use Rattle.js_api.specs.Stages.{Sends}
use Rattle.desk_ground.proofs.telling.send_all.Given as goal

-- once those that are left are sent, all are
abbrev pub invariant-loop-out : goal.invariant-loop-out
invariant-loop-out g l = record {
  sends : (after : _) (result : Result (Unit {0}) DeskFault) → Makes g.G.Ground.made (Sends (drop l.out-index l.outs) result) l.ground after → Makes g.G.Ground.made (Sends l.outs result) l.fn.ground after;
  setting : g.G.Ground.setting l.ground ≡ g.G.Ground.setting l.fn.ground;
  phase : g.G.Ground.phase l.ground ≡ g.G.Ground.phase l.fn.ground;
}
