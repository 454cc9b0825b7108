use Rattle.std.proofs.Common.{◌≡◌, ◌++◌, take, drop}
use Rattle.std.specs.Vec.{vec_capacity}
use Rattle.js_model.specs.Router.{bytes_together}
use Rattle.route_core.proofs.waiting.take_front.Given as goal

-- so many frames were moved
abbrev pub invariant-loop-at : goal.invariant-loop-at
invariant-loop-at l = record {
  left : l.frames ≡ drop l._at l.initial.frames;
  taken : l.into.items ≡ l.initial.into.items ++ take l._at l.initial.frames;
  length : l.length ≡ bytes_together (take l._at l.initial.frames);
  room : vec_capacity l.into ≡ vec_capacity l.initial.into;
}
