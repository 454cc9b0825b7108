use Rattle.std.proofs.Common.{sym, ap, ◌∙◌, arith}
use Rattle.js_model.specs.Router.{with_frame}
use Rattle.route_core.specs.Queues.{waiting_of}
use Rattle.route_core.proofs.Lengths.{few_frames, put_over, put_within}
use Rattle.route_core.proofs.waiting.Waiting.put.Goals as goal

pub append_to-requires : goal.append_to-requires
append_to-requires c = record { room = omega (arith, few_frames c.self.inside.frames, c.self.invariant.length_is, c.self.invariant.within) }

pub returns-then-together-gt-MOST : goal.returns-then-together-gt-MOST
returns-then-together-gt-MOST c = record {
  value = put_over c.self.inside.frames c.args.parcel c.self.inside.length c.len.result c.self.invariant.length_is c.len.ensures.value c.self.inside.mark (sym c.is_some.ensures ∙ c.if-is_some.false)
      c.if-together-gt-MOST.true ∙ ap (with_frame c.args.parcel) c.self.view_is;
}

pub returns-else-together-gt-MOST : goal.returns-else-together-gt-MOST
returns-else-together-gt-MOST c = record {
  value = ap (waiting_of c.self.inside.mark) c.append_to.ensures.added
      ∙ put_within c.self.inside.frames c.args.parcel c.self.inside.length c.len.result c.self.invariant.length_is c.len.ensures.value c.self.inside.mark (sym c.is_some.ensures ∙ c.if-is_some.false)
      c.if-together-gt-MOST.false ∙ ap (with_frame c.args.parcel) c.self.view_is;
}
