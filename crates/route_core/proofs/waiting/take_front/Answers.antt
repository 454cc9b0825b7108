use Rattle.std.proofs.Common.{◌∷◌, [], ◌+◌, ◌++◌, sym, ap, ◌∙◌, length, take, arith, length-drop, append_assoc}
use Rattle.js_model.specs.Router.{bytes_together}
use Rattle.route_core.proofs.Lengths.{next_taken, next_together, rest_is, together_split}
use Rattle.route_core.proofs.waiting.take_front.Goals as goal

pub unreachable-requires : goal.unreachable-requires
unreachable-requires c =
    omega (arith, length-drop c.loop-at._at c.args.frames.now, ap length (sym c.loop-at.invariant.left ∙ c.in_default.ensures.cases.0), c.requires.within)

pub overflow_add-length : goal.overflow_add-length
overflow_add-length c =
    let next = sym c.in-Some.ensures.items ∙ c.loop-at.invariant.left in
    let more = next_together c.args.frames.now c.loop-at._at c.in-Some.frame c.pop_front.new.self next in
    omega (arith, more, together_split c.args.frames.now (c.loop-at._at + 1), c.loop-at.invariant.length, c.len-length.ensures.value, c.requires.short)

pub loop-at-preserved : goal.loop-at-preserved
loop-at-preserved c =
    let next = sym c.in-Some.ensures.items ∙ c.loop-at.invariant.left in
    let front = take c.loop-at._at c.args.frames.now in
    let f = c.in-Some.frame in
    record {
      left = rest_is c.args.frames.now c.loop-at._at f c.pop_front.new.self next;
      taken = c.push_reserved.ensures.items ∙ ap (λ x. c.loop-at.into.items ++ x ∷ []) c.into_frame.ensures.value ∙ ap (λ xs. xs ++ f ∷ []) c.loop-at.invariant.taken
          ∙ append_assoc c.args.into.now.items front (f ∷ []) ∙ ap (λ xs. c.args.into.now.items ++ xs) (next_taken c.args.frames.now c.loop-at._at f c.pop_front.new.self next);
      length = ap (λ n. n + c.len-length.result) c.loop-at.invariant.length ∙ ap (λ n. bytes_together front + n) c.len-length.ensures.value
          ∙ next_together c.args.frames.now c.loop-at._at f c.pop_front.new.self next;
      room = c.push_reserved.ensures.capacity ∙ c.loop-at.invariant.room;
    }
