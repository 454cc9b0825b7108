use Rattle.std.proofs.Common.{◌<◌, take, ap, subst, sym, ◌∙◌}
use Rattle.js_base.specs.Bytes.{Bytes}
use Rattle.route_index.proofs.Reaching.{listed_none, listed_more, less_left, left_from, goes_from}
use Rattle.route_index.proofs.beneath.pieces_beneath.Goals as goal

pub loop-text-init : goal.loop-text-init
loop-text-init c = listed_none c.args.piece c.args.ids.now c.args.path.now c.in_ok-from.from c.new-pieces.result.items (c.in_ok-from.ensures.value ∙ c.as_slice.ensures.value) c.new-pieces.ensures.items

pub loop-text-smaller : goal.loop-text-smaller
loop-text-smaller c =
    let end = goes_from c.args.path.now c.loop-text.from c.cut-past.result.0.now c.cut-past.result.1 c.cut.new.self c.put.new.self c.put-in-Some.new.self c.loop-text.invariant.0
    (c.cut.ensures.left ∙ ap (λ n. take n c.loop-text.from) c.len.ensures.value) c.in_ok-put.ensures.ok c.in_ok-put-2.ensures.ok in
    let P : Bytes → Type 0 = λ t. left_from t c.args.ids.now.entries < left_from c.loop-text.from c.args.ids.now.entries in
    subst P (sym end) (less_left c.args.piece c.args.ids.now c.args.path.now c.loop-text.from c.in-Some.text.now c.cut-past.result.0.now c.cut-past.result.1 c.in-Some.ensures.value c.cut-past.ensures.ends)

pub loop-text-preserved : goal.loop-text-preserved
loop-text-preserved c =
    let end = goes_from c.args.path.now c.loop-text.from c.cut-past.result.0.now c.cut-past.result.1 c.cut.new.self c.put.new.self c.put-in-Some.new.self c.loop-text.invariant.0
    (c.cut.ensures.left ∙ ap (λ n. take n c.loop-text.from) c.len.ensures.value) c.in_ok-put.ensures.ok c.in_ok-put-2.ensures.ok in
    listed_more c.args.piece c.args.ids.now c.args.path.now c.loop-text.from c.put-in-Some.new.self c.in-Some.text.now c.cut-past.result.0 c.cut-past.result.1 c.loop-text.pieces.items c.push.new.self.items
    c.loop-text.invariant c.in-Some.ensures.value c.cut-past.ensures.piece c.cut-past.ensures.ends c.in_ok-push.ensures.items end
