use Rattle.std.proofs.Common.{◌∙◌, arith}
use Rattle.route_index.proofs.Among.{texts_next, texts_done}
use Rattle.route_index.proofs.search.take_all.Goals as goal

pub loop-text-preserved : goal.loop-text-preserved
loop-text-preserved c = (
  c.in_ok-take_under.ensures.path ∙ c.loop-text.invariant.0,
  texts_next c.as_slice-text-items.result.now c.loop-text.text-index _ c.loop-text-test.true c.args.query.now.ids.now c.loop-text.path c.take_under.new.path c.args.found.now.items c.loop-text.found.items c.take_under.new.found.items
      c.in_ok-take_under.ensures.path c.loop-text.invariant.1 c.in_ok-take_under.ensures.found,
)

pub returns-clause-found : goal.returns-clause-found
returns-clause-found c =
    texts_done c.as_slice-text-items.result.now c.in_ok-texts.texts.items c.as_slice-text-items.ensures.value c.loop-text.text-index (omega (arith, c.loop-text-test.false)) c.args.query.now.ids.now c.args.path.now c.loop-text.path
    c.loop-text.invariant.0 c.args.found.now.items c.loop-text.found.items c.in_ok-texts.ensures.covers c.loop-text.invariant.1
