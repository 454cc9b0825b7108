use Rattle.std.proofs.Common.{◌∙◌, inl, inr, sym, ap, refl, arith}
use Rattle.std.proofs.lemmas.List.{nil_from_length}
use Rattle.js_base.specs.Bytes.{same}
use Rattle.js_base.specs.Subjects.{star}
use Rattle.js_base.proofs.Meeting.{same_is}
use Rattle.route_index.proofs.Among.{dotless_at, among_next, among_done}
use Rattle.route_index.proofs.Parts.{texts}
use Rattle.route_index.proofs.Under.{on_ok}
use Rattle.route_index.proofs.Going.{ends_below, goes_below, stays_above, searches_none, searches, searches_all, searches_each}
use Rattle.route_index.proofs.search.+search.Goals as goal
use Rattle.route_index.proofs.search.+search.Goals.{go_down-then-begins_some+in_ok-search, go_down-else-begins_some}

pub go_down-returns-then-is_empty-clause-found : goal.go_down-returns-then-is_empty-clause-found
go_down-returns-then-is_empty-clause-found t c =
    on_ok c.take_under.result
    (λ adds. ends_below c.args.query.now.seek c.args.query.now.ids.now c.args.path.now c.args.token.now c.requires.token c.args.others.now c.is_empty.result c.is_empty.ensures c.if-is_empty.true c.args.found.now.items c.take_under.new.found.items adds)
    c.take_under.ensures.found

pub go_down-returns-clause-found : goal.go_down-returns-clause-found
go_down-returns-clause-found t c = elim c.if-begins_some.branch [
  | go_down-then-begins_some+in_ok-search w ↦ rw w.found-is (goes_below c.args.query.now.seek c.args.query.now.ids.now c.args.path.now c.args.token.now c.requires.token c.args.others.now c.is_empty.result c.is_empty.ensures c.if-is_empty.false
      c.put.new.self c.put-2.new.self c.in_ok-put.ensures.ok c.in_ok-put-2.ensures.ok c.args.found.now.items w.search.new.found.items w.in_ok-search.ensures.found)
  | go_down-else-begins_some w ↦ rw w.found-is (stays_above c.args.query.now.seek c.args.query.now.ids.now c.args.path.now c.args.token.now c.requires.token c.args.others.now c.is_empty.result c.is_empty.ensures c.if-is_empty.false
      c.put.new.self c.put-2.new.self c.in_ok-put.ensures.ok c.in_ok-put-2.ensures.ok c.args.found.now.items w.if-begins_some.ensures.bare)
]

pub search-returns-in_default-clause-found : goal.search-returns-in_default-clause-found
search-returns-in_default-clause-found t c =
    searches_none c.args.query.now.seek c.args.query.now.ids.now c.args.path.now c.args.tokens.now (nil_from_length _ c.in_default.ensures.cases) c.args.found.now.items

pub go_down_each-go_down-requires : goal.go_down_each-go_down-requires
go_down_each-go_down-requires t c = (
  search arith,
  (dotless_at c.as_slice-token-items.result.now c.loop-token.token-index _ c.loop-token-test.true c.in_ok-tokens.tokens.items c.as_slice-token-items.ensures.value c.in_ok-tokens.ensures.pieces, c.requires.others),
)

pub go_down_each-loop-token-preserved : goal.go_down_each-loop-token-preserved
go_down_each-loop-token-preserved t c = (
  c.in_ok-go_down.ensures.path ∙ c.loop-token.invariant.0,
  among_next c.as_slice-token-items.result.now c.loop-token.token-index _ c.loop-token-test.true c.args.query.now.seek c.args.query.now.ids.now c.loop-token.path c.go_down.new.path (texts c.args.others.now)
      c.args.found.now.items c.loop-token.found.items c.go_down.new.found.items c.in_ok-go_down.ensures.path c.loop-token.invariant.1 c.in_ok-go_down.ensures.found,
)

pub go_down_each-returns-clause-found : goal.go_down_each-returns-clause-found
go_down_each-returns-clause-found t c =
    among_done c.as_slice-token-items.result.now c.in_ok-tokens.tokens.items c.as_slice-token-items.ensures.value c.loop-token.token-index (omega (arith, c.loop-token-test.false)) c.args.query.now.ids.now c.args.path.now c.loop-token.path
    c.loop-token.invariant.0 c.args.found.now.items c.loop-token.found.items c.args.query.now.seek (texts c.args.others.now) c.in_ok-tokens.ensures.covers c.loop-token.invariant.1

pub search-returns-then-takes_all-clause-found : goal.search-returns-then-takes_all-clause-found
search-returns-then-takes_all-clause-found t c =
    on_ok c.take_all.result
    (λ adds. searches_all c.args.query.now.seek c.args.query.now.ids.now c.args.path.now c.args.tokens.now c.in-Some.token.now c.in-Some.others.now c.in-Some.ensures.cases.0 c.args.found.now.items c.take_all.new.found.items
    (sym c.takes_all.ensures.value ∙ c.if-takes_all.true) adds)
    c.take_all.ensures.found

pub search-returns-then-takes_each-clause-found : goal.search-returns-then-takes_each-clause-found
search-returns-then-takes_each-clause-found t c =
    on_ok c.go_down_each.result
    (λ each. searches_each c.args.query.now.seek c.args.query.now.ids.now c.args.path.now c.args.tokens.now c.in-Some.token.now c.in-Some.others.now c.in-Some.ensures.cases.0 c.take_under.new.path c.in_ok-take_under.ensures.path
    c.args.found.now.items c.take_under.new.found.items c.go_down_each.new.found.items (sym c.takes_each.ensures.value ∙ c.if-takes_each.true) c.in_ok-take_under.ensures.found each)
    c.go_down_each.ensures.found

pub search-returns-then-eq-clause-found : goal.search-returns-then-eq-clause-found
search-returns-then-eq-clause-found t c =
    searches c.args.query.now.seek c.args.query.now.ids.now c.args.path.now c.args.tokens.now c.in-Some.token.now c.in-Some.others.now c.in-Some.ensures.cases.0 c.take_under.new.path c.go_down.new.path
    c.in_ok-take_under.ensures.path c.in_ok-go_down.ensures.path c.args.found.now.items c.take_under.new.found.items c.go_down.new.found.items c.go_down.new.found.items c.in_ok-take_under.ensures.found
    c.in_ok-go_down.ensures.found (inr (same_is c.in-Some.token.now.now star (ap (λ t. same c.in-Some.token.now.now t) (sym c.as_slice.ensures) ∙ sym c.if-eq.ensures), refl))
    (sym c.takes_all.ensures.value ∙ c.if-takes_all.false) (sym c.takes_each.ensures.value ∙ c.if-takes_each.false)

pub search-returns-clause-found : goal.search-returns-clause-found
search-returns-clause-found t c =
    on_ok c.go_down-2.result
    (λ adds. searches c.args.query.now.seek c.args.query.now.ids.now c.args.path.now c.args.tokens.now c.in-Some.token.now c.in-Some.others.now c.in-Some.ensures.cases.0 c.take_under.new.path c.go_down.new.path
    c.in_ok-take_under.ensures.path c.in_ok-go_down.ensures.path c.args.found.now.items c.take_under.new.found.items c.go_down.new.found.items c.go_down-2.new.found.items c.in_ok-take_under.ensures.found
    c.in_ok-go_down.ensures.found (inl adds) (sym c.takes_all.ensures.value ∙ c.if-takes_all.false) (sym c.takes_each.ensures.value ∙ c.if-takes_each.false))
    c.go_down-2.ensures.found
