use Rattle.std.proofs.Common.{◌<◌, length, arith}
use Rattle.std.proofs.Common.{◌≡◌, true, ◌∙◌, [], ◌∷◌, ◌++◌, List, refl, ap, sym, subst}
use Rattle.js_base.specs.Bytes.{Bytes}
use Rattle.js_model.specs.Catalog.{Catalog, on_used, changing, edited}
use Rattle.js_model.specs.Cataloging.{MayChange}
use Rattle.catalog.specs.Entries.{place_of, lists_of, is_open}
use Rattle.catalog.specs.Apart.{IsApart}
use Rattle.catalog.proofs.Placing.{lists_same}
use Rattle.catalog.proofs.Catalogs.{has_within, inside_within, has_at, small, edited_view, parts_of, change_parts}
use Rattle.catalog.proofs.Using.{still_used}
use Rattle.catalog.proofs.catalog.Catalog.put_beside.Goals as goal

pub put-requires-clause-place : goal.put-requires-clause-place
put-requires-clause-place c =
    let within = inside_within c.self.inside.entries.items c.args.self.now c.args.place c.self.view_is (has_within c.args.self.now c.args.place MayChange c.requires.single) in
    small c.self.inside.entries.items c.args.place within c.self.invariant.few

pub put-requires-clause-earlier : goal.put-requires-clause-earlier
put-requires-clause-earlier c = c.self.invariant.lists.earlier

pub invariant_of-self : goal.invariant_of-self
invariant_of-self c = record {
  few = c.self.invariant.few;
  names = c.self.invariant.names;
  lists = lists_same c.self.inside.listing c.put.new.self c.self.inside.entries.items c.self.inside.entries.items c.self.invariant.lists c.in_err-first.ensures.err (λ n. refl);
  apart = c.self.invariant.apart;
  used = c.self.invariant.used;
}

pub index_mut-requires : goal.index_mut-requires
index_mut-requires c =
    let within : c.args.place < length c.self.inside.entries.items = inside_within c.self.inside.entries.items c.args.self.now c.args.place c.self.view_is (has_within c.args.self.now c.args.place MayChange c.requires.single) in
    omega arith

pub change-requires-clause-open : goal.change-requires-clause-open
change-requires-clause-open c = has_at (λ there. is_open there ≡ true) c.self.inside.entries.items c.args.self.now c.args.place c.index_mut.result.now c.self.view_is c.requires.open c.index_mut.ensures.value

pub change-requires-clause-single : goal.change-requires-clause-single
change-requires-clause-single c = has_at MayChange c.self.inside.entries.items c.args.self.now c.args.place c.index_mut.result.now c.self.view_is c.requires.single c.index_mut.ensures.value

pub invariant_of-self-2 : goal.invariant_of-self-2
invariant_of-self-2 c =
    let within = inside_within c.self.inside.entries.items c.args.self.now c.args.place c.self.view_is (has_within c.args.self.now c.args.place MayChange c.requires.single) in
    let P : Catalog → Type 0 = λ x. IsApart (edited (on_used (changing c.args.subjects.now)) c.args.place x) in
    let apart = subst P (sym c.self.view_is) c.requires.apart in
    let made = c.change.ensures.value ∙ ap (λ (xs : List Bytes). on_used (changing xs) (place_of c.index_mut.result.now)) c.in_ok-list.ensures.copy in
    let lists = c.change.ensures.lists ∙ ap (λ (xs : List Bytes). lists_of c.index_mut.result.now ++ record { first = c.in_ok-first.first; subjects = xs } ∷ []) c.in_ok-list.ensures.copy in
    let h = change_parts c.self.inside.entries.items c.self.inside.names c.self.inside.listing c.put.new.self c.args.place c.in_ok-first.first c.args.subjects.now c.index_mut.result.now c.change.new.self
    (parts_of c.self.inside c.self.invariant) within c.index_mut.ensures.value apart made lists c.in_ok-first.ensures.ok in
    let still = still_used (changing c.args.subjects.now) c.self.inside.entries.items c.args.place c.index_mut.result.now c.change.new.self within c.index_mut.ensures.value made in
    record { few = h.few; names = h.names; lists = h.lists; apart = h.apart; used = c.self.invariant.used ∙ still }

pub returns-clause-ok : goal.returns-clause-ok
returns-clause-ok c =
    let within = inside_within c.self.inside.entries.items c.args.self.now c.args.place c.self.view_is (has_within c.args.self.now c.args.place MayChange c.requires.single) in
    let made = c.change.ensures.value ∙ ap (λ (xs : List Bytes). on_used (changing xs) (place_of c.index_mut.result.now)) c.in_ok-list.ensures.copy in
    sym (edited_view (on_used (changing c.args.subjects.now)) c.self.inside.entries.items c.args.self.now c.args.place c.index_mut.result.now c.change.new.self c.self.view_is within c.index_mut.ensures.value made)
