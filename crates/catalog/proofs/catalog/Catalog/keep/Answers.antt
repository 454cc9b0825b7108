use Rattle.std.proofs.Common.{◌<◌, length, arith}
use Rattle.std.proofs.Common.{◌∙◌, ℕ, ap}
use Rattle.js_model.specs.Catalog.{Catalog, Done, telling, catalog_call, on_used, keeping}
use Rattle.js_model.specs.Cataloging.{MayKeep}
use Rattle.catalog.specs.Numbers.{numbers, without_numbers}
use Rattle.catalog.specs.Entries.{lists_of}
use Rattle.catalog.proofs.Catalogs.{has_within, inside_within, edited_view, parts_of, keep_parts, keep_none, left_fits}
use Rattle.catalog.proofs.Using.{still_used}
use Rattle.catalog.proofs.catalog.Catalog.keep.Goals as goal

pub index_mut-requires : goal.index_mut-requires
index_mut-requires c =
    let within : c.args.place < length c.self.inside.entries.items = inside_within c.self.inside.entries.items c.args.self.now c.args.place c.self.view_is (has_within c.args.self.now c.args.place MayKeep c.requires.both) in
    omega arith

pub drop-requires : goal.drop-requires
drop-requires c =
    let within = inside_within c.self.inside.entries.items c.args.self.now c.args.place c.self.view_is (has_within c.args.self.now c.args.place MayKeep c.requires.both) in
    let fits = left_fits c.self.inside.entries.items c.self.inside.names c.self.inside.listing c.args.place c.index_mut.result.now (lists_of c.keep.new.self) c.in-Some.left (parts_of c.self.inside c.self.invariant) within
    c.index_mut.ensures.value c.in-Some.ensures.left in
    record { room = omega (arith, fits, c.len.ensures) }

pub invariant_of-self : goal.invariant_of-self
invariant_of-self c =
    let within = inside_within c.self.inside.entries.items c.args.self.now c.args.place c.self.view_is (has_within c.args.self.now c.args.place MayKeep c.requires.both) in
    let left = c.drop.ensures.left ∙ ap (λ (n : ℕ). without_numbers (numbers c.in-Some.left.first n) c.self.inside.listing.index) c.len.ensures in
    let h = keep_parts c.self.inside.entries.items c.self.inside.names c.self.inside.listing c.drop.new.self c.args.place c.args.new c.index_mut.result.now c.keep.new.self c.in-Some.left
    (parts_of c.self.inside c.self.invariant) within c.index_mut.ensures.value c.in-Some.ensures.value c.in-Some.ensures.left left c.drop.ensures.rounds in
    let still = still_used (keeping c.args.new) c.self.inside.entries.items c.args.place c.index_mut.result.now c.keep.new.self within c.index_mut.ensures.value c.in-Some.ensures.value in
    record { few = h.few; names = h.names; lists = h.lists; apart = h.apart; used = c.self.invariant.used ∙ still }

pub invariant_of-self-in-None : goal.invariant_of-self-in-None
invariant_of-self-in-None c =
    let within = inside_within c.self.inside.entries.items c.args.self.now c.args.place c.self.view_is (has_within c.args.self.now c.args.place MayKeep c.requires.both) in
    let h = keep_none c.self.inside.entries.items c.self.inside.names c.self.inside.listing c.args.place c.args.new c.index_mut.result.now c.keep.new.self (parts_of c.self.inside c.self.invariant) within
    c.index_mut.ensures.value c.in-None.ensures.value c.in-None.ensures.left in
    let still = still_used (keeping c.args.new) c.self.inside.entries.items c.args.place c.index_mut.result.now c.keep.new.self within c.index_mut.ensures.value c.in-None.ensures.value in
    record { few = h.few; names = h.names; lists = h.lists; apart = h.apart; used = c.self.invariant.used ∙ still }

pub returns-in-Some : goal.returns-in-Some
unfolding catalog_call
returns-in-Some c =
    let within = inside_within c.self.inside.entries.items c.args.self.now c.args.place c.self.view_is (has_within c.args.self.now c.args.place MayKeep c.requires.both) in
    let edited = edited_view (on_used (keeping c.args.new)) c.self.inside.entries.items c.args.self.now c.args.place c.index_mut.result.now c.keep.new.self c.self.view_is within c.index_mut.ensures.value c.in-Some.ensures.value in
    record { kept = ap (λ (places : Catalog). telling Done places) edited }

pub returns-in-None : goal.returns-in-None
unfolding catalog_call
returns-in-None c =
    let within = inside_within c.self.inside.entries.items c.args.self.now c.args.place c.self.view_is (has_within c.args.self.now c.args.place MayKeep c.requires.both) in
    let edited = edited_view (on_used (keeping c.args.new)) c.self.inside.entries.items c.args.self.now c.args.place c.index_mut.result.now c.keep.new.self c.self.view_is within c.index_mut.ensures.value c.in-None.ensures.value in
    record { kept = ap (λ (places : Catalog). telling Done places) edited }
