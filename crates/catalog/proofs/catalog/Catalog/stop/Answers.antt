use Rattle.std.proofs.Common.{◌<◌, length, arith}
use Rattle.std.proofs.Common.{◌∙◌, ap}
use Rattle.js_model.specs.Catalog.{Catalog, Done, telling, catalog_call, on_used, stopping}
use Rattle.js_model.specs.Cataloging.{IsUsed}
use Rattle.catalog.proofs.Catalogs.{has_within, inside_within, edited_view, parts_of, stop_parts}
use Rattle.catalog.proofs.Using.{still_used}
use Rattle.catalog.proofs.catalog.Catalog.stop.Goals as goal

pub index_mut-requires : goal.index_mut-requires
index_mut-requires c =
    let within : c.args.place < length c.self.inside.entries.items = inside_within c.self.inside.entries.items c.args.self.now c.args.place c.self.view_is (has_within c.args.self.now c.args.place IsUsed c.requires.used) in
    omega arith

pub invariant_of-self : goal.invariant_of-self
invariant_of-self c =
    let within = inside_within c.self.inside.entries.items c.args.self.now c.args.place c.self.view_is (has_within c.args.self.now c.args.place IsUsed c.requires.used) in
    let h = stop_parts c.self.inside.entries.items c.self.inside.names c.self.inside.listing c.args.place c.index_mut.result.now c.stop.new.self (parts_of c.self.inside c.self.invariant) within
    c.index_mut.ensures.value c.stop.ensures.value c.stop.ensures.lists in
    let still = still_used stopping c.self.inside.entries.items c.args.place c.index_mut.result.now c.stop.new.self within c.index_mut.ensures.value c.stop.ensures.value in
    record { few = h.few; names = h.names; lists = h.lists; apart = h.apart; used = c.self.invariant.used ∙ still }

pub returns : goal.returns
unfolding catalog_call
returns c =
    let within = inside_within c.self.inside.entries.items c.args.self.now c.args.place c.self.view_is (has_within c.args.self.now c.args.place IsUsed c.requires.used) in
    let edited = edited_view (on_used stopping) c.self.inside.entries.items c.args.self.now c.args.place c.index_mut.result.now c.stop.new.self c.self.view_is within c.index_mut.ensures.value c.stop.ensures.value in
    record { stopped = ap (λ (places : Catalog). telling Done places) edited }
