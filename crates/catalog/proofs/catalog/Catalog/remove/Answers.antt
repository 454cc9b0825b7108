use Rattle.std.proofs.Common.{◌<◌, ◌∙◌, List, length, map, ap, sym, arith}
use Rattle.std.proofs.Math.ListN.{length-set}
use Rattle.js_model.specs.Catalog.{Catalog, Done, telling, catalog_call, freed}
use Rattle.js_model.specs.Cataloging.{MayRemove}
use Rattle.catalog.specs.declared.entry.Entry.{Entry}
use Rattle.catalog.specs.Entries.{place_of}
use Rattle.catalog.specs.Used.{used_places}
use Rattle.catalog.proofs.Catalogs.{has_within, inside_within, has_at, edited_view, parts_of, remove_parts, stream_fits, not_unused}
use Rattle.catalog.proofs.catalog.Catalog.remove.Goals as goal

pub index_mut-requires : goal.index_mut-requires
index_mut-requires c =
    let within : c.args.place < length c.self.inside.entries.items = inside_within c.self.inside.entries.items c.args.self.now c.args.place c.self.view_is (has_within c.args.self.now c.args.place (MayRemove c.args.dropped) c.requires.used) in
    omega arith

pub free-left-requires : goal.free-left-requires
free-left-requires c =
    let may = has_at (MayRemove c.args.dropped) c.self.inside.entries.items c.args.self.now c.args.place c.index_mut.result.now c.self.view_is c.requires.used c.index_mut.ensures.value in
    record { number = may.number }

pub refill-requires : goal.refill-requires
refill-requires c = record { few = omega (arith, ap length c.deref.ensures.value, length-set c.self.inside.entries.items c.args.place c.free-left.new.self, c.self.invariant.few) }

pub forget-requires : goal.forget-requires
forget-requires c =
    let within = inside_within c.self.inside.entries.items c.args.self.now c.args.place c.self.view_is (has_within c.args.self.now c.args.place (MayRemove c.args.dropped) c.requires.used) in
    record { room = stream_fits c.self.inside.entries.items c.self.inside.names c.self.inside.listing c.args.place c.index_mut.result.now c.in-Some.stream (parts_of c.self.inside c.self.invariant) within c.index_mut.ensures.value (sym c.free-left.ensures.stream ∙ c.in-Some.is) }

pub invariant_of-self : goal.invariant_of-self
invariant_of-self c =
    let within = inside_within c.self.inside.entries.items c.args.self.now c.args.place c.self.view_is (has_within c.args.self.now c.args.place (MayRemove c.args.dropped) c.requires.used) in
    let h = remove_parts c.self.inside.entries.items c.self.inside.names c.remove.new.self c.self.inside.listing c.forget.new.listing c.args.place c.args.dropped c.index_mut.result.now c.free-left.new.self c.in-Some.stream
    (parts_of c.self.inside c.self.invariant) within c.index_mut.ensures.value (sym c.free-left.ensures.stream ∙ c.in-Some.is) c.free-left.ensures.value c.free-left.ensures.lists c.remove.ensures.gone c.forget.ensures.left c.forget.ensures.rounds in
    record { few = h.few; names = h.names; lists = h.lists; apart = h.apart; used = c.refill.ensures.value ∙ ap (λ (es : List Entry). used_places (map place_of es)) c.deref.ensures.value }

pub invariant_of-self-in-None : goal.invariant_of-self-in-None
invariant_of-self-in-None c =
    let may = has_at (MayRemove c.args.dropped) c.self.inside.entries.items c.args.self.now c.args.place c.index_mut.result.now c.self.view_is c.requires.used c.index_mut.ensures.value in
    absurd (not_unused c.index_mut.result.now (sym c.in-None.is ∙ c.free-left.ensures.stream) may.used)

pub returns-in-Some : goal.returns-in-Some
unfolding catalog_call
returns-in-Some c =
    let within = inside_within c.self.inside.entries.items c.args.self.now c.args.place c.self.view_is (has_within c.args.self.now c.args.place (MayRemove c.args.dropped) c.requires.used) in
    let edited = edited_view (freed c.args.dropped) c.self.inside.entries.items c.args.self.now c.args.place c.index_mut.result.now c.free-left.new.self c.self.view_is within c.index_mut.ensures.value c.free-left.ensures.value in
    record { removed = ap (λ (places : Catalog). telling Done places) edited }

pub returns-in-None : goal.returns-in-None
unfolding catalog_call
returns-in-None c =
    let within = inside_within c.self.inside.entries.items c.args.self.now c.args.place c.self.view_is (has_within c.args.self.now c.args.place (MayRemove c.args.dropped) c.requires.used) in
    let edited = edited_view (freed c.args.dropped) c.self.inside.entries.items c.args.self.now c.args.place c.index_mut.result.now c.free-left.new.self c.self.view_is within c.index_mut.ensures.value c.free-left.ensures.value in
    record { removed = ap (λ (places : Catalog). telling Done places) edited }
