use Rattle.std.proofs.Common.{◌∙◌, ap, sym, arith}
use Rattle.js_model.specs.Catalog.{place_named}
use Rattle.catalog.specs.Entries.{place_of}
use Rattle.catalog.proofs.Naming.{told_within, told_named, told_none}
use Rattle.catalog.proofs.Catalogs.{inside_within}
use Rattle.std.proofs.Common.{map, refl, length, ◌<◌}
use Rattle.catalog.proofs.catalog.Catalog.named.Goals as goal

pub index-requires : goal.index-requires
index-requires c =
    let within : c.in-Some.place < length c.self.inside.entries.items = inside_within c.self.inside.entries.items (map place_of c.self.inside.entries.items) c.in-Some.place refl (told_within c.self.inside.names (map place_of c.self.inside.entries.items) c.args.name.now c.in-Some.place c.self.invariant.names (sym c.in-Some.ensures.value)) in
    omega arith

pub returns-in-Some : goal.returns-in-Some
returns-in-Some c =
    let within : c.in-Some.place < length c.self.inside.entries.items = inside_within c.self.inside.entries.items (map place_of c.self.inside.entries.items) c.in-Some.place refl (told_within c.self.inside.names (map place_of c.self.inside.entries.items) c.args.name.now c.in-Some.place c.self.invariant.names (sym c.in-Some.ensures.value)) in
    record { value = sym (ap (place_named c.args.name.now) (sym c.self.view_is) ∙ told_named c.self.inside.names c.self.inside.entries.items c.args.name.now c.in-Some.place c.index.result.now c.self.invariant.names (sym c.in-Some.ensures.value) within c.index.ensures) }

pub returns-in-None : goal.returns-in-None
returns-in-None c = record { value = sym (ap (place_named c.args.name.now) (sym c.self.view_is) ∙ told_none c.self.inside.names (map place_of c.self.inside.entries.items) c.args.name.now c.self.invariant.names (sym c.in-None.ensures.value)) }
