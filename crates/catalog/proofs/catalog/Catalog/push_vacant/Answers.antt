use Rattle.std.proofs.Common.{◌∙◌, ◌<◌, List, [], ◌∷◌, ◌++◌, None, length, map, refl, ap, sym, subst, arith}
use Rattle.std.proofs.lemmas.List.{length-map, map-append}
use Rattle.js_model.specs.Catalog.{Catalog}
use Rattle.catalog.specs.declared.entry.Entry.{Entry}
use Rattle.catalog.specs.Entries.{place_of, vacant_place}
use Rattle.catalog.specs.Used.{used_places}
use Rattle.catalog.proofs.Catalogs.{HoldParts, parts_of, vacant_parts}
use Rattle.catalog.proofs.Using.{vacant_unused}
use Rattle.catalog.proofs.catalog.Catalog.push_vacant.Goals as goal

pub invariant_of-self : goal.invariant_of-self
invariant_of-self c =
    let P : List Entry → Type 0 = λ es. HoldParts es c.self.inside.names c.self.inside.listing in
    let h = subst P (sym c.in_err-push.ensures.items) (parts_of c.self.inside c.self.invariant) in
    let used = c.self.invariant.used ∙ ap (λ (es : List Entry). used_places (map place_of es)) (sym c.in_err-push.ensures.items) in
    record { few = h.few; names = h.names; lists = h.lists; apart = h.apart; used = used }

pub invariant_of-self-2 : goal.invariant_of-self-2
invariant_of-self-2 c =
    let P : List Entry → Type 0 = λ es. HoldParts es c.self.inside.names c.self.inside.listing in
    let few : length c.self.inside.entries.items < 32 = omega (arith, c.requires.few, ap length c.self.view_is, length-map c.self.inside.entries.items place_of) in
    let e : Entry = record { incarnation = c.args.incarnation; used = None } in
    let h = subst P (sym c.in_ok-push.ensures.items) (vacant_parts c.self.inside.entries.items c.self.inside.names c.self.inside.listing e (parts_of c.self.inside c.self.invariant) few refl) in
    let same = ap (λ (es : List Entry). used_places (map place_of es)) c.in_ok-push.ensures.items ∙ ap used_places (map-append place_of c.self.inside.entries.items (e ∷ [])) ∙ vacant_unused c.args.incarnation (map place_of c.self.inside.entries.items) in
    record { few = h.few; names = h.names; lists = h.lists; apart = h.apart; used = c.self.invariant.used ∙ sym same }

pub returns-clause-ok : goal.returns-clause-ok
returns-clause-ok c =
    let e : Entry = record { incarnation = c.args.incarnation; used = None } in
    ap (map place_of) c.in_ok-push.ensures.items ∙ map-append place_of c.self.inside.entries.items (e ∷ []) ∙ ap (λ (x : Catalog). x ++ vacant_place c.args.incarnation ∷ []) c.self.view_is
