use Rattle.std.proofs.Common.{◌∙◌, ap, sym}
use Rattle.catalog.specs.Used.{used_places}
use Rattle.catalog.proofs.Catalogs.{new_parts}
use Rattle.catalog.proofs.Using.{new_unused}
use Rattle.catalog.proofs.catalog.Catalog.new.Goals as goal

pub invariant_of-result : goal.invariant_of-result
invariant_of-result c =
    let h = new_parts c.in_ok-vacant_entries.field-0.items c.new.result c.new-2.result c.args.places c.requires.few c.in_ok-vacant_entries.ensures.vacant c.new.ensures.empty c.new-2.ensures.empty c.new-2.ensures.rounds in
    let none = ap used_places c.in_ok-vacant_entries.ensures.vacant ∙ new_unused c.args.places in
    record { few = h.few; names = h.names; lists = h.lists; apart = h.apart; used = c.in_ok-new.ensures.empty ∙ sym none }

pub returns : goal.returns
returns c = record { vacant = c.in_ok-vacant_entries.ensures.vacant }
