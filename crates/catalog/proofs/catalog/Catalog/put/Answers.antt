use Rattle.std.proofs.Common.{◌≡◌, ◌∙◌, ◌<◌, List, [], ◌∷◌, None, length, map, refl, ap, sym, subst, arith}
use Rattle.std.proofs.Math.ListN.{length-set}
use Rattle.js_base.specs.Bytes.{Bytes}
use Rattle.js_model.specs.Catalog.{Catalog, taken_by, edited}
use Rattle.catalog.specs.declared.entry.Listed.{Listed}
use Rattle.catalog.specs.Entries.{place_of}
use Rattle.catalog.specs.declared.entry.Entry.{Entry}
use Rattle.catalog.specs.Apart.{IsApart, used_at}
use Rattle.catalog.specs.Used.{used_places}
use Rattle.catalog.proofs.Naming.{names_told}
use Rattle.catalog.proofs.Placing.{lists_same}
use Rattle.catalog.proofs.Catalogs.{inside_within, small, edited_view, parts_of, put_parts, put_room, put_back}
use Rattle.catalog.proofs.catalog.Catalog.put.Goals.{in-Some-3, in-None-3}
use Rattle.catalog.proofs.catalog.Catalog.put.Goals as goal

pub put-requires-clause-place : goal.put-requires-clause-place
put-requires-clause-place c = small c.self.inside.entries.items c.args.place (inside_within c.self.inside.entries.items c.args.self.now c.args.place c.self.view_is c.requires.within) c.self.invariant.few

pub put-requires-clause-earlier : goal.put-requires-clause-earlier
put-requires-clause-earlier c = c.self.invariant.lists.earlier

pub invariant_of-self : goal.invariant_of-self
invariant_of-self c = record {
  few = c.self.invariant.few;
  names = c.self.invariant.names;
  lists = lists_same c.self.inside.listing c.put.new.self c.self.inside.entries.items c.self.inside.entries.items c.self.invariant.lists c.in_err-first.ensures.err (λ n. refl);
  apart = c.self.invariant.apart;
  used = c.self.invariant.used;
}

pub index_mut-requires : goal.index_mut-requires
index_mut-requires c =
    let within : c.args.place < length c.self.inside.entries.items = inside_within c.self.inside.entries.items c.args.self.now c.args.place c.self.view_is c.requires.within in
    omega arith

pub refill-requires : goal.refill-requires
refill-requires c = record { few = omega (arith, ap length c.as_slice.ensures.value, length-set c.self.inside.entries.items c.args.place c.take.new.self, c.self.invariant.few) }

pub invariant_of-self-in-Ok : goal.invariant_of-self-in-Ok
invariant_of-self-in-Ok c =
    let within = inside_within c.self.inside.entries.items c.args.self.now c.args.place c.self.view_is c.requires.within in
    let P : Catalog → Type 0 = λ x. IsApart (edited (taken_by c.args.name c.args.subjects.now) c.args.place x) in
    let apart = subst P (sym c.self.view_is) c.requires.apart in
    let free : used_at (map place_of c.self.inside.entries.items) c.args.place ≡ None = ap (λ (x : Catalog). used_at x c.args.place) c.self.view_is ∙ c.requires.free in
    let made = c.take.ensures.value ∙ ap (λ (xs : List Bytes). taken_by c.args.name xs (place_of c.index_mut.result.now)) c.in_ok-list.ensures.copy in
    let one : List Bytes → List Listed = λ xs. record { first = c.in_ok-first.first; subjects = xs } ∷ [] in
    let lists = c.take.ensures.lists ∙ ap one c.in_ok-list.ensures.copy in
    let h = put_parts c.self.inside.entries.items c.self.inside.names c.put-2.new.self c.self.inside.listing c.put.new.self c.args.place c.in_ok-first.first c.args.name c.args.subjects.now c.index_mut.result.now c.take.new.self
    (parts_of c.self.inside c.self.invariant) within c.index_mut.ensures.value free apart made lists c.in_ok-first.ensures.ok c.in-Ok.ensures.ok in
    record { few = h.few; names = h.names; lists = h.lists; apart = h.apart; used = c.refill.ensures.value ∙ ap (λ (es : List Entry). used_places (map place_of es)) c.as_slice.ensures.value }

pub drop-requires : goal.drop-requires
drop-requires c =
    let within = inside_within c.self.inside.entries.items c.args.self.now c.args.place c.self.view_is c.requires.within in
    record { room = put_room c.self.inside.listing c.put.new.self c.args.place c.in_ok-first.first c.args.subjects.now c.in_ok-first.ensures.ok (small c.self.inside.entries.items c.args.place within c.self.invariant.few) }

pub invariant_of-self-in-Err : goal.invariant_of-self-in-Err
invariant_of-self-in-Err c = record {
  few = c.self.invariant.few;
  names = names_told c.self.inside.names c.put-2.new.self (map place_of c.self.inside.entries.items) c.self.invariant.names c.in-Err.ensures.err;
  lists = put_back c.self.inside.listing c.put.new.self c.drop.new.self c.self.inside.entries.items c.args.place c.in_ok-first.first c.args.subjects.now c.self.invariant.lists c.in_ok-first.ensures.ok c.drop.ensures.left
      c.drop.ensures.rounds;
  apart = c.self.invariant.apart;
  used = c.self.invariant.used;
}

pub invariant_of-self-in-Err-2 : goal.invariant_of-self-in-Err-2
invariant_of-self-in-Err-2 c = record {
  few = c.self.invariant.few;
  names = names_told c.self.inside.names c.put-2.new.self (map place_of c.self.inside.entries.items) c.self.invariant.names c.in-Err.ensures.err;
  lists = put_back c.self.inside.listing c.put.new.self c.drop.new.self c.self.inside.entries.items c.args.place c.in_ok-first.first c.args.subjects.now c.self.invariant.lists c.in_ok-first.ensures.ok c.drop.ensures.left
      c.drop.ensures.rounds;
  apart = c.self.invariant.apart;
  used = c.self.invariant.used;
}

pub returns-in-Ok-clause-ok : goal.returns-in-Ok-clause-ok
returns-in-Ok-clause-ok c =
    let within = inside_within c.self.inside.entries.items c.args.self.now c.args.place c.self.view_is c.requires.within in
    let made = c.take.ensures.value ∙ ap (λ (xs : List Bytes). taken_by c.args.name xs (place_of c.index_mut.result.now)) c.in_ok-list.ensures.copy in
    sym (edited_view (taken_by c.args.name c.args.subjects.now) c.self.inside.entries.items c.args.self.now c.args.place c.index_mut.result.now c.take.new.self c.self.view_is within c.index_mut.ensures.value made)

pub returns-in-Err-clause-err : goal.returns-in-Err-clause-err
returns-in-Err-clause-err c = elim c.match-name-3.branch [ in-Some-3 w ↦ w.self-is ∙ c.self.view_is | in-None-3 w ↦ w.self-is ∙ c.self.view_is ]
