use Rattle.std.proofs.Common.{◌≡◌, ◌∙◌, [], ◌∷◌, ◌++◌, Option, length, refl, ap, sym, subst, arith, List}
use Rattle.std.specs.Prelude.{option_map}
use Rattle.std.proofs.lemmas.List.{length-map, length-append}
use Rattle.js_base.specs.Bytes.{Bytes}
use Rattle.js_model.specs.Catalog.{Catalog, kept_stream}
use Rattle.route_index.proofs.Under.{on_ok}
use Rattle.catalog.specs.Entries.{place_of, vacant_place}
use Rattle.catalog.specs.Apart.{IsApart, used_at}
use Rattle.catalog.proofs.Apartness.{used_end, none_past}
use Rattle.catalog.proofs.Catalogs.{pushed_kept}
use Rattle.catalog.proofs.catalog.Catalog.push.Goals as goal

pub overflow_cast-place : goal.overflow_cast-place
overflow_cast-place c = omega (arith, c.len-place.ensures, c.requires.few, ap length c.self.view_is, length-map c.self.inside.entries.items place_of)

pub push_vacant-requires : goal.push_vacant-requires
push_vacant-requires c = record { few = c.requires.few }

pub put-requires-clause-within : goal.put-requires-clause-within
put-requires-clause-within c =
    let at : c.len-place.result ≡ length c.args.self.now = omega (arith, c.len-place.ensures, ap length c.self.view_is, length-map c.self.inside.entries.items place_of) in
    omega (arith, at, ap length c.in_ok-push_vacant.ensures.ok, length-append c.args.self.now (vacant_place c.args.kept.now.incarnation ∷ []))

pub put-requires-clause-free : goal.put-requires-clause-free
put-requires-clause-free c =
    let at : c.len-place.result ≡ length c.args.self.now = omega (arith, c.len-place.ensures, ap length c.self.view_is, length-map c.self.inside.entries.items place_of) in
    ap (λ (x : Catalog). used_at x c.len-place.result) c.in_ok-push_vacant.ensures.ok ∙ used_end c.args.self.now (vacant_place c.args.kept.now.incarnation) c.len-place.result refl
    ∙ none_past c.args.self.now c.len-place.result (omega (arith, at))

pub put-requires-clause-apart : goal.put-requires-clause-apart
put-requires-clause-apart c =
    let at : c.len-place.result ≡ length c.args.self.now = omega (arith, c.len-place.ensures, ap length c.self.view_is, length-map c.self.inside.entries.items place_of) in
    subst IsApart (sym (pushed_kept c.args.self.now c.push_vacant.new.self c.args.kept.now c.len-place.result c.in-Some.stream _ _ c.in-Some.is c.in_ok-clone-in-Some.ensures.cases c.as_slice.ensures c.in_ok-push_vacant.ensures.ok at))
    c.requires.apart

pub returns-in_ok-clone-in-Some : goal.returns-in_ok-clone-in-Some
returns-in_ok-clone-in-Some c =
    let at : c.len-place.result ≡ length c.args.self.now = omega (arith, c.len-place.ensures, ap length c.self.view_is, length-map c.self.inside.entries.items place_of) in
    record {
      ok = on_ok c.put.result
          (λ e. e ∙ pushed_kept c.args.self.now c.push_vacant.new.self c.args.kept.now c.len-place.result c.in-Some.stream _ _ c.in-Some.is c.in_ok-clone-in-Some.ensures.cases c.as_slice.ensures c.in_ok-push_vacant.ensures.ok at)
          c.put.ensures.ok;
    }

pub returns-in-None : goal.returns-in-None
returns-in-None c = record {
  ok = c.in_ok-push_vacant.ensures.ok
      ∙ ap (λ (o : Option (Bytes × List Bytes)). c.args.self.now ++ record { incarnation = c.args.kept.now.incarnation; used = option_map kept_stream o } ∷ []) (sym c.in-None.is);
}
