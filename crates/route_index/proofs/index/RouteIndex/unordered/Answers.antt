use Rattle.std.proofs.Common.{◌≡◌, ◌∙◌, sym, ap, subst, List, Bor}
use Rattle.js_base.specs.Bytes.{Bytes, has}
use Rattle.js_base.specs.Subjects.{tokens}
use Rattle.route_index.specs.Searching.{AreDotless}
use Rattle.route_index.specs.Sought.{sought_ids}
use Rattle.route_index.proofs.Parts.{texts, dotless_tokens}
use Rattle.route_index.proofs.Listing.{sought_rise}
use Rattle.route_index.proofs.Whole.{whole_from}
use Rattle.route_index.proofs.index.RouteIndex.unordered.Goals as goal

parts_are : (subject : Bytes) (parts held : List (Bor Bytes)) → parts ≡ held → texts held ≡ tokens subject → texts parts ≡ tokens subject
parts_are subject parts held e h = ap texts e ∙ h

pub search-requires : goal.search-requires
search-requires c = subst AreDotless (sym (parts_are c.args.text.now c.as_slice.result.now c.in_ok-tokens.tokens.items c.as_slice.ensures.value c.in_ok-tokens.ensures.value)) (dotless_tokens c.args.text.now)

pub returns : goal.returns
returns c =
    let parts = parts_are c.args.text.now c.as_slice.result.now c.in_ok-tokens.tokens.items c.as_slice.ensures.value c.in_ok-tokens.ensures.value in
    record {
      ids = λ id. whole_from c.self.inside.patterns c.self.inside.ids c.self.invariant c.args.seek c.args.text.now c.new-path.result (texts c.as_slice.result.now) c.new-found.result.items c.search.new.found.items
          c.new-path.ensures.empty parts c.new-found.ensures.items c.in_ok-search.ensures.found id ∙ ap (λ subs. has (sought_ids c.args.seek c.args.text.now subs) id) c.self.view_is;
      rise = rw (← c.self.view_is) (sought_rise c.args.seek c.args.text.now c.self.inside.patterns.entries c.self.invariant.ordered);
    }
