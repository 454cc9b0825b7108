use Rattle.std.proofs.Common.{◌≡◌, ◌∙◌, ℕ, sym, ap, subst, cond, Some, [], ◌∷◌, ◌++◌, List}
use Rattle.std.specs.Ordering.{nat_cmp}
use Rattle.std.specs.BTreeMap.{get}
use Rattle.js_base.specs.Bytes.{Bytes}
use Rattle.route_index.specs.declared.sub.Sub.{Sub}
use Rattle.route_index.specs.Subs.{IsAbove}
use Rattle.route_index.specs.Ids.{Ids, Patterns, subs_of, AddsId, DropsId}
use Rattle.route_index.proofs.Listing.{at, subs_added, mirrors_added, mirrors_kept, mirrors_restored}
use Rattle.route_index.proofs.index.RouteIndex.add.Goals as goal

above_held : (patterns : Patterns) (subs : List Sub) (id : ℕ) → subs_of patterns ≡ subs → IsAbove id subs → IsAbove id (subs_of patterns)
above_held patterns subs id e h = let P : List Sub → Type 0 = λ xs. IsAbove id xs in subst P (sym e) h

adds_here : (ids ids' : Ids) (key pattern : Bytes) (id : ℕ) → key ≡ pattern → AddsId ids ids' key id → AddsId ids ids' pattern id
adds_here ids ids' key pattern id e h = let P : Bytes → Type 0 = λ text. AddsId ids ids' text id in subst P e h

drops_here : (ids ids' : Ids) (key pattern : Bytes) (id : ℕ) (pair : ℕ × Bytes) → pair ≡ (id, key) → key ≡ pattern → DropsId ids ids' pair.1 pair.0 → DropsId ids ids' pattern id
drops_here ids ids' key pattern id pair e f h =
    let P : ℕ × Bytes → Type 0 = λ x. DropsId ids ids' x.1 x.0 in
    let Q : Bytes → Type 0 = λ text. DropsId ids ids' text id in
    subst Q f (subst P e h)

pub invariant_of-self : goal.invariant_of-self
invariant_of-self c = mirrors_kept c.self.inside.patterns c.self.inside.ids c.put_id.new.ids c.self.invariant c.in_err-put_id.ensures.err

pub invariant_of-self-in-Ok : goal.invariant_of-self-in-Ok
invariant_of-self-in-Ok c =
    mirrors_added c.self.inside.patterns c.insert.new.self c.self.inside.ids c.put_id.new.ids c.args.sub.id c.args.sub.pattern c.self.invariant
    (above_held c.self.inside.patterns c.args.self.now c.args.sub.id c.self.view_is c.requires.above) c.in-Ok.ensures.ordered
    (λ n. c.in-Ok.ensures.updates.0 n ∙ ap (λ text. cond (at c.args.sub.id n) (Some text) (get nat_cmp c.self.inside.patterns n)) (c.in_ok-text.ensures.value ∙ c.as_slice-2.ensures))
    (adds_here c.self.inside.ids c.put_id.new.ids c.in_ok-key.key c.args.sub.pattern c.args.sub.id (c.in_ok-key.ensures.value ∙ c.as_slice.ensures) c.in_ok-put_id.ensures.ok)

pub returns-in-Ok-clause-ok : goal.returns-in-Ok-clause-ok
returns-in-Ok-clause-ok c =
    let above = above_held c.self.inside.patterns c.args.self.now c.args.sub.id c.self.view_is c.requires.above in
    subs_added c.self.inside.patterns c.insert.new.self c.args.sub.id c.in_ok-text.text above c.in-Ok.ensures.entries
    ∙ ap (λ subs. subs ++ record { id = c.args.sub.id; pattern = c.in_ok-text.text } ∷ []) c.self.view_is
    ∙ ap (λ text. c.args.self.now ++ record { id = c.args.sub.id; pattern = text } ∷ []) (c.in_ok-text.ensures.value ∙ c.as_slice-2.ensures)

pub invariant_of-self-in-Err : goal.invariant_of-self-in-Err
invariant_of-self-in-Err c =
    mirrors_restored c.self.inside.patterns c.insert.new.self c.self.inside.ids c.put_id.new.ids c.remove_id.new.ids c.args.sub.id c.args.sub.pattern c.self.invariant
    (above_held c.self.inside.patterns c.args.self.now c.args.sub.id c.self.view_is c.requires.above) c.in-Err.ensures.err
    (adds_here c.self.inside.ids c.put_id.new.ids c.in_ok-key.key c.args.sub.pattern c.args.sub.id (c.in_ok-key.ensures.value ∙ c.as_slice.ensures) c.in_ok-put_id.ensures.ok)
    (drops_here c.put_id.new.ids c.remove_id.new.ids c.in_ok-text.text c.args.sub.pattern c.args.sub.id c.in-Err.refused.value c.in-Err.ensures.value_returned
    (c.in_ok-text.ensures.value ∙ c.as_slice-2.ensures) c.remove_id.ensures.dropped)
