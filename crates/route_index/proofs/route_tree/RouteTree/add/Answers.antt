use Rattle.std.proofs.Common.{◌≡◌, ◌∙◌, ℕ, sym, ap, subst, cond, Some, [], ◌∷◌, ◌++◌, List}
use Rattle.std.specs.Ordering.{nat_cmp}
use Rattle.std.specs.BTreeMap.{get}
use Rattle.js_base.specs.Bytes.{Bytes}
use Rattle.js_base.specs.Subjects.{tokens}
use Rattle.route_index.specs.declared.sub.Sub.{Sub}
use Rattle.route_index.specs.declared.tree.Tree.{Tree}
use Rattle.route_index.specs.Subs.{IsAbove}
use Rattle.route_index.specs.Ids.{Patterns, subs_of}
use Rattle.route_index.specs.Tree.{AddsToTree, DropsFromTree}
use Rattle.route_index.proofs.Listing.{at, subs_added}
use Rattle.route_index.proofs.Showing.{shows_added, shows_kept, shows_restored}
use Rattle.route_index.proofs.route_tree.RouteTree.add.Goals as goal

above_held : (patterns : Patterns) (subs : List Sub) (id : ℕ) → subs_of patterns ≡ subs → IsAbove id subs → IsAbove id (subs_of patterns)
above_held patterns subs id e h = let P : List Sub → Type 0 = λ xs. IsAbove id xs in subst P (sym e) h

adds_here : (old new : Tree) (text pattern : Bytes) (id : ℕ) → text ≡ pattern → AddsToTree old new (tokens text) id → AddsToTree old new (tokens pattern) id
adds_here old new text pattern id e h = let P : Bytes → Type 0 = λ t. AddsToTree old new (tokens t) id in subst P e h

drops_here : (old new : Tree) (slice text pattern : Bytes) (id : ℕ) (pair : ℕ × Bytes) → slice ≡ pair.1 → pair ≡ (id, text) → text ≡ pattern → DropsFromTree old new (tokens slice) pair.0
    → DropsFromTree old new (tokens pattern) id
drops_here old new slice text pattern id pair e f g h =
    let O : Bytes → Type 0 = λ t. DropsFromTree old new (tokens t) pair.0 in
    let P : ℕ × Bytes → Type 0 = λ x. DropsFromTree old new (tokens x.1) x.0 in
    let Q : Bytes → Type 0 = λ t. DropsFromTree old new (tokens t) id in
    subst Q g (subst P f (subst O e h))

pub add_id-requires : goal.add_id-requires
add_id-requires c = record { tree = c.self.invariant.is_tree }

pub invariant_of-self : goal.invariant_of-self
invariant_of-self c = shows_kept c.self.inside.patterns c.self.inside.tree c.add_id.new.self c.self.invariant c.in_err-add_id.ensures.err

pub invariant_of-self-in-Ok : goal.invariant_of-self-in-Ok
invariant_of-self-in-Ok c =
    shows_added c.self.inside.patterns c.insert.new.self c.self.inside.tree c.add_id.new.self c.args.sub.id c.args.sub.pattern c.self.invariant
    (above_held c.self.inside.patterns c.args.self.now c.args.sub.id c.self.view_is c.requires.above) c.in-Ok.ensures.ordered
    (λ n. c.in-Ok.ensures.updates.0 n ∙ ap (λ text. cond (at c.args.sub.id n) (Some text) (get nat_cmp c.self.inside.patterns n)) (c.in_ok-text.ensures.value ∙ c.as_slice.ensures))
    (adds_here c.self.inside.tree c.add_id.new.self c.as_slice-2.result.now c.args.sub.pattern c.args.sub.id c.as_slice-2.ensures c.in_ok-add_id.ensures.ok)

pub returns-in-Ok-clause-ok : goal.returns-in-Ok-clause-ok
returns-in-Ok-clause-ok c =
    let above = above_held c.self.inside.patterns c.args.self.now c.args.sub.id c.self.view_is c.requires.above in
    subs_added c.self.inside.patterns c.insert.new.self c.args.sub.id c.in_ok-text.text above c.in-Ok.ensures.entries
    ∙ ap (λ subs. subs ++ record { id = c.args.sub.id; pattern = c.in_ok-text.text } ∷ []) c.self.view_is
    ∙ ap (λ text. c.args.self.now ++ record { id = c.args.sub.id; pattern = text } ∷ []) (c.in_ok-text.ensures.value ∙ c.as_slice.ensures)

pub remove_id-requires : goal.remove_id-requires
remove_id-requires c = record { tree = c.in_ok-add_id.ensures.ok.tree }

pub invariant_of-self-in-Err : goal.invariant_of-self-in-Err
invariant_of-self-in-Err c =
    shows_restored c.self.inside.patterns c.insert.new.self c.self.inside.tree c.add_id.new.self c.args.sub.id c.args.sub.pattern c.self.invariant
    (above_held c.self.inside.patterns c.args.self.now c.args.sub.id c.self.view_is c.requires.above) c.remove_id.new.self c.in-Err.ensures.err
    (adds_here c.self.inside.tree c.add_id.new.self c.as_slice-2.result.now c.args.sub.pattern c.args.sub.id c.as_slice-2.ensures c.in_ok-add_id.ensures.ok)
    (drops_here c.add_id.new.self c.remove_id.new.self c.as_slice-in-Err.result.now c.in_ok-text.text c.args.sub.pattern c.args.sub.id c.in-Err.refused.value c.as_slice-in-Err.ensures.value c.in-Err.ensures.value_returned
    (c.in_ok-text.ensures.value ∙ c.as_slice.ensures) c.remove_id.ensures.dropped)
