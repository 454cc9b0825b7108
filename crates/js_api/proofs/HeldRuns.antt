-- The run that a hold makes at its place, and what follows it there.
use Rattle.std.proofs.Common.{◌≡◌, ◌≤◌, ◌++◌, ℕ, true, List, [], append_assoc, sym, subst, ◌∙◌, ap, arith}
use Rattle.js_model.specs.declared.stream.State.{State}
use Rattle.js_model.specs.declared.entry.PlaceEntry.{PlaceEntry}
use Rattle.js_model.specs.PlaceStates.{PlaceIn}
use Rattle.js_model.specs.Runs.{RunFrom, total_of}
use Rattle.js_api.specs.Entries.{Hold, entries_in}
use Rattle.js_api.specs.Worlds.{IsHeld, is_broken}
use Rattle.js_api.proofs.RunParts.{run_from_more, total_from_more, goes_on, broken_first, broken_behind}

no_more : (a b : List PlaceEntry) → a ≡ [] → b ≡ [] → a ++ b ≡ []
no_more a b none nothing = ap (λ (l : List PlaceEntry). l ++ b) none ∙ nothing

-- from each count that covers the messages that counted against the store, a hold is a run, and the next run follows from each count that covers
-- those that count afterwards
pub held_then : (hold : Hold) (old new : PlaceIn) (count : ℕ) (more : List PlaceEntry) (last : State) → IsHeld hold old new → old.stored ≤ count
    → (is_broken (entries_in hold) ≡ true → (more ≡ []) × (new.state ≡ last))
    → ((later : ℕ) → new.stored ≤ later → RunFrom later new.state more last) → RunFrom count old.state (entries_in hold ++ more) last
held_then hold old new count more last held le ends next =
    let steps : RunFrom count hold.before hold.steps hold.between = run_from_more old.stored count hold.before hold.steps hold.between le held.steps in
    let first : ℕ = total_of old.stored hold.before hold.steps hold.between held.steps in
    let total : ℕ = total_of count hold.before hold.steps hold.between steps in
    let no_less : first ≤ total = total_from_more old.stored count hold.before hold.steps hold.between le held.steps in
    let deliveries : RunFrom total hold.between hold.deliveries hold.after = run_from_more first total hold.between hold.deliveries hold.after no_less held.deliveries in
    let end : ℕ = total_of total hold.between hold.deliveries hold.after deliveries in
    let grown : total_of first hold.between hold.deliveries hold.after held.deliveries ≤ end = total_from_more first total hold.between hold.deliveries hold.after no_less held.deliveries in
    let covers : new.stored ≤ end = omega (arith, held.stored, grown) in
    let behind : RunFrom end hold.after more last = subst (λ (s : State). RunFrom end s more last) held.is_state (next end covers) in
    let after : RunFrom count hold.before (hold.steps ++ (hold.deliveries ++ more)) last =
    goes_on count hold.before hold.steps hold.between (hold.deliveries ++ more) last steps
    (λ broken.
    let stop = ends (broken_first hold.steps hold.deliveries broken) in
    let none : hold.deliveries ≡ [] = held.ends broken in
    (no_more hold.deliveries more none stop.0, nothing total hold.between hold.deliveries hold.after deliveries none ∙ sym held.is_state ∙ stop.1))
    (λ whole.
    goes_on total hold.between hold.deliveries hold.after more last deliveries
    (λ broken. let stop = ends (broken_behind hold.steps hold.deliveries broken) in (stop.0, sym held.is_state ∙ stop.1))
    (λ both. behind))
    in
    subst (λ (entries : List PlaceEntry). RunFrom count old.state entries last) (sym (append_assoc hold.steps hold.deliveries more))
    (subst (λ (s : State). RunFrom count s (hold.steps ++ (hold.deliveries ++ more)) last) (sym held.was) after)
  where
    nothing : (n : ℕ) (a : State) (entries : List PlaceEntry) (b : State) → RunFrom n a entries b → entries ≡ [] → a ≡ b
    nothing n a entries b run none = subst (λ (l : List PlaceEntry). RunFrom n a l b) none run
