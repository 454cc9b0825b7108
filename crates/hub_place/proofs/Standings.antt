-- What stands at a place after one entry of a hold.
use Rattle.std.proofs.Common.{◌≡◌, ◌≤◌, ◌++◌, ℕ, Bool, true, false, List, [], ◌∷◌, map, append-nil, Option, None, refl, sym, ap, subst, ◌∙◌, inl, inr, arith}
use Rattle.std.proofs.lemmas.Bool.{cases_Bool}
use Rattle.std.proofs.lemmas.List.{map-append}
use Rattle.js_base.specs.Causes.{Rose}
use Rattle.js_model.specs.declared.stream.State.{State}
use Rattle.js_model.specs.declared.entry.PlaceEntry.{PlaceEntry}
use Rattle.js_model.specs.declared.entry.PlaceEntry.TheVariants.{Step, Deliver, Broken}
use Rattle.js_model.specs.PlaceStates.{PlaceIn, VolumeAt}
use Rattle.js_model.specs.Runs.{RunFrom, messages_of, new_messages, total_of}
use Rattle.js_api.specs.Entries.{Hold, entries_in}
use Rattle.js_api.specs.Outputs.{outs_of}
use Rattle.js_api.specs.Worlds.{IsHeld, IsLater, IsStirred, Stops, is_broken}
use Rattle.histories.specs.Entries.{Entry, AtPlace}
use Rattle.hub_fronts.specs.Laws.{LawSends}
use Rattle.hub_fronts.specs.Standing.{IsStanding}
use Rattle.std.specs.Prelude.{◌+◌, IfSome, length}
use Rattle.js_api.proofs.RunParts.{run_from_more, total_from_more}

-- ---- a run with what it counts

-- they are a run, after which at least so many count
record Counts (count : ℕ) (a : State) (entries : List PlaceEntry) (b : State) (n : ℕ) : Type 0 where
  run : RunFrom count a entries b
  counts : n ≤ total_of count a entries b run

joined : (count : ℕ) (a : State) (first : List PlaceEntry) (b : State) (more : List PlaceEntry) (c : State) (run : RunFrom count a first b) → is_broken first ≡ false
    → (next : RunFrom (total_of count a first b run) b more c) (n : ℕ) → n ≤ total_of (total_of count a first b run) b more c next → Counts count a (first ++ more) c n
joined count a [] b more c run whole next n le = subst (λ (s : State). Counts count s more c n) (sym run) (record { run = next; counts = le })
joined count a (Step seat e now reply outs unsaid ∷ first) b more c (mid, step, rest) whole next n le =
    let w = joined (count + length (new_messages a mid)) mid first b more c rest whole next n le in
    record { run = (mid, step, w.run); counts = w.counts }
joined count a (Deliver seat now listening d outs ∷ first) b more c (mid, step, rest) whole next n le =
    let w = joined (count + length (new_messages a mid)) mid first b more c rest whole next n le in
    record { run = (mid, step, w.run); counts = w.counts }
joined count a (Broken seat now call ∷ first) b more c run whole next n le = let no : ⊥ = cc in absurd no

none_counted : (count : ℕ) (a : State) (entries : List PlaceEntry) (b : State) (run : RunFrom count a entries b) → entries ≡ [] → (a ≡ b) × (total_of count a entries b run ≡ count)
none_counted count a [] b run none = (run, refl)
none_counted count a (e ∷ entries) b run none = let no : ⊥ = cc in absurd no

-- nothing follows
stopped_there : (count : ℕ) (a : State) (first : List PlaceEntry) (b : State) (more : List PlaceEntry) (c : State) (run : RunFrom count a first b) → more ≡ [] → b ≡ c
    → (n : ℕ) → n ≤ total_of count a first b run → Counts count a (first ++ more) c n
stopped_there count a first b more c run none same n le =
    subst (λ (es : List PlaceEntry). Counts count a es c n) (sym (ap (λ (rest : List PlaceEntry). first ++ rest) none ∙ append-nil first))
    (subst (λ (s : State). Counts count a first s n) same (record { run = run; counts = le }))

-- a hold, from each count that covers the messages that counted before
module _ (hold : Hold) (old new : PlaceIn) (count : ℕ) (held : IsHeld hold old new) (le : old.stored ≤ count) where
  abbrev steps : RunFrom count hold.before hold.steps hold.between
  steps = run_from_more old.stored count hold.before hold.steps hold.between le held.steps

  abbrev first : ℕ
  first = total_of old.stored hold.before hold.steps hold.between held.steps

  abbrev total : ℕ
  total = total_of count hold.before hold.steps hold.between steps

  no_less : first ≤ total
  no_less = total_from_more old.stored count hold.before hold.steps hold.between le held.steps

  at_once : is_broken hold.steps ≡ true → Counts count hold.before (entries_in hold) hold.after new.stored
  at_once broken =
      let none : hold.deliveries ≡ [] = held.ends broken in
      let nothing = none_counted first hold.between hold.deliveries hold.after held.deliveries none in
      let same : total_of first hold.between hold.deliveries hold.after held.deliveries ≡ first = nothing.1 in
      stopped_there count hold.before hold.steps hold.between hold.deliveries hold.after steps none nothing.0 new.stored (omega (arith, held.stored, same, no_less))

  with_more : is_broken hold.steps ≡ false → Counts count hold.before (entries_in hold) hold.after new.stored
  with_more whole =
      joined count hold.before hold.steps hold.between hold.deliveries hold.after steps whole
      (run_from_more first total hold.between hold.deliveries hold.after no_less held.deliveries) new.stored
      (omega (arith, held.stored, total_from_more first total hold.between hold.deliveries hold.after no_less held.deliveries))

  held_counts : Counts count hold.before (entries_in hold) hold.after new.stored
  held_counts = elim (cases_Bool (is_broken hold.steps)) [ inl broken ↦ at_once broken | inr whole ↦ with_more whole ]

-- ---- where it is broken

broken_append : (a b : List PlaceEntry) → is_broken a ≡ false → is_broken (a ++ b) ≡ is_broken b
broken_append [] b whole = refl
broken_append (Step seat e now reply outs unsaid ∷ a) b whole = broken_append a b whole
broken_append (Deliver seat now listening d outs ∷ a) b whole = broken_append a b whole
broken_append (Broken seat now call ∷ a) b whole = let no : ⊥ = cc in absurd no

not_broken : (broken : Bool) (before after : VolumeAt) (stopped : Option ℕ) → Stops broken before after stopped → stopped ≡ None → broken ≡ false
not_broken true before after stopped h going = let no : ⊥ = cc (h.0, going) in absurd no
not_broken false before after stopped h going = refl

pub later_both : (a b c : VolumeAt) → IsLater a b → IsLater b c → IsLater a c
later_both a b c f g = record {
  faults = omega (arith, f.faults, g.faults);
  refusals = omega (arith, f.refusals, g.refusals);
  moments = omega (arith, f.moments, g.moments);
  generations = omega (arith, f.generations, g.generations);
}

rose_since : (start before after : ℕ) → start ≤ before → Rose before after → Rose start after
rose_since start before after le h = omega (arith, le, h)

-- a place that was stopped since
abbrev StoppedSince : VolumeAt → VolumeAt → Option ℕ → Type 0
StoppedSince start after stopped = IfSome stopped (λ count. (count ≡ after.faults) × Rose start.faults count)

stopped_since : (failed : Bool) (start before after : VolumeAt) (stopped : Option ℕ) → IsLater start before → Stops failed before after stopped → StoppedSince start after stopped
stopped_since true start before after stopped later h = subst (StoppedSince start after) (sym h.0) (refl, rose_since start.faults before.faults after.faults later.faults h.1)
stopped_since false start before after stopped later h = subst (StoppedSince start after) (sym h) tt

-- ---- what stands

-- the entries are these steps, which lead from the opening state to what stands there
pub record StandsBy (state : State) (faults : ℕ) (entries : List Entry) (steps : List PlaceEntry) (place : PlaceIn) : Type 0 where
  pub standing : IsStanding state faults entries place
  pub are : standing.steps ≡ steps

module _ (state : State) (faults : ℕ) (entries : List Entry) (old : PlaceIn) (s : IsStanding state faults entries old) where
  pub whole_so_far : old.stopped ≡ None → is_broken s.steps ≡ false
  whole_so_far going = s.whole going

  module _ (hold : Hold) (new : PlaceIn) (held : IsHeld hold old new) where
    abbrev count : ℕ
    count = length (messages_of state)

    then_counts : Counts count state (s.steps ++ entries_in hold) new.state new.stored
    then_counts =
        let total : ℕ = total_of count state s.steps old.state s.run in
        let next : Counts total old.state (entries_in hold) hold.after new.stored =
        subst (λ (a : State). Counts total a (entries_in hold) hold.after new.stored) (sym held.was) (held_counts hold old new total held s.stored)
        in
        subst (λ (end : State). Counts count state (s.steps ++ entries_in hold) end new.stored) (sym held.is_state)
        (joined count state s.steps old.state (entries_in hold) hold.after s.run (whole_so_far held.going) next.run new.stored next.counts)

    later_now : IsLater s.opened new.volume
    later_now =
        subst (λ (v : VolumeAt). IsLater s.opened v) (sym held.volume_is)
        (later_both s.opened hold.volume_before hold.volume_after (subst (λ (v : VolumeAt). IsLater s.opened v) held.volume_was s.later)
        (later_both hold.volume_before hold.volume_between hold.volume_after held.before_between held.between_after))

    pub stands_held : StandsBy state faults (entries ++ map AtPlace (entries_in hold)) (s.steps ++ entries_in hold) new
    stands_held = record {
      standing = record {
        steps = s.steps ++ entries_in hold;
        same = ap (λ (es : List Entry). es ++ map AtPlace (entries_in hold)) s.same ∙ sym (map-append AtPlace s.steps (entries_in hold));
        run = then_counts.run;
        stored = then_counts.counts;
        opened = s.opened;
        count = s.count;
        later = later_now;
        whole = λ going. broken_append s.steps (entries_in hold) (whole_so_far held.going)
            ∙ not_broken (is_broken (entries_in hold)) hold.volume_before hold.volume_after new.stopped held.stops going;
        stops = subst (λ (v : VolumeAt). StoppedSince s.opened v new.stopped) (sym held.volume_is)
            (stopped_since (is_broken (entries_in hold)) s.opened hold.volume_before hold.volume_after new.stopped (subst (λ (v : VolumeAt). IsLater s.opened v) held.volume_was s.later) held.stops);
      };
      are = refl;
    }

    -- what the hold sends is what its steps send behind those before
    pub held_sends : LawSends → outs_of state (s.steps ++ entries_in hold) ≡ outs_of state s.steps ++ outs_of hold.before (entries_in hold)
    held_sends law =
        law count state s.steps old.state (entries_in hold) s.run (λ broken. absurd (let whole : is_broken s.steps ≡ false = whole_so_far held.going in cc (broken, whole)))
        ∙ ap (λ (a : State). outs_of state s.steps ++ outs_of a (entries_in hold)) held.was

  -- its volume was called
  pub stands_stirred : (before after : VolumeAt) (failed : Bool) (new : PlaceIn) → IsStirred before after failed old new → StandsBy state faults entries s.steps new
  stands_stirred before after failed new h = record {
    standing = record {
      steps = s.steps;
      same = s.same;
      run = same_counts.run;
      stored = same_counts.counts;
      opened = s.opened;
      count = s.count;
      later = subst (λ (v : VolumeAt). IsLater s.opened v) (sym h.volume_is) (later_both s.opened before after (subst (λ (v : VolumeAt). IsLater s.opened v) h.volume_was s.later) h.later);
      whole = λ going. whole_so_far h.going;
      stops = subst (λ (v : VolumeAt). StoppedSince s.opened v new.stopped) (sym h.volume_is)
          (stopped_since failed s.opened before after new.stopped (subst (λ (v : VolumeAt). IsLater s.opened v) h.volume_was s.later) h.stops);
    };
    are = refl;
  }
    where
      same_counts : Counts (length (messages_of state)) state s.steps new.state new.stored
      same_counts =
          subst (λ (n : ℕ). Counts (length (messages_of state)) state s.steps new.state n) (sym h.stored)
          (subst (λ (end : State). Counts (length (messages_of state)) state s.steps end old.stored) (sym h.state) (record { run = s.run; counts = s.stored }))
