-- A confirmed step is among what the volume holds at its end.
use Rattle.std.proofs.Common.{◌≡◌, ◌⊎◌, inl, inr, ℕ, ◌<◌, Bool, true, false, List, [], ◌∷◌, Ok, Err, refl, IsTrue}
use Rattle.std.specs.Prelude.{Decides, is_some}
use Rattle.js_base.specs.declared.out.Out.{Out}
use Rattle.js_model.specs.declared.stream.State.{State}
use Rattle.js_model.specs.declared.event.Event.{Event}
use Rattle.js_model.specs.declared.event.What.{What}
use Rattle.js_model.specs.declared.event.What.TheVariants.{Make, Change, Drop as DropStream, Publish, Purge, Delete, MakeConsumer, DropConsumer, Ack, Pull, Tick, StreamInfo, MessageGet, ConsumerInfo, ConsumerNames, ConsumerList}
use Rattle.js_model.specs.declared.reply.Reply.{Reply}
use Rattle.js_model.specs.declared.entry.PlaceEntry.{PlaceEntry}
use Rattle.js_model.specs.Firm.{Changes, IsChange, IsFirm, IsFirmStep, is_confirmed, is_refusal, is_taken}
use Rattle.js_model.specs.Lasting.{lasting}
use Rattle.model_laws.specs.Changed.{changes}
use Rattle.model_laws.proofs.Changed.{changes_test}
use Rattle.effects.specs.declared.effect.Effect.{Effect}
use Rattle.place_engine.specs.Stepping.{Image, IsKept, MayKeepBase, MayPutOff, Seen, Steps}
use Rattle.place_engine.specs.declared.faults.PlaceFault.{PlaceFault}
use Rattle.place_engine.specs.declared.faults.PlaceFault.TheVariants.{NoMemory, StoreFault, Stopped, Gone, Worn}
use Rattle.place_engine.specs.declared.faults.Left.TheVariants.{Nothing, Ticked, Unsaid}
use Rattle.desk_hold.specs.Crashes.{CommitsStep, IsEntry, IsLeftOf, MayCommit, Outlasts}
use Rattle.desk_hold.proofs.Beginnings.{all_left, either_left, one_entry, outlasts_firm}

-- ---- whether a step is confirmed

yes_or_no : (b : Bool) → IsTrue b ⊎ (IsTrue b → ⊥)
yes_or_no true = inl refl
yes_or_no false = inr (λ e. let no : ⊥ = cc in no)

both_or_not : {A B : Type 0} → A ⊎ (A → ⊥) → B ⊎ (B → ⊥) → (A × B) ⊎ (A × B → ⊥)
both_or_not (inl a) (inl b) = inl (a, b)
both_or_not (inl a) (inr not) = inr (λ h. not h.1)
both_or_not (inr not) told = inr (λ h. not h.0)

change_or_not : (old : State) (reply : Reply) (new : State) → IsChange old reply new ⊎ (IsChange old reply new → ⊥)
change_or_not old reply new = both_or_not (refused (is_refusal reply)) (changed (changes old new) (changes_test old new))
  where
    refused : (b : Bool) → (b ≡ false) ⊎ (b ≡ false → ⊥)
    refused true = inr (λ e. let no : ⊥ = cc in no)
    refused false = inl refl

    changed : (b : Bool) → Decides b (Changes old new) → Changes old new ⊎ (Changes old new → ⊥)
    changed true test = inl (test.0 refl)
    changed false test = inr (λ h. let e : false ≡ true = test.1 h in let no : ⊥ = cc in no)

firm_or_not : (old : State) (what : What) (reply : Reply) (new : State) → IsFirmStep old what reply new ⊎ (IsFirmStep old what reply new → ⊥)
firm_or_not old (Publish p) reply new = both_or_not (yes_or_no (is_some p.reply)) (yes_or_no (is_taken reply))
firm_or_not old (Ack asked ack) reply new = both_or_not (yes_or_no (is_some asked)) (yes_or_no (is_confirmed reply))
firm_or_not old (Pull asked name ask) reply new = change_or_not old reply new
firm_or_not old Tick reply new = inr (λ no. no)
firm_or_not old (Make asked config) reply new = change_or_not old reply new
firm_or_not old (Change asked config) reply new = change_or_not old reply new
firm_or_not old (DropStream asked) reply new = change_or_not old reply new
firm_or_not old (Purge asked pattern below keep) reply new = change_or_not old reply new
firm_or_not old (Delete asked n) reply new = change_or_not old reply new
firm_or_not old (MakeConsumer asked name config update) reply new = change_or_not old reply new
firm_or_not old (DropConsumer asked name) reply new = change_or_not old reply new
firm_or_not old (StreamInfo asked) reply new = change_or_not old reply new
firm_or_not old (MessageGet asked by) reply new = change_or_not old reply new
firm_or_not old (ConsumerInfo asked name) reply new = change_or_not old reply new
firm_or_not old (ConsumerNames asked offset) reply new = change_or_not old reply new
firm_or_not old (ConsumerList asked offset) reply new = change_or_not old reply new

-- ---- a step

-- one that was told outlasts a crash, if it is confirmed
pub outlasts_step : (holds : Image → State → Type 0) (old new : Seen) → IsKept holds old → IsKept holds new → (what : What) (reply : Reply) → MayCommit holds old new
    → (IsFirmStep old.place.state what reply new.place.state → (b : State) → new.is_base b → b ≡ lasting new.place.state) → (e : PlaceEntry) → IsEntry old.place.state e new.place.state
    → (IsFirm old.place.state e new.place.state → IsFirmStep old.place.state what reply new.place.state) → Outlasts holds (λ t. t < new.place.volume.moment) (e ∷ []) old new
outlasts_step holds old new kept keeps what reply commits firm e made leads =
    outlasts_firm holds old new kept keeps commits (e ∷ []) (one_entry (Unit {0}) e old.place.state new.place.state made (λ f. tt))
    (by (firm_or_not old.place.state what reply new.place.state))
  where
    by : IsFirmStep old.place.state what reply new.place.state ⊎ (IsFirmStep old.place.state what reply new.place.state → ⊥)
        → (b : State) → new.is_base b → IsLeftOf ⊥ old.is_base old.place.state (e ∷ []) new.place.state b
    by (inl is) b held = all_left old.is_base old.place.state (e ∷ []) new.place.state ⊥ b (one_entry (Unit {0}) e old.place.state new.place.state made (λ f. tt)) (firm is b held)
    by (inr not) b held =
        either_left holds old new kept keeps commits (e ∷ []) ⊥ b (one_entry ⊥ e old.place.state new.place.state made (λ f. not (leads f))) (commits.base b held)

-- ---- what a place promises

-- whatever is committed, a base is one from before, or what outlives a crash of what stands
pub base_of : {made : List Effect} {old new : Seen} → MayPutOff made old new → MayKeepBase old new
base_of (inl all) b is = inr (all.base b is)
base_of (inr none) b is = inl (none.base b is)

module _ (holds : Image → State → Type 0) (event : Event) (now : ℕ) (old new : Seen) (before after : List Out) where
  pub commits_told : (reply : Reply) (unsaid : Bool) → Steps holds (Ok reply) event now old new before after → CommitsStep holds (Ok (record { reply = reply; unsaid = unsaid })) event old new
  commits_told reply unsaid h = record { commits = record { time = h.time; base = base_of h.ends.commits.may }; firm = λ firm. (h.ends.commits.firm firm).base }

  pub commits_failed : (fault : PlaceFault) → Steps holds (Err fault) event now old new before after → CommitsStep holds (Err fault) event old new
  commits_failed fault h = record { commits = record { time = h.time; base = by fault h }; firm = tt }
    where
      by : (f : PlaceFault) → Steps holds (Err f) event now old new before after → MayKeepBase old new
      by (NoMemory Nothing) h = λ b is. inl (h.ends.rests.base b is)
      by (NoMemory Ticked) h = base_of h.ends.may
      by (NoMemory (Unsaid refused)) h = λ b is. inl (h.ends.hides.put_off.base b is)
      by StoreFault h = h.ends.base
      by (Stopped count) h = λ b is. inl (h.ends.rests.base b is)
      by (Gone kept) h = λ b is. inl (h.ends.rests.base b is)
      by (Worn refused) h = λ b is. inl (h.ends.withholds.hides.put_off.base b is)
