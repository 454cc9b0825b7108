-- Runs of a place: from a larger count, and one behind another.
use Rattle.std.proofs.Common.{◌≡◌, ◌≤◌, ◌+◌, ◌++◌, ℕ, true, false, List, [], ◌∷◌, length, append-nil, refl, sym, subst, ◌∙◌, ap, arith, inl, inr}
use Rattle.std.proofs.lemmas.Bool.{cases_Bool}
use Rattle.js_base.specs.declared.out.Out.{Out}
use Rattle.js_model.specs.declared.stream.State.{State}
use Rattle.js_model.specs.declared.event.Event.{Event}
use Rattle.js_model.specs.declared.reply.Reply.{Reply}
use Rattle.js_model.specs.declared.entry.PlaceEntry.{PlaceEntry}
use Rattle.js_model.specs.declared.entry.PlaceEntry.TheVariants.{Step, Deliver, Broken}
use Rattle.js_model.specs.declared.entry.Call.TheVariants.{Step as StepOf, Deliver as DeliverOf}
use Rattle.js_model.specs.Runs.{IsStep, RunFrom, new_messages, total_of}
use Rattle.js_api.specs.Worlds.{is_broken}

-- ---- larger counts

step_from_more : (n m : ℕ) (old : State) (e : Event) (now : ℕ) (reply : Reply) (outs : List Out) (new : State) → IsStep n old e now reply outs new → IsStep m old e now reply outs new
step_from_more n m old e now reply outs new step = record {
  event = step.event;
  proper = step.proper;
  moment = step.moment;
}

both_more : (n m k : ℕ) → n ≤ m → n + k ≤ m + k
both_more n m k le = omega (arith, le)

-- a run from a count is one from a larger count
pub run_from_more : (n m : ℕ) (old : State) (entries : List PlaceEntry) (new : State) → n ≤ m → RunFrom n old entries new → RunFrom m old entries new
run_from_more n m old [] new le run = run
run_from_more n m old (Step seat e now reply outs unsaid ∷ entries) new le (mid, step, rest) =
    let k = length (new_messages old mid) in
    (mid, step_from_more n m old e now reply outs mid step, run_from_more (n + k) (m + k) mid entries new (both_more n m k le) rest)
run_from_more n m old (Deliver seat now listening d outs ∷ entries) new le (mid, step, rest) =
    let k = length (new_messages old mid) in
    (mid, step, run_from_more (n + k) (m + k) mid entries new (both_more n m k le) rest)
run_from_more n m old (Broken seat now (StepOf e) ∷ []) new le (reply, outs, step) = (reply, outs, step_from_more n m old e now reply outs new step)
run_from_more n m old (Broken seat now (DeliverOf listening d) ∷ []) new le run = run
run_from_more n m old (Broken seat now call ∷ entry ∷ entries) new le run = absurd run

-- and counts no less at its end
pub total_from_more : (n m : ℕ) (old : State) (entries : List PlaceEntry) (new : State) (le : n ≤ m) (run : RunFrom n old entries new)
    → total_of n old entries new run ≤ total_of m old entries new (run_from_more n m old entries new le run)
unfolding run_from_more
total_from_more n m old [] new le run = le
total_from_more n m old (Step seat e now reply outs unsaid ∷ entries) new le (mid, step, rest) =
    let k = length (new_messages old mid) in
    total_from_more (n + k) (m + k) mid entries new (both_more n m k le) rest
total_from_more n m old (Deliver seat now listening d outs ∷ entries) new le (mid, step, rest) =
    let k = length (new_messages old mid) in
    total_from_more (n + k) (m + k) mid entries new (both_more n m k le) rest
total_from_more n m old (Broken seat now call ∷ []) new le run = both_more n m (length (new_messages old new)) le
total_from_more n m old (Broken seat now call ∷ entry ∷ entries) new le run = absurd run

-- ---- one behind another

appended : (count : ℕ) (a : State) (first : List PlaceEntry) (b : State) (more : List PlaceEntry) (c : State) (run : RunFrom count a first b)
    → is_broken first ≡ false → RunFrom (total_of count a first b run) b more c → RunFrom count a (first ++ more) c
appended count a [] b more c run whole next = subst (λ (s : State). RunFrom count s more c) (sym run) next
appended count a (Step seat e now reply outs unsaid ∷ first) b more c (mid, step, rest) whole next =
    (mid, step, appended (count + length (new_messages a mid)) mid first b more c rest whole next)
appended count a (Deliver seat now listening d outs ∷ first) b more c (mid, step, rest) whole next =
    (mid, step, appended (count + length (new_messages a mid)) mid first b more c rest whole next)
appended count a (Broken seat now call ∷ first) b more c run whole next = let no : ⊥ = cc in absurd no

ended : (count : ℕ) (a : State) (first : List PlaceEntry) (b : State) (more : List PlaceEntry) (c : State) → RunFrom count a first b → more ≡ [] → b ≡ c → RunFrom count a (first ++ more) c
ended count a first b more c run none same =
    subst (λ (entries : List PlaceEntry). RunFrom count a entries c) (sym (ap (λ (rest : List PlaceEntry). first ++ rest) none ∙ append-nil first)) (subst (λ (s : State). RunFrom count a first s) same run)

-- a run goes on, or nothing follows a broken entry
pub goes_on : (count : ℕ) (a : State) (first : List PlaceEntry) (b : State) (more : List PlaceEntry) (c : State) (run : RunFrom count a first b)
    → (is_broken first ≡ true → (more ≡ []) × (b ≡ c)) → (is_broken first ≡ false → RunFrom (total_of count a first b run) b more c) → RunFrom count a (first ++ more) c
goes_on count a first b more c run ends next =
    elim (cases_Bool (is_broken first)) [
      | inl broken ↦ ended count a first b more c run (ends broken).0 (ends broken).1
      | inr whole ↦ appended count a first b more c run whole (next whole)
    ]

-- ---- broken entries

pub broken_first : (first more : List PlaceEntry) → is_broken first ≡ true → is_broken (first ++ more) ≡ true
broken_first [] more broken = let no : ⊥ = cc in absurd no
broken_first (Step seat e now reply outs unsaid ∷ first) more broken = broken_first first more broken
broken_first (Deliver seat now listening d outs ∷ first) more broken = broken_first first more broken
broken_first (Broken seat now call ∷ first) more broken = refl

pub broken_behind : (first more : List PlaceEntry) → is_broken more ≡ true → is_broken (first ++ more) ≡ true
broken_behind [] more broken = broken
broken_behind (Step seat e now reply outs unsaid ∷ first) more broken = broken_behind first more broken
broken_behind (Deliver seat now listening d outs ∷ first) more broken = broken_behind first more broken
broken_behind (Broken seat now call ∷ first) more broken = refl
