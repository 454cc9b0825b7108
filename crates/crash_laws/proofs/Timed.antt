-- The timed entries of a place are those of its run.
use Rattle.std.proofs.Common.{◌≡◌, ◌++◌, ◌==◌, ℕ, Bool, true, false, List, [], ◌∷◌, map, append_assoc, refl, sym, ap, ◌∙◌}
use Rattle.std.specs.Prelude.{if◌then◌else◌}
use Rattle.std.proofs.lemmas.List.{map-append}
use Rattle.js_model.specs.declared.entry.PlaceEntry.{PlaceEntry}
use Rattle.js_api.specs.Entries.{DeskEntry, Hold, entries_in, Routed, Looked, Turned, Resumed, Held, Stirred, Halted, Missed, Spent}
use Rattle.js_api.specs.Machines.{held_at, steps_at}
use Rattle.crash_laws.specs.Laws.{LawTimed}
use Rattle.crash_laws.specs.Timed.{Timed, answered_by, timed_at, timed_held_at, timed_in}

abbrev pub entries_of : List Timed → List PlaceEntry
entries_of timed = map (λ (e : Timed). e.entry) timed

pub untimed : (moment : ℕ) (entries : List PlaceEntry) → entries_of (map (answered_by moment) entries) ≡ entries
untimed moment [] = refl
untimed moment (e ∷ more) = ap (λ (es : List PlaceEntry). e ∷ es) (untimed moment more)

pub both_entries : (xs ys : List Timed) (us vs : List PlaceEntry) → entries_of xs ≡ us → entries_of ys ≡ vs → entries_of (xs ++ ys) ≡ us ++ vs
both_entries xs ys us vs h k = map-append (λ (e : Timed). e.entry) xs ys ∙ ap (λ (es : List PlaceEntry). es ++ entries_of ys) h ∙ ap (λ (es : List PlaceEntry). us ++ es) k

pub in_hold : (hold : Hold) → entries_of (timed_in hold) ≡ entries_in hold
in_hold hold =
    both_entries (map (answered_by hold.volume_between.moment) hold.steps) (map (answered_by hold.volume_after.moment) hold.deliveries) hold.steps hold.deliveries
    (untimed hold.volume_between.moment hold.steps) (untimed hold.volume_after.moment hold.deliveries)

if_there : (b : Bool) (xs : List Timed) (us : List PlaceEntry) → entries_of xs ≡ us → entries_of (if b then xs else []) ≡ (if b then us else [])
if_there true xs us h = h
if_there false xs us h = refl

pub law_timed : LawTimed
law_timed place [] = refl
law_timed place (Routed call told ∷ more) = law_timed place more
law_timed place (Looked joined call told ∷ more) = law_timed place more
law_timed place (Turned after found ∷ more) = law_timed place more
law_timed place (Resumed last ∷ more) = law_timed place more
law_timed place (Held hold ∷ more) =
    both_entries (timed_held_at place hold) (timed_at place more) (held_at place hold) (steps_at place more)
    (if_there (hold.at.place == place) (timed_in hold) (entries_in hold) (in_hold hold)) (law_timed place more)
law_timed place (Stirred at before after failed ∷ more) = law_timed place more
law_timed place (Halted at state ∷ more) = law_timed place more
law_timed place (Missed at kept ∷ more) = law_timed place more
law_timed place (Spent number ∷ more) = law_timed place more

-- those of entries that follow others come behind theirs
pub timed_more : (place : ℕ) (first more : List DeskEntry) → timed_at place (first ++ more) ≡ timed_at place first ++ timed_at place more
timed_more place [] more = refl
timed_more place (Routed call told ∷ first) more = timed_more place first more
timed_more place (Looked joined call told ∷ first) more = timed_more place first more
timed_more place (Turned after found ∷ first) more = timed_more place first more
timed_more place (Resumed last ∷ first) more = timed_more place first more
timed_more place (Held hold ∷ first) more =
    ap (λ (es : List Timed). timed_held_at place hold ++ es) (timed_more place first more) ∙ sym (append_assoc (timed_held_at place hold) (timed_at place first) (timed_at place more))
timed_more place (Stirred at before after failed ∷ first) more = timed_more place first more
timed_more place (Halted at state ∷ first) more = timed_more place first more
timed_more place (Missed at kept ∷ first) more = timed_more place first more
timed_more place (Spent number ∷ first) more = timed_more place first more
