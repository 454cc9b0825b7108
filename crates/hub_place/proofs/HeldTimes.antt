-- The entries of a hold in the run of its place, each with the moment by which it was answered.
use Rattle.std.proofs.Common.{◌≡◌, ◌⊎◌, ⊎_elim, inl, inr, ◌≤◌, ◌<◌, ◌++◌, ℕ, Bool, true, false, List, [], ◌∷◌, map, append-nil, Option, Some, None, refl, sym, ap, subst, ◌∙◌, arith}
use Rattle.std.specs.Prelude.{◌==◌, if◌then◌else◌}
use Rattle.std.proofs.lemmas.Bool.{eq-eqb}
use Rattle.js_model.specs.declared.desk.PlaceAt.{PlaceAt}
use Rattle.js_model.specs.declared.entry.PlaceEntry.{PlaceEntry}
use Rattle.js_model.specs.declared.event.What.{What}
use Rattle.js_model.specs.PlaceStates.{PlaceIn, VolumeAt}
use Rattle.js_model.specs.Router.{RouteCall, RouteTold}
use Rattle.js_api.specs.declared.fault.DeskFault.{DeskFault}
use Rattle.js_api.specs.declared.fault.DeskFault.TheVariants as faults
use Rattle.js_api.specs.declared.outcome.Became.{Became}
use Rattle.js_api.specs.declared.outcome.Became.TheVariants as became
use Rattle.js_api.specs.declared.outcome.Outcome.{Outcome}
use Rattle.js_api.specs.Entries.{Hold, entries_in, DeskEntry, Routed, Looked, Turned, Resumed, Held, Stirred, Halted, Missed, Spent}
use Rattle.js_api.specs.Holding.{Holds, HoldsBy}
use Rattle.js_api.specs.Leading.{Leads}
use Rattle.js_api.specs.Worlds.{IsHeld}
use Rattle.crash_laws.specs.Outlasting.{AreBetween}
use Rattle.crash_laws.specs.Timed.{Timed, answered_by, timed_at, timed_held_at, timed_in}
use Rattle.crash_laws.proofs.Beginnings.{both_between, wider_between}
use Rattle.crash_laws.proofs.Timed.{both_entries, entries_of, in_hold}
use Rattle.desk_hold.specs.Crashes.{IsEarlyIn, made_by}
use Rattle.desk_hold.specs.OnePlace.{OnPlace, PlaceStep}
use Rattle.hub_place.proofs.Converted.{AreFine}

-- ---- the entries of a hold at its place

here : (hold : Hold) (at : PlaceAt) → hold.at ≡ at → timed_held_at at.place hold ≡ timed_in hold
here hold at is = by (hold.at.place == at.place) (eq-eqb hold.at.place at.place (ap (λ (a : PlaceAt). a.place) is))
  where
    by : (b : Bool) → b ≡ true → (if b then timed_in hold else []) ≡ timed_in hold
    by true e = refl
    by false e = absurd (cc)

all_by : (from until by : ℕ) → from ≤ by → by ≤ until → (entries : List PlaceEntry) → AreBetween from until (map (answered_by by) entries)
all_by from until by le ge [] = tt
all_by from until by le ge (e ∷ more) = (le, ge, all_by from until by le ge more)

held_between : (hold : Hold) (old new : PlaceIn) → IsHeld hold old new → AreBetween old.volume.moment new.volume.moment (timed_in hold)
held_between hold old new held =
    both_between old.volume.moment new.volume.moment (map (answered_by hold.volume_between.moment) hold.steps) (map (answered_by hold.volume_after.moment) hold.deliveries)
    (all_by old.volume.moment new.volume.moment hold.volume_between.moment first then_ hold.steps)
    (all_by old.volume.moment new.volume.moment hold.volume_after.moment (omega (arith, first, held.between_after.moments)) last hold.deliveries)
  where
    was : old.volume.moment ≡ hold.volume_before.moment
    was = ap (λ (v : VolumeAt). v.moment) held.volume_was

    is : new.volume.moment ≡ hold.volume_after.moment
    is = ap (λ (v : VolumeAt). v.moment) held.volume_is

    first : old.volume.moment ≤ hold.volume_between.moment
    first = omega (arith, was, held.before_between.moments)

    then_ : hold.volume_between.moment ≤ new.volume.moment
    then_ = omega (arith, is, held.between_after.moments)

    last : hold.volume_after.moment ≤ new.volume.moment
    last = omega (arith, is)

-- ---- the entries of one hold

module _ {R : Type 0} (routes : R → RouteCall → RouteTold → R → Type 0) (worn : R → ℕ → R → Type 0) (at : PlaceAt) where
  abbrev Led : OnPlace R → List DeskEntry → OnPlace R → Type 0
  Led old entries new = Leads (PlaceStep routes worn at) old entries new

  pub timed_here : (entries : List DeskEntry) (old new : OnPlace R) → Led old entries new → entries_of (timed_at at.place entries) ≡ made_by entries
  timed_here [] old new h = refl
  timed_here (Routed call told ∷ more) old new h = absurd h.1
  timed_here (Looked joined call told ∷ more) old new h = absurd h.1
  timed_here (Turned after found ∷ more) old new h = absurd h.1
  timed_here (Resumed last ∷ more) old new h = absurd h.1
  timed_here (Held hold ∷ more) old new h =
      both_entries (timed_held_at at.place hold) (timed_at at.place more) (entries_in hold) (made_by more) (ap entries_of (here hold at h.1.at_is) ∙ in_hold hold) (timed_here more h.0 new h.2)
  timed_here (Stirred there before after failed ∷ more) old new h = timed_here more h.0 new h.2
  timed_here (Halted there state ∷ more) old new h = timed_here more h.0 new h.2
  timed_here (Missed there kept ∷ more) old new h = timed_here more h.0 new h.2
  timed_here (Spent number ∷ more) old new h = absurd h.1

  -- where the volume stands before and after, and the moments between
  pub record Between (entries : List DeskEntry) (old new : OnPlace R) : Type 0 where
    pub later : old.place.volume.moment ≤ new.place.volume.moment
    pub between : AreBetween old.place.volume.moment new.place.volume.moment (timed_at at.place entries)

  quiet_then : (entry : DeskEntry) (more : List DeskEntry) (old mid new : OnPlace R) → timed_at at.place more ≡ timed_at at.place (entry ∷ more) → old.place.volume.moment ≤ mid.place.volume.moment
      → Between more mid new → Between (entry ∷ more) old new
  quiet_then entry more old mid new same le h = record {
    later = omega (arith, le, h.later);
    between = subst (λ (es : List Timed). AreBetween old.place.volume.moment new.place.volume.moment es) same
        (wider_between mid.place.volume.moment new.place.volume.moment old.place.volume.moment new.place.volume.moment le (omega arith) (timed_at at.place more) h.between);
  }

  pub timed_between : (entries : List DeskEntry) (old new : OnPlace R) → Led old entries new → Between entries old new
  timed_between [] old new h = record { later = omega (arith, ap (λ (o : OnPlace R). o.place.volume.moment) h); between = tt }
  timed_between (Routed call told ∷ more) old new h = absurd h.1
  timed_between (Looked joined call told ∷ more) old new h = absurd h.1
  timed_between (Turned after found ∷ more) old new h = absurd h.1
  timed_between (Resumed last ∷ more) old new h = absurd h.1
  timed_between (Held hold ∷ more) old new h =
      let next = timed_between more h.0 new h.2 in
      let held = held_between hold old.place h.0.place h.1.held in
      let first : old.place.volume.moment ≤ h.0.place.volume.moment = omega (
        arith,
        ap (λ (v : VolumeAt). v.moment) h.1.held.volume_was,
        ap (λ (v : VolumeAt). v.moment) h.1.held.volume_is,
        h.1.held.before_between.moments,
        h.1.held.between_after.moments,
      ) in
      record {
        later = omega (arith, first, next.later);
        between =
            both_between old.place.volume.moment new.place.volume.moment (timed_held_at at.place hold) (timed_at at.place more)
            (subst (λ (es : List Timed). AreBetween old.place.volume.moment new.place.volume.moment es) (sym (here hold at h.1.at_is))
            (wider_between old.place.volume.moment h.0.place.volume.moment old.place.volume.moment new.place.volume.moment (omega arith) next.later (timed_in hold) held))
            (wider_between h.0.place.volume.moment new.place.volume.moment old.place.volume.moment new.place.volume.moment first (omega arith) (timed_at at.place more) next.between);
      }
  timed_between (Stirred there before after failed ∷ more) old new h =
      quiet_then (Stirred there before after failed) more old h.0 new refl
      (omega (arith, ap (λ (v : VolumeAt). v.moment) h.1.stirred.volume_was, ap (λ (v : VolumeAt). v.moment) h.1.stirred.volume_is, h.1.stirred.later.moments))
      (timed_between more h.0 new h.2)
  timed_between (Halted there state ∷ more) old new h =
      quiet_then (Halted there state) more old h.0 new refl (omega (arith, ap (λ (o : OnPlace R). o.place.volume.moment) h.1.same)) (timed_between more h.0 new h.2)
  timed_between (Missed there kept ∷ more) old new h =
      quiet_then (Missed there kept) more old h.0 new refl (omega (arith, ap (λ (o : OnPlace R). o.place.volume.moment) h.1.same)) (timed_between more h.0 new h.2)
  timed_between (Spent number ∷ more) old new h = absurd h.1

  -- ---- what may be lost

  -- at most one hold is among them
  abbrev OneHold : List DeskEntry → Type 0
  OneHold entries = ((number : ℕ) → timed_at number entries ≡ []) ⊎ ((hold : Hold) × (entries ≡ Held hold ∷ []))

  one_hold : (told : Became) (what : What) (now : ℕ) (ready : Bool) (fault : Option DeskFault) (entries : List DeskEntry) → HoldsBy told at what now ready fault entries → OneHold entries
  one_hold (became.Made reply) what now ready fault entries h = inr (h.0, h.1)
  one_hold (became.Unsaid refused) what now ready fault entries h = inr (h.0, h.3)
  one_hold became.Ticked what now ready fault entries h = inr (h.0, h.1)
  one_hold became.Nothing what now ready None entries h = absurd h.1
  one_hold became.Nothing what now ready (Some faults.NoMemory) entries h = inl (λ number. ap (timed_at number) h.1)
  one_hold became.Nothing what now ready (Some faults.TooManySubs) entries h = absurd h.1
  one_hold became.Nothing what now ready (Some (faults.Worn last)) entries h = ⊎_elim (λ e. inl (λ number. ap (timed_at number) e)) (λ e. inl (λ number. ap (timed_at number) e.2)) h.1
  one_hold became.Nothing what now ready (Some (faults.NoSession latest)) entries h = absurd h.1
  one_hold (became.Broke stream) what now ready fault entries h = inr (h.0, h.1)
  one_hold (became.Stopped stream) what now ready fault entries h = inl (λ number. ap (timed_at number) h.1)
  one_hold became.Gone what now ready fault entries h = inl (λ number. ap (timed_at number) h.1)

  fine_by : (may : Type 0) (t by : ℕ) → (may → t < by) → (entries : List PlaceEntry) → AreFine may (λ by. t < by) (map (answered_by by) entries)
  fine_by may t by so [] = tt
  fine_by may t by so (e ∷ more) = (so, fine_by may t by so more)

  both_fine : (may : Type 0) (IsFine : ℕ → Type 0) (first more : List Timed) → AreFine may IsFine first → AreFine may IsFine more → AreFine may IsFine (first ++ more)
  both_fine may IsFine [] more h k = k
  both_fine may IsFine (e ∷ first) more h k = (h.0, both_fine may IsFine first more h.1 k)

  abbrev AllFine : List DeskEntry → Type 0
  AllFine entries = (t : ℕ) → AreFine (IsEarlyIn entries t) (λ by. t < by) (timed_at at.place entries)

  held_fine : (hold : Hold) (old new : OnPlace R) → Led old (Held hold ∷ []) new → AllFine (Held hold ∷ [])
  held_fine hold old new h t =
      subst (λ (es : List Timed). AreFine (IsEarlyIn (Held hold ∷ []) t) (λ by. t < by) es) (sym (append-nil (timed_held_at at.place hold) ∙ here hold at h.1.at_is))
      (both_fine (IsEarlyIn (Held hold ∷ []) t) (λ by. t < by) (map (answered_by hold.volume_between.moment) hold.steps) (map (answered_by hold.volume_after.moment) hold.deliveries)
      (fine_by (IsEarlyIn (Held hold ∷ []) t) t hold.volume_between.moment early hold.steps)
      (fine_by (IsEarlyIn (Held hold ∷ []) t) t hold.volume_after.moment (λ e. omega (arith, early e, h.1.held.between_after.moments)) hold.deliveries))
    where
      early : IsEarlyIn (Held hold ∷ []) t → t < hold.volume_between.moment
      early (inl lt) = lt
      early (inr none) = absurd none

  one_fine : (entries : List DeskEntry) (old new : OnPlace R) → Led old entries new → OneHold entries → AllFine entries
  one_fine entries old new h (inl none) = λ t. subst (λ (es : List Timed). AreFine (IsEarlyIn entries t) (λ by. t < by) es) (sym (none at.place)) tt
  one_fine entries old new h (inr is) = subst AllFine (sym is.1) (held_fine is.0 old new (subst (λ (es : List DeskEntry). Led old es new) is.1 h))

  pub timed_fine : (what : What) (now : ℕ) (outcome : Outcome) (entries : List DeskEntry) (old new : OnPlace R) → Holds at what now outcome entries → Led old entries new → AllFine entries
  timed_fine what now outcome entries old new h led = ⊎_elim
      (λ none. whole (h.entries_are ∙ ap (λ (es : List DeskEntry). es ++ h.more) none))
      (λ stirred. behind stirred.0 stirred.1 stirred.2 (h.entries_are ∙ ap (λ (es : List DeskEntry). es ++ h.more) stirred.3))
      h.prepares
    where
      one : OneHold h.more
      one = one_hold outcome.became what now outcome.ready outcome.fault h.more h.holds

      whole : entries ≡ h.more → AllFine entries
      whole same = subst AllFine (sym same) (one_fine h.more old new (subst (λ (es : List DeskEntry). Led old es new) same led) one)

      behind : (before after : VolumeAt) (failed : Bool) → entries ≡ Stirred at before after failed ∷ h.more → AllFine entries
      behind before after failed same =
          let rest = subst (λ (es : List DeskEntry). Led old es new) same led in
          subst AllFine (sym same) (one_fine h.more rest.0 new rest.2 one)
