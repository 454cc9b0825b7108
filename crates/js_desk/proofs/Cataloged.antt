-- The calls of a turn of the catalog, and that the ground stays one.
use Rattle.std.proofs.Common.{◌≡◌, ◌<◌, ℕ, Bool, true, false, List, length, Option, Some, None, Result, Ok, Err, IfErr, IfOk, OnOk, OnErr, refl, sym, ap, subst, ◌∙◌, inl, inr, if◌then◌else◌, arith}
use Rattle.std.specs.Prelude.{IsSome, slice_get}
use Rattle.std.specs.Option.{IsSomeAnd}
use Rattle.std.proofs.lemmas.Bool.{ne_eqb}
use Rattle.js_base.specs.Bytes.{Bytes}
use Rattle.js_model.specs.declared.desk.PlaceAt.{PlaceAt}
use Rattle.js_model.specs.declared.catalog_fault.CatalogFault.{CatalogFault}
use Rattle.js_model.specs.declared.catalog_fault.CatalogFault.TheVariants as faults
use Rattle.js_model.specs.Refusals.{subjects_overlap}
use Rattle.js_model.specs.Catalog as catalog
use Rattle.js_model.specs.Catalog.{Catalog, Place, Used, IsCatalogCall, catalog_call, telling, edited, on_used, changing, keeping, freed, stopping, overlaps_other}
use Rattle.js_model.specs.Cataloging.{HasPlace, MayChange, add_told, change_told}
use Rattle.js_model.specs.PlaceStates.{PlaceIn}
use Rattle.desk_ground.specs.Grounds as phases
use Rattle.desk_ground.specs.Grounds.{IsBetween, IsKnown, IsTold, Knows, MayStop}
use Rattle.desk_places.specs.declared.turn.Turn.{Turn}
use Rattle.desk_places.specs.declared.turn.Turn.TheVariants as turns
use Rattle.desk_places.specs.Turns.{after_change, phase_of}
use Rattle.js_desk.specs.Grounds.{IsGrounded, is_between, told_incarnation}
use Rattle.js_desk.proofs.Added.{taken, taken_within, taken_known, refused_utf8, overlap_utf8}
use Rattle.js_desk.proofs.Edits.{edited_there}
use Rattle.js_desk.proofs.Found.{length-with_place}
use Rattle.desk_places.proofs.Turns.{within_is}
use Rattle.js_desk.proofs.Turns.{added_single, added_agreed, changed_single, changed_agreed, kept_single, kept_agreed, freed_single, freed_agreed, stopped_single, stopped_agreed}

between_is : (turn : Turn) (place : ℕ) → phase_of turn ≡ phases.Between place → turn ≡ turns.Between place
between_is turns.Outside place e = absurd (cc)
between_is turns.Within place e = absurd (cc)
between_is (turns.Between other) place e = let same : other ≡ place = cc in ap turns.Between same
between_is (turns.Owing other) place e = absurd (cc)

owing_is : (turn : Turn) (place : ℕ) → phase_of turn ≡ phases.Owing place → turn ≡ turns.Owing place
owing_is turns.Outside place e = absurd (cc)
owing_is turns.Within place e = absurd (cc)
owing_is (turns.Between other) place e = absurd (cc)
owing_is (turns.Owing other) place e = let same : other ≡ place = cc in ap turns.Owing same

module _ (c new : Catalog) (places : List PlaceIn) (last : Option PlaceAt) (turn : Turn) (g : IsGrounded c places last turn) where
  abbrev as_turn : (other : Turn) → turn ≡ other → IsGrounded c places last other
  as_turn other e = subst (λ (t : Turn). IsGrounded c places last t) e g

  -- ---- a new stream

  pub added_grounded : (name : Bytes) (subjects : List Bytes) (result : Result PlaceAt CatalogFault) → phase_of turn ≡ phases.Within → IsCatalogCall c (catalog.Add name subjects) (add_told result) new → OnErr result (new ≡ c)
      → IsGrounded new places last turn
  added_grounded name subjects (Ok at) within k same =
      let t = taken name subjects at c new k in
      let w = as_turn turns.Within (within_is turn within) in
      subst (λ (x : Turn). IsGrounded new places last x) (sym (within_is turn within))
      (subst (λ (d : Catalog). IsGrounded d places last turns.Within) (sym t.new_is) (record {
        few = w.few;
        same = length-with_place _ at.place 0 c ∙ w.same;
        single = added_single c places at.place name subjects w.single;
        agreed = added_agreed c places at.place name subjects w.agreed;
        within = w.within;
      }))
  added_grounded name subjects (Err fault) within k same = subst (λ (d : Catalog). IsGrounded d places last turn) (sym same) g

  pub added_within : (name : Bytes) (subjects : List Bytes) (result : Result PlaceAt CatalogFault) (n : ℕ) → IsCatalogCall c (catalog.Add name subjects) (add_told result) new → length c ≡ n → IfOk result (λ at. at.place < n)
  added_within name subjects (Ok at) n k many = omega (arith, taken_within name subjects at c new (taken name subjects at c new k), many)
  added_within name subjects (Err fault) n k many = tt

  pub added_known : (name : Bytes) (subjects : List Bytes) (result : Result PlaceAt CatalogFault) → IsCatalogCall c (catalog.Add name subjects) (add_told result) new → IfOk result (Knows new)
  added_known name subjects (Ok at) k = taken_known name subjects at c new (taken name subjects at c new k)
  added_known name subjects (Err fault) k = tt

  pub added_told : (name : Bytes) (subjects : List Bytes) (result : Result PlaceAt CatalogFault) → IsCatalogCall c (catalog.Add name subjects) (add_told result) new → IfErr result IsTold
  added_told name subjects (Ok at) k = tt
  added_told name subjects (Err (faults.Refused refusal)) k = refused_utf8 name subjects refusal c new k
  added_told name subjects (Err faults.NoMemory) k = tt

  -- ---- new subjects

  pub changed_is : (place : ℕ) (subjects : List Bytes) → IsCatalogCall c (catalog.Change place subjects) catalog.Done new → new ≡ edited (on_used (changing subjects)) place c
  unfolding catalog_call
  changed_is place subjects (inr h) = absurd (let no : catalog.Done ≡ catalog.NoMemory = h.0 in cc)
  changed_is place subjects (inl h) = by (overlaps_other place subjects c) h
    where
      by : (b : Bool) → (if b then telling (catalog.Refused subjects_overlap) c else telling catalog.Done (edited (on_used (changing subjects)) place c)) ≡ telling catalog.Done new
          → new ≡ edited (on_used (changing subjects)) place c
      by true k = absurd (let no : catalog.Refused subjects_overlap ≡ catalog.Done = ap (λ (t : catalog.Cataloged). t.told) k in cc)
      by false k = sym (ap (λ (t : catalog.Cataloged). t.catalog) k)

  pub changed_grounded : (place : ℕ) (subjects : List Bytes) → phase_of turn ≡ phases.Within → IsCatalogCall c (catalog.Change place subjects) catalog.Done new → IsGrounded new places last (turns.Between place)
  changed_grounded place subjects within k =
      let w = as_turn turns.Within (within_is turn within) in
      subst (λ (d : Catalog). IsGrounded d places last (turns.Between place)) (sym (changed_is place subjects k)) (record {
        few = w.few;
        same = length-with_place (on_used (changing subjects)) place 0 c ∙ w.same;
        single = changed_single c places place subjects w.single;
        agreed = changed_agreed c places place subjects w.agreed;
        within = w.within;
      })

  pub changed_told : (place : ℕ) (subjects : List Bytes) (fault : CatalogFault) → IsCatalogCall c (catalog.Change place subjects) (change_told (Err fault)) new → IsTold fault
  changed_told place subjects (faults.Refused refusal) k = overlap_utf8 place subjects refusal c new k
  changed_told place subjects faults.NoMemory k = tt

  -- also if they were not changed
  pub change_grounded : (place : ℕ) (subjects : List Bytes) (result : Result (Unit {0}) CatalogFault) → phase_of turn ≡ phases.Within → IsCatalogCall c (catalog.Change place subjects) (change_told result) new
      → OnErr result (new ≡ c) → IsGrounded new places last (after_change turn result place)
  change_grounded place subjects (Ok done) within k same = changed_grounded place subjects within k
  change_grounded place subjects (Err fault) within k same = subst (λ (d : Catalog). IsGrounded d places last turn) (sym same) g

  pub change_text : (place : ℕ) (subjects : List Bytes) (result : Result (Unit {0}) CatalogFault) → IsCatalogCall c (catalog.Change place subjects) (change_told result) new → IfErr result IsTold
  change_text place subjects (Ok done) k = tt
  change_text place subjects (Err fault) k = changed_told place subjects fault k

  -- ---- one list is kept, and a place is freed or stopped

  pub kept_grounded : (place : ℕ) (b : Bool) → phase_of turn ≡ phases.Between place → catalog_call c (catalog.Keep place b) ≡ telling catalog.Done new → IsGrounded new places last turns.Within
  unfolding catalog_call
  kept_grounded place b e k =
      let w = as_turn (turns.Between place) (between_is turn place e) in
      subst (λ (d : Catalog). IsGrounded d places last turns.Within) (ap (λ (t : catalog.Cataloged). t.catalog) k) (record {
        few = w.few;
        same = length-with_place (on_used (keeping b)) place 0 c ∙ w.same;
        single = kept_single c places place b w.single;
        agreed = kept_agreed c places place b w.agreed;
        within = w.within;
      })

  before_is : (dropped : Bool) (place : ℕ) → phase_of turn ≡ phases.before_freeing dropped place → turn ≡ (if dropped then turns.Owing place else turns.Within)
  before_is true place e = owing_is turn place e
  before_is false place e = within_is turn e

  pub freed_grounded : (place : ℕ) (dropped : Bool) → phase_of turn ≡ phases.before_freeing dropped place → catalog_call c (catalog.Remove place dropped) ≡ telling catalog.Done new → IsGrounded new places last turns.Within
  unfolding catalog_call
  freed_grounded place dropped e k = subst (λ (d : Catalog). IsGrounded d places last turns.Within) (ap (λ (t : catalog.Cataloged). t.catalog) k) (by dropped e)
    where
      by : (b : Bool) → phase_of turn ≡ phases.before_freeing b place → IsGrounded (edited (freed b) place c) places last turns.Within
      by true f =
          let w = as_turn (turns.Owing place) (owing_is turn place f) in
          record {
            few = w.few;
            same = length-with_place (freed true) place 0 c ∙ w.same;
            single = freed_single c places place true w.single;
            agreed = freed_agreed c places place true w.agreed;
            within = w.within;
          }
      by false f =
          let w = as_turn turns.Within (within_is turn f) in
          record {
            few = w.few;
            same = length-with_place (freed false) place 0 c ∙ w.same;
            single = freed_single c places place false w.single;
            agreed = freed_agreed c places place false w.agreed;
            within = w.within;
          }

  pub stopped_grounded : (place : ℕ) → MayStop place (phase_of turn) → catalog_call c (catalog.Stop place) ≡ telling catalog.Done new → IsGrounded new places last turns.Within
  unfolding catalog_call
  stopped_grounded place may k = subst (λ (d : Catalog). IsGrounded d places last turns.Within) (ap (λ (t : catalog.Cataloged). t.catalog) k) (record {
    few = g.few;
    same = length-with_place (on_used stopping) place 0 c ∙ g.same;
    single = stopped_single c places place turn (others turn may) g.single;
    agreed = stopped_agreed c places place turn (told turn may) g.agreed;
    within = g.within;
  })
    where
      others : (t : Turn) → MayStop place (phase_of t) → (n : ℕ) → (place ≡ n → ⊥) → is_between t n ≡ false
      others turns.Outside m n miss = absurd m
      others turns.Within m n miss = refl
      others (turns.Between other) m n miss = ne_eqb other n (λ e. miss (sym m ∙ e))
      others (turns.Owing other) m n miss = absurd m

      told : (t : Turn) → MayStop place (phase_of t) → (n : ℕ) (p : Place) → told_incarnation t n p ≡ p.incarnation
      told turns.Outside m n p = absurd m
      told turns.Within m n p = refl
      told (turns.Between other) m n p = refl
      told (turns.Owing other) m n p = absurd m

pub change_phase : (turn : Turn) (place : ℕ) (result : Result (Unit {0}) CatalogFault) → phase_of turn ≡ phases.Within → phase_of (after_change turn result place) ≡ phases.changed_to place result
change_phase turn place (Ok done) within = refl
change_phase turn place (Err fault) within = within

-- ---- the stream between its two lists

pub known_single : (c : Catalog) (at : PlaceAt) → Knows c at → HasPlace c at.place MayChange
known_single c at known = by (slice_get c at.place) known
  where
    by : (o : Option Place) → IsSomeAnd o (IsKnown at) → IsSomeAnd o MayChange
    by None h = h
    by (Some place) h = h.single

changed_two : (subjects : List Bytes) (u : Used) → (changing subjects u).stopped ≡ false → IsSome (changing subjects u).new_subjects
changed_two subjects u = by u.stopped refl
  where
    by : (b : Bool) → u.stopped ≡ b → (if b then u else record u { new_subjects = Some subjects }).stopped ≡ false → IsSome (if b then u else record u { new_subjects = Some subjects }).new_subjects
    by true e h = absurd (cc)
    by false e h = refl

between_place : (subjects : List Bytes) (at : PlaceAt) (p : Place) → IsKnown at p → IsBetween at (on_used (changing subjects) p)
between_place subjects at p k = by p.used k.used
  where
    by : (used : Option Used) → IsSome used → IsBetween at (on_used (changing subjects) (record p { used = used }))
    by None h = absurd (cc)
    by (Some u) h = record { used = refl; both = changed_two subjects u; incarnation = k.incarnation }

pub changed_between : (c new : Catalog) (at : PlaceAt) (subjects : List Bytes) → IsCatalogCall c (catalog.Change at.place subjects) catalog.Done new → new ≡ edited (on_used (changing subjects)) at.place c → Knows c at
    → HasPlace new at.place (IsBetween at)
changed_between c new at subjects k is known = by (slice_get c at.place) refl known
  where
    by : (o : Option Place) → slice_get c at.place ≡ o → IsSomeAnd (slice_get c at.place) (IsKnown at) → HasPlace new at.place (IsBetween at)
    by None e h = absurd (subst (λ (x : Option Place). IsSomeAnd x (IsKnown at)) e h)
    by (Some p) e h =
        let now : slice_get (edited (on_used (changing subjects)) at.place c) at.place ≡ Some (on_used (changing subjects) p) = edited_there (on_used (changing subjects)) at.place 0 at.place c p (omega arith) e in
        subst (λ (d : Catalog). HasPlace d at.place (IsBetween at)) (sym is)
        (subst (λ (x : Option Place). IsSomeAnd x (IsBetween at)) (sym now) (between_place subjects at p (subst (λ (x : Option Place). IsSomeAnd x (IsKnown at)) e h)))

module _ (c new : Catalog) (places : List PlaceIn) (last : Option PlaceAt) (turn : Turn) (g : IsGrounded c places last turn) where
  pub change_between : (at : PlaceAt) (subjects : List Bytes) (result : Result (Unit {0}) CatalogFault) → IsCatalogCall c (catalog.Change at.place subjects) (change_told result) new → Knows c at
      → OnOk result (HasPlace new at.place (IsBetween at))
  change_between at subjects (Ok done) k known = changed_between c new at subjects k (changed_is c new places last turn g at.place subjects k) known
  change_between at subjects (Err fault) k known = tt
