-- What a hold makes of the ground of one caller.
use Rattle.std.proofs.Common.{◌≡◌, ◌≤◌, ◌<◌, ◌+◌, ℕ, Bool, get_or, true, false, ◌&&◌, List, length, Option, Some, None, refl, sym, ap, subst, ◌∙◌, if◌then◌else◌, IfSome, arith}
use Rattle.std.specs.Prelude.{◌==◌, slice_get, slice_set}
use Rattle.std.proofs.lemmas.Bool.{eq-eqb, eqb-true}
use Rattle.std.specs.Option.{IsSomeAnd}
use Rattle.std.proofs.lemmas.Option.{slice_get_read, slice_get_within}
use Rattle.std.proofs.lemmas.List.{length-map}
use Rattle.js_model.specs.declared.event.What.{What}
use Rattle.js_model.specs.declared.stream.State.{State}
use Rattle.js_model.specs.declared.event.What.TheVariants as whats
use Rattle.js_model.specs.declared.desk.PlaceAt.{PlaceAt}
use Rattle.js_model.specs.Catalog.{Catalog, Place}
use Rattle.js_model.specs.Cataloging.{HasPlace}
use Rattle.js_model.specs.Events.{kept_incarnation}
use Rattle.js_model.specs.PlaceStates.{PlaceIn}
use Rattle.js_model.specs.Router.{Router, IsRoute}
use Rattle.place_engine.specs.Stepping.{Image, Seen}
use Rattle.js_api.specs.declared.outcome.Became.{Became}
use Rattle.js_api.specs.declared.outcome.Became.TheVariants as became
use Rattle.js_api.specs.declared.outcome.Outcome.{Outcome}
use Rattle.js_api.specs.Entries.{DeskEntry}
use Rattle.js_api.specs.Holding.{Holds}
use Rattle.js_api.specs.Leading.{Leads, Makes}
use Rattle.js_api.specs.Rooms.{AreOutgrown}
use Rattle.js_api.specs.Worlds.{Scene, SoloStep}
use Rattle.desk_answers.specs.Became.{is_dropped}
use Rattle.desk_ground.specs.Grounds as phases
use Rattle.desk_ground.specs.Grounds.{IsKnown, Knows}
use Rattle.desk_ground.specs.Outcomes.{IsThere, MayHold, phase_after}
use Rattle.desk_hold.specs.OnePlace.{HoldsOn, on}
use Rattle.desk_places.specs.declared.turn.Turn.{Turn}
use Rattle.desk_places.specs.declared.turn.Turn.TheVariants as turns
use Rattle.desk_places.specs.Dropping.{is_drop}
use Rattle.desk_places.specs.Held.{is_held}
use Rattle.desk_places.specs.Places.{places_by}
use Rattle.desk_places.specs.Turns.{after_hold, phase_of}
use Rattle.js_desk.specs.Grounds.{AreAgreed, AreSingle, IsGrounded, SoloMade, standing, told_incarnation}
use Rattle.desk_hold.proofs.Alone.{held_alone, held_entries, last_of, never, with_place}
use Rattle.js_desk.proofs.HoldFacts.{Facts, hold_facts}
use Rattle.js_desk.specs.Kept.{kept_set}
use Rattle.crash_laws.specs.Outlasting.{Outlasts}
use Rattle.crash_laws.specs.Timed.{timed_at}
use Rattle.js_desk.proofs.HeldTimes.{timed_elsewhere}
use Rattle.js_desk.specs.Lasting.{PlacesOutlast}
use Rattle.js_desk.proofs.Lasting.{outlast_set}
use Rattle.desk_places.proofs.Turns.{drops_within, within_is, phase_held}
use Rattle.desk_places.proofs.Sets.{get_other, get_set, length_set}

-- a place that was taken out of the row stood there
pub there_is : {P : Type 0} (seen : P → Seen) (row : List P) (at : PlaceAt) (old : P) → at.place < length (places_by seen row) → old ≡ get_or row at.place old → slice_get row at.place ≡ Some old
there_is seen row at old within is = slice_get_read row (length row) at.place old refl (omega (arith, within, length-map row (λ p. (seen p).place))) is

-- ---- what holds of each place

module _ (c : Catalog) (places : List PlaceIn) (last : Option PlaceAt) (turn : Turn) (at : PlaceAt) (old new : PlaceIn) (there : slice_get places at.place ≡ Some old) (g : IsGrounded c places last turn)
    (what : What) (told : Became) (entries : List DeskEntry) (may : MayHold what (phase_of turn)) (f : Facts at what told entries old new) where
  single_held : (b : Bool) → (is_drop what && is_dropped told) ≡ b → AreSingle (after_hold turn b at.place) c
  single_held false e = g.single
  single_held true e = λ n place is between. subst (λ (t : Turn). AreSingle t c) (drops_within what turn (left (is_drop what) (is_dropped told) e) may) g.single n place is refl
    where
      left : (a b : Bool) → (a && b) ≡ true → a ≡ true
      left true b e = refl
      left false b e = absurd (cc)

  both : (a b : Bool) → (a && b) ≡ true → (a ≡ true) × (b ≡ true)
  both true b e = (refl, e)
  both false b e = absurd (cc)

  not_both : (a b : Bool) → (a && b) ≡ false → a ≡ true → b ≡ false
  not_both true b e a = e
  not_both false b e a = absurd (cc)

  some_same : (x y : PlaceIn) → Some x ≡ Some y → x ≡ y
  some_same x y e = cc

  agreed_held : (b : Bool) → (is_drop what && is_dropped told) ≡ b → AreAgreed (after_hold turn b at.place) c (slice_set places at.place new)
  agreed_held b e = λ n place contents is stands goes. by b e n place contents is stands goes (at.place == n) refl
    where
      here : (n : ℕ) → at.place ≡ n → (contents : PlaceIn) → slice_get (slice_set places at.place new) n ≡ Some contents → contents ≡ new
      here n hit contents stands =
          let mine : slice_get (slice_set places at.place new) n ≡ Some new = ap (λ (k : ℕ). slice_get (slice_set places at.place new) k) (sym hit) ∙ get_set places at.place old new there in
          some_same contents new (sym stands ∙ mine)

      stood : (n : ℕ) → at.place ≡ n → slice_get places n ≡ Some old
      stood n hit = ap (λ (k : ℕ). slice_get places k) (sym hit) ∙ there

      goes_on : (n : ℕ) → at.place ≡ n → (contents : PlaceIn) → slice_get (slice_set places at.place new) n ≡ Some contents → contents.stopped ≡ None → new.stopped ≡ None
      goes_on n hit contents stands goes = ap (λ (x : PlaceIn). x.stopped) (sym (here n hit contents stands)) ∙ goes

      by : (b : Bool) → (is_drop what && is_dropped told) ≡ b → (n : ℕ) (place : Place) (contents : PlaceIn) → slice_get c n ≡ Some place → slice_get (slice_set places at.place new) n ≡ Some contents
          → contents.stopped ≡ None → (d : Bool) → (at.place == n) ≡ d → told_incarnation (after_hold turn b at.place) n place ≡ kept_incarnation contents.state
      by false e n place contents is stands goes true d =
          let hit : at.place ≡ n = eqb-true at.place n d in
          let going : new.stopped ≡ None = goes_on n hit contents stands goes in
          g.agreed n place old is (stood n hit) (f.going going) ∙ sym (f.keeps going (λ drop. not_both (is_drop what) (is_dropped told) e drop))
          ∙ ap (λ (x : PlaceIn). kept_incarnation x.state) (sym (here n hit contents stands))
      by false e n place contents is stands goes false d =
          let miss : at.place ≡ n → ⊥ = λ hit. (let yes : (at.place == n) ≡ true = eq-eqb at.place n hit in absurd (cc (yes, d))) in
          g.agreed n place contents is (sym (get_other places at.place n new miss) ∙ stands) goes
      by true e n place contents is stands goes true d =
          let hit : at.place ≡ n = eqb-true at.place n d in
          let going : new.stopped ≡ None = goes_on n hit contents stands goes in
          let two = both (is_drop what) (is_dropped told) e in
          let in_turn = subst (λ (t : Turn). AreAgreed t c places) (drops_within what turn two.0 may) g.agreed in
          ap (λ (x : Bool). if x then place.incarnation + 1 else place.incarnation) d
          ∙ ap (λ (k : ℕ). k + 1) (in_turn n place old is (stood n hit) (f.going going)) ∙ sym (f.counts going two.0 two.1)
          ∙ ap (λ (x : PlaceIn). kept_incarnation x.state) (sym (here n hit contents stands))
      by true e n place contents is stands goes false d =
          let miss : at.place ≡ n → ⊥ = λ hit. (let yes : (at.place == n) ≡ true = eq-eqb at.place n hit in absurd (cc (yes, d))) in
          let two = both (is_drop what) (is_dropped told) e in
          let in_turn = subst (λ (t : Turn). AreAgreed t c places) (drops_within what turn two.0 may) g.agreed in
          ap (λ (x : Bool). if x then place.incarnation + 1 else place.incarnation) d ∙ in_turn n place contents is (sym (get_other places at.place n new miss) ∙ stands) goes

  last_held : (b : Bool) → IfSome (if b then Some at else last) (λ (p : PlaceAt). p.place < length (slice_set places at.place new))
  last_held true = let within = slice_get_within places at.place old there in omega (arith, within, length_set places at.place new)
  last_held false = subst (λ (n : ℕ). IfSome last (λ (p : PlaceAt). p.place < n)) (sym (length_set places at.place new)) g.within

  pub held_grounded : IsGrounded c (slice_set places at.place new) (if is_held told then Some at else last) (after_hold turn (is_drop what && is_dropped told) at.place)
  held_grounded = record {
    few = omega (arith, g.few, length_set places at.place new);
    same = g.same ∙ sym (length_set places at.place new);
    single = single_held (is_drop what && is_dropped told) refl;
    agreed = agreed_held (is_drop what && is_dropped told) refl;
    within = last_held (is_held told);
  }

  module _ (asked dropped : Bool) (later : Option PlaceAt) (after : Turn) (asked_is : asked ≡ is_drop what) (dropped_is : dropped ≡ (asked && is_dropped told)) (later_is : later ≡ (if is_held told then Some at else last))
      (after_is : after ≡ after_hold turn dropped at.place) where
    turn_is : after_hold turn (is_drop what && is_dropped told) at.place ≡ after
    turn_is = ap (λ (b : Bool). after_hold turn (b && is_dropped told) at.place) (sym asked_is) ∙ ap (λ (b : Bool). after_hold turn b at.place) (sym dropped_is) ∙ sym after_is

    pub held_after : IsGrounded c (slice_set places at.place new) later after
    held_after =
        subst (λ (l : Option PlaceAt). IsGrounded c (slice_set places at.place new) l after) (sym later_is)
        (subst (λ (t : Turn). IsGrounded c (slice_set places at.place new) (if is_held told then Some at else last) t) turn_is held_grounded)

    pub phase_after_held : phase_of after ≡ phase_after what at told (phase_of turn)
    phase_after_held = ap phase_of (sym turn_is) ∙ phase_held what at told turn

  -- what the catalog knows within its turn is there
  pub there_held : phase_of turn ≡ phases.Within → Knows c at → IsThere told
  there_held within known = by told refl
    where
      known_kept : (o : Option Place) → slice_get c at.place ≡ o → HasPlace c at.place (IsKnown at) → old.stopped ≡ None → kept_incarnation old.state ≡ at.incarnation
      known_kept None e k going = absurd (subst (λ (x : Option Place). IsSomeAnd x (IsKnown at)) e k)
      known_kept (Some place) e k going =
          let is = subst (λ (x : Option Place). IsSomeAnd x (IsKnown at)) e k in
          let in_turn = subst (λ (t : Turn). AreAgreed t c places) (within_is turn within) g.agreed in
          sym (in_turn at.place place old e there going) ∙ is.incarnation

      by : (x : Became) → told ≡ x → IsThere x
      by (became.Made reply) e = tt
      by (became.Unsaid refused) e = tt
      by became.Ticked e = tt
      by became.Nothing e = tt
      by (became.Broke stream) e = tt
      by (became.Stopped stream) e = tt
      by became.Gone e = let gone = f.gone e in gone.1 (known_kept (slice_get c at.place) refl known gone.0)

-- ---- the entries

module _ {V : Type 0} (keeps : V → V → Type 0) (none : (v : V) → keeps v v) (left : V → ℕ → Image → Type 0) (clock : V → ℕ) (base : Option ℕ → V → State → Type 0) (outgrows : State → What → Type 0)
    (earlier : (v : V) (t u : ℕ) (image : Image) → t ≤ u → left v u image → left v t image) (r router : Router) (c : Catalog) (places : List PlaceIn) (vols : List V) (ticked : ℕ) (last : Option PlaceAt) (turn : Turn) (at : PlaceAt)
    (holds : Image → State → Type 0) (old new : Seen) (there : slice_get places at.place ≡ Some old.place) (what : What) (now : ℕ) (outcome : Outcome) (h : HoldsOn IsRoute never at holds outgrows 0 what now outcome old new r router) where
  pub facts_of : Facts at what outcome.became h.entries old.place new.place
  facts_of = hold_facts at what now outcome h.entries (on old.place r) (on new.place router) h.holds h.led

  last_so : (told : Became) → last_of at told last ≡ (if is_held told then Some at else last)
  last_so (became.Made reply) = refl
  last_so (became.Unsaid refused) = refl
  last_so became.Ticked = refl
  last_so became.Nothing = refl
  last_so (became.Broke stream) = refl
  last_so (became.Stopped stream) = refl
  last_so became.Gone = refl

  pub made_of : (later : Option PlaceAt) (after : Turn) (vol vol_new : V) → later ≡ (if is_held outcome.became then Some at else last) → slice_get vols at.place ≡ Some vol → keeps vol vol_new
      → Outlasts holds left clock (base old.place.stopped vol) (base new.place.stopped vol_new) (timed_at at.place h.entries) old.place.state new.place.state vol vol_new
      → Makes (SoloMade keeps holds left clock base outgrows) (Holds at what now outcome) (standing r c places vols ticked last turn) (standing router c (slice_set places at.place new.place) (slice_set vols at.place vol_new) ticked later after)
  made_of later after vol vol_new later_is stands kept outlasts =
      let s : Scene = (standing r c places vols ticked last turn).scene in
      let m = held_alone at holds outgrows 0 what now outcome s old new router there h in
      let lasts = outlast_set holds left clock base earlier h.entries places vols at.place old.place new.place vol vol_new there stands outlasts
      (timed_elsewhere at h.entries (on old.place r) (on new.place router) h.led) in
      let ends : with_place s at.place (on new.place router) (last_of at outcome.became last) ≡ (standing router c (slice_set places at.place new.place) (slice_set vols at.place vol_new) ticked later after).scene =
      ap (λ (l : Option PlaceAt). with_place s at.place (on new.place router) l) (last_so outcome.became ∙ sym later_is) in
      record {
        entries = m.entries;
        are = m.are;
        led = (
          subst (λ (x : Scene). Leads SoloStep s m.entries x) ends m.led,
          kept_set keeps none vols at.place vol vol_new stands kept,
          subst (λ (es : List DeskEntry). PlacesOutlast holds left clock base (record { places = places; vols = vols }) es (record { places = slice_set places at.place new.place; vols = slice_set vols at.place vol_new }))
              (sym (held_entries at holds outgrows 0 what now outcome s old new router there h)) lasts,
          subst (λ (es : List DeskEntry). AreOutgrown outgrows es) (sym (held_entries at holds outgrows 0 what now outcome s old new router there h)) h.outgrown,
        );
      }
