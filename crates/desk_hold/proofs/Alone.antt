-- A hold by a router is a step of a desk that is alone.
use Rattle.std.proofs.Common.{◌≡◌, ◌≢◌, ℕ, zero, suc, Bool, List, [], ◌∷◌, ◌++◌, Option, None, Some, refl, sym, ap, subst, ◌∙◌, inl, inr}
use Rattle.std.specs.Prelude.{slice_get, slice_set}
use Rattle.std.proofs.lemmas.Option.{same_Some}
use Rattle.js_base.specs.Bytes.{Bytes}
use Rattle.js_base.specs.declared.out.Out.{Out}
use Rattle.js_model.specs.declared.desk.PlaceAt.{PlaceAt}
use Rattle.js_model.specs.declared.event.What.{What}
use Rattle.js_model.specs.declared.stream.State.{State}
use Rattle.js_model.specs.PlaceStates.{PlaceIn}
use Rattle.js_model.specs.Router.{Router, RouteTold, Routed as Answered, IsRoute, Interest, Listens, route}
use Rattle.js_api.specs.declared.outcome.Became.{Became}
use Rattle.js_api.specs.declared.outcome.Became.TheVariants.{Made, Unsaid, Ticked, Nothing, Broke, Stopped, Gone}
use Rattle.js_api.specs.declared.outcome.Outcome.{Outcome}
use Rattle.js_api.specs.Entries.{Reading, Hold, entries_in, DeskEntry, Routed, Looked, Turned, Resumed, Held, Stirred, Halted, Missed, Spent}
use Rattle.js_api.specs.declared.fault.DeskFault.{DeskFault}
use Rattle.js_api.specs.declared.fault.DeskFault.TheVariants as faults
use Rattle.js_api.specs.Holding.{Holds, HoldsBy, Prepares, Unmakes}
use Rattle.js_api.specs.Leading.{Leads, Makes}
use Rattle.js_api.specs.Outputs.{outs_of}
use Rattle.js_api.specs.Worlds.{AreRead, AreTried, Scene, SoloStep}
use Rattle.place_engine.specs.Stepping.{Image, Seen}
use Rattle.desk_hold.specs.OnePlace.{HoldsOn, OnPlace, PlaceStep, on}
use Rattle.desk_hold.specs.Ports.{AreHeard, AreSent}

-- no turn of a router that nobody shares is used up
abbrev pub never : Router → ℕ → Router → Type 0
never old number new = ⊥

-- ---- the router

-- who listens is told, and nothing changes
same_heard : (r new : Router) (subject : Bytes) (group : Option Bytes) (told : RouteTold) → IsRoute r (Interest subject group) told new → new ≡ r
unfolding route
same_heard r new subject group told (inl h) = sym (ap (λ (a : Answered). a.router) h.routed)
same_heard r new subject group told (inr h) = h.same

read_alone : (r : Router) (readings : List Reading) (s : Router) → AreHeard IsRoute never r readings s → (s ≡ r) × AreRead r readings
read_alone r [] s h = (sym h, tt)
read_alone r (reading ∷ more) s h =
    let same : h.0 ≡ r = same_heard r h.0 reading.subject reading.group (Listens reading.heard) h.1 in
    let rest = read_alone h.0 more s h.2 in (
      rest.0 ∙ same,
      (
        subst (λ (x : Router). IsRoute r (Interest reading.subject reading.group) (Listens reading.heard) x) same h.1,
        subst (λ (x : Router). AreRead x more) same rest.1,
      ),
    )

tried_alone : (r : Router) (outs : List Out) (taken : List Bool) (s : Router) → AreSent IsRoute never r outs taken s → AreTried r outs taken s
tried_alone r [] [] s h = h
tried_alone r [] (t ∷ taken) s h = h
tried_alone r (out ∷ outs) [] s h = h
tried_alone r (out ∷ outs) (t ∷ taken) s h = (h.0, h.1, h.2, h.3, tried_alone h.1 outs taken s h.4)

-- ---- the places

module _ {X : Type 0} where
  set_same : (xs : List X) (i : ℕ) (x : X) → slice_get xs i ≡ Some x → slice_set xs i x ≡ xs
  set_same [] i x there = refl
  set_same (y ∷ xs) zero x there = ap (λ (o : X). o ∷ xs) (sym (same_Some y x there))
  set_same (y ∷ xs) (suc i) x there = ap (λ (l : List X). y ∷ l) (set_same xs i x there)

  set_there : (xs : List X) (i : ℕ) (old new : X) → slice_get xs i ≡ Some old → slice_get (slice_set xs i new) i ≡ Some new
  set_there [] i old new there = let no : ⊥ = cc in absurd no
  set_there (x ∷ xs) zero old new there = refl
  set_there (x ∷ xs) (suc i) old new there = set_there xs i old new there

  set_twice : (xs : List X) (i : ℕ) (x y : X) → slice_set (slice_set xs i x) i y ≡ slice_set xs i y
  set_twice [] i x y = refl
  set_twice (z ∷ xs) zero x y = refl
  set_twice (z ∷ xs) (suc i) x y = ap (λ (l : List X). z ∷ l) (set_twice xs i x y)

-- ---- the scene

-- the place of the last hold, after an entry
abbrev pub last_by : DeskEntry → Option PlaceAt → Option PlaceAt
last_by (Routed call told) last = last
last_by (Looked joined call told) last = last
last_by (Turned after found) last = last
last_by (Resumed at) last = last
last_by (Held hold) last = Some hold.at
last_by (Stirred at before after failed) last = last
last_by (Halted at state) last = last
last_by (Missed at kept) last = last
last_by (Spent number) last = last

abbrev pub last_after : List DeskEntry → Option PlaceAt → Option PlaceAt
last_after [] last = last
last_after (entry ∷ entries) last = last_after entries (last_by entry last)

-- the scene with this place and this router
abbrev pub with_place : Scene → ℕ → OnPlace Router → Option PlaceAt → Scene
with_place scene i there last = record {
  world = record { router = there.port; catalog = scene.world.catalog; places = slice_set scene.world.places i there.place };
  cursor = record { ticked = scene.cursor.ticked; last = last };
}

module _ (at : PlaceAt) where
  abbrev Step : OnPlace Router → DeskEntry → OnPlace Router → Type 0
  Step old entry new = PlaceStep IsRoute never at old entry new

  unmoved : (scene : Scene) (there : OnPlace Router) → scene.world.router ≡ there.port → slice_get scene.world.places at.place ≡ Some there.place → with_place scene at.place there scene.cursor.last ≡ scene
  unmoved scene there router is =
      ap (λ (r : Router). record { world = record { router = r; catalog = scene.world.catalog; places = slice_set scene.world.places at.place there.place }; cursor = scene.cursor }) (sym router)
      ∙ ap (λ (ps : List PlaceIn). record { world = record { router = scene.world.router; catalog = scene.world.catalog; places = ps }; cursor = scene.cursor }) (set_same scene.world.places at.place there.place is)

  one_step : (scene : Scene) (old new : OnPlace Router) (entry : DeskEntry) → scene.world.router ≡ old.port → slice_get scene.world.places at.place ≡ Some old.place → Step old entry new
      → SoloStep scene entry (with_place scene at.place new (last_by entry scene.cursor.last))
  one_step scene old new (Routed call told) router is h = absurd h
  one_step scene old new (Looked joined call told) router is h = absurd h
  one_step scene old new (Turned after found) router is h = absurd h
  one_step scene old new (Resumed last) router is h = absurd h
  one_step scene old new (Held hold) router is h =
      let read = read_alone old.port hold.readings h.told h.heard in
      elim h.sent [
        | inl k ↦ (
          record {
            place = old.place;
            after = new.place;
            taken = k.taken;
            is_there = ap (λ (a : PlaceAt). slice_get scene.world.places a.place) h.at_is ∙ is;
            held = h.held;
            read = subst (λ (r : Router). AreRead r hold.readings) (sym router) read.1;
            tried = subst (λ (r : Router). AreTried r (outs_of hold.before (entries_in hold)) k.taken new.port) (read.0 ∙ sym router)
                (tried_alone h.told (outs_of hold.before (entries_in hold)) k.taken new.port k.sent);
            sending = k.sending_is;
            places = ap (λ (a : PlaceAt). slice_set scene.world.places a.place new.place) (sym h.at_is);
            catalog = refl;
          },
          refl,
        )
        | inr k ↦ absurd k.is_worn
      ]
  one_step scene old new (Stirred there before after failed) router is h = (
    record {
      place = old.place;
      stirred = new.place;
      is_there = ap (λ (a : PlaceAt). slice_get scene.world.places a.place) h.at_is ∙ is;
      is_stirred = h.stirred;
      places = ap (λ (a : PlaceAt). slice_set scene.world.places a.place new.place) (sym h.at_is);
      router = h.port ∙ sym router;
      catalog = refl;
    },
    refl,
  )
  one_step scene old new (Halted there state) router is h = (
    record {
      place = old.place;
      count = h.count;
      is_there = ap (λ (a : PlaceAt). slice_get scene.world.places a.place) h.at_is ∙ is;
      stopped = h.stopped;
      state_is = h.state_is;
    },
    ap (λ (p : OnPlace Router). with_place scene at.place p scene.cursor.last) h.same ∙ unmoved scene old router is,
  )
  one_step scene old new (Missed there kept) router is h = (
    record {
      place = old.place;
      is_there = ap (λ (a : PlaceAt). slice_get scene.world.places a.place) h.at_is ∙ is;
      going = h.going;
      kept_is = h.kept_is;
      other = subst (λ (a : PlaceAt). kept ≢ a.incarnation) (sym h.at_is) h.other;
    },
    ap (λ (p : OnPlace Router). with_place scene at.place p scene.cursor.last) h.same ∙ unmoved scene old router is,
  )
  one_step scene old new (Spent number) router is h = absurd h

  steps_alone : (entries : List DeskEntry) (scene : Scene) (old new : OnPlace Router) → scene.world.router ≡ old.port → slice_get scene.world.places at.place ≡ Some old.place
      → Leads Step old entries new → Leads SoloStep scene entries (with_place scene at.place new (last_after entries scene.cursor.last))
  steps_alone [] scene old new router is h = sym (ap (λ (p : OnPlace Router). with_place scene at.place p scene.cursor.last) (sym h) ∙ unmoved scene old router is)
  steps_alone (entry ∷ entries) scene old new router is h =
      let mid : Scene = with_place scene at.place h.0 (last_by entry scene.cursor.last) in (
        mid,
        one_step scene old h.0 entry router is h.1,
        subst (λ (ps : List PlaceIn). Leads SoloStep mid entries (record {
          world = record { router = new.port; catalog = scene.world.catalog; places = ps };
          cursor = record { ticked = scene.cursor.ticked; last = last_after entries (last_by entry scene.cursor.last) };
        })) (set_twice scene.world.places at.place h.0.place new.place)
            (steps_alone entries mid h.0 new refl (set_there scene.world.places at.place old.place h.0.place is) h.2),
      )

  -- ---- the place of the last hold

  abbrev pub last_of : Became → Option PlaceAt → Option PlaceAt
  last_of (Made reply) last = Some at
  last_of (Unsaid refused) last = Some at
  last_of Ticked last = Some at
  last_of Nothing last = last
  last_of (Broke stream) last = Some at
  last_of (Stopped stream) last = last
  last_of Gone last = last

  last_behind : (first more : List DeskEntry) (last : Option PlaceAt) → last_after (first ++ more) last ≡ last_after more (last_after first last)
  last_behind [] more last = refl
  last_behind (entry ∷ first) more last = last_behind first more (last_by entry last)

  last_prepared : (first : List DeskEntry) (last : Option PlaceAt) → Prepares at first → last_after first last ≡ last
  last_prepared first last (inl none) = ap (λ (entries : List DeskEntry). last_after entries last) none
  last_prepared first last (inr h) = ap (λ (entries : List DeskEntry). last_after entries last) h.3

  last_held : (entries : List DeskEntry) (hold : Hold) (last : Option PlaceAt) → entries ≡ Held hold ∷ [] → hold.at ≡ at → last_after entries last ≡ Some at
  last_held entries hold last is here = ap (λ (es : List DeskEntry). last_after es last) is ∙ ap (λ (a : PlaceAt). Some a) here

  last_unmade : (fault : Option DeskFault) (entries : List DeskEntry) (last : Option PlaceAt) → Unmakes at fault entries → last_after entries last ≡ last
  last_unmade None entries last h = absurd h
  last_unmade (Some faults.NoMemory) entries last h = ap (λ (es : List DeskEntry). last_after es last) h
  last_unmade (Some faults.TooManySubs) entries last h = absurd h
  last_unmade (Some (faults.Worn number)) entries last (inl h) = ap (λ (es : List DeskEntry). last_after es last) h
  last_unmade (Some (faults.Worn number)) entries last (inr h) = ap (λ (es : List DeskEntry). last_after es last) h.2
  last_unmade (Some (faults.NoSession latest)) entries last h = absurd h

  last_holds : (became : Became) (what : What) (now : ℕ) (ready : Bool) (fault : Option DeskFault) (entries : List DeskEntry) (last : Option PlaceAt) → HoldsBy became at what now ready fault entries
      → last_after entries last ≡ last_of became last
  last_holds (Made reply) what now ready fault entries last h = last_held entries h.0 last h.1 h.2.at_is
  last_holds (Unsaid refused) what now ready fault entries last h = last_held entries h.0 last h.3 h.2.at_is
  last_holds Ticked what now ready fault entries last h = last_held entries h.0 last h.1 h.2.at_is
  last_holds Nothing what now ready fault entries last h = last_unmade fault entries last h.1
  last_holds (Broke stream) what now ready fault entries last h = last_held entries h.0 last h.1 h.2.at_is
  last_holds (Stopped stream) what now ready fault entries last h = ap (λ (es : List DeskEntry). last_after es last) h.1
  last_holds Gone what now ready fault entries last h = ap (λ (es : List DeskEntry). last_after es last) h.1

  -- the entries of the hold lead the desk from the one scene to the other
  pub held_alone : (holds : Image → State → Type 0) (outgrows : State → What → Type 0) (seat : ℕ) (what : What) (now : ℕ) (outcome : Outcome) (scene : Scene) (old new : Seen) (router : Router)
      → slice_get scene.world.places at.place ≡ Some old.place → HoldsOn IsRoute never at holds outgrows seat what now outcome old new scene.world.router router
      → Makes (Leads SoloStep) (Holds at what now outcome) scene (with_place scene at.place (on new.place router) (last_of outcome.became scene.cursor.last))
  held_alone holds outgrows seat what now outcome scene old new router there h =
      let last : last_after h.entries scene.cursor.last ≡ last_of outcome.became scene.cursor.last =
      ap (λ (es : List DeskEntry). last_after es scene.cursor.last) h.holds.entries_are
      ∙ last_behind h.holds.first h.holds.more scene.cursor.last
      ∙ ap (λ (o : Option PlaceAt). last_after h.holds.more o) (last_prepared h.holds.first scene.cursor.last h.holds.prepares)
      ∙ last_holds outcome.became what now outcome.ready outcome.fault h.holds.more scene.cursor.last h.holds.holds
      in
      record {
        entries = h.entries;
        are = h.holds;
        led = subst (λ (o : Option PlaceAt). Leads SoloStep scene h.entries (with_place scene at.place (on new.place router) o)) last
            (steps_alone h.entries scene (on old.place scene.world.router) (on new.place router) refl there h.led);
      }

  -- by the same entries
  pub held_entries : (holds : Image → State → Type 0) (outgrows : State → What → Type 0) (seat : ℕ) (what : What) (now : ℕ) (outcome : Outcome) (scene : Scene) (old new : Seen) (router : Router)
      → (there : slice_get scene.world.places at.place ≡ Some old.place) (h : HoldsOn IsRoute never at holds outgrows seat what now outcome old new scene.world.router router)
      → (held_alone holds outgrows seat what now outcome scene old new router there h).entries ≡ h.entries
  unfolding held_alone
  held_entries holds outgrows seat what now outcome scene old new router there h = refl
