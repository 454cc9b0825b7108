-- A hold of a caller of many, as the entries that it makes.
use Rattle.std.proofs.Common.{◌≡◌, ℕ, Bool, true, false, List, [], ◌∷◌, ◌++◌, map, Option, Some, None, refl, sym, ap, subst, ◌∙◌, inl, inr, if◌then◌else◌, ◌&&◌}
use Rattle.std.specs.Prelude.{slice_get, slice_set}
use Rattle.js_model.specs.declared.event.What.{What}
use Rattle.js_model.specs.declared.desk.PlaceAt.{PlaceAt}
use Rattle.js_model.specs.Catalog.{Catalog}
use Rattle.js_api.specs.declared.fault.DeskFault.{DeskFault}
use Rattle.js_api.specs.declared.fault.DeskFault.TheVariants as faults
use Rattle.js_api.specs.declared.outcome.Became.{Became}
use Rattle.js_api.specs.declared.outcome.Became.TheVariants as became
use Rattle.js_api.specs.declared.outcome.Outcome.{Outcome}
use Rattle.js_api.specs.Entries.{Hold, DeskEntry, Routed, Looked, Turned, Resumed, Held, Stirred, Halted, Missed, Spent}
use Rattle.js_api.specs.Holding.{Holds, HoldsBy, Prepares, Unmakes}
use Rattle.js_api.specs.Leading.{Leads, Makes}
use Rattle.desk_answers.specs.Became.{is_dropped}
use Rattle.desk_ground.specs.Outcomes.{MayHold, phase_after}
use Rattle.histories.specs.Lawful.{IsPlaceHistory}
use Rattle.turn_lock.specs.Ruled.{last_ticket}
use Rattle.turn_lock.specs.Seats.{LockView, SeatView}
use Rattle.hub_fronts.specs.Fronts.{SharedScene}
use Rattle.hub_fronts.specs.Making.{MakesOne, SeesMore, SharedMade}
use Rattle.hub_fronts.specs.Stepping.{AtThePlace, HoldsThere, StirsThere, HaltsThere, MissesThere, Wears}
use Rattle.hub_fronts.proofs.Seen.{made_one, one_seen, seen_first, sees_nothing}
use Rattle.hub_place.specs.Holds.{HoldsBySeat, HoldsInTurn, SeatStep}
use Rattle.desk_places.specs.declared.turn.Turn.{Turn}
use Rattle.desk_places.specs.declared.turn.Turn.TheVariants as turns
use Rattle.desk_places.specs.Dropping.{is_drop}
use Rattle.desk_places.specs.Held.{is_held}
use Rattle.desk_places.specs.Turns.{after_hold, phase_of}
use Rattle.desk_places.proofs.Turns.{drops_within, phase_held}
use Rattle.desk_places.proofs.Sets.{get_set, set_twice}
use Rattle.shared_desk.specs.declared.side.Side.{Side}
use Rattle.shared_desk.specs.declared.side.Side.TheVariants as sides
use Rattle.shared_desk.specs.Grounds.{HubMade, Standing, standing}
use Rattle.shared_desk.specs.Hubs.{HubView}
use Rattle.shared_desk.specs.Seats.{IsSeatOf, seat_in, seats_in}
use Rattle.shared_desk.specs.Sides.{IsBeside, MayStand, seat_beside}
use Rattle.shared_desk.proofs.Seats.{left_seat, row_is, seen_seat, worn_seat}

-- ---- the scene with another seat at a place, and another place of the last hold

abbrev pub held_at : SharedScene → ℕ → SeatView → Option PlaceAt → SharedScene
held_at scene n seat last = record {
  fronts = record scene.fronts { places = slice_set scene.fronts.places n seat };
  cursor = record scene.cursor { last = last };
}

-- the place of the last hold after these entries
abbrev pub last_by : List DeskEntry → Option PlaceAt → Option PlaceAt
last_by [] last = last
last_by (Routed call told ∷ more) last = last_by more last
last_by (Looked joined call told ∷ more) last = last_by more last
last_by (Turned after found ∷ more) last = last_by more last
last_by (Resumed found ∷ more) last = last_by more last
last_by (Held hold ∷ more) last = last_by more (Some hold.at)
last_by (Stirred at before after failed ∷ more) last = last_by more last
last_by (Halted at state ∷ more) last = last_by more last
last_by (Missed at kept ∷ more) last = last_by more last
last_by (Spent number ∷ more) last = last_by more last

-- ---- in the turn

module _ (scene : SharedScene) (at : PlaceAt) (first : SeatView) (there : slice_get scene.fronts.places at.place ≡ Some first) where
  abbrev At : SeatView → Option PlaceAt → SharedScene
  At seat last = held_at scene at.place seat last

  at_place : (IsSo : SeatView → SeatView → Type 0) (p : PlaceAt) (old new : SeatView) (last next : Option PlaceAt) → p ≡ at → IsSo old new → AtThePlace p.place IsSo (At old last).fronts (At new next).fronts
  at_place IsSo p old new last next same is =
      subst (λ (n : ℕ). AtThePlace n IsSo (At old last).fronts (At new next).fronts) (ap (λ (q : PlaceAt). q.place) (sym same))
      (record {
        seat = old;
        after = new;
        is_there = get_set scene.fronts.places at.place first old there;
        is_so = is;
        same = ap (λ (places : List SeatView). record scene.fronts { places = places }) (sym (set_twice scene.fronts.places at.place old new));
      })

  walk : (old : SeatView) (entries : List DeskEntry) (new : SeatView) (last : Option PlaceAt) → Leads (SeatStep at) old entries new → Leads MakesOne (At old last) entries (At new (last_by entries last))
  walk old [] new last h = ap (λ (s : SeatView). At s last) h
  walk old (Routed call told ∷ more) new last h = absurd h.1
  walk old (Looked joined call told ∷ more) new last h = absurd h.1
  walk old (Turned after found ∷ more) new last h = absurd h.1
  walk old (Resumed found ∷ more) new last h = absurd h.1
  walk old (Held hold ∷ more) new last h = (
    At h.0 (Some hold.at),
    record { mid = At old last; sees = sees_nothing (At old last); step = (at_place (HoldsThere hold) hold.at old h.0 last (Some hold.at) h.1.0 h.1.1, refl) },
    walk h.0 more new (Some hold.at) h.2,
  )
  walk old (Stirred p before after failed ∷ more) new last h = (
    At h.0 last,
    record { mid = At old last; sees = sees_nothing (At old last); step = (at_place (StirsThere before after failed) p old h.0 last last h.1.0 h.1.1, refl) },
    walk h.0 more new last h.2,
  )
  walk old (Halted p state ∷ more) new last h = (
    At h.0 last,
    record { mid = At old last; sees = sees_nothing (At old last); step = (at_place (HaltsThere state) p old h.0 last last h.1.0 h.1.1, refl) },
    walk h.0 more new last h.2,
  )
  walk old (Missed p kept ∷ more) new last h = (
    At h.0 last,
    record { mid = At old last; sees = sees_nothing (At old last); step = (at_place (MissesThere p kept) p old h.0 last last h.1.0 h.1.1, refl) },
    walk h.0 more new last h.2,
  )
  walk old (Spent number ∷ more) new last h = absurd h.1

  in_turn : (entries : List DeskEntry) (new : SeatView) → HoldsInTurn at first entries new → SharedMade scene entries (At new (last_by entries scene.cursor.last))
  in_turn entries new h =
      let inside : SharedScene = At h.inside scene.cursor.last in
      let end : SharedScene = At new (last_by entries scene.cursor.last) in
      let sees : SeesMore scene inside = record { router = refl; catalog = refl; places = one_seen scene.fronts.places at.place first h.inside there h.sees; cursor = refl } in
      seen_first scene inside end entries sees (record { mid = end; led = walk h.inside entries new scene.cursor.last h.led; sees = sees_nothing end })

  -- or all tickets of the place are drawn
  unheld : (new : SeatView) → Wears first new → SharedMade scene (Spent last_ticket ∷ []) (At new scene.cursor.last)
  unheld new wears =
      made_one scene (At new scene.cursor.last) (Spent last_ticket)
      (record {
        mid = scene;
        sees = sees_nothing scene;
        step = (
          record {
            number_is = refl;
            at = inr (inr (at.place, record { seat = first; after = new; is_there = there; is_so = wears; same = refl }));
          },
          refl,
        );
      })

  by_seat : (entries : List DeskEntry) (new : SeatView) → HoldsBySeat at first entries new → SharedMade scene entries (At new (last_by entries scene.cursor.last))
  by_seat entries new (inl h) = in_turn entries new h
  by_seat entries new (inr (none, wears)) =
      subst (λ (es : List DeskEntry). SharedMade scene es (At new (last_by es scene.cursor.last))) (sym none) (unheld new wears)

-- ---- the place of the last hold

last-append : (first more : List DeskEntry) (last : Option PlaceAt) → last_by (first ++ more) last ≡ last_by more (last_by first last)
last-append [] more last = refl
last-append (Routed call told ∷ first) more last = last-append first more last
last-append (Looked joined call told ∷ first) more last = last-append first more last
last-append (Turned after found ∷ first) more last = last-append first more last
last-append (Resumed found ∷ first) more last = last-append first more last
last-append (Held hold ∷ first) more last = last-append first more (Some hold.at)
last-append (Stirred at before after failed ∷ first) more last = last-append first more last
last-append (Halted at state ∷ first) more last = last-append first more last
last-append (Missed at kept ∷ first) more last = last-append first more last
last-append (Spent number ∷ first) more last = last-append first more last

last_prepared : (at : PlaceAt) (entries : List DeskEntry) (last : Option PlaceAt) → Prepares at entries → last_by entries last ≡ last
last_prepared at entries last (inl none) = ap (λ (es : List DeskEntry). last_by es last) none
last_prepared at entries last (inr (before, after, failed, one)) = ap (λ (es : List DeskEntry). last_by es last) one

last_unmade : (at : PlaceAt) (fault : Option DeskFault) (entries : List DeskEntry) (last : Option PlaceAt) → Unmakes at fault entries → last_by entries last ≡ last
last_unmade at None entries last h = absurd h
last_unmade at (Some faults.NoMemory) entries last h = ap (λ (es : List DeskEntry). last_by es last) h
last_unmade at (Some faults.TooManySubs) entries last h = absurd h
last_unmade at (Some (faults.Worn number)) entries last (inl h) = ap (λ (es : List DeskEntry). last_by es last) h
last_unmade at (Some (faults.Worn number)) entries last (inr (before, after, one, is)) = ap (λ (es : List DeskEntry). last_by es last) one
last_unmade at (Some (faults.NoSession latest)) entries last h = absurd h

abbrev pub last_after : Became → PlaceAt → Option PlaceAt → Option PlaceAt
last_after told at last = if is_held told then Some at else last

last_one : (hold : Hold) (at : PlaceAt) (entries : List DeskEntry) (last : Option PlaceAt) → entries ≡ Held hold ∷ [] → hold.at ≡ at → last_by entries last ≡ Some at
last_one hold at entries last one is = ap (λ (es : List DeskEntry). last_by es last) one ∙ ap (λ (p : PlaceAt). Some p) is

last_became : (told : Became) (at : PlaceAt) (what : What) (now : ℕ) (ready : Bool) (fault : Option DeskFault) (entries : List DeskEntry) (last : Option PlaceAt) → HoldsBy told at what now ready fault entries
    → last_by entries last ≡ last_after told at last
last_became (became.Made reply) at what now ready fault entries last (hold, one, is) = last_one hold at entries last one is.at_is
last_became (became.Unsaid refused) at what now ready fault entries last (hold, reply, is, one, unsaid, of) = last_one hold at entries last one is.at_is
last_became became.Ticked at what now ready fault entries last (hold, one, is, why) = last_one hold at entries last one is.at_is
last_became became.Nothing at what now ready fault entries last (quiet, unmade) = last_unmade at fault entries last unmade
last_became (became.Broke stream) at what now ready fault entries last (hold, one, is, quiet) = last_one hold at entries last one is.at_is
last_became (became.Stopped stream) at what now ready fault entries last (state, one, named, quiet) = ap (λ (es : List DeskEntry). last_by es last) one
last_became became.Gone at what now ready fault entries last (kept, one, quiet) = ap (λ (es : List DeskEntry). last_by es last) one

last_held : (at : PlaceAt) (what : What) (now : ℕ) (outcome : Outcome) (entries : List DeskEntry) (last : Option PlaceAt) → Holds at what now outcome entries → last_by entries last ≡ last_after outcome.became at last
last_held at what now outcome entries last h =
    ap (λ (es : List DeskEntry). last_by es last) h.entries_are
    ∙ (last-append h.first h.more last
    ∙ (ap (λ (l : Option PlaceAt). last_by h.more l) (last_prepared at h.first last h.prepares)
    ∙ last_became outcome.became at what now outcome.ready outcome.fault h.more last h.holds))

-- ---- the hold

pub held : (at : PlaceAt) (what : What) (now : ℕ) (outcome : Outcome) (old new : Standing) (first seat : SeatView) → slice_get old.scene.fronts.places at.place ≡ Some first
    → Makes (HoldsBySeat at) (Holds at what now outcome) first seat → new.scene ≡ held_at old.scene at.place seat (last_after outcome.became at old.scene.cursor.last) → new.hub ≡ old.hub
    → Makes HubMade (Holds at what now outcome) old new
held at what now outcome old new first seat there h scene hub = record {
  entries = h.entries;
  are = h.are;
  led = (
    subst (λ (s : SharedScene). SharedMade old.scene h.entries s)
        (ap (λ (l : Option PlaceAt). held_at old.scene at.place seat l) (last_held at what now outcome h.entries old.scene.cursor.last h.are) ∙ sym scene)
        (by_seat old.scene at first there h.entries seat h.led),
    hub,
  );
}

pub held_so : (hub : HubView) (router : Option SeatView) (side : Side) (row new : List (Option SeatView)) (ticked : ℕ) (last after : Option PlaceAt) (turn next : Turn) (at : PlaceAt) (what : What) (now : ℕ) (outcome : Outcome)
    (first seat : SeatView) → slice_get (seats_in row) at.place ≡ Some first → Makes (HoldsBySeat at) (Holds at what now outcome) first seat → new ≡ map Some (slice_set (seats_in row) at.place seat)
    → after ≡ last_after outcome.became at last → Makes HubMade (Holds at what now outcome) (standing hub router side row ticked last turn) (standing hub router side new ticked after next)
held_so hub router side row new ticked last after turn next at what now outcome first seat there h new_is after_is =
    held at what now outcome (standing hub router side row ticked last turn) (standing hub router side new ticked after next) first seat there h
    (ap (λ (seats : List SeatView). scene seats after) (row_is new (slice_set (seats_in row) at.place seat) new_is)
    ∙ ap (λ (l : Option PlaceAt). scene (slice_set (seats_in row) at.place seat) l) after_is) refl
  where
    scene : List SeatView → Option PlaceAt → SharedScene
    scene seats l = record {
      fronts = record { router = seat_in router; catalog = seat_beside side; places = seats };
      cursor = record { ticked = ticked; last = l };
    }

-- ---- the seat stays one of its lock

module _ (of : LockView) (at : PlaceAt) where
  walked_seat : (old : SeatView) (entries : List DeskEntry) (new : SeatView) → Leads (SeatStep at) old entries new → IsSeatOf of old → IsSeatOf of new
  walked_seat old [] new h is = subst (IsSeatOf of) h is
  walked_seat old (Routed call told ∷ more) new h is = absurd h.1
  walked_seat old (Looked joined call told ∷ more) new h is = absurd h.1
  walked_seat old (Turned after found ∷ more) new h is = absurd h.1
  walked_seat old (Resumed found ∷ more) new h is = absurd h.1
  walked_seat old (Held hold ∷ more) new h is = walked_seat h.0 more new h.2 (left_seat of old h.0 IsPlaceHistory _ h.1.1.leaves.leaves is)
  walked_seat old (Stirred p before after failed ∷ more) new h is = walked_seat h.0 more new h.2 (left_seat of old h.0 IsPlaceHistory _ h.1.1.leaves.leaves is)
  walked_seat old (Halted p state ∷ more) new h is = walked_seat h.0 more new h.2 (left_seat of old h.0 IsPlaceHistory _ h.1.1.leaves.leaves is)
  walked_seat old (Missed p kept ∷ more) new h is = walked_seat h.0 more new h.2 (left_seat of old h.0 IsPlaceHistory _ h.1.1.leaves.leaves is)
  walked_seat old (Spent number ∷ more) new h is = absurd h.1

  pub held_seat : (old : SeatView) (entries : List DeskEntry) (new : SeatView) → HoldsBySeat at old entries new → IsSeatOf of old → IsSeatOf of new
  held_seat old entries new (inl h) is = walked_seat h.inside entries new h.led (seen_seat of old h.inside h.sees is)
  held_seat old entries new (inr (none, wears)) is = worn_seat of old new wears is

-- ---- the catalog within the turn

dropped_so : (a b : Bool) → (a && b) ≡ true → a ≡ true
dropped_so true b e = refl
dropped_so false b e = absurd (cc)

pub held_stands : (what : What) (told : Became) (place : ℕ) (turn : Turn) (c : Catalog) → MayHold what (phase_of turn) → MayStand turn c → MayStand (after_hold turn (is_drop what && is_dropped told) place) c
held_stands what told place turn c may stands = by (is_drop what && is_dropped told) refl
  where
    by : (b : Bool) → (is_drop what && is_dropped told) ≡ b → MayStand (after_hold turn b place) c
    by false e = stands
    by true e = subst (λ (t : Turn). MayStand t c) (drops_within what turn (dropped_so (is_drop what) (is_dropped told) e) may) stands

-- ---- the turn of the catalog after it

pub held_beside : (of : LockView) (what : What) (told : Became) (place : ℕ) (turn : Turn) (side : Side) → MayHold what (phase_of turn) → IsBeside of turn side → IsBeside of (after_hold turn (is_drop what && is_dropped told) place) side
held_beside of what told place turn (sides.Outside seat) may h = (by (is_drop what && is_dropped told) refl, h.1)
  where
    by : (b : Bool) → (is_drop what && is_dropped told) ≡ b → after_hold turn b place ≡ turns.Outside
    by false e = h.0
    by true e = let within : turn ≡ turns.Within = drops_within what turn (dropped_so (is_drop what) (is_dropped told) e) may in let outside : turn ≡ turns.Outside = h.0 in absurd (cc)
held_beside of what told place turn (sides.Inside going) may h = (held_stands what told place turn going.kept may h.0, h.1)
held_beside of what told place turn sides.Away may h = absurd h

-- what was asked, and what became of it
pub record IsNext (what : What) (told : Became) (place : ℕ) (turn next : Turn) (asked dropped : Bool) : Type 0 where
  pub asked_is : asked ≡ is_drop what
  pub dropped_is : dropped ≡ (asked && is_dropped told)
  pub next_is : next ≡ after_hold turn dropped place

module _ (what : What) (told : Became) (at : PlaceAt) (turn next : Turn) (asked dropped : Bool) (h : IsNext what told at.place turn next asked dropped) where
  next_so : next ≡ after_hold turn (is_drop what && is_dropped told) at.place
  next_so = h.next_is ∙ ap (λ (b : Bool). after_hold turn b at.place) (h.dropped_is ∙ ap (λ (b : Bool). b && is_dropped told) h.asked_is)

  pub phase_so : phase_of next ≡ phase_after what at told (phase_of turn)
  phase_so = ap phase_of next_so ∙ phase_held what at told turn

  pub beside_so : (of : LockView) (side : Side) → MayHold what (phase_of turn) → IsBeside of turn side → IsBeside of next side
  beside_so of side may is = subst (λ (t : Turn). IsBeside of t side) (sym next_so) (held_beside of what told at.place turn side may is)
