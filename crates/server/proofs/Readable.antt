-- Laws of volumes that can be read, and of which none failed.
use Rattle.std.proofs.Common.{◌≡◌, ℕ, true, false, ◌⊎◌, List, [], ◌∷◌, ◌++◌, Option, map, refl, sym, ◌∙◌, ap, subst, inl, inr}
use Rattle.std.specs.List.{AllByRecursion, AllZip}
use Rattle.std.proofs.lemmas.List.Elements.{recursion_from_All}
use Rattle.js_base.specs.Causes.{Rose}
use Rattle.js_model.specs.declared.kept_place.KeptPlace.{KeptPlace}
use Rattle.js_model.specs.declared.event.What.TheVariants.{Tick}
use Rattle.js_model.specs.declared.stream.State.{State}
use Rattle.catalog.specs.Conflicts.{conflict_at}
use Rattle.place_engine.specs.declared.faults.OpenFault.{OpenFault}
use Rattle.place_engine.specs.declared.faults.OpenFault.TheVariants as opening_faults
use Rattle.place_engine.specs.Opening.{HasNoRoom}
use Rattle.place_engine.specs.Stepping.{Image, Seen}
use Rattle.place_engine.specs.Preparing.{RoomCauses}
use Rattle.js_api.specs.Worlds.{kept_in}
use Rattle.desk_places.specs.Places.{places_by}
use Rattle.desk_places.specs.Opening as opening
use Rattle.desk_places.specs.declared.faults.HubFault.TheVariants as hubs
use Rattle.server.specs.Readable as readable
use Rattle.server.specs.Readable.{kept_of}
use Rattle.server.specs.Kinds.{Opens, Refuses, Made, Leaves}
use Rattle.server.specs.Refusing.{open_status}
use Rattle.server.specs.Unfailed.{LawReadable}
use Rattle.server.proofs.Rows.{opened_row}

both : {X : Type 0} (a b : X) (xs ys : List X) → a ≡ b → xs ≡ ys → ◌≡◌ {A = List X} (a ∷ xs) (b ∷ ys)
both a b xs ys e f = rw (e, f) refl

module _ {P V : Type 0} (seen : P → Seen) (vol : P → V) (holds : Image → State → Type 0) (reads : V → Image → Type 0) (left : V → ℕ → Image → Type 0) (clock faults : V → ℕ) (causes : RoomCauses V)
    (base : Option ℕ → V → State → Type 0) (opens : V → State → Type 0) (refuses : V → OpenFault → Type 0) (keeps : V → V → Type 0)
    (holds_one : (image : Image) (a b : State) → holds image a → holds image b → a ≡ b)
    (opens_read : (v : V) (state : State) (image : Image) → opens v state → reads v image → holds image state)
    (refuses_read : (v : V) (fault : OpenFault) (image : Image) (b : State) → reads v image → holds image b → refuses v fault → (fault ≡ opening_faults.Fault) ⊎ ((fault ≡ opening_faults.NoMemory) ⊎ (fault ≡ opening_faults.NoRoom))) where
  abbrev OpensOn : V → P → Type 0
  OpensOn = opening.OpensOn seen vol holds reads left clock faults causes base opens refuses keeps

  abbrev RefusesOn : V → OpenFault → V → Type 0
  RefusesOn = opening.RefusesOn seen vol holds reads left clock faults causes base opens refuses keeps

  abbrev IsReadable : V → State → Type 0
  IsReadable = readable.IsReadable holds reads

  abbrev Unrisen : (V → ℕ) → V → V → Type 0
  Unrisen count before after = Rose (count before) (count after) → ⊥

  -- ---- the volume on which no place was opened

  unrisen_at : (count : V → ℕ) (first ended : List V) (a b : V) (rest : List V) → AllZip keeps first ended → AllZip (Unrisen count) (first ++ a ∷ rest) (ended ++ b ∷ rest) → Unrisen count a b
  unrisen_at count [] [] a b rest k h = h.0
  unrisen_at count [] (y ∷ ys) a b rest k h = absurd k
  unrisen_at count (x ∷ xs) [] a b rest k h = absurd k
  unrisen_at count (x ∷ xs) (y ∷ ys) a b rest k h = unrisen_at count xs ys a b rest k.1 h.1

  -- it holds no more than a log can begin with
  abbrev IsSmall : State → Type 0
  IsSmall state = causes.outgrows_log state Tick → ⊥

  record Readable (v : V) : Type 0 where
    state : State
    is : IsReadable v state
    small : IsSmall state

  readable_at : (first : List V) (a : V) (rest : List V) (states : List State) → AllZip IsReadable (first ++ a ∷ rest) states → AllByRecursion IsSmall states → Readable a
  readable_at [] a rest [] h k = absurd h
  readable_at [] a rest (b ∷ states) h k = record { state = b; is = h.0; small = k.0 }
  readable_at (x ∷ xs) a rest [] h k = absurd h
  readable_at (x ∷ xs) a rest (b ∷ states) h k = readable_at xs a rest states h.1 k.1

  not_outgrown : (a b : V) → Readable a → Unrisen causes.refusals a b → HasNoRoom causes opens a b → ⊥
  not_outgrown a b r unrefused (inl rose) = unrefused rose
  not_outgrown a b r unrefused (inr (state, opened, most)) =
      r.small (subst (λ (s : State). causes.outgrows_log s Tick) (holds_one r.is.image state r.state (opens_read a state r.is.image opened r.is.read) r.is.held) most)

  short_of_memory : (fault : OpenFault) (a b : V) → Readable a → RefusesOn a fault b → Unrisen faults a b → Unrisen causes.refusals a b → open_status fault ≡ 7
  short_of_memory fault a b r h unfailed unrefused = by (refuses_read a fault r.is.image r.state r.is.read r.is.held h.refused)
    where
      by : (fault ≡ opening_faults.Fault) ⊎ ((fault ≡ opening_faults.NoMemory) ⊎ (fault ≡ opening_faults.NoRoom)) → open_status fault ≡ 7
      by (inl e) = absurd (unfailed (h.cause e))
      by (inr (inl e)) = ap open_status e
      by (inr (inr e)) = absurd (not_outgrown a b r unrefused (h.no_room e))

  -- ---- the streams that they hold

  same_streams : (vols : List V) (row : List P) (states : List State) → AllZip OpensOn vols row → AllZip IsReadable vols states → map kept_in (places_by seen row) ≡ map kept_of states
  same_streams [] [] [] h k = refl
  same_streams [] [] (b ∷ states) h k = absurd k
  same_streams [] (p ∷ row) states h k = absurd h
  same_streams (v ∷ vols) [] states h k = absurd h
  same_streams (v ∷ vols) (p ∷ row) [] h k = absurd k
  same_streams (v ∷ vols) (p ∷ row) (b ∷ states) h k =
      let held = holds_one k.0.image (seen p).place.state b (opens_read v (seen p).place.state k.0.image h.0.opened.state k.0.read) k.0.held in
      both (kept_of (seen p).place.state) (kept_of b) (map kept_in (places_by seen row)) (map kept_of states) (ap kept_of held) (same_streams vols row states h.1 k.1)

  pub may_open : LawReadable (Opens seen vol holds reads left clock faults causes base opens refuses keeps) (Refuses seen vol holds reads left clock faults causes base opens refuses keeps) (Made seen vol holds reads left clock faults causes base opens refuses keeps) (Leaves seen vol holds reads left clock faults causes base opens refuses keeps) holds reads faults causes
  may_open v0 v1 r small unfailed (hubs.Open place fault back) h e =
      let kept = opened_row seen vol holds reads left clock faults causes base opens refuses keeps keeps (λ v p o. o.volume) h.first h.row h.opened in
      let readable = readable_at h.first h.at h.more r.states (subst (λ (vs : List V). AllZip IsReadable vs r.states) h.before_are r.each) (recursion_from_All IsSmall r.states small) in
      short_of_memory fault h.at h.left_of readable h.refused (there faults unfailed.unfailed kept) (there causes.refusals unfailed.unrefused kept)
    where
      there : (count : V → ℕ) → AllZip (Unrisen count) v0 v1 → AllZip keeps h.first (map vol h.row) → Unrisen count h.at h.left_of
      there count none kept =
          let front = subst (λ (vs : List V). AllZip (Unrisen count) vs v1) h.before_are none in
          let whole = subst (λ (vs : List V). AllZip (Unrisen count) (h.first ++ h.at ∷ h.more) vs) (e ∙ h.after_are) front in
          unrisen_at count h.first (map vol h.row) h.at h.left_of h.more kept whole
  may_open v0 v1 r small unfailed (hubs.Conflict first second back) h e =
      let same = same_streams v0 h.row r.states h.lets_go.opened r.each in
      let conflict : conflict_at (map kept_of r.states) first second ≡ true = subst (λ (ks : List KeptPlace). conflict_at ks first second ≡ true) same h.conflict.is_behind.conflict in
      let clash : true ≡ false = sym conflict ∙ r.apart first second h.conflict.is_behind.behind in
      absurd (cc)
  may_open v0 v1 r small unfailed (hubs.NoMemory back) h e = refl
