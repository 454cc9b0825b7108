-- What each kind of step tells its caller, this server's own.
use Rattle.std.specs.Prelude.{◌≡◌, ◌≢◌, ℕ, ◌≤◌, List, [], ◌∷◌, ◌++◌, Option, Some}
use Rattle.atomic_table.specs.Table.{Me, Step}
use Rattle.histories.specs.Entries.{Entry, Opening}
use Rattle.histories.specs.Fronts.{Grows}
use Rattle.turn_lock.specs.Views.{View, Idle, Drawn, Inside, Met, view, at_stage, counted, with_ticket, left_with}
use Rattle.turn_lock.specs.Ruled.{last_ticket, Meeting}
use Rattle.turn_lock.specs.declared.kept.Kept.{Kept}

module _ (S : Type 0) where
  abbrev pub Sat : Type 0
  Sat = Me (Option (Kept S)) View

  abbrev Tells : Type 1
  Tells = Step (Option (Kept S)) → Sat → ℕ → Sat → Type 0

  -- a look at the next ticket: so many are drawn
  abbrev pub saw : Tells
  saw st m r m' = (m' ≡ (counted m.0 r, m.1)) × (r ≤ last_ticket) × (m.0.drawn ≤ r)

  -- a draw: the ticket is the seat's, or another one was next
  abbrev pub drew : Tells
  drew st m r m' = (m'.1 ≡ m.1) × (r ≤ last_ticket) × (m.0.drawn ≤ r) × (r ≡ st.first → m'.0 ≡ with_ticket m.0 r) × (r ≢ st.first → m'.0 ≡ counted m.0 r)

  -- the seat came in, and has the value, which stands for the whole history
  pub record Enters (stands : Opening → List Entry → S → Type 0) (legal : Opening → List Entry → Type 0) (t : ℕ) (m m' : Sat) : Type 0 where
    pub kept : Kept S
    pub has_it : m'.1 ≡ (0, Some kept) ∷ m.1
    pub inside : m'.0 ≡ view m.0.opening m'.0.front m.0.numbers (Inside t) m.0.drawn
    pub grows : Grows m.0.numbers m.0.front m'.0.front
    pub stands_for : stands m.0.opening m'.0.front kept.value
    pub lawful : legal m.0.opening m'.0.front

  -- a look at the ticket that is served: where it is the seat's own, the seat comes in
  abbrev pub looked : (Opening → List Entry → S → Type 0) → (Opening → List Entry → Type 0) → Tells
  looked stands legal st m r m' = (t : ℕ) → m.0.stage ≡ Drawn t → (r ≡ t → Enters stands legal t m m') × (r ≢ t → m' ≡ m)

  -- the entries beside the value are added to the history
  abbrev pub left : (Opening → List Entry → Type 0) → Tells
  left legal st m r m' = (k : Kept S) → m.1 ≡ (0, Some k) ∷ [] → (m' ≡ (left_with m.0 k.entries.value, [])) × legal m.0.opening (m.0.front ++ k.entries.value)

  -- a look after two seats became one
  abbrev pub compared : (Opening → List Entry → Type 0) → Tells
  compared legal st m r m' = (xs : List Entry) (ns : List ℕ) (ys : List Entry) (ms : List ℕ) → m.0.stage ≡ Met xs ns ys ms
      → (m' ≡ (at_stage m.0 Idle, m.1)) × Meeting m.0.front xs ns ys ms × legal m.0.opening m.0.front

  -- the seat has come in and taken the value out of the slot
  pub record Taken (stands : Opening → List Entry → S → Type 0) (v w : View) (x : S) : Type 0 where
    pub opening : w.opening ≡ v.opening
    pub numbers : w.numbers ≡ v.numbers
    pub drawn : w.drawn ≡ v.drawn
    pub grows : Grows v.numbers v.front w.front
    pub stands_for : stands v.opening w.front x
