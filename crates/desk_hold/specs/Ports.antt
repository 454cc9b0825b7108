-- How a hold leads its port: by calls of the router, one after the other.
use Rattle.std.specs.Prelude.{◌≡◌, ◌⊎◌, ◌++◌, ℕ, Bool, List, [], ◌∷◌, length, None, Result, Ok, Err}
use Rattle.js_base.specs.declared.out.Out.{Out}
use Rattle.js_model.specs.Router.{RouteCall, RouteTold, Publish, Interest, Taken, Listens, NoMemory}
use Rattle.js_api.specs.Entries.{Reading, Sending, Sent, Short, Unsent}
use Rattle.js_api.specs.Worlds.{IsTried, sending_of}
use Rattle.place_engine.specs.Pushes.{Pushing}
use Rattle.desk_hold.specs.declared.port.PortFault.{PortFault}
use Rattle.desk_hold.specs.declared.port.PortFault.TheVariants as faults

-- what became of the outputs, if sending them came to this
abbrev pub sending_by : Result (Unit {0}) PortFault → Sending
sending_by (Ok _) = Sent
sending_by (Err faults.NoMemory) = Short
sending_by (Err (faults.Worn number)) = Unsent number

-- what was told of these push consumers, one after the other
abbrev pub readings_of : List Pushing → List Bool → List Reading
readings_of [] told = []
readings_of (push ∷ pushes) [] = []
readings_of (push ∷ pushes) (heard ∷ more) = record { consumer = push.name; subject = push.subject; group = push.group; heard = heard } ∷ readings_of pushes more

-- by a relation for a call of the router, and one for that no turn of it is left
module _ {R : Type 0} (routes : R → RouteCall → RouteTold → R → Type 0) (worn : R → ℕ → R → Type 0) where
  -- one output
  abbrev pub SendsBy : R → Out → Result (Unit {0}) PortFault → R → Type 0
  SendsBy old out (Ok _) new = (count : ℕ) × routes old (Publish out None) (Taken count) new
  SendsBy old out (Err faults.NoMemory) new = routes old (Publish out None) NoMemory new
  SendsBy old out (Err (faults.Worn number)) new = worn old number new

  -- it was told so who listens
  abbrev pub AreHeard : R → List Reading → R → Type 0
  AreHeard old [] new = old ≡ new
  AreHeard old (reading ∷ more) new =
      (mid : R) × routes old (Interest reading.subject reading.group) (Listens reading.heard) mid × AreHeard mid more new

  -- it was told of each of these push consumers whether somebody listens for it; or of the first ones, until memory ran out or no turn was left
  abbrev pub HearsBy : List Pushing → Result (List Bool) PortFault → R → R → Type 0
  HearsBy pushes (Ok told) old new = (length told ≡ length pushes) × AreHeard old (readings_of pushes told) new
  HearsBy pushes (Err faults.NoMemory) old new = (first : List Bool) × AreHeard old (readings_of pushes first) new
  HearsBy pushes (Err (faults.Worn number)) old new = (first : List Bool) × (mid : R) × AreHeard old (readings_of pushes first) mid × worn mid number new

  -- each output is tried in order, and was taken or found no memory
  abbrev pub AreSent : R → List Out → List Bool → R → Type 0
  AreSent old [] [] new = old ≡ new
  AreSent old [] (taken ∷ more) new = ⊥
  AreSent old (out ∷ outs) [] new = ⊥
  AreSent old (out ∷ outs) (taken ∷ more) new =
      (told : RouteTold) × (mid : R) × IsTried told taken × routes old (Publish out None) told mid × AreSent mid outs more new

  -- each was tried
  pub record SendsAll (old : R) (outs : List Out) (sending : Sending) (new : R) : Type 0 where
    pub taken : List Bool
    pub sent : AreSent old outs taken new
    pub sending_is : sending ≡ sending_of taken

  -- each of the first ones, until no turn was left: for the next one, or before that for who listens
  pub record SendsFirst (old : R) (outs : List Out) (sending : Sending) (new : R) : Type 0 where
    pub first : List Out
    pub more : List Out
    pub outs_are : outs ≡ first ++ more
    pub taken : List Bool
    pub mid : R
    pub sent : AreSent old first taken mid
    pub number : ℕ
    pub is_worn : worn mid number new
    pub sending_is : sending ≡ Unsent number

  abbrev pub Sends : R → List Out → Sending → R → Type 0
  Sends old outs sending new = SendsAll old outs sending new ⊎ SendsFirst old outs sending new
