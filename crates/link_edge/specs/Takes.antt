-- What a link's take answers.
use Rattle.std.specs.Prelude.{◌≡◌, ℕ, ◌≤◌, List, [], ◌∷◌, take, Option}
use Rattle.link_edge.specs.declared.answers.Take.{Take}
use Rattle.link_edge.specs.declared.answers.Take.TheVariants.{Got, Quiet, Ended, Failed, NoMemory}
use Rattle.link_edge.specs.declared.answers.Answer.{Answer}
use Rattle.link_edge.specs.declared.answers.Answer.TheVariants as answers
use Rattle.link_edge.specs.Told.{emptied}

-- what was got is one byte or more, and no more than there is room for
abbrev pub IsTakeWithin : Take → ℕ → Type 0
IsTakeWithin (Got n) room = (1 ≤ n) × (n ≤ room)
IsTakeWithin Quiet room = Unit {0}
IsTakeWithin Ended room = Unit {0}
IsTakeWithin Failed room = Unit {0}
IsTakeWithin NoMemory room = Unit {0}

-- the bytes that were got, at the start of the room
abbrev pub taken_bytes : Take → List ℕ → List ℕ
taken_bytes (Got n) room = take n room
taken_bytes Quiet room = []
taken_bytes Ended room = []
taken_bytes Failed room = []
taken_bytes NoMemory room = []

-- the end is answered only if no byte is known to be left
abbrev pub EndsAtEnd : Take → Option (List ℕ) → Type 0
EndsAtEnd (Got n) left = Unit {0}
EndsAtEnd Quiet left = Unit {0}
EndsAtEnd Ended left = left ≡ emptied left
EndsAtEnd Failed left = Unit {0}
EndsAtEnd NoMemory left = Unit {0}

-- what is remembered of the answer
abbrev pub answers_of : Take → List ℕ → List Answer
answers_of (Got n) room = answers.Piece (take n room) ∷ []
answers_of Quiet room = answers.Quiet ∷ []
answers_of Ended room = answers.Ended ∷ []
answers_of Failed room = answers.Failed ∷ []
answers_of NoMemory room = []
