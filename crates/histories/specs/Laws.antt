-- What holds of fronts and own entries, by the definitions alone.
use Rattle.std.specs.Prelude.{◌≡◌, ℕ, true, List, ◌++◌}
use Rattle.js_base.specs.Bytes.{has}
use Rattle.histories.specs.Entries.{Entry, AreBy}
use Rattle.histories.specs.Fronts.{Grows, own}

-- a front that stays has grown
abbrev pub LawSame : Type 0
LawSame = (numbers : List ℕ) (front : List Entry) → Grows numbers front front

-- what has grown twice has grown
abbrev pub LawBoth : Type 0
LawBoth = (numbers : List ℕ) (old mid new : List Entry) → Grows numbers old mid → Grows numbers mid new → Grows numbers old new

-- a seat's own entries are the same in a front that grew
abbrev pub LawOwn : Type 0
LawOwn = (numbers : List ℕ) (old new : List Entry) → Grows numbers old new → own numbers new ≡ own numbers old

-- entries by one of a seat's numbers are its own, in their order
abbrev pub LawAdded : Type 0
LawAdded = (numbers : List ℕ) (number : ℕ) (front entries : List Entry) → AreBy number entries → has numbers number ≡ true
    → own numbers (front ++ entries) ≡ own numbers front ++ entries
