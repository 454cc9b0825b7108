-- The sequences of the first messages of several subjects, taken one after the other from the next one of each.
use Rattle.std.proofs.Common.{◌≡◌, ℕ, ◌+◌, ◌<◌, ◌≤◌, ◌&&◌, Bool, true, false, List, [], ◌∷◌, ◌++◌, Option, Some, None, length, take}
use Rattle.std.specs.Prelude.{filter}
use Rattle.std.specs.BTreeSet.{BTreeSet}
use Rattle.js_base.specs.Bytes.{Bytes}
use Rattle.js_model.specs.declared.stream.Message.{Message}
use Rattle.js_model.specs.Events.{is_below}
use Rattle.js_model.specs.Lists.{Between}
use Rattle.js_model.specs.Streams.{seqs}
use Rattle.stored_stream.specs.Heads.{AreHeads, TakesHead}
use Rattle.stored_stream.proofs.Gathering.{gathers_all, gathers_full, gathers_more, gathers_none, Gathers}
use Rattle.stored_stream.proofs.Purges.{named_found, named_none, named_past}

module _ (test : Bytes → Bool) (ms : List Message) (below : Option ℕ) (most : ℕ) where
  abbrev passes : Message → Bool
  passes m = test m.subject && is_below below m.seq

  -- what was gathered, and from where the heads stand
  pub record Merges (gone : List ℕ) (heads : BTreeSet ℕ) : Type 0 where
    pub from : ℕ
    pub gathers : Gathers passes ms most from gone
    pub stand : AreHeads test ms from heads

  pub merges_none : (heads : BTreeSet ℕ) → AreHeads test ms 0 heads → Merges [] heads
  merges_none heads h = record { from = 0; gathers = gathers_none passes ms most; stand = h }

  module _ (low high : ℕ) (ascends : Between (λ m. m.seq) low high ms) (gone : List ℕ) (old new : BTreeSet ℕ) (merges : Merges gone old) where
    pub merges_more : (n : ℕ) → TakesHead test ms merges.from (Some n) new → is_below below n ≡ true → length gone < most → Merges (gone ++ n ∷ []) new
    merges_more n taken pass room = record {
      from = n + 1;
      gathers = gathers_more passes ms most low high merges.from n gone ascends merges.gathers room (named_found test below ms merges.from n taken.first pass);
      stand = taken.rest;
    }

    pub merges_all : TakesHead test ms merges.from None new → gone ≡ take most (seqs (filter passes ms))
    merges_all taken = gathers_all passes ms most merges.from gone merges.gathers (named_none test below ms merges.from taken.first)

    pub merges_past : (n : ℕ) → TakesHead test ms merges.from (Some n) new → is_below below n ≡ false → gone ≡ take most (seqs (filter passes ms))
    merges_past n taken fail = gathers_all passes ms most merges.from gone merges.gathers (named_past test below ms merges.from low high n ascends taken.first fail)

  pub merges_full : (gone : List ℕ) (heads : BTreeSet ℕ) → Merges gone heads → most ≤ length gone → gone ≡ take most (seqs (filter passes ms))
  merges_full gone heads merges full = gathers_full passes ms most merges.from gone merges.gathers full
