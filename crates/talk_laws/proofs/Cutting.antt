-- A run of a place can be cut wherever one likes.
use Rattle.std.proofs.Common.{◌≡◌, ◌+◌, ◌++◌, ℕ, List, [], ◌∷◌, length, refl, subst}
use Rattle.js_model.specs.declared.stream.State.{State}
use Rattle.js_model.specs.declared.entry.PlaceEntry.{PlaceEntry}
use Rattle.js_model.specs.declared.entry.PlaceEntry.TheVariants.{Step, Deliver, Broken}
use Rattle.js_model.specs.Runs.{Run, RunFrom, messages_of, new_messages, total_of}
use Rattle.talk_laws.specs.Parts.{Cut}

-- the state between the two
pub record Halves (count : ℕ) (first : State) (earlier later : List PlaceEntry) (last : State) : Type 0 where
  pub mid : State
  pub before : RunFrom count first earlier mid
  pub after : RunFrom (total_of count first earlier mid before) mid later last

pub halves : (count : ℕ) (first : State) (earlier later : List PlaceEntry) (last : State) → RunFrom count first (earlier ++ later) last → Halves count first earlier later last
halves count first [] later last run = record { mid = first; before = refl; after = run }
halves count first (Step seat e now reply outs unsaid ∷ earlier) later last (next, step, rest) =
    let h = halves (count + length (new_messages first next)) next earlier later last rest in
    record { mid = h.mid; before = (next, step, h.before); after = h.after }
halves count first (Deliver seat now listening d outs ∷ earlier) later last (next, step, rest) =
    let h = halves (count + length (new_messages first next)) next earlier later last rest in
    record { mid = h.mid; before = (next, step, h.before); after = h.after }
halves count first (Broken seat now call ∷ []) [] last run = record { mid = last; before = run; after = refl }
halves count first (Broken seat now call ∷ []) (entry ∷ later) last run = absurd run
halves count first (Broken seat now call ∷ entry ∷ earlier) later last run = absurd run

cut_run : (first : State) (earlier part later : List PlaceEntry) (last : State) → Run first (earlier ++ (part ++ later)) last → Cut first earlier part later last
cut_run first earlier part later last run =
    let count : ℕ = length (messages_of first) in
    let front = halves count first earlier (part ++ later) last run in
    let back = halves (total_of count first earlier front.mid front.before) front.mid part later last front.after in
    record {
      part = record {
        first = first;
        earlier = earlier;
        old = front.mid;
        entries = part;
        new = back.mid;
        later = later;
        last = last;
        before = front.before;
        during = back.before;
        after = back.after;
      };
      first_is = refl;
      earlier_is = refl;
      entries_are = refl;
      later_is = refl;
      last_is = refl;
    }

pub cut_at : (first : State) (entries earlier part later : List PlaceEntry) (last : State) → Run first entries last → entries ≡ earlier ++ (part ++ later) → Cut first earlier part later last
cut_at first entries earlier part later last run split = cut_run first earlier part later last (subst (λ (l : List PlaceEntry). Run first l last) split run)
