-- What a door was asked since a run began.
use Rattle.std.proofs.Common.{◌≡◌, ℕ, zero, suc, ◌+◌, ◌-◌, ◌<◌, ◌≤◌, Bool, false, true, List, [], ◌∷◌, ◌++◌, length, Option, None, Some, option_map, refl, sym, ap, subst, ◌∙◌, arith}
use Rattle.std.specs.Prelude.{filter, nat_eq, IfSome, is_some}
use Rattle.std.specs.Option.{option_eq}
use Rattle.std.proofs.lemmas.List.{length-append}
use Rattle.std.proofs.lemmas.List.Elements.{filter-append}
use Rattle.js_base.specs.Causes.{Rose}
use Rattle.js_base.proofs.Causes.{rose_after, rose_before}
use Rattle.link_edge.specs.Told.{grown}
use Rattle.link_edge.proofs.Told.{grown-nil, grown_on}
use Rattle.link_edge.specs.declared.answers.Accepted.{Accepted}
use Rattle.link_edge.specs.declared.answers.Accepted.TheVariants as accepted
use Rattle.workers.specs.Doors.{Accepts, DoorTold, GoesOn, GoOn, LeavesRoom, is_got}
use Rattle.workers.specs.declared.doorway.Stop.{Stop}
use Rattle.workers.specs.declared.doorway.Stop.TheVariants as stops

go_on : (told : List Accepted) (next : Accepted) → GoOn told → GoesOn next → GoOn (told ++ next ∷ [])
go_on [] next h goes = (goes, tt)
go_on (a ∷ told) next h goes = (h.0, go_on told next h.1 goes)

got_more : (told : List Accepted) (next : Accepted) → length (filter is_got (told ++ next ∷ [])) ≡ length (filter is_got told) + length (filter is_got (next ∷ []))
got_more told next = ap length (filter-append is_got told (next ∷ [])) ∙ length-append (filter is_got told) (filter is_got (next ∷ []))

same_room : (accepts left : Option ℕ) (m n : ℕ) → n ≡ m + 0 → LeavesRoom accepts left m → LeavesRoom accepts left n
same_room accepts left m n e h = subst (λ (k : ℕ). LeavesRoom accepts left k) (omega (arith, e)) h

less_room : (accepts left : Option ℕ) (m n : ℕ) → n ≡ m + 1 → IfSome left (λ k. 0 < k) → LeavesRoom accepts left m → LeavesRoom accepts (option_map (λ k. k - 1) left) n
less_room None None m n e some h = tt
less_room None (Some l) m n e some h = absurd h
less_room (Some a) None m n e some h = absurd h
less_room (Some a) (Some l) m n e some h = omega (arith, e, some, h)

le_on : (a b c : ℕ) → a ≤ b → b ≤ c → a ≤ c
le_on a b c f g = omega (arith, f, g)

pub has_room : (left : Option ℕ) → option_eq nat_eq left (Some 0) ≡ false → IfSome left (λ n. 0 < n)
has_room None e = tt
has_room (Some zero) e = let no : ⊥ = cc in absurd no
has_room (Some (suc n)) e = omega arith

-- the same answers, and the door was used on
pub asked_before : (accepts left : Option ℕ) (stop : Option Stop) (begun was is : DoorTold) → is.answered ≡ was.answered → was.faults ≤ is.faults → Accepts accepts left stop begun was → Accepts accepts left stop begun is
asked_before accepts left stop begun was is answered later asked = record {
  told = asked.told;
  answered = answered ∙ asked.answered;
  stopped = asked.stopped;
  room = asked.room;
  full = asked.full;
  later = le_on begun.faults was.faults is.faults asked.later later;
  failed = λ e. rose_after begun.faults was.faults is.faults (asked.failed e) later;
}

-- ---- what it answered

module _ (accepts left : Option ℕ) (stop : Option Stop) (begun was is : DoorTold) (stays : is_some stop ≡ false) (before : Accepts accepts left stop begun was) (later : was.faults ≤ is.faults) where
  unstopped : (s : Option Stop) → is_some s ≡ false → s ≡ None
  unstopped None e = refl
  unstopped (Some s) e = let no : ⊥ = cc in absurd no

  none_is : stop ≡ None
  none_is = unstopped stop stays

  asked : Accepts accepts left None begun was
  asked = subst (λ (s : Option Stop). Accepts accepts left s begun was) none_is before

  goes_on : (more : Option ℕ) → Accepts accepts more None begun is → Accepts accepts more stop begun is
  goes_on more h = subst (λ (s : Option Stop). Accepts accepts more s begun is) (sym none_is) h

  pub a_link : IfSome left (λ k. 0 < k) → is.answered ≡ grown was.answered (accepted.Got ∷ []) → Accepts accepts (option_map (λ k. k - 1) left) stop begun is
  a_link some answered = goes_on (option_map (λ k. k - 1) left) (record {
    told = asked.told ++ accepted.Got ∷ [];
    answered = grown_on begun.answered was.answered is.answered asked.told (accepted.Got ∷ []) asked.answered answered;
    stopped = go_on asked.told accepted.Got asked.stopped tt;
    room = less_room accepts left _ _ (got_more asked.told accepted.Got) some asked.room;
    full = λ e. let no : ⊥ = cc in absurd no;
    later = le_on begun.faults was.faults is.faults asked.later later;
    failed = λ e. let no : ⊥ = cc in absurd no;
  })

  pub nobody : is.answered ≡ grown was.answered (accepted.Quiet ∷ []) → Accepts accepts left stop begun is
  nobody answered = goes_on left (record {
    told = asked.told ++ accepted.Quiet ∷ [];
    answered = grown_on begun.answered was.answered is.answered asked.told (accepted.Quiet ∷ []) asked.answered answered;
    stopped = go_on asked.told accepted.Quiet asked.stopped tt;
    room = same_room accepts left _ _ (got_more asked.told accepted.Quiet) asked.room;
    full = λ e. let no : ⊥ = cc in absurd no;
    later = le_on begun.faults was.faults is.faults asked.later later;
    failed = λ e. let no : ⊥ = cc in absurd no;
  })

  pub no_memory : is.answered ≡ grown was.answered [] → Accepts accepts left stop begun is
  no_memory answered = goes_on left (record {
    told = asked.told;
    answered = answered ∙ grown-nil was.answered ∙ asked.answered;
    stopped = asked.stopped;
    room = asked.room;
    full = λ e. let no : ⊥ = cc in absurd no;
    later = le_on begun.faults was.faults is.faults asked.later later;
    failed = λ e. let no : ⊥ = cc in absurd no;
  })

  pub is_closed : is.answered ≡ grown was.answered (accepted.Closed ∷ []) → Accepts accepts left (Some stops.Closed) begun is
  is_closed answered = record {
    told = asked.told ++ accepted.Closed ∷ [];
    answered = grown_on begun.answered was.answered is.answered asked.told (accepted.Closed ∷ []) asked.answered answered;
    stopped = (asked.told, refl, asked.stopped);
    room = same_room accepts left _ _ (got_more asked.told accepted.Closed) asked.room;
    full = λ e. let no : ⊥ = cc in absurd no;
    later = le_on begun.faults was.faults is.faults asked.later later;
    failed = λ e. let no : ⊥ = cc in absurd no;
  }

  pub has_failed : is.answered ≡ grown was.answered (accepted.Failed ∷ []) → Rose was.faults is.faults → Accepts accepts left (Some stops.Failed) begun is
  has_failed answered rose = record {
    told = asked.told ++ accepted.Failed ∷ [];
    answered = grown_on begun.answered was.answered is.answered asked.told (accepted.Failed ∷ []) asked.answered answered;
    stopped = (asked.told, refl, asked.stopped);
    room = same_room accepts left _ _ (got_more asked.told accepted.Failed) asked.room;
    full = λ e. let no : ⊥ = cc in absurd no;
    later = le_on begun.faults was.faults is.faults asked.later later;
    failed = λ e. rose_before begun.faults was.faults is.faults asked.later rose;
  }
