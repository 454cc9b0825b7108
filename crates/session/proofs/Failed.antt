-- Laws of failings of a link that had none before, which end a session.
use Rattle.std.proofs.Common.{◌≡◌, true, refl, Option, Result, sym, subst, ◌∙◌, inl, inr, option_map}
use Rattle.link_edge.specs.Failings.{HasNoFailings, with_call, with_failed_give, with_starved_call}
use Rattle.link_edge.proofs.FirstFailing.{first_call, first_failing}
use Rattle.link_edge.specs.declared.failings.Failings.{Failings}
use Rattle.session.specs.Giving.{end_of}
use Rattle.js_api.specs.declared.fault.DeskFault.{DeskFault}
use Rattle.js_api.specs.declared.fault.DeskFault.TheVariants as faults
use Rattle.session.specs.Stopping.{end_of_fault}
use Rattle.session.specs.Talk.{Last, is_parting}
use Rattle.session.specs.Failing.{FailsBy, FailsIn, FailsAt}
use Rattle.session.specs.declared.ending.Ended.{Ended}
use Rattle.session.specs.declared.ending.Ended.TheVariants as ends
use Rattle.session.specs.declared.giving.GiveFault.{GiveFault}

-- nothing failed, and the session parts from its client
parting_fails : (ended : Ended) (old new : Option Failings) → is_parting ended ≡ true → new ≡ old → FailsBy ended old new
parting_fails ends.Closed old new p e = e
parting_fails (ends.Refused refusal) old new p e = e
parting_fails (ends.Slow size) old new p e = e
parting_fails ends.Stale old new p e = e
parting_fails ends.LinkFault old new p e = cc
parting_fails ends.InputLimit old new p e = e
parting_fails ends.NoMemory old new p e = inl e

pub none_fails : (ended : Ended) (old new : Option Failings) → is_parting ended ≡ true → (HasNoFailings old → new ≡ old) → HasNoFailings old → FailsBy ended old new
none_fails ended old new p e none = parting_fails ended old new p (e none)

-- no session was opened
pub unopened_fails : (fault : DeskFault) (known : Option Failings) → FailsBy (end_of_fault fault) known known
unopened_fails faults.NoMemory known = inl refl
unopened_fails faults.TooManySubs known = inl refl
unopened_fails (faults.Worn number) known = refl
unopened_fails (faults.NoSession latest) known = inl refl

-- a call that did not fail
pub call_passes : (old new : Option Failings) → new ≡ option_map with_call old → HasNoFailings old → new ≡ old
call_passes old new e none = e ∙ first_call old none

-- a give that failed
pub give_fails : (old new : Option Failings) → new ≡ option_map (λ f. with_failed_give (with_call f)) old → HasNoFailings old → FailsBy ends.LinkFault old new
give_fails old new e none = e ∙ first_failing with_failed_give old none

-- a call that found no memory
pub call_starves : (old new : Option Failings) → new ≡ option_map (λ f. with_starved_call (with_call f)) old → HasNoFailings old → FailsBy ends.NoMemory old new
call_starves old new e none = inr (e ∙ first_failing with_starved_call old none)

-- first nothing failed, and what is then said of the link holds of what it told at first
after : (P : Option Failings → Type 0) (old mid : Option Failings) → (HasNoFailings old → mid ≡ old) → (HasNoFailings mid → P mid) → HasNoFailings old → P old
after P old mid e h none = subst P (e none) (h (subst HasNoFailings (sym (e none)) none))

pub none_after : (old mid new : Option Failings) → (HasNoFailings old → mid ≡ old) → (HasNoFailings mid → new ≡ mid) → HasNoFailings old → new ≡ old
none_after old mid new = after (λ known. new ≡ known) old mid

pub fails_after : (ended : Ended) (old mid new : Option Failings) → (HasNoFailings old → mid ≡ old) → (HasNoFailings mid → FailsBy ended mid new) → HasNoFailings old → FailsBy ended old new
fails_after ended old mid new = after (λ known. FailsBy ended known new) old mid

pub fails_in_after : (result : Result (Unit {0}) Ended) (old mid new : Option Failings) → (HasNoFailings old → mid ≡ old) → (HasNoFailings mid → FailsIn result mid new) → HasNoFailings old
    → FailsIn result old new
fails_in_after result old mid new = after (λ known. FailsIn result known new) old mid

pub fails_at_after : (last : Last) (ended : Ended) (old mid new : Option Failings) → (HasNoFailings old → mid ≡ old) → (HasNoFailings mid → FailsAt last ended mid new) → HasNoFailings old
    → FailsAt last ended old new
fails_at_after last ended old mid new = after (λ known. FailsAt last ended known new) old mid

-- the end is that of a giving that failed
pub giving_fails : (fault : GiveFault) (ended : Ended) (old mid new : Option Failings) → (HasNoFailings old → mid ≡ old) → ended ≡ end_of fault
    → (HasNoFailings mid → FailsBy (end_of fault) mid new) → HasNoFailings old → FailsBy ended old new
giving_fails fault ended old mid new e f h = fails_after ended old mid new e (λ none. subst (λ (x : Ended). FailsBy x mid new) (sym f) (h none))
