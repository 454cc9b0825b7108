-- What a session over a fresh link tells.
use Rattle.std.proofs.Common.{◌≡◌, ◌||◌, ℕ, Bool, List, [], ◌++◌, Option, None, Some, inl, inr, refl, sym, subst, option_map, ◌∙◌}
use Rattle.std.specs.Prelude.{IfSome}
use Rattle.js_base.specs.Bytes.{Bytes}
use Rattle.js_base.specs.Causes.{HasCause, Rose}
use Rattle.link_edge.specs.Failings.{HasNoFailings, no_failings}
use Rattle.link_edge.specs.Reports.{IsFresh}
use Rattle.link_edge.specs.Told.{emptied, grown}
use Rattle.link_edge.specs.declared.answers.Answer.{Answer}
use Rattle.link_edge.specs.declared.failings.Failings.{Failings}
use Rattle.js_api.specs.Entries.{DeskEntry}
use Rattle.session.specs.Failing.{FailsAt, FailsBy}
use Rattle.session.specs.Session.{Serves}
use Rattle.session.specs.Talk.{Last, Greeting, Nothing, Told, Within, Waiting, answers_of}
use Rattle.session.specs.declared.ending.Limits.{Limits}
use Rattle.session.specs.declared.ending.Ended.{Ended}
use Rattle.session.specs.declared.ending.Ended.TheVariants as ends
use Rattle.hub_fronts.specs.Fronts.{SharedScene}
use Rattle.hub_fronts.specs.Making.{SharedMade}
use Rattle.shared_desk.specs.Desks.{HubDeskMade, HubDeskView}
use Rattle.shared_desk.specs.Hubs.{HubView}
use Rattle.shared_desk.specs.Passes.{IsPassOf}
use Rattle.workers.proofs.Deeds.{worked_one}
use Rattle.workers.specs.Deeds.{Deed, IsDeed, deed_entries, is_worn_by}
use Rattle.workers.specs.Links.{HasSession}
use Rattle.workers.specs.Sessions.{IsSession}
use Rattle.workers.specs.Working.{IsIdle, Worked}

-- what was told from nothing on is told whole
told_whole : {X : Type 0} (old new : Option (List X)) (xs : List X) → old ≡ emptied old → new ≡ grown old xs → IfSome new (λ ys. ys ≡ xs)
told_whole None new xs e f = rw f tt
told_whole (Some old) new xs e f =
    let k : old ≡ [] = cc in
    rw (f, k) refl

failed_by : (ended : Ended) (failings : Failings) → FailsBy ended None (Some failings) → ⊥
failed_by ends.Closed failings h = cc
failed_by (ends.Refused refusal) failings h = cc
failed_by (ends.Slow size) failings h = cc
failed_by ends.Stale failings h = cc
failed_by ends.LinkFault failings h = cc
failed_by ends.InputLimit failings h = cc
failed_by ends.NoMemory failings (inl h) = cc
failed_by ends.NoMemory failings (inr h) = cc

none_told : (last : Last) (ended : Ended) (failings : Failings) → FailsAt last ended None (Some failings) → ⊥
none_told Greeting ended failings h = failed_by ended failings h
none_told Nothing ended failings h = failed_by ended failings h
none_told (Told answer) ended failings h = cc
none_told (Within turn begun calls) ended failings h = failed_by ended failings h
none_told (Waiting moment) ended failings h = failed_by ended failings h

-- what a fresh link tells of its failings is told from nothing on
failed_whole : (last : Last) (ended : Ended) (old new : Option Failings) → HasNoFailings old → FailsAt last ended old new
    → IfSome new (λ failings. FailsAt last ended (Some no_failings) (Some failings))
failed_whole last ended old None fresh h = tt
failed_whole last ended None (Some failings) fresh h = absurd (none_told last ended failings h)
failed_whole last ended (Some first) (Some failings) fresh h = subst (λ (o : Option Failings). FailsAt last ended o (Some failings)) fresh h

module _ {D : Type 0} (Made : D → List DeskEntry → D → Type 0) (limits : Limits) (old new : D) (ended : Ended) (a0 a1 : Option (List Answer)) (g0 g1 : Option Bytes) (c0 c1 : Option (List ℕ)) (n0 n1 : Option Failings) (f0 f1 : ℕ) where
  pub is_session : (s : Serves Made limits old new a0 a1 g0 g1 c0 c1 n0 n1 ended) → IsFresh a0 g0 n0 f0 → HasCause f0 f1 (ended ≡ ends.LinkFault)
      → IsSession limits (record { answered = a1; given = g1; failings = n1; faults = f1 }) s.journal s.bytes ended
  is_session s fresh cause = record {
    talk = s.talk;
    answered = told_whole a0 a1 (answers_of s.journal) fresh.silent s.answered;
    given = told_whole g0 g1 s.bytes fresh.unwritten s.given;
    failings = failed_whole s.journal.last ended n0 n1 fresh.unfailing (s.failings fresh.unfailing);
    cause = λ fault. subst (λ (n : ℕ). Rose n f1) fresh.unfailed (cause.failed fault);
  }

  pub has_session : Serves Made limits old new a0 a1 g0 g1 c0 c1 n0 n1 ended → IsFresh a0 g0 n0 f0 → HasCause f0 f1 (ended ≡ ends.LinkFault)
      → HasSession limits (record { answered = a1; given = g1; failings = n1; faults = f1 }) ended
  has_session s fresh cause = record { journal = s.journal; bytes = s.bytes; session = is_session s fresh cause }

-- ---- a worker's pass while a desk has it

module _ (limits : Limits) (hub : HubView) where
  -- a pass of the hub led a desk, and came back from it
  pub idle_again : (desk after : HubDeskView) (scene : SharedScene) (entries : List DeskEntry) (pass : Option SharedScene) (parts amount : ℕ) → desk.hub ≡ hub → HubDeskMade desk entries after
      → scene ≡ after.scene → IsPassOf after.hub scene → pass ≡ Some scene → parts ≡ 1 → amount ≡ 0 → IsIdle hub pass parts amount
  idle_again desk after scene entries pass parts amount at made is own there part none = record {
    scene = scene;
    there = there;
    own = subst (λ h. IsPassOf h scene) (made.1 ∙ at) own;
    part = part;
    none = none;
  }

  -- it made the entries of a deed
  pub worked_over : (first : SharedScene) (desk after : HubDeskView) (scene : SharedScene) (deed : Deed) (old new : Option SharedScene) (worn noted : Bool) → old ≡ Some first → desk.scene ≡ first
      → HubDeskMade desk (deed_entries deed) after → scene ≡ after.scene → new ≡ Some scene → IsDeed limits deed → noted ≡ (worn || is_worn_by deed) → Worked limits old new worn noted
  worked_over first desk after scene deed old new worn noted there begun made is then deed_is worn_is =
      worked_one limits first scene old new worn noted deed there then deed_is
      (subst (λ s. SharedMade s (deed_entries deed) scene) begun (subst (λ s. SharedMade desk.scene (deed_entries deed) s) (sym is) made.0)) worn_is
