-- Laws of how a run of a command ends.
use Rattle.std.proofs.Common.{◌≡◌, ℕ, Bool, true, false, List, Option, None, Some, arith, refl, sym, ◌∙◌, subst}
use Rattle.std.specs.Prelude.{◌↔◌, IfSome}
use Rattle.hub_fronts.specs.Fronts.{SharedScene}
use Rattle.js_api.specs.Entries.{DeskEntry}
use Rattle.link_edge.specs.Notices.{NoticeTold}
use Rattle.js_desk.specs.Solo.{Solo}
use Rattle.desk_places.specs.declared.faults.Closed.{Closed}
use Rattle.desk_places.specs.declared.faults.HubFault.{HubFault}
use Rattle.shared_desk.specs.Hubs.{HubView}
use Rattle.workers.specs.declared.doorway.Stop.{Stop}
use Rattle.workers.specs.declared.doorway.Stop.TheVariants as stops
use Rattle.workers.specs.declared.serving.Came.{Came}
use Rattle.workers.specs.declared.serving.Came.TheVariants as came
use Rattle.server.specs.declared.listening.Listening.{Listening}
use Rattle.server.specs.declared.words.Command.{Command}
use Rattle.server.specs.declared.words.NamedStream.{NamedStream}
use Rattle.server.specs.declared.words.Command.TheVariants as commands
use Rattle.server.specs.Commands.{CommandEnds}
use Rattle.server.specs.Ending.{PipeEnds, Starved}
use Rattle.server.specs.HubServing.{ServeEnds, HubStarved, HubUnopened, HubServed, noted_outcome, outcome_of, stopped_outcome}
use Rattle.server.specs.Outside.{Outside}
use Rattle.server.proofs.Ended.{closing_other, pipe_worded, refused_other}

noted_other : (worn starved : Bool) → (noted_outcome worn starved).status ≡ 2 → ⊥
noted_other true starved e = cc
noted_other false true e = cc
noted_other false false e = cc

stopped_other : (stop : Stop) (worn starved : Bool) → (stopped_outcome stop worn starved).status ≡ 2 → ⊥
stopped_other stops.Closed worn starved e = noted_other worn starved e
stopped_other stops.Full worn starved e = noted_other worn starved e
stopped_other stops.Failed worn starved e = cc

outcome_other : (c : Came) → (outcome_of c).status ≡ 2 → ⊥
outcome_other came.Unbegun e = cc
outcome_other (came.Served stop worn starved) e = stopped_other stop worn starved e

-- a run of `serve` ended so, and its command line was one
module _ {V : Type 0} (OpensHub : List V → ℕ → HubView → List SharedScene → Type 0) (RefusesHub : List V → HubFault V → Type 0) (ClosesHub : HubView → List SharedScene → Closed V → Type 0) where
  serve_worded : (listening : Listening) (status : ℕ) (v0 v1 : List V) (old new : Outside) (t0 t1 : Option NoticeTold) → ServeEnds OpensHub RefusesHub ClosesHub listening status v0 v1 old new t0 t1 → status ≡ 2 → ⊥
  serve_worded listening status v0 v1 old new t0 t1 (HubStarved h) e = omega (arith, h.status_is, e)
  serve_worded listening status v0 v1 old new t0 t1 (HubUnopened h) e = refused_other h.fault (sym h.status_is ∙ e)
  serve_worded listening status v0 v1 old new t0 t1 (HubServed h) e = closing_other (outcome_of h.came).served (outcome_of h.came).status h.closed.failed (outcome_other h.came) (sym h.status_is ∙ e)

  -- the status is not that of another command line
  pub serve_words : (read : Option Command) (command : Command) (listening : Listening) (status : ℕ) (v0 v1 : List V) (old new : Outside) (t0 t1 : Option NoticeTold) → read ≡ Some command
      → ServeEnds OpensHub RefusesHub ClosesHub listening status v0 v1 old new t0 t1 → (status ≡ 2) ↔ (read ≡ None)
  serve_words read command listening status v0 v1 old new t0 t1 is h = (λ two. absurd (serve_worded listening status v0 v1 old new t0 t1 h two), λ none. cc)

-- a run of `pipe` ended so, and its command line was one
module _ {V : Type 0} (Opens : List V → Solo V → Type 0) (Refuses : List V → HubFault V → Type 0) (Made : Solo V → List DeskEntry → Solo V → Type 0) (Closes : Solo V → Closed V → Type 0) where
  pub pipe_words : (read : Option Command) (command : Command) (stream : Option NamedStream) (status : ℕ) (v0 v1 : List V) (old new : Outside) → read ≡ Some command
      → PipeEnds Opens Refuses Made Closes stream status v0 v1 old new → (status ≡ 2) ↔ (read ≡ None)
  pipe_words read command stream status v0 v1 old new is h = (λ two. absurd (pipe_worded Opens Refuses Made Closes stream status v0 v1 old new h two), λ none. cc)

module _ {V : Type 0} (Opens : List V → Solo V → Type 0) (Refuses : List V → HubFault V → Type 0) (Made : Solo V → List DeskEntry → Solo V → Type 0) (Closes : Solo V → Closed V → Type 0)
    (OpensHub : List V → ℕ → HubView → List SharedScene → Type 0) (RefusesHub : List V → HubFault V → Type 0) (ClosesHub : HubView → List SharedScene → Closed V → Type 0) where
  -- the command was run
  pub ends_kept : (v0 v1 : List V) (read : Option Command) (command : Command) (is : read ≡ Some command) (status : ℕ) (old new : Outside) (t0 t1 : Option NoticeTold)
      → CommandEnds Opens Refuses Made Closes OpensHub RefusesHub ClosesHub command status v0 v1 old new t0 t1
      → IfSome read (λ command. CommandEnds Opens Refuses Made Closes OpensHub RefusesHub ClosesHub command status v0 v1 old new t0 t1)
  ends_kept v0 v1 read command is status old new t0 t1 h =
      subst (λ (o : Option Command). IfSome o (λ c. CommandEnds Opens Refuses Made Closes OpensHub RefusesHub ClosesHub c status v0 v1 old new t0 t1)) (sym is) h

  -- nothing was run: out of memory
  starved_by : (vols : List V) (command : Command) (outside : Outside) (told : Option NoticeTold) → CommandEnds Opens Refuses Made Closes OpensHub RefusesHub ClosesHub command 7 vols vols outside outside told told
  starved_by vols (commands.Pipe dir stream) outside told = (Starved (record { status_is = refl; vols = refl; outside = refl }), refl)
  starved_by vols (commands.Serve listening) outside told = HubStarved (record { status_is = refl; vols = refl; outside = refl; untold = refl })

  pub ends_starved : (vols : List V) (read : Option Command) (outside : Outside) (told : Option NoticeTold) → IfSome read (λ command. CommandEnds Opens Refuses Made Closes OpensHub RefusesHub ClosesHub command 7 vols vols outside outside told told)
  ends_starved vols None outside told = tt
  ends_starved vols (Some command) outside told = starved_by vols command outside told
