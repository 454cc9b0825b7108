-- Laws of the status of a run, and of what is printed with it.
use Rattle.std.proofs.Common.{◌≡◌, ◌==◌, ◌&&◌, ℕ, Bool, true, false, List, Option, None, Some, arith, refl, sym, ◌∙◌}
use Rattle.std.specs.Prelude.{if◌then◌else◌}
use Rattle.std.proofs.lemmas.Bool.{eqb-true}
use Rattle.place_engine.specs.declared.faults.OpenFault.{OpenFault}
use Rattle.place_engine.specs.declared.faults.OpenFault.TheVariants as opening
use Rattle.place_engine.specs.declared.faults.PlaceFault.{PlaceFault}
use Rattle.place_engine.specs.declared.faults.PlaceFault.TheVariants as faults
use Rattle.js_api.specs.Entries.{DeskEntry}
use Rattle.js_desk.specs.Solo.{Solo}
use Rattle.desk_places.specs.declared.faults.Closed.{Closed}
use Rattle.desk_places.specs.declared.faults.HubFault.{HubFault}
use Rattle.desk_places.specs.declared.faults.HubFault.TheVariants as hubs
use Rattle.server.specs.declared.serving.Outcome.{Outcome}
use Rattle.server.specs.declared.words.NamedStream.{NamedStream}
use Rattle.server.specs.Attending.{IsAttendedOver}
use Rattle.server.specs.Closing.{closing_line, closing_status, flush_status, status_with}
use Rattle.server.specs.Ending.{PipeEnds, Starved, Unopened, Attended}
use Rattle.server.specs.Lines.{disk_fault_line}
use Rattle.server.specs.Outside.{Outside, SinkTold, PrintsLine}
use Rattle.server.specs.Refusing.{open_line, open_status, refused_line, refused_status}
use Rattle.server.proofs.Ending.{attends_worded, unserved_refused}

-- ---- of volumes that were not opened

open_other : (fault : OpenFault) → open_status fault ≡ 2 → ⊥
open_other opening.Fault e = cc
open_other (opening.Damaged file at) e = cc
open_other (opening.UnknownVersion version) e = cc
open_other opening.NoRoom e = cc
open_other opening.NoMemory e = cc

pub refused_other : {V : Type 0} (fault : HubFault V) → refused_status fault ≡ 2 → ⊥
refused_other (hubs.Open place fault vols) e = open_other fault e
refused_other (hubs.Conflict first second vols) e = cc
refused_other (hubs.NoMemory vols) e = cc

-- nothing is printed with another status than these
open_unprinted : (place : ℕ) (fault : OpenFault) (old new : SinkTold) → PrintsLine (open_line place fault) old new → (open_status fault ≡ 4 → ⊥) → (open_status fault ≡ 5 → ⊥) → new ≡ old
open_unprinted place opening.Fault old new h four five = absurd (four refl)
open_unprinted place (opening.Damaged file at) old new h four five = absurd (five refl)
open_unprinted place (opening.UnknownVersion version) old new h four five = absurd (five refl)
open_unprinted place opening.NoRoom old new h four five = absurd (four refl)
open_unprinted place opening.NoMemory old new h four five = h

pub refused_unprinted : {V : Type 0} (fault : HubFault V) (old new : SinkTold) → PrintsLine (refused_line fault) old new → (refused_status fault ≡ 4 → ⊥) → (refused_status fault ≡ 5 → ⊥) → new ≡ old
refused_unprinted (hubs.Open place fault vols) old new h four five = open_unprinted place fault old new h four five
refused_unprinted (hubs.Conflict first second vols) old new h four five = absurd (five refl)
refused_unprinted (hubs.NoMemory vols) old new h four five = h

-- ---- of the closing

flushed_other : (fault : PlaceFault) → flush_status fault ≡ 2 → ⊥
flushed_other (faults.NoMemory left) e = cc
flushed_other faults.StoreFault e = cc
flushed_other (faults.Stopped count) e = cc
flushed_other (faults.Gone kept) e = cc
flushed_other (faults.Worn refused) e = cc

-- the status is one of these
with_other : (served : Bool) (talked flushed status : ℕ) → (talked ≡ status → ⊥) → (flushed ≡ status → ⊥) → (7 ≡ status → ⊥) → status_with served talked flushed ≡ status → ⊥
with_other served talked flushed status t f seven e = first (talked == 0) e
  where
    second : (b : Bool) → (if b then 7 else talked) ≡ status → ⊥
    second true k = seven k
    second false k = t k

    first : (b : Bool) → (if b then flushed else if served && flushed == 7 then 7 else talked) ≡ status → ⊥
    first true k = f k
    first false k = second (served && flushed == 7) k

pub closing_other : (served : Bool) (talked : ℕ) (failed : Option (ℕ × PlaceFault)) → (talked ≡ 2 → ⊥) → closing_status served talked failed ≡ 2 → ⊥
closing_other served talked None t e = t e
closing_other served talked (Some failed) t e = with_other served talked (flush_status failed.1) 2 t (flushed_other failed.1) (λ k. cc) e

-- what is printed is printed with status 4
pub closing_unprinted : (served : Bool) (talked : ℕ) (failed : Option (ℕ × PlaceFault)) (old new : SinkTold) → PrintsLine (closing_line talked failed) old new
    → (closing_status served talked failed ≡ 4 → ⊥) → new ≡ old
closing_unprinted served talked None old new h four = h
closing_unprinted served talked (Some failed) old new h four = by (talked == 0) (flush_status failed.1 == 4) refl refl h
  where
    by : (b c : Bool) → (talked == 0) ≡ b → (flush_status failed.1 == 4) ≡ c → PrintsLine (if b && c then Some (disk_fault_line failed.0) else None) old new → new ≡ old
    by true true z f k = absurd (four (rw z (eqb-true (flush_status failed.1) 4 f)))
    by true false z f k = k
    by false c z f k = k

-- a stream that was refused gives the status
closing_refused : (served : Bool) (talked : ℕ) (failed : Option (ℕ × PlaceFault)) → served ≡ false → talked ≡ 11 → closing_status served talked failed ≡ 11
closing_refused served talked None s t = t
closing_refused served talked (Some failed) s t = rw (s, t) refl

-- that status comes of nothing else
pub refused_closing : (served : Bool) (talked : ℕ) (failed : Option (ℕ × PlaceFault)) → closing_status served talked failed ≡ 11 → talked ≡ 11
refused_closing served talked None e = e
refused_closing served talked (Some failed) e = first (talked == 0) e
  where
    never : (fault : PlaceFault) → flush_status fault ≡ 11 → ⊥
    never (faults.NoMemory left) k = cc
    never faults.StoreFault k = cc
    never (faults.Stopped count) k = cc
    never (faults.Gone kept) k = cc
    never (faults.Worn refused) k = cc

    second : (b : Bool) → (if b then 7 else talked) ≡ 11 → talked ≡ 11
    second true k = cc
    second false k = k

    first : (b : Bool) → (if b then flush_status failed.1 else if served && flush_status failed.1 == 7 then 7 else talked) ≡ 11 → talked ≡ 11
    first true k = absurd (never failed.1 k)
    first false k = second (served && flush_status failed.1 == 7) k

-- nothing is printed at the closing then
pub closing_silent : (talked : ℕ) (failed : Option (ℕ × PlaceFault)) (old new : SinkTold) → talked ≡ 11 → PrintsLine (closing_line talked failed) old new → new ≡ old
closing_silent talked None old new t h = h
closing_silent talked (Some failed) old new t h = rw t at h

-- ---- the whole

-- unless the stream was refused, and that gave the status, it was not refused
pub attended_unrefused : {V : Type 0} (Made : Solo V → List DeskEntry → Solo V → Type 0) (desk after : Solo V) (stream : Option NamedStream) (outcome : Outcome) (old new : Outside) (failed : Option (ℕ × PlaceFault))
    → IsAttendedOver Made desk after stream outcome old new → (closing_status outcome.served outcome.status failed ≡ 11 → ⊥) → outcome.status ≡ 11 → ⊥
attended_unrefused Made desk after stream outcome old new failed h not e =
    not (closing_refused outcome.served outcome.status failed (h.served_is ∙ unserved_refused desk.scene.world.places stream after.scene outcome.status old new h.attends e) e)

module _ {V : Type 0} (Opens : List V → Solo V → Type 0) (Refuses : List V → HubFault V → Type 0) (Made : Solo V → List DeskEntry → Solo V → Type 0) (Closes : Solo V → Closed V → Type 0) where
  -- no run of `pipe` ends with the status of another command line
  pub pipe_worded : (stream : Option NamedStream) (status : ℕ) (v0 v1 : List V) (old new : Outside) → PipeEnds Opens Refuses Made Closes stream status v0 v1 old new → status ≡ 2 → ⊥
  pipe_worded stream status v0 v1 old new (Starved h) e = omega (arith, h.status_is, e)
  pipe_worded stream status v0 v1 old new (Unopened h) e = refused_other h.fault (sym h.status_is ∙ e)
  pipe_worded stream status v0 v1 old new (Attended h) e =
      closing_other h.outcome.served h.outcome.status h.closed.failed
      (attends_worded h.desk.scene.world.places stream h.after.scene h.outcome.status old (record new { sink = h.sink }) h.attended.attends) (sym h.status_is ∙ e)
