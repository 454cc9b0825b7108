-- Laws of a making that was refused over places that never had a stream, though no volume failed: there was no place for the stream.
use Rattle.std.proofs.Common.{◌≡◌, ◌+◌, ℕ, zero, suc, Bool, true, false, List, [], ◌∷◌, ◌++◌, map, replicate, Option, Some, None, Result, Ok, ◌⊎◌, inl, inr, refl, sym, ◌∙◌, ap, subst, append_assoc, arith, if◌then◌else◌}
use Rattle.std.specs.Prelude.{slice_get, slice_set, IsSome, MatchOption}
use Rattle.js_base.specs.Bytes.{Bytes, same}
use Rattle.js_base.specs.declared.out.Out.{Out}
use Rattle.js_base.specs.declared.out.ApiError.{ApiError}
use Rattle.js_model.specs.declared.desk.PlaceAt.{PlaceAt}
use Rattle.js_model.specs.declared.event.Event.{Event}
use Rattle.js_model.specs.declared.event.What.TheVariants as whats
use Rattle.js_model.specs.declared.reply.Reply.{Reply}
use Rattle.js_model.specs.declared.reply.Reply.TheVariants as replies
use Rattle.js_model.specs.declared.stream.State.{State}
use Rattle.js_model.specs.declared.stream.State.TheVariants.{Vacant}
use Rattle.js_model.specs.declared.stream_config.StreamConfig.{StreamConfig}
use Rattle.js_model.specs.declared.reply.Answer.{Answer}
use Rattle.js_model.specs.declared.entry.PlaceEntry.{PlaceEntry}
use Rattle.js_model.specs.Catalog as catalog
use Rattle.js_model.specs.Events.{answered, IsEvent}
use Rattle.js_model.specs.PlaceStates.{PlaceIn, vacant_place}
use Rattle.js_model.specs.Refusals.{other_config, subjects_overlap, no_free_place, no_room, first_refusal}
use Rattle.js_model.specs.Runs.{RunFrom, is_few}
use Rattle.stream_config.specs.Defaults.{default_config}
use Rattle.js_api.specs.declared.fault.DeskFault.{DeskFault}
use Rattle.js_api.specs.declared.outcome.Became.{Became}
use Rattle.js_api.specs.declared.outcome.Became.TheVariants.{Made, Unsaid, Ticked, Nothing, Broke, Stopped, Gone}
use Rattle.js_api.specs.Entries.{DeskEntry, Looked, Held, Hold}
use Rattle.js_api.specs.Holding.{HoldsBy, IsHold, IsBrokenHold, Prepares, step}
use Rattle.js_api.specs.Leading.{Leads}
use Rattle.js_api.specs.Making.{MakesStream, MakesAt, GoesOnTaken, IsMaking, IsPreparing, refusal_in}
use Rattle.js_api.specs.OneStream.{IsAdding, free_unless_made}
use Rattle.js_api.specs.Rooms.{FindNoRoom}
use Rattle.js_api.specs.Stages.{Gives, Ending}
use Rattle.js_api.specs.Worlds.{Scene, SoloStep, kept_in, opening, is_broken}
use Rattle.server.specs.declared.words.NamedStream.{NamedStream}
use Rattle.server.specs.Lines.{number_line}
use Rattle.server.specs.Outside.{Outside, SinkTold, Prints}
use Rattle.server.specs.Preparing as preparing
use Rattle.server.specs.Running.{Attends, Awaited, Unmade, Unmakes}
use Rattle.server.specs.Laws.{AreUntroubled, HadRoom, HasPlace, LawWelcome}
use Rattle.server.specs.Attending.{prepared_entries, run_entries}
use Rattle.server.proofs.Ending.{unmade_refusal, waits_other}
use Rattle.server.proofs.Roomy.{AreWhole, IsRoomy, run_roomy, whole_front, whole_behind, whole_of}
use Rattle.server.proofs.Untroubled.{run_fit}
use Rattle.server.proofs.Slowed.{reaches}

-- no place is there, and that is why
pub record IsPlaceless (count : ℕ) (error : ApiError) : Type 0 where
  pub none : count ≡ 0
  pub error_is : error ≡ no_free_place

-- ---- the catalog of places that never had a stream

abbrev fresh : ℕ → catalog.Catalog
fresh count = replicate count catalog.new_place

-- the desk begins with it
begins : (count : ℕ) → catalog.catalog_of (map kept_in (replicate count vacant_place)) ≡ fresh count
begins zero = refl
begins (suc count) = ap (λ (c : catalog.Catalog). catalog.new_place ∷ c) (begins count)

none_named : (name : Bytes) (count n : ℕ) → catalog.first_place (λ k p. catalog.if_used (λ u. same u.name name) p.used) n (fresh count) ≡ None
none_named name zero n = refl
none_named name (suc count) n = none_named name count (n + 1)

none_met : (subjects : List Bytes) (count n : ℕ) → catalog.overlaps_at (λ k. true) subjects n (fresh count) ≡ false
none_met subjects zero n = refl
none_met subjects (suc count) n = none_met subjects count (n + 1)

-- a look-up changes nothing
looked : (name : Bytes) (told : catalog.CatTold) (c kept : catalog.Catalog) → catalog.IsCatalogCall c (catalog.ByName name) told kept → kept ≡ c
unfolding catalog.catalog_call
looked name told c kept (inl h) = sym (ap (λ (x : catalog.Cataloged). x.catalog) h)
looked name told c kept (inr h) = h.1

-- what the adding of a stream finds wrong
abbrev wrong : Bytes → List Bytes → ℕ → Option ApiError
wrong name subjects count = first_refusal (catalog.add_checks name subjects (fresh count))

first_of : (a b : Bool) (none : Bool) → a ≡ false → b ≡ false → (e f g : ApiError) → first_refusal ((a, e) ∷ (b, f) ∷ (none, g) ∷ []) ≡ (if none then Some g else None)
first_of true b none h k e f g = cc
first_of false true none h k e f g = cc
first_of false false none h k e f g = refl

there : (found : Option PlaceAt) → found ≡ None → catalog.is_there found ≡ false
there found e = ap catalog.is_there e

wrong_none : (name : Bytes) (subjects : List Bytes) (count : ℕ) → wrong name subjects (suc count) ≡ None
wrong_none name subjects count = first_of _ _ false (there _ (none_named name (suc count) 0)) (none_met subjects (suc count) 0) other_config subjects_overlap no_free_place

-- if there is a place, none is refused
added_first : (name : Bytes) (subjects : List Bytes) (count : ℕ) (e : ApiError) (kept : catalog.Catalog)
    → catalog.IsCatalogCall (fresh (suc count)) (catalog.Add name subjects) (catalog.Refused e) kept → ⊥
unfolding catalog.catalog_call
added_first name subjects count e kept (inl h) =
    let clash = ap (λ (x : catalog.Cataloged). x.told)
    (subst (λ (refused : Option ApiError). catalog.added name subjects (fresh (suc count)) refused ≡ catalog.telling (catalog.Refused e) kept) (wrong_none name subjects count) h)
    in cc
added_first name subjects count e kept (inr h) = let clash = h.0 in cc

-- if there is none, that is told
added_none : (name : Bytes) (subjects : List Bytes) (told : catalog.CatTold) (kept : catalog.Catalog)
    → catalog.IsCatalogCall (fresh 0) (catalog.Add name subjects) told kept → (told ≡ catalog.Refused no_free_place) ⊎ (told ≡ catalog.NoMemory)
unfolding catalog.catalog_call
added_none name subjects told kept (inl h) = inl (sym (ap (λ (x : catalog.Cataloged). x.told) h))
added_none name subjects told kept (inr h) = inr h.0

-- ---- the place

vacant_at : (count k : ℕ) (place : PlaceIn) → slice_get (replicate count vacant_place) k ≡ Some place → place ≡ vacant_place
vacant_at zero k place h = cc
vacant_at (suc count) zero place h = let e : vacant_place ≡ place = cc in sym e
vacant_at (suc count) (suc k) place h = vacant_at count k place h

-- a place that never had a stream refuses one only for want of room
made_there : (to : Option Bytes) (config : StreamConfig) (incarnation now : ℕ) (e : ApiError) (outs : List Out) (old new : State) → old ≡ Vacant 0
    → IsEvent old (record { incarnation = incarnation; what = whats.Make to config }) now (replies.Refused e) outs new → e ≡ no_room
unfolding answered
made_there to config incarnation now e outs old new vacant h =
    by h.room (subst (λ (s : State). answered s event now h.room ≡ record { reply = replies.Refused e; outs = outs; state = new }) vacant h.answers)
  where
    event : Event
    event = record { incarnation = incarnation; what = whats.Make to config }

    by : (room : Bool) → answered (Vacant 0) event now room ≡ record { reply = replies.Refused e; outs = outs; state = new } → e ≡ no_room
    by true k = let clash = ap (λ (a : Answer). a.reply) k in cc
    by false k = let is : replies.Refused no_room ≡ replies.Refused e = ap (λ (a : Answer). a.reply) k in cc

-- ---- the states of the places

-- each place never had a stream, and no message counts there
abbrev IsFresh : PlaceIn → Type 0
IsFresh place = (place.state ≡ Vacant 0) × (place.stored ≡ 0)

abbrev AreVacant : List PlaceIn → Type 0
AreVacant places = (k : ℕ) (place : PlaceIn) → slice_get places k ≡ Some place → IsFresh place

opened_vacant : (count : ℕ) → AreVacant (replicate count vacant_place)
opened_vacant count k place h = let same = vacant_at count k place h in (ap (λ (p : PlaceIn). p.state) same, ap (λ (p : PlaceIn). p.stored) same)

set_vacant : (places : List PlaceIn) (n : ℕ) (new : PlaceIn) → IsFresh new → AreVacant places → AreVacant (slice_set places n new)
set_vacant [] n new v h k place e = cc
set_vacant (first ∷ places) zero new v h zero place e = let same : new ≡ place = cc in subst IsFresh same v
set_vacant (first ∷ places) zero new v h (suc k) place e = h (suc k) place e
set_vacant (first ∷ places) (suc n) new v h zero place e = h zero place e
set_vacant (first ∷ places) (suc n) new v h (suc k) place e = set_vacant places n new v (λ i p g. h (suc i) p g) k place e

-- the volume was called before what was asked, or was not
prepared_vacant : (at : PlaceAt) (first : List DeskEntry) (old new : Scene) → Prepares at first → Leads SoloStep old first new → AreVacant old.world.places → AreVacant new.world.places
prepared_vacant at first old new (inl e) led h = let same : old ≡ new = subst (λ (es : List DeskEntry). Leads SoloStep old es new) e led in subst (λ (s : Scene). AreVacant s.world.places) same h
prepared_vacant at first old new (inr p) led h =
    let k = subst (λ (es : List DeskEntry). Leads SoloStep old es new) p.3 led in
    let a = k.1.0 in
    let was = h at.place a.place a.is_there in
    let set = set_vacant old.world.places at.place a.stirred (a.is_stirred.state ∙ was.0, a.is_stirred.stored ∙ was.1) h in
    subst (λ (s : Scene). AreVacant s.world.places) k.2 (subst AreVacant (sym a.places) set)

-- ---- the making at a place

refusing : (reply : Reply) (e : ApiError) → Some e ≡ refusal_in reply → (error : ApiError) × (reply ≡ replies.Refused error)
refusing (replies.Refused error) e h = (error, refl)
refusing _ e h = cc

given_so : (e : ApiError) (found : Option ApiError) (entries : List DeskEntry) → Gives found (Ok (Some e)) entries → Some e ≡ found
given_so e found entries h = let k = h.result_is in cc

module _ (at : PlaceAt) (config : StreamConfig) (now : ℕ) (e : ApiError) (old new : Scene) (vacant : AreVacant old.world.places) where
  held_there : (reply : Reply) (ready : Bool) (fault : Option DeskFault) (hold : Hold) (rest : List DeskEntry) → IsHold at (whats.Make None config) now reply ready fault hold
      → Some e ≡ refusal_in reply → IsRoomy (Held hold) → Leads SoloStep old (Held hold ∷ rest) new → ⊥
  held_there reply ready fault hold rest h making roomy run =
      let r = refusing reply e making in
      let a = run.1.0 in
      let was = vacant hold.at.place a.place a.is_there in
      let one = h.steps ∙ ap (λ (entries : List PlaceEntry). entries ++ step h.seat at (whats.Make None config) now reply h.outs h.unsaid) h.made_first in
      let steps = subst (λ (entries : List PlaceEntry). RunFrom a.place.stored hold.before entries hold.between) one a.held.steps in
      let event = subst (λ (x : Reply). IsEvent hold.before (record { incarnation = at.incarnation; what = whats.Make None config }) now x h.outs steps.0) r.1 steps.1.event in
      let short : r.0 ≡ no_room = made_there None config at.incarnation now r.0 h.outs hold.before steps.0 (sym a.held.was ∙ was.0) event in
      let found : FindNoRoom hold.steps = subst FindNoRoom (sym one) (inl (r.1 ∙ ap (λ (x : ApiError). replies.Refused x) short)) in
      roomy (ap is_few (sym a.held.counted ∙ was.1)) found

  broken_there : (stream : Bytes) (hold : Hold) → IsBrokenHold at (whats.Make None config) now stream hold → AreWhole (Held hold ∷ []) → ⊥
  broken_there stream hold h fit =
      let clash : true ≡ false = sym (ap (λ (entries : List PlaceEntry). is_broken (entries ++ hold.deliveries)) h.steps) ∙ fit.0.0.unbroken in cc

  became_there : (became : Became) (ready : Bool) (held rest ended : List DeskEntry) → HoldsBy became at (whats.Make None config) now ready None held
      → IsMaking became (Ok (Some e)) ended → AreWhole held → Leads SoloStep old (held ++ rest) new → ⊥
  became_there (Made reply) ready held rest ended h making fit run =
      held_there reply ready None h.0 rest h.2 (given_so e (refusal_in reply) ended making) (subst AreWhole h.1 fit).0.1 (subst (λ (es : List DeskEntry). Leads SoloStep old (es ++ rest) new) h.1 run)
  became_there (Unsaid refused) ready held rest ended h making fit run = making
  became_there Ticked ready held rest ended h making fit run = making
  became_there Nothing ready held rest ended h making fit run = making
  became_there (Broke stream) ready held rest ended h making fit run = broken_there stream h.0 h.2 (subst AreWhole h.1 fit)
  became_there (Stopped stream) ready held rest ended h making fit run = let k = subst AreWhole h.1 fit in k.0.0
  became_there Gone ready held rest ended h making fit run = making

  fault_there : (fault : Option DeskFault) (became : Became) (ready : Bool) (held rest ended : List DeskEntry) → HoldsBy became at (whats.Make None config) now ready fault held
      → Ending fault (IsMaking became) (Ok (Some e)) ended → AreWhole held → Leads SoloStep old (held ++ rest) new → ⊥
  fault_there None became ready held rest ended h making fit run = became_there became ready held rest ended h making fit run
  fault_there (Some fault) became ready held rest ended h making fit run = let clash = making.0 in cc

-- at the place that was taken it was not refused
not_refused_at : (at : PlaceAt) (config : StreamConfig) (now : ℕ) (e : ApiError) (old new : Scene) (entries : List DeskEntry) → AreVacant old.world.places
    → MakesAt config now at (Ok (Some e)) entries → AreWhole entries → Leads SoloStep old entries new → ⊥
not_refused_at at config now e old new entries vacant h fit run =
    let freed = free_unless_made at h.outcome.became ++ h.ended in
    let whole = subst AreWhole h.entries_are fit in
    let held = subst AreWhole h.holds.entries_are (whole_front h.held freed whole) in
    let first = h.holds.first in
    let more = h.holds.more in
    let are : entries ≡ first ++ (more ++ freed) =
    h.entries_are ∙ ap (λ (es : List DeskEntry). es ++ freed) h.holds.entries_are ∙ append_assoc first more freed
    in
    let r = reaches old new first (more ++ freed) (subst (λ (es : List DeskEntry). Leads SoloStep old es new) are run) in
    fault_there at config now e r.mid new (prepared_vacant at first old r.mid h.holds.prepares r.first vacant) h.outcome.fault h.outcome.became h.outcome.ready more freed h.ended h.holds.holds h.ends
    (whole_behind first more held) r.behind

-- ---- the making

refused_so : (count : ℕ) (name : Bytes) (subjects : List Bytes) (e f : ApiError) (kept : catalog.Catalog) → catalog.IsCatalogCall (fresh count) (catalog.Add name subjects) (catalog.Refused f) kept
    → Some e ≡ Some f → IsPlaceless count e
refused_so zero name subjects e f kept call same = record { none = refl; error_is = by (added_none name subjects (catalog.Refused f) kept call) }
  where
    by : (catalog.Refused f ≡ catalog.Refused no_free_place) ⊎ (catalog.Refused f ≡ catalog.NoMemory) → e ≡ no_free_place
    by (inl is) = let k : f ≡ no_free_place = cc in let j : e ≡ f = cc in j ∙ k
    by (inr is) = cc
refused_so (suc count) name subjects e f kept call same = absurd (added_first name subjects count f kept call)

added_so : (count : ℕ) (name : Bytes) (config : StreamConfig) (now : ℕ) (e : ApiError) (told : catalog.CatTold) (more : List DeskEntry) (old new : Scene)
    → catalog.IsCatalogCall (fresh count) (catalog.Add name config.subjects) told old.world.catalog → AreVacant old.world.places
    → GoesOnTaken config now told (Ok (Some e)) more → AreWhole more → Leads SoloStep old more new → IsPlaceless count e
added_so count name config now e (catalog.At (Some at)) more old new call vacant h fit run = absurd (not_refused_at at config now e old new more vacant h fit run)
added_so count name config now e (catalog.At None) more old new call vacant h fit run = absurd h
added_so count name config now e (catalog.Refused f) more old new call vacant h fit run = refused_so count name config.subjects e f old.world.catalog call (given_so e (Some f) more h)
added_so count name config now e catalog.NoMemory more old new call vacant h fit run = let clash = h.0 in cc
added_so count name config now e catalog.Done more old new call vacant h fit run = absurd h

adding : (count : ℕ) (name : Bytes) (config : StreamConfig) (now : ℕ) (e : ApiError) (entries : List DeskEntry) (old new : Scene) → old.world.catalog ≡ fresh count → AreVacant old.world.places
    → IsAdding name config (GoesOnTaken config now) (Ok (Some e)) entries → AreWhole entries → Leads SoloStep old entries new → IsPlaceless count e
adding count name config now e entries old new c vacant h fit run =
    let k = subst (λ (es : List DeskEntry). Leads SoloStep old es new) h.entries_are run in
    let whole = subst AreWhole h.entries_are fit in
    let call = subst (λ (d : catalog.Catalog). catalog.IsCatalogCall d (catalog.Add name config.subjects) h.added k.0.world.catalog) c k.1.0 in
    let places : k.0.world.places ≡ old.world.places = ap (λ (s : Scene). s.world.places) k.1.1 in
    added_so count name config now e h.added h.more k.0 new call (subst AreVacant (sym places) vacant) h.went_on whole.1 k.2

preparing_so : (count : ℕ) (name : Bytes) (config : StreamConfig) (now : ℕ) (e : ApiError) (entries : List DeskEntry) (old new : Scene) → old.world.catalog ≡ fresh count → AreVacant old.world.places
    → IsPreparing name config now (Ok (Some e)) entries → AreWhole entries → Leads SoloStep old entries new → IsPlaceless count e
preparing_so count name config now e entries old new c vacant (inl h) fit run = let clash = h.result_is in cc
preparing_so count name config now e entries old new c vacant (inr g) fit run =
    let are : entries ≡ g.more = g.entries_are ∙ ap (λ (es : List DeskEntry). es ++ g.more) g.first_is.1 in
    adding count name g.given now e g.more old new c vacant g.next_is (subst AreWhole are fit) (subst (λ (es : List DeskEntry). Leads SoloStep old es new) are run)

found_so : (count : ℕ) (name : Bytes) (config : StreamConfig) (now : ℕ) (e : ApiError) (found : Option PlaceAt) (more : List DeskEntry) (old new : Scene) → old.world.catalog ≡ fresh count
    → AreVacant old.world.places → MatchOption found (IsPreparing name config now (Ok (Some e)) more) (λ at. Gives None (Ok (Some e)) more) → AreWhole more → Leads SoloStep old more new → IsPlaceless count e
found_so count name config now e None more old new c vacant h fit run = preparing_so count name config now e more old new c vacant h fit run
found_so count name config now e (Some at) more old new c vacant h fit run = let clash = h.result_is in cc

named_so : (count : ℕ) (name : Bytes) (config : StreamConfig) (now : ℕ) (e : ApiError) (entries : List DeskEntry) (old new : Scene) → old.world.catalog ≡ fresh count → AreVacant old.world.places
    → MakesStream name config now (Ok (Some e)) entries → AreWhole entries → Leads SoloStep old entries new → IsPlaceless count e
named_so count name config now e entries old new c vacant (inl h) fit run = let clash = h.result_is in cc
named_so count name config now e entries old new c vacant (inr g) fit run =
    let are : entries ≡ Looked false (catalog.ByName name) (catalog.At g.given) ∷ g.more = g.entries_are ∙ ap (λ (es : List DeskEntry). es ++ g.more) g.first_is in
    let k = subst (λ (es : List DeskEntry). Leads SoloStep old es new) are run in
    let whole = subst AreWhole are fit in
    let kept : k.0.world.catalog ≡ old.world.catalog = looked name (catalog.At g.given) old.world.catalog k.0.world.catalog k.1.0 in
    let places : k.0.world.places ≡ old.world.places = ap (λ (s : Scene). s.world.places) k.1.1 in
    found_so count name config now e g.given g.more k.0 new (kept ∙ c) (subst AreVacant (sym places) vacant) g.next_is whole.1 k.2

-- a making over a desk that was just opened is refused only there
pub placeless : (count : ℕ) (name : Bytes) (config : StreamConfig) (now : ℕ) (e : ApiError) (entries : List DeskEntry) (new : Scene)
    → MakesStream name config now (Ok (Some e)) entries → Leads SoloStep (opening (replicate count vacant_place)) entries new → AreUntroubled new.world
    → HadRoom (replicate count vacant_place) entries new.world.places → IsPlaceless count e
placeless count name config now e entries new h run u room =
    let old = opening (replicate count vacant_place) in
    named_so count name config now e entries old new (begins count) (opened_vacant count) h (whole_of entries (run_fit old new entries run u) (run_roomy old new entries run room)) run

-- ---- the run

-- the stream was named
refused_placeless : (count : ℕ) (stream : Option NamedStream) (result : Result (Option ApiError) DeskFault) (error : ApiError) (c0 c1 : Option (List ℕ)) (after : Scene)
    → (h : preparing.Prepares (replicate count vacant_place) stream result c0 c1 after) → result ≡ Ok (Some error) → AreUntroubled after.world
    → HadRoom (replicate count vacant_place) (prepared_entries (replicate count vacant_place) stream result c0 c1 after h) after.world.places → IsPlaceless count error × IsSome stream
refused_placeless count None result error c0 c1 after h e u room = let clash = sym h.0 ∙ e in absurd (cc)
refused_placeless count (Some stream) result error c0 c1 after h e u room =
    let config = default_config stream.name stream.subject in
    let makes = subst (λ (r : Result (Option ApiError) DeskFault). MakesStream stream.name config h.moment r h.entries) e h.makes in
    (placeless count stream.name config h.moment error h.entries after makes h.led u room, refl)

printed_so : (result : Result (Option ApiError) DeskFault) (error : ApiError) (status : ℕ) (old new : SinkTold) → Unmakes result status old new → result ≡ Ok (Some error) → Prints (number_line error.err_code) old new
printed_so result error status old new h e = let k = subst (λ (r : Result (Option ApiError) DeskFault). Unmakes r status old new) e h in k.1

pub refused_over : (count : ℕ) (stream : Option NamedStream) (after : Scene) (status : ℕ) (old new : Outside) (attends : Attends (replicate count vacant_place) stream after status old new)
    → status ≡ 11 → AreUntroubled after.world → HadRoom (replicate count vacant_place) (run_entries (replicate count vacant_place) stream after status old new attends) after.world.places
    → IsSome stream × (count ≡ 0) × Prints (number_line 20007) old.sink new.sink
refused_over count stream after status old new (Unmade h) eleven u room =
    let refusal = unmade_refusal h.result status old.sink new.sink h.unmade eleven in
    let k = refused_placeless count stream h.result refusal.error old.clock new.clock after h.prepared refusal.is u room in (
      k.1,
      k.0.none,
      subst (λ (e : ApiError). Prints (number_line e.err_code) old.sink new.sink) k.0.error_is (printed_so h.result refusal.error status old.sink new.sink h.unmade refusal.is),
    )
refused_over count stream after status old new (Awaited h) eleven u room = absurd ((waits_other h.scene after status old.door new.door h.rest new.clock h.waits).stream eleven)

-- ---- the law

has_place : (count : ℕ) (stream : Option NamedStream) → HasPlace count stream → IsSome stream → count ≡ 0 → ⊥
has_place count None place some none = cc
has_place count (Some stream) place some none = omega (arith, place, none)

pub welcome : LawWelcome
welcome count None place = tt
welcome count (Some stream) place = λ error c0 c1 after making u room.
    let k = refused_placeless count (Some stream) (Ok (Some error)) error c0 c1 after making refl u room in has_place count (Some stream) place refl k.0.none
