-- Laws of runs over places in memory.
use Rattle.std.proofs.Common.{◌≡◌, ◌+◌, ℕ, zero, suc, Bool, true, false, List, [], ◌∷◌, Option, Some, None, Result, Ok, Err, length, map, replicate, refl, ap, sym, subst, ◌∙◌, arith, inl, inr}
use Rattle.std.specs.List.{All, AllZip}
use Rattle.std.proofs.lemmas.Slice.Zip.{AllZip-long}
use Rattle.std.proofs.lemmas.List.Elements.{All-cons, All-nil, same_from_all_zip}
use Rattle.js_base.specs.Bytes.{Bytes}
use Rattle.js_model.specs.PlaceStates.{PlaceIn, in_memory, vacant_place}
use Rattle.place_engine.specs.InMemory.{Contents, bases_on_nothing, counts_none, holds_nothing, leaves_nothing, never_short, opens_vacant, reads_nothing, refuses_in_memory}
use Rattle.place_engine.specs.declared.faults.PlaceFault.{PlaceFault}
use Rattle.place_engine.specs.declared.faults.PlaceFault.TheVariants as faults
use Rattle.place_engine.specs.Flushing.{EndsFlush}
use Rattle.catalog.specs.Conflicts.{conflict_at, conflicts, kept_at}
use Rattle.desk_places.specs.Closing as closing
use Rattle.desk_places.specs.Closing.{End, first_failure}
use Rattle.desk_places.specs.Places.{places_by}
use Rattle.desk_places.specs.Opening as opening
use Rattle.js_desk.specs.Solo.{Solo}
use Rattle.desk_places.specs.declared.faults.Closed.{Closed}
use Rattle.desk_places.specs.declared.faults.HubFault.TheVariants as hubs
use Rattle.js_model.specs.declared.stream.State.{State}
use Rattle.js_model.specs.declared.entry.PlaceEntry.{PlaceEntry}
use Rattle.js_model.specs.declared.entry.PlaceEntry.TheVariants.{Step, Deliver, Broken}
use Rattle.js_api.specs.Entries.{DeskEntry, Routed, Looked, Turned, Resumed, Held, Stirred, Halted, Missed, Spent}
use Rattle.js_api.specs.Rooms.{AreOutgrown, SomeOutgrows}
use Rattle.js_api.specs.Worlds.{Scene, kept_in}
use Rattle.server.specs.declared.words.NamedStream.{NamedStream}
use Rattle.server.specs.Closing.{flush_status}
use Rattle.server.specs.Refusing.{open_status}
use Rattle.server.specs.Ending.{Starved, Unopened, Attended}
use Rattle.server.specs.Attending.{run_entries}
use Rattle.server.specs.Laws.{AreUntroubled, AreWithin, HadRoom, IsFlushed, IsUnrefused, IsUntroubled, IsWelcome}
use Rattle.server.specs.Lines.{number_line}
use Rattle.server.specs.Memory.{IsPlaceless, LawMayOpen, LawPlaceless, LawUnchanged, LawUntroubled, LawWelcoming, Keeps, Leaves, Made, Opens, place_of, volume_of}
use Rattle.server.specs.Outside.{Outside, SinkTold, Prints}
use Rattle.server.specs.Running.{Attends}
use Rattle.server.proofs.Ended.{closing_silent, refused_closing}
use Rattle.server.proofs.Keeping.{kept}
use Rattle.server.proofs.Placeless.{refused_over, welcome}
use Rattle.server.proofs.Rising.{IsNoLess, leads_later, refusals_grow, refusals_of}

-- ---- what is opened

both : {X : Type 0} (a b : X) (xs ys : List X) → a ≡ b → xs ≡ ys → ◌≡◌ {A = List X} (a ∷ xs) (b ∷ ys)
both a b xs ys e f = rw (e, f) refl

abbrev OpensOn : {V : Type 0} → V → Contents V → Type 0
OpensOn = opening.OpensOn place_of volume_of holds_nothing reads_nothing leaves_nothing counts_none counts_none never_short bases_on_nothing opens_vacant refuses_in_memory Keeps

-- each is a place that never had a stream
opened_vacant : {V : Type 0} (vols : List V) (row : List (Contents V)) → AllZip (OpensOn {V = V}) vols row → places_by place_of row ≡ replicate (length vols) vacant_place
opened_vacant [] [] h = refl
opened_vacant [] (p ∷ row) h = absurd h
opened_vacant (v ∷ vols) [] h = absurd h
opened_vacant (v ∷ vols) (p ∷ row) h =
    both (in_memory p.state) vacant_place (places_by place_of row) (replicate (length vols) vacant_place) (ap in_memory h.0.opened.state) (opened_vacant vols row h.1)

places_vacant : {V : Type 0} (vols : List V) (desk : Solo V) → Opens vols desk → desk.scene.world.places ≡ replicate (length vols) vacant_place
places_vacant vols desk h = ap (λ (s : Scene). s.world.places) h.scene ∙ opened_vacant vols h.row h.opened

pub welcoming : {V : Type 0} → LawWelcoming V
welcoming vols stream place desk h = subst (λ (ps : List PlaceIn). IsWelcome ps stream) (sym (places_vacant vols desk h)) (welcome (length vols) stream place)

-- none of them kept a stream
kept_nothing : (count n : ℕ) → kept_at (map kept_in (replicate count vacant_place)) n ≡ None
kept_nothing zero n = refl
kept_nothing (suc count) zero = refl
kept_nothing (suc count) (suc n) = kept_nothing count n

no_conflict : (count first second : ℕ) → conflict_at (map kept_in (replicate count vacant_place)) first second ≡ true → ⊥
no_conflict count first second h =
    let other = kept_at (map kept_in (replicate count vacant_place)) second in
    let clash : conflicts None other ≡ true = subst (λ (one : Option (Bytes × List Bytes)). conflicts one other ≡ true) (kept_nothing count first) h in cc

pub may_open : {V : Type 0} → LawMayOpen V
may_open vols after (hubs.Open place _ back) h e = ap open_status h.refused.refused
may_open vols after (hubs.Conflict first second back) h e =
    absurd (no_conflict (length vols) first second
    (subst (λ (ps : List PlaceIn). conflict_at (map kept_in ps) first second ≡ true) (opened_vacant vols h.row h.lets_go.opened) h.conflict.is_behind.conflict))
may_open vols after (hubs.NoMemory back) h e = refl

-- ---- what is left at the closing

-- what holds of each place in memory
all_in_memory : {V : Type 0} (P : PlaceIn → Type 0) → ((place : Contents V) → P (in_memory place.state)) → (row : List (Contents V)) → All P (places_by place_of row)
all_in_memory P each [] = All-nil P
all_in_memory P each (place ∷ row) = All-cons P (in_memory place.state) (places_by place_of row) (each place) (all_in_memory P each row)

places_untroubled : {V : Type 0} (desk : Solo V) (closed : Closed V) → Leaves desk closed → AreUntroubled desk.scene.world
places_untroubled desk closed h =
    subst (λ (ps : List PlaceIn). All IsUntroubled ps) h.stand (all_in_memory IsUntroubled (λ place. record { going = refl; generation = omega arith }) h.row)

-- only memory may be wanting for a flush
flush_fault : {V : Type 0} (fault : PlaceFault) (p q : Contents V) → EndsFlush (Err fault) (place_of p) (place_of q) → flush_status fault ≡ 7
flush_fault (faults.NoMemory left) p q h = refl
flush_fault faults.StoreFault p q h = let rose = h.cause in absurd (omega (arith, rose))
flush_fault (faults.Stopped count) p q h = let clash = h.stopped in cc
flush_fault (faults.Gone kept) p q h = absurd h
flush_fault (faults.Worn refused) p q h = absurd (omega (arith, h.last))

module _ {V : Type 0} where
  abbrev EndsSo : Contents V → Option (Result (Unit {0}) PlaceFault) → V → Type 0
  EndsSo = closing.EndsSo place_of volume_of holds_nothing reads_nothing leaves_nothing counts_none bases_on_nothing Keeps

  abbrev EndsAt : Contents V → End V → Type 0
  EndsAt = closing.EndsAt place_of volume_of holds_nothing reads_nothing leaves_nothing counts_none bases_on_nothing Keeps

  flushed_first : (from : ℕ) (p : Contents V) (told : Option (Result (Unit {0}) PlaceFault)) (end : V) (more : List (Option (Result (Unit {0}) PlaceFault)))
      → EndsSo p told end → IsFlushed (first_failure (from + 1) more) → IsFlushed (first_failure from (told ∷ more))
  flushed_first from p None end more h rest = rest
  flushed_first from p (Some (Ok done)) end more h rest = rest
  flushed_first from p (Some (Err fault)) end more h rest = flush_fault fault p h.0 h.1.flushes.ends

  flushed_from : (from : ℕ) (row : List (Contents V)) (ends : List (End V)) → AllZip EndsAt row ends → IsFlushed (first_failure from (map (λ (e : End V). e.told) ends))
  flushed_from from [] [] h = tt
  flushed_from from [] (e ∷ ends) h = absurd h
  flushed_from from (p ∷ row) [] h = absurd h
  flushed_from from (p ∷ row) (e ∷ ends) h = flushed_first from p e.told e.vol (map (λ (o : End V). o.told) ends) h.0.ends (flushed_from (from + 1) row ends h.1)

places_flushed : {V : Type 0} (desk : Solo V) (closed : Closed V) → Leaves desk closed → IsFlushed closed.failed
places_flushed desk closed h = subst IsFlushed (sym h.closes.failed_is) (flushed_from 0 h.row h.closes.ends h.closes.ended)

-- nothing is told of volumes, so that no count of theirs rises
unrefused : {V : Type 0} (first last : List (Contents V)) → length (places_by place_of first) ≡ length (places_by place_of last)
    → AllZip IsUnrefused (places_by place_of first) (places_by place_of last)
unrefused [] [] e = tt
unrefused [] (q ∷ last) e = absurd (cc)
unrefused (p ∷ first) [] e = absurd (cc)
unrefused (p ∷ first) (q ∷ last) e = ((λ rose. omega (arith, rose)), unrefused first last (omega (arith, e)))

-- and no log is outgrown
within : (entries : List DeskEntry) → AreOutgrown (λ state what. ⊥) entries → AreWithin entries
within [] h = tt
within (Routed call told ∷ more) h = (tt, within more h.1)
within (Looked joined call told ∷ more) h = (tt, within more h.1)
within (Turned after found ∷ more) h = (tt, within more h.1)
within (Resumed last ∷ more) h = (tt, within more h.1)
within (Held hold ∷ more) h = (by hold.outgrows h.0, within more h.1)
  where
    nowhere : (old : State) (steps : List PlaceEntry) → SomeOutgrows (λ state what. ⊥) old steps → ⊥
    nowhere old [] k = k
    nowhere old (Step seat e now reply outs unsaid ∷ rest) (inl k) = k
    nowhere old (Step seat e now reply outs unsaid ∷ rest) (inr k) = nowhere old rest k
    nowhere old (Deliver seat now listening d outs ∷ rest) k = nowhere old rest k
    nowhere old (Broken seat now call ∷ rest) k = nowhere old rest k

    by : (outgrows : Bool) → (outgrows ≡ true → SomeOutgrows (λ state what. ⊥) hold.before hold.steps) → outgrows ≡ false
    by true k = absurd (nowhere hold.before hold.steps (k refl))
    by false k = refl
within (Stirred at before after failed ∷ more) h = (tt, within more h.1)
within (Halted at state ∷ more) h = (tt, within more h.1)
within (Missed at other ∷ more) h = (tt, within more h.1)
within (Spent number ∷ more) h = (tt, within more h.1)

had_room : {V : Type 0} (vols : List V) (desk after : Solo V) (entries : List DeskEntry) (closed : Closed V) → Opens vols desk → Made desk entries after → Leaves after closed
    → HadRoom desk.scene.world.places entries after.scene.world.places
had_room vols desk after entries closed o made c =
    let opened : desk.scene.world.places ≡ places_by place_of o.row = ap (λ (s : Scene). s.world.places) o.scene in
    let long : length desk.scene.world.places ≡ length after.scene.world.places =
    sym (AllZip-long (IsNoLess refusals_of refusals_grow) desk.scene.world.places after.scene.world.places (leads_later refusals_of refusals_grow desk.scene after.scene entries made.0))
    in
    record {
      unrefused = subst (λ (ps : List PlaceIn). AllZip IsUnrefused ps after.scene.world.places) (sym opened)
          (subst (λ (ps : List PlaceIn). AllZip IsUnrefused (places_by place_of o.row) ps) c.stand
          (unrefused o.row c.row (ap (λ (ps : List PlaceIn). length ps) (sym opened) ∙ long ∙ ap (λ (ps : List PlaceIn). length ps) (sym c.stand))));
      within = within entries made.3;
    }

pub untroubled : {V : Type 0} → LawUntroubled V
untroubled stream status v0 v1 old new (Starved h) = tt
untroubled stream status v0 v1 old new (Unopened h) = tt
untroubled stream status v0 v1 old new (Attended h) = (
  places_untroubled h.after h.closed h.closes,
  had_room v0 h.desk h.after (run_entries h.desk.scene.world.places stream h.after.scene h.outcome.status old (record new { sink = h.sink }) h.attended.attends) h.closed h.opens h.attended.made h.closes,
  places_flushed h.after h.closed h.closes,
)

-- ---- a stream that is refused

placeless_over : {V : Type 0} (vols : List V) (desk after : Solo V) (stream : Option NamedStream) (status : ℕ) (old new : Outside) → Opens vols desk
    → (attends : Attends desk.scene.world.places stream after.scene status old new) → status ≡ 11 → AreUntroubled after.scene.world
    → HadRoom desk.scene.world.places (run_entries desk.scene.world.places stream after.scene status old new attends) after.scene.world.places → IsPlaceless stream vols old.sink new.sink
placeless_over vols desk after stream status old new opens attends eleven u room =
    by desk.scene.world.places (places_vacant vols desk opens) attends room
  where
    by : (places : List PlaceIn) → places ≡ replicate (length vols) vacant_place → (attends : Attends places stream after.scene status old new)
        → HadRoom places (run_entries places stream after.scene status old new attends) after.scene.world.places → IsPlaceless stream vols old.sink new.sink
    by places same =
        subst (λ (ps : List PlaceIn). (attends : Attends ps stream after.scene status old new) → HadRoom ps (run_entries ps stream after.scene status old new attends) after.scene.world.places
        → IsPlaceless stream vols old.sink new.sink) (sym same)
        (λ attends room. let k = refused_over (length vols) stream after.scene status old new attends eleven u room in record { named = k.0; none = k.1; printed = k.2 })

pub placeless : {V : Type 0} → LawPlaceless V
placeless stream v0 v1 old new (Starved h) = absurd (omega (arith, h.status_is))
placeless stream v0 v1 old new (Unopened h) = absurd (omega (arith, h.status_is, may_open v0 v1 h.fault h.refused h.vols))
placeless stream v0 v1 old new (Attended h) =
    let eleven : h.outcome.status ≡ 11 = refused_closing h.outcome.served h.outcome.status h.closed.failed (sym h.status_is) in
    let k = placeless_over v0 h.desk h.after stream h.outcome.status old (record new { sink = h.sink }) h.opens h.attended.attends eleven (places_untroubled h.after h.closed h.closes)
    (had_room v0 h.desk h.after (run_entries h.desk.scene.world.places stream h.after.scene h.outcome.status old (record new { sink = h.sink }) h.attended.attends) h.closed h.opens h.attended.made h.closes) in
    let same : new.sink ≡ h.sink = closing_silent h.outcome.status h.closed.failed h.sink new.sink eleven h.printed in
    record { named = k.named; none = k.none; printed = subst (λ (s : SinkTold). Prints (number_line 20007) old.sink s) (sym same) k.printed }

-- ---- the volumes

pub unchanged : {V : Type 0} → LawUnchanged V
unchanged {V = V} stream status v0 v1 old new run =
    same_from_all_zip (Keeps {V = V}) v0 v1
    (kept place_of volume_of holds_nothing reads_nothing leaves_nothing counts_none counts_none never_short bases_on_nothing opens_vacant refuses_in_memory Keeps (λ v. refl) (λ a b c first more. more ∙ first) stream status v0 v1 old new run)
    (λ a b same. same)
