use Rattle.std.proofs.Common.{inl, inr, ℕ, List, [], length, None, Some, Err, ap, refl, sym, subst, ◌∙◌, rules}
use Rattle.std.proofs.Math.Nat.{le_refl}
use Rattle.effects.specs.Durables.{durable_of}
use Rattle.effects.specs.declared.effect.Effect.{Effect}
use Rattle.place_engine.specs.Following.{followed}
use Rattle.place_records.specs.Records.{effects_in}
use Rattle.stream_store.specs.declared.fault.CommitFault.{CommitFault}
use Rattle.snapshot_bound.specs.Bounds.{bound_with}
use Rattle.volume_place.specs.Leaving.{GoesTo, IsLeft}
use Rattle.volume_place.specs.declared.volume_place.VolumePlace.TheView.{view}
use Rattle.volume_place.proofs.Brought.{brings_none, brought_blocks, places_of, unbrought, unbrought_blocks, unbrought_sound, stands_still, fits, formed_of, storable_of, records_of, brings, brought_sound, fails, stopped_sound, time_goes_on, wears}
use Rattle.volume_place.proofs.Dated.{dated_as}
use Rattle.volume_place.proofs.Empty.{nothing_in, something_in}
use Rattle.volume_place.proofs.Left.{goes_as, left_as}
use Rattle.volume_place.proofs.Moved.{joined, unmoved}
use Rattle.volume_place.proofs.Reserving.{brought_reserve, enough, failed_reserve, has_message_room, may_begin, reserve_as}
use Rattle.volume_place.proofs.volume_place.VolumePlace.bring.Goals as goal

pub take-requires : goal.take-requires
take-requires g c = search rules

pub is_empty-requires : goal.is_empty-requires
is_empty-requires g c κs = search rules

pub records-requires : goal.records-requires
records-requires g c = search rules

pub clear-requires : goal.clear-requires
clear-requires g c = search rules

pub switch_way-1 : goal.switch_way-1
switch_way-1 g c = search rules

pub enum_told_along-1 : goal.enum_told_along-1
enum_told_along-1 g c = search rules

pub enum_told_along-in-Err-Fault : goal.enum_told_along-in-Err-Fault
enum_told_along-in-Err-Fault g c = search rules

pub faults-requires : goal.faults-requires
faults-requires g c κs = search rules

pub invariant_of-self : goal.invariant_of-self
invariant_of-self g c =
    let V = g.V.Vol in
    let x = view _ V c.self.inside in
    let going = rw (← c.self.view_is) at c.requires.going in
    let same = unmoved c.take.new.self c.self.inside.tail c.take.new.made c.self.inside.made c.in_default.ensures.err c.in_default.ensures.made_left in (
      unbrought_sound V.told V.disk V.faults V.refusals g.met.V.Vol.clocked x going c.self.invariant.0 x.store x.vol (followed c.take.new.self (effects_in c.take.new.made)) refl refl same,
      unbrought_blocks x.store x.store x.waiting (followed c.take.new.self (effects_in c.take.new.made)) x.stored x.stopped refl same c.self.invariant.1,
      dated_as (followed c.take.new.self (effects_in c.take.new.made)) x.waiting x.since same c.self.invariant.2,
      reserve_as V.told V.disk x.vol x.store x.waiting x.stopped x.fixed x.state c.self.invariant.3 x.vol x.store (followed c.take.new.self (effects_in c.take.new.made)) refl refl same,
    )

pub returns-in_default-clause-brings : goal.returns-in_default-clause-brings
returns-in_default-clause-brings g c =
    let V = g.V.Vol in
    let x = view _ V c.self.inside in
    let going = rw (← c.self.view_is) at c.requires.going in
    let same = unmoved c.take.new.self c.self.inside.tail c.take.new.made c.self.inside.made c.in_default.ensures.err c.in_default.ensures.made_left in
    rw (← c.self.view_is)
    (unbrought V.told V.disk V.faults V.refusals g.met.V.Vol.clocked x going c.self.invariant.0 x.store x.vol (followed c.take.new.self (effects_in c.take.new.made)) refl refl same)

pub returns-in_default-clause-log : goal.returns-in_default-clause-log
returns-in_default-clause-log g c = tt

pub returns-in_default-clause-tail : goal.returns-in_default-clause-tail
returns-in_default-clause-tail g c =
    let x = view _ g.V.Vol c.self.inside in
    let same = unmoved c.take.new.self c.self.inside.tail c.take.new.made c.self.inside.made c.in_default.ensures.err c.in_default.ensures.made_left in
    rw (← c.self.view_is) (inr (same, refl))

pub returns-in_default-clause-time : goal.returns-in_default-clause-time
returns-in_default-clause-time g c =
    let V = g.V.Vol in
    let x = view _ V c.self.inside in
    let going = rw (← c.self.view_is) at c.requires.going in
    rw (← c.self.view_is)
    (stands_still V.told V.disk V.faults V.refusals g.met.V.Vol.clocked x going c.self.invariant.0 (followed c.take.new.self (effects_in c.take.new.made)))

pub invariant_of-self-then-is_empty : goal.invariant_of-self-then-is_empty
invariant_of-self-then-is_empty g c =
    let V = g.V.Vol in
    let x = view _ V c.self.inside in
    let going = rw (← c.self.view_is) at c.requires.going in
    let same = joined c.take.new.self c.take.new.made x.waiting c.in-Ok.ensures.ok c.in-Ok.ensures.none in (
      unbrought_sound V.told V.disk V.faults V.refusals g.met.V.Vol.clocked x going c.self.invariant.0 x.store x.vol (followed c.take.new.self (effects_in c.take.new.made)) refl refl same,
      unbrought_blocks x.store x.store x.waiting (followed c.take.new.self (effects_in c.take.new.made)) x.stored x.stopped refl same c.self.invariant.1,
      dated_as (followed c.take.new.self (effects_in c.take.new.made)) x.waiting x.since same c.self.invariant.2,
      reserve_as V.told V.disk x.vol x.store x.waiting x.stopped x.fixed x.state c.self.invariant.3 x.vol x.store (followed c.take.new.self (effects_in c.take.new.made)) refl refl same,
    )

pub returns-then-is_empty-clause-brings : goal.returns-then-is_empty-clause-brings
returns-then-is_empty-clause-brings g c =
    let V = g.V.Vol in
    let x = view _ V c.self.inside in
    let going = rw (← c.self.view_is) at c.requires.going in
    let given = c.take.new.self in
    let none = nothing_in (length c.records.result.now) given (ap (λ (l : List Effect). length l) c.records.ensures.value) c.if-is_empty.ensures in
    let same = joined c.take.new.self c.take.new.made x.waiting c.in-Ok.ensures.ok c.in-Ok.ensures.none in
    rw (← c.self.view_is)
    (brings_none V.told V.disk V.faults V.refusals g.met.V.Vol.clocked x going c.self.invariant.0 (followed c.take.new.self (effects_in c.take.new.made))
    (sym c.in-Ok.ensures.ok ∙ none) (joined given c.take.new.made [] none c.in-Ok.ensures.none))

pub returns-then-is_empty-clause-log : goal.returns-then-is_empty-clause-log
returns-then-is_empty-clause-log g c = rw (← c.self.view_is) (inl refl)

pub returns-then-is_empty-clause-tail : goal.returns-then-is_empty-clause-tail
returns-then-is_empty-clause-tail g c =
    let x = view _ g.V.Vol c.self.inside in
    let same = joined c.take.new.self c.take.new.made x.waiting c.in-Ok.ensures.ok c.in-Ok.ensures.none in
    rw (← c.self.view_is) (inr (same, refl))

pub returns-then-is_empty-clause-time : goal.returns-then-is_empty-clause-time
returns-then-is_empty-clause-time g c =
    let V = g.V.Vol in
    let x = view _ V c.self.inside in
    let going = rw (← c.self.view_is) at c.requires.going in
    rw (← c.self.view_is)
    (stands_still V.told V.disk V.faults V.refusals g.met.V.Vol.clocked x going c.self.invariant.0 (followed c.take.new.self (effects_in c.take.new.made)))

pub commit-requires-clause-records : goal.commit-requires-clause-records
commit-requires-clause-records g c =
    let V = g.V.Vol in
    let x = view _ V c.self.inside in
    let going = rw (← c.self.view_is) at c.requires.going in
    let are = c.in-Ok.ensures.ok in
    records_of V.told V.disk V.faults V.refusals g.met.V.Vol.clocked x going c.self.invariant.0 c.take.new.self are

pub commit-requires-clause-fits : goal.commit-requires-clause-fits
commit-requires-clause-fits g c =
    let V = g.V.Vol in
    let x = view _ V c.self.inside in
    let going = rw (← c.self.view_is) at c.requires.going in
    let are = c.in-Ok.ensures.ok in
    λ told. fits V.told V.disk V.faults V.refusals g.met.V.Vol.clocked x going c.self.invariant.0 c.take.new.self are told

pub commit-requires-clause-formed : goal.commit-requires-clause-formed
commit-requires-clause-formed g c =
    let V = g.V.Vol in
    let x = view _ V c.self.inside in
    let going = rw (← c.self.view_is) at c.requires.going in
    formed_of V.told V.disk V.faults V.refusals g.met.V.Vol.clocked x going c.self.invariant.0

pub commit-requires-clause-storable : goal.commit-requires-clause-storable
commit-requires-clause-storable g c =
    let V = g.V.Vol in
    let x = view _ V c.self.inside in
    let going = rw (← c.self.view_is) at c.requires.going in
    storable_of V.told V.disk V.faults V.refusals g.met.V.Vol.clocked x going c.self.invariant.0

pub commit-requires-clause-room : goal.commit-requires-clause-room
commit-requires-clause-room g c =
    let V = g.V.Vol in
    let x = view _ V c.self.inside in
    let going = rw (← c.self.view_is) at c.requires.going in
    let are = c.in-Ok.ensures.ok in
    places_of x.store.blocks c.take.new.self x.waiting x.stored x.stopped going c.self.invariant.1 are

pub bound_with-bound-requires : goal.bound_with-bound-requires
bound_with-bound-requires g c = record { known = c.self.invariant.3.fixed_fits; bounded = c.self.invariant.0.bounded }

pub commit-requires-clause-within : goal.commit-requires-clause-within
commit-requires-clause-within g c =
    let V = g.V.Vol in
    let x = view _ V c.self.inside in
    let going = rw (← c.self.view_is) at c.requires.going in
    may_begin V.told V.disk x.vol x.store x.waiting x.stopped x.fixed x.state c.self.invariant.3 going c.bound_with-bound.result c.bound_with-bound.ensures.value
    (storable_of V.told V.disk V.faults V.refusals g.met.V.Vol.clocked x going c.self.invariant.0)

pub commit-requires-clause-reserved : goal.commit-requires-clause-reserved
commit-requires-clause-reserved g c =
    let V = g.V.Vol in
    let x = view _ V c.self.inside in
    let going = rw (← c.self.view_is) at c.requires.going in
    let some = something_in (length c.records.result.now) c.take.new.self (ap (λ (l : List Effect). length l) c.records.ensures.value) c.if-is_empty.ensures in
    enough V.told V.disk x.vol x.store x.waiting x.stopped x.fixed x.state c.self.invariant.3 going c.take.new.self c.in-Ok.ensures.ok c.bound_with-bound.result
    c.bound_with-bound.ensures.value some

pub commit-requires-clause-message_room : goal.commit-requires-clause-message_room
commit-requires-clause-message_room g c =
    let V = g.V.Vol in
    let x = view _ V c.self.inside in
    let going = rw (← c.self.view_is) at c.requires.going in
    λ told. has_message_room V.told V.disk x.vol x.store x.waiting x.stopped x.fixed x.state c.self.invariant.3 going c.take.new.self c.in-Ok.ensures.ok told

pub invariant_of-self-in-Ok-commit : goal.invariant_of-self-in-Ok-commit
invariant_of-self-in-Ok-commit g c =
    let V = g.V.Vol in
    let x = view _ V c.self.inside in
    let going = rw (← c.self.view_is) at c.requires.going in
    let are = c.in-Ok.ensures.ok in
    let nothing = joined c.clear.new.self c.take.new.made [] c.clear.ensures.none c.in-Ok.ensures.none in (
      brought_sound V.told V.disk V.faults V.refusals g.met.V.Vol.clocked x going c.self.invariant.0 c.take.new.self are c.commit.new.vol c.commit.new.store
          c.in-Ok-commit.ensures.commits.committed (followed c.clear.new.self (effects_in c.take.new.made)) nothing,
      brought_blocks x.store.blocks c.commit.new.store c.take.new.self (followed c.clear.new.self (effects_in c.take.new.made)) x.waiting x.stored x.stopped going c.self.invariant.1 are
          nothing c.in-Ok-commit.ensures.commits.fewer,
      dated_as (followed c.clear.new.self (effects_in c.take.new.made)) [] None nothing refl,
      brought_reserve V.told V.disk x.vol x.store x.waiting x.stopped x.fixed x.state c.self.invariant.3 going c.commit.new.vol c.commit.new.store (followed c.clear.new.self (effects_in c.take.new.made))
          c.bound_with-bound.result c.bound_with-bound.ensures.value nothing c.in-Ok-commit.ensures.commits.reserved,
    )

pub returns-in-Ok-commit-clause-brings : goal.returns-in-Ok-commit-clause-brings
returns-in-Ok-commit-clause-brings g c =
    let V = g.V.Vol in
    let x = view _ V c.self.inside in
    let going = rw (← c.self.view_is) at c.requires.going in
    let are = c.in-Ok.ensures.ok in
    let nothing = joined c.clear.new.self c.take.new.made [] c.clear.ensures.none c.in-Ok.ensures.none in
    rw (← c.self.view_is)
    (brings V.told V.disk V.faults V.refusals g.met.V.Vol.clocked x going c.self.invariant.0 c.take.new.self are c.commit.new.vol c.commit.new.store
    c.in-Ok-commit.ensures.commits.committed (followed c.clear.new.self (effects_in c.take.new.made)) nothing)

pub returns-in-Ok-commit-clause-log : goal.returns-in-Ok-commit-clause-log
returns-in-Ok-commit-clause-log g c =
    let x = view _ g.V.Vol c.self.inside in
    rw (← c.self.view_is) (inr (goes_as x.store c.take.new.self x.waiting (bound_with x.fixed x.state) (durable_of x.state) c.commit.new.store.log c.in-Ok.ensures.ok
    (subst (λ (n : ℕ). GoesTo x.store c.take.new.self n (durable_of x.state) c.commit.new.store.log) c.bound_with-bound.ensures.value c.in-Ok-commit.ensures.commits.goes)))

pub returns-in-Ok-commit-clause-tail : goal.returns-in-Ok-commit-clause-tail
returns-in-Ok-commit-clause-tail g c =
    let x = view _ g.V.Vol c.self.inside in
    let same = joined c.clear.new.self c.take.new.made [] c.clear.ensures.none c.in-Ok.ensures.none in
    rw (← c.self.view_is) (inl (same, refl))

pub returns-in-Ok-commit-clause-time : goal.returns-in-Ok-commit-clause-time
returns-in-Ok-commit-clause-time g c =
    let V = g.V.Vol in
    let x = view _ V c.self.inside in
    let going = rw (← c.self.view_is) at c.requires.going in
    let are = c.in-Ok.ensures.ok in
    rw (← c.self.view_is)
    (time_goes_on V.told V.disk V.faults V.refusals g.met.V.Vol.clocked x going c.self.invariant.0 c.take.new.self are c.commit.new.vol
    c.commit.ensures.commits.later c.commit.ensures.commits.any_moment
    (view _ V (record c.self.inside { store = c.commit.new.store; vol = c.commit.new.vol; tail = c.clear.new.self; made = c.take.new.made; since = None }))
    refl refl c.commit.ensures.commits.generations c.commit.ensures.commits.cause.later c.commit.ensures.commits.refusals_later)

pub invariant_of-self-in-Err-NoMemory : goal.invariant_of-self-in-Err-NoMemory
invariant_of-self-in-Err-NoMemory g c =
    let V = g.V.Vol in
    let x = view _ V c.self.inside in
    let going = rw (← c.self.view_is) at c.requires.going in
    let same = joined c.commit.new.tail c.take.new.made x.waiting (c.commit.ensures.same ∙ c.in-Ok.ensures.ok) c.in-Ok.ensures.none in
    let kept = c.in-Err-NoMemory.ensures.commits.no_memory (ap (λ (f : CommitFault). Err f) c.in-Err-NoMemory.field-0-is) in (
      unbrought_sound V.told V.disk V.faults V.refusals g.met.V.Vol.clocked x going c.self.invariant.0 c.commit.new.store c.commit.new.vol
          (followed c.commit.new.tail (effects_in c.take.new.made)) kept.store_is kept.vol_is same,
      unbrought_blocks x.store c.commit.new.store x.waiting (followed c.commit.new.tail (effects_in c.take.new.made)) x.stored x.stopped kept.store_is same c.self.invariant.1,
      dated_as (followed c.commit.new.tail (effects_in c.take.new.made)) x.waiting x.since same c.self.invariant.2,
      reserve_as V.told V.disk x.vol x.store x.waiting x.stopped x.fixed x.state c.self.invariant.3 c.commit.new.vol c.commit.new.store (followed c.commit.new.tail (effects_in c.take.new.made)) kept.vol_is kept.store_is same,
    )

pub returns-in-Err-NoMemory-clause-brings : goal.returns-in-Err-NoMemory-clause-brings
returns-in-Err-NoMemory-clause-brings g c =
    let V = g.V.Vol in
    let x = view _ V c.self.inside in
    let going = rw (← c.self.view_is) at c.requires.going in
    let same = joined c.commit.new.tail c.take.new.made x.waiting (c.commit.ensures.same ∙ c.in-Ok.ensures.ok) c.in-Ok.ensures.none in
    let kept = c.in-Err-NoMemory.ensures.commits.no_memory (ap (λ (f : CommitFault). Err f) c.in-Err-NoMemory.field-0-is) in
    rw (← c.self.view_is)
    (unbrought V.told V.disk V.faults V.refusals g.met.V.Vol.clocked x going c.self.invariant.0 c.commit.new.store c.commit.new.vol
    (followed c.commit.new.tail (effects_in c.take.new.made)) kept.store_is kept.vol_is same)

pub returns-in-Err-NoMemory-clause-log : goal.returns-in-Err-NoMemory-clause-log
returns-in-Err-NoMemory-clause-log g c = tt

pub returns-in-Err-NoMemory-clause-tail : goal.returns-in-Err-NoMemory-clause-tail
returns-in-Err-NoMemory-clause-tail g c =
    let x = view _ g.V.Vol c.self.inside in
    let same = joined c.commit.new.tail c.take.new.made x.waiting (c.commit.ensures.same ∙ c.in-Ok.ensures.ok) c.in-Ok.ensures.none in
    rw (← c.self.view_is) (inr (same, refl))

pub returns-in-Err-NoMemory-clause-time : goal.returns-in-Err-NoMemory-clause-time
returns-in-Err-NoMemory-clause-time g c =
    let V = g.V.Vol in
    let x = view _ V c.self.inside in
    let going = rw (← c.self.view_is) at c.requires.going in
    let are = c.in-Ok.ensures.ok in
    rw (← c.self.view_is)
    (time_goes_on V.told V.disk V.faults V.refusals g.met.V.Vol.clocked x going c.self.invariant.0 c.take.new.self are c.commit.new.vol
    c.commit.ensures.commits.later c.commit.ensures.commits.any_moment
    (view _ V (record c.self.inside { store = c.commit.new.store; vol = c.commit.new.vol; tail = c.commit.new.tail; made = c.take.new.made }))
    refl refl c.commit.ensures.commits.generations c.commit.ensures.commits.cause.later c.commit.ensures.commits.refusals_later)

pub invariant_of-self-in-Err-Worn : goal.invariant_of-self-in-Err-Worn
invariant_of-self-in-Err-Worn g c =
    let V = g.V.Vol in
    let x = view _ V c.self.inside in
    let going = rw (← c.self.view_is) at c.requires.going in
    let same = joined c.commit.new.tail c.take.new.made x.waiting (c.commit.ensures.same ∙ c.in-Ok.ensures.ok) c.in-Ok.ensures.none in
    let kept = c.in-Err-Worn.ensures.commits.worn_leaves (ap (λ (f : CommitFault). Err f) c.in-Err-Worn.field-0-is) in (
      unbrought_sound V.told V.disk V.faults V.refusals g.met.V.Vol.clocked x going c.self.invariant.0 c.commit.new.store c.commit.new.vol
          (followed c.commit.new.tail (effects_in c.take.new.made)) kept.store_is kept.vol_is same,
      unbrought_blocks x.store c.commit.new.store x.waiting (followed c.commit.new.tail (effects_in c.take.new.made)) x.stored x.stopped kept.store_is same c.self.invariant.1,
      dated_as (followed c.commit.new.tail (effects_in c.take.new.made)) x.waiting x.since same c.self.invariant.2,
      reserve_as V.told V.disk x.vol x.store x.waiting x.stopped x.fixed x.state c.self.invariant.3 c.commit.new.vol c.commit.new.store (followed c.commit.new.tail (effects_in c.take.new.made)) kept.vol_is kept.store_is same,
    )

pub returns-in-Err-Worn-clause-brings : goal.returns-in-Err-Worn-clause-brings
returns-in-Err-Worn-clause-brings g c =
    let V = g.V.Vol in
    let x = view _ V c.self.inside in
    let going = rw (← c.self.view_is) at c.requires.going in
    let same = joined c.commit.new.tail c.take.new.made x.waiting (c.commit.ensures.same ∙ c.in-Ok.ensures.ok) c.in-Ok.ensures.none in
    let is = ap (λ (f : CommitFault). Err f) c.in-Err-Worn.field-0-is in
    let kept = c.in-Err-Worn.ensures.commits.worn_leaves is in
    rw (← c.self.view_is)
    (wears V.told V.disk V.faults V.refusals g.met.V.Vol.clocked x going c.self.invariant.0 c.commit.new.store c.commit.new.vol
    (followed c.commit.new.tail (effects_in c.take.new.made)) kept.store_is kept.vol_is same (c.in-Err-Worn.ensures.commits.worn is).last)

pub returns-in-Err-Worn-clause-log : goal.returns-in-Err-Worn-clause-log
returns-in-Err-Worn-clause-log g c =
    let x = view _ g.V.Vol c.self.inside in
    let same = joined c.commit.new.tail c.take.new.made x.waiting (c.commit.ensures.same ∙ c.in-Ok.ensures.ok) c.in-Ok.ensures.none in
    let is = ap (λ (f : CommitFault). Err f) c.in-Err-Worn.field-0-is in
    let kept = c.in-Err-Worn.ensures.commits.worn_leaves is in
    left_as x.store c.commit.new.store c.take.new.self (followed c.commit.new.tail (effects_in c.take.new.made)) (bound_with x.fixed x.state) kept.store_is (same ∙ sym c.in-Ok.ensures.ok)
    (subst (IsLeft x.store c.take.new.self) c.bound_with-bound.ensures.value (c.in-Err-Worn.ensures.commits.worn is).left)

pub returns-in-Err-Worn-clause-tail : goal.returns-in-Err-Worn-clause-tail
returns-in-Err-Worn-clause-tail g c =
    let x = view _ g.V.Vol c.self.inside in
    let same = joined c.commit.new.tail c.take.new.made x.waiting (c.commit.ensures.same ∙ c.in-Ok.ensures.ok) c.in-Ok.ensures.none in
    rw (← c.self.view_is) (inr (same, refl))

pub returns-in-Err-Worn-clause-time : goal.returns-in-Err-Worn-clause-time
returns-in-Err-Worn-clause-time g c =
    let V = g.V.Vol in
    let x = view _ V c.self.inside in
    let going = rw (← c.self.view_is) at c.requires.going in
    let are = c.in-Ok.ensures.ok in
    rw (← c.self.view_is)
    (time_goes_on V.told V.disk V.faults V.refusals g.met.V.Vol.clocked x going c.self.invariant.0 c.take.new.self are c.commit.new.vol
    c.commit.ensures.commits.later c.commit.ensures.commits.any_moment
    (view _ V (record c.self.inside { store = c.commit.new.store; vol = c.commit.new.vol; tail = c.commit.new.tail; made = c.take.new.made }))
    refl refl c.commit.ensures.commits.generations c.commit.ensures.commits.cause.later c.commit.ensures.commits.refusals_later)

pub invariant_of-self-in-Err-Fault : goal.invariant_of-self-in-Err-Fault
invariant_of-self-in-Err-Fault g c =
    let V = g.V.Vol in
    let x = view _ V c.self.inside in
    let going = rw (← c.self.view_is) at c.requires.going in
    let are = c.in-Ok.ensures.ok in
    let same = joined c.commit.new.tail c.take.new.made x.waiting (c.commit.ensures.same ∙ c.in-Ok.ensures.ok) c.in-Ok.ensures.none in (
      stopped_sound V.told V.disk V.faults V.refusals g.met.V.Vol.clocked x going c.self.invariant.0 c.take.new.self are c.commit.new.vol
          c.commit.ensures.commits.later c.commit.ensures.commits.any_moment c.commit.new.store (followed c.commit.new.tail (effects_in c.take.new.made))
          c.faults.result same,
      tt,
      dated_as (followed c.commit.new.tail (effects_in c.take.new.made)) x.waiting x.since same c.self.invariant.2,
      failed_reserve V.told V.disk x.vol x.store x.waiting x.stopped x.fixed x.state c.self.invariant.3 c.commit.new.vol c.commit.new.store (followed c.commit.new.tail (effects_in c.take.new.made))
          c.faults.result x.fixed c.self.invariant.3.fixed_is (le_refl x.fixed),
    )

pub returns-in-Err-Fault-clause-brings : goal.returns-in-Err-Fault-clause-brings
returns-in-Err-Fault-clause-brings g c =
    let V = g.V.Vol in
    let x = view _ V c.self.inside in
    let going = rw (← c.self.view_is) at c.requires.going in
    let are = c.in-Ok.ensures.ok in
    rw (← c.self.view_is)
    (fails V.told V.disk V.faults V.refusals g.met.V.Vol.clocked x going c.self.invariant.0 c.take.new.self are c.commit.new.vol c.commit.ensures.commits.later
    c.commit.ensures.commits.any_moment c.commit.new.store (followed c.commit.new.tail (effects_in c.take.new.made)) c.faults.result
    c.faults.ensures.value (c.in-Err-Fault.ensures.commits.cause.failed (ap (λ (f : CommitFault). Err f) c.in-Err-Fault.field-0-is)))

pub returns-in-Err-Fault-clause-log : goal.returns-in-Err-Fault-clause-log
returns-in-Err-Fault-clause-log g c = tt

pub returns-in-Err-Fault-clause-tail : goal.returns-in-Err-Fault-clause-tail
returns-in-Err-Fault-clause-tail g c =
    let x = view _ g.V.Vol c.self.inside in
    let same = joined c.commit.new.tail c.take.new.made x.waiting (c.commit.ensures.same ∙ c.in-Ok.ensures.ok) c.in-Ok.ensures.none in
    rw (← c.self.view_is) (inr (same, refl))

pub returns-in-Err-Fault-clause-time : goal.returns-in-Err-Fault-clause-time
returns-in-Err-Fault-clause-time g c =
    let V = g.V.Vol in
    let x = view _ V c.self.inside in
    let going = rw (← c.self.view_is) at c.requires.going in
    let are = c.in-Ok.ensures.ok in
    rw (← c.self.view_is)
    (time_goes_on V.told V.disk V.faults V.refusals g.met.V.Vol.clocked x going c.self.invariant.0 c.take.new.self are c.commit.new.vol
    c.commit.ensures.commits.later c.commit.ensures.commits.any_moment
    (view _ V (record c.self.inside { store = c.commit.new.store; vol = c.commit.new.vol; tail = c.commit.new.tail; made = c.take.new.made; stopped = Some c.faults.result }))
    refl refl c.commit.ensures.commits.generations c.commit.ensures.commits.cause.later c.commit.ensures.commits.refusals_later)
