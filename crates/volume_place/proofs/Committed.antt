-- What a commit comes to that is not made, or is made in the log or in the next one.
use Rattle.std.proofs.Common.{◌≡◌, ◌≢◌, ◌-◌, ◌^◌, inl, inr, ℕ, Bool, true, false, List, Some, Result, Ok, Err, refl, ap, sym, subst, ◌∙◌}
use Rattle.std.specs.Prelude.{◌↔◌, IsErrOf, IsTrue, MatchBool, not, unwrap_or}
use Rattle.std.proofs.Math.Nat.{le_refl}
use Rattle.std.proofs.lemmas.Bool.{true≢false}
use Rattle.effects.specs.declared.durable.Durable.{Durable}
use Rattle.effects.specs.declared.effect.Effect.{Effect}
use Rattle.gate_log.specs.LogState.{LogState, with_batch}
use Rattle.vol_disk.specs.Clock.{IsClocked}
use Rattle.vol_disk.specs.Disk.{Disk}
use Rattle.stream_store.specs.Alternating.{IsLong, next_log}
use Rattle.stream_store.specs.Committing.{CommitsOrNot, batch_length}
use Rattle.stream_store.specs.Rooms.{HasLogRoom}
use Rattle.stream_store.specs.StoreState.{StoreState}
use Rattle.stream_store.specs.declared.fault.CommitFault.{CommitFault}
use Rattle.stream_store.specs.declared.fault.CommitFault.TheVariants.{Fault, NoMemory, Worn}
use Rattle.stream_store.proofs.Committing.{commits_nothing}
use Rattle.volume_place.specs.Committed.{Commits, LeavesBoth}
use Rattle.volume_place.specs.Leaving.{GoesTo, IsLastLog, IsLeft, IsLeftBy}

-- ---- one answer is not another

pub not_done : (done : Unit {0}) (other : CommitFault) → IsErrOf {T = Unit {0}} {E = CommitFault} (Ok done) other → ⊥
not_done done other is = cc

pub not_worn : IsErrOf {T = Unit {0}} {E = CommitFault} (Err Fault) Worn → ⊥
not_worn is = cc

pub not_memory : IsErrOf {T = Unit {0}} {E = CommitFault} (Err Fault) NoMemory → ⊥
not_memory is = cc

module _ {V : Type 0} (told : Type 0) (disk : V → Disk) (faults refusals : V → ℕ) (effects : List Effect) (bound : ℕ) (next : Durable) (store : StoreState) (vol : V) where
  -- ---- nothing is written

  module _ (clocked : IsClocked (disk vol)) where
    unwritten : CommitsOrNot store effects (disk vol) (disk vol)
    unwritten base there is_base is_next = commits_nothing store.log store.blocks base there (disk vol) is_base.of_log clocked

    same : LeavesBoth store store vol vol
    same = record { store_is = refl; vol_is = refl }

    pub starves : Commits told disk faults refusals effects bound next (Err NoMemory) store store vol vol
    starves = record {
      committed = λ t. tt;
      goes = tt;
      fewer = tt;
      reserved = tt;
      any_moment = λ t. unwritten;
      generations = le_refl (unwrap_or store.log.head 0);
      worn = λ is. absurd (unlike_worn is);
      last = λ l. inr refl;
      worn_leaves = λ is. same;
      no_memory = λ is. same;
      cause = record { later = le_refl (faults vol); failed = λ is. absurd (unlike_fault is) };
      refusals_later = le_refl (refusals vol);
      later = le_refl (disk vol).moment;
    }
      where
        unlike_fault : IsErrOf {T = Unit {0}} {E = CommitFault} (Err NoMemory) Fault → ⊥
        unlike_fault is = cc

        unlike_worn : IsErrOf {T = Unit {0}} {E = CommitFault} (Err NoMemory) Worn → ⊥
        unlike_worn is = cc

    -- the call left both as they were
    pub starves_as : (after : StoreState) (new : V) → new ≡ vol → after ≡ store → Commits told disk faults refusals effects bound next (Err NoMemory) store after vol new
    starves_as after new vol_is store_is =
        subst (λ (v : V). Commits told disk faults refusals effects bound next (Err NoMemory) store after vol v) (sym vol_is)
        (subst (λ (s : StoreState). Commits told disk faults refusals effects bound next (Err NoMemory) store s vol vol) (sym store_is) starves)

    pub wears : IsLastLog store effects bound → Commits told disk faults refusals effects bound next (Err Worn) store store vol vol
    wears last = record {
      committed = λ t. tt;
      goes = tt;
      fewer = tt;
      reserved = tt;
      any_moment = λ t. unwritten;
      generations = le_refl (unwrap_or store.log.head 0);
      worn = λ is. last;
      last = λ l. inl refl;
      worn_leaves = λ is. same;
      no_memory = λ is. same;
      cause = record { later = le_refl (faults vol); failed = λ is. absurd (unlike_fault is) };
      refusals_later = le_refl (refusals vol);
      later = le_refl (disk vol).moment;
    }
      where
        unlike_fault : IsErrOf {T = Unit {0}} {E = CommitFault} (Err Worn) Fault → ⊥
        unlike_fault is = cc

  -- the records are told in another way
  pub commits_as : (others : List Effect) (result : Result (Unit {0}) CommitFault) (after : StoreState) (new : V) → effects ≡ others
      → Commits told disk faults refusals effects bound next result store after vol new → Commits told disk faults refusals others bound next result store after vol new
  commits_as others result after new are = subst (λ (l : List Effect). Commits told disk faults refusals l bound next result store after vol new) are

-- ---- in which log

module _ (store : StoreState) (count bound : ℕ) where
  -- there is no room
  pub left_full : (has : Bool) → has ≡ false → IsTrue has ↔ HasLogRoom store.log store.rooms count → IsLeftBy store count bound
  left_full has so told = inr (λ room. true≢false (sym (told.1 room) ∙ so))

  -- it would be long
  pub left_long : (is : Bool) → is ≡ true → IsTrue is ↔ IsLong store.log count bound → IsLeftBy store count bound
  left_long is so told = inl (told.0 so)

  -- neither
  pub stays_by : (has is : Bool) → has ≡ true → IsTrue has ↔ HasLogRoom store.log store.rooms count → is ≡ false → IsTrue is ↔ IsLong store.log count bound → ¬ IsLeftBy store count bound
  stays_by has is so told short told_long (inl long) = true≢false (sym (told_long.1 long) ∙ short)
  stays_by has is so told short told_long (inr none) = none (told.0 so)

  -- there is room, and it would be long or not
  pub tells_long : (has is : Bool) → has ≡ true → IsTrue has ↔ HasLogRoom store.log store.rooms count → IsTrue is ↔ IsLong store.log count bound
      → MatchBool (not is) (¬ IsLeftBy store count bound) (IsLeftBy store count bound)
  tells_long has true so room long = left_long true refl long
  tells_long has false so room long = stays_by has false so room refl long

module _ (store : StoreState) (effects : List Effect) (bound : ℕ) where
  -- it is left for the next one
  pub goes_over : (next there : Durable) (log : LogState) → IsLeft store effects bound → there ≡ next → log ≡ next_log store effects there → GoesTo store effects bound next log
  goes_over next there log left same is = record {
    left = λ l. is ∙ ap (next_log store effects) same;
    stays = λ stays. absurd (stays left);
  }

  -- or goes on
  pub goes_on : ¬ IsLeft store effects bound → (next : Durable) (log : LogState) → log ≡ with_batch store.log (batch_length effects) → GoesTo store effects bound next log
  goes_on stays next log is = record { left = λ left. absurd (stays left); stays = λ s. is }

  pub not_last : (generation : ℕ) → store.log.head ≡ Some generation → generation ≢ 2 ^ 62 - 1 → ¬ IsLastLog store effects bound
  not_last generation head other last = other (some_is (sym head ∙ last.last))
    where
      some_is : Some generation ≡ Some (2 ^ 62 - 1) → generation ≡ 2 ^ 62 - 1
      some_is e = cc
