-- An image that holds something is not damaged, and the first fault of a volume is one.
use Rattle.std.proofs.Common.{◌≡◌, ◌⊎◌, inl, inr, ℕ, List, [], refl, sym, ap, ◌∙◌, subst}
use Rattle.std.specs.Prelude.{IsSome}
use Rattle.vol_disk.specs.Disk.{Files}
use Rattle.js_base.specs.Bytes.{Bytes}
use Rattle.gate_log.specs.Faults.{IsDamagedAt}
use Rattle.gate_log.proofs.OneReading.{law}
use Rattle.effects.specs.Folding.{vacant}
use Rattle.effects.specs.declared.durable.Durable.{Durable}
use Rattle.block_table.specs.Blocks.{Blocks, no_blocks}
use Rattle.block_reading.specs.Damage.{AreDamaged}
use Rattle.block_reading.specs.Standing.{AreStoredIn}
use Rattle.block_reading.proofs.OneReading.{law_stored}
use Rattle.log_records.specs.Batches.{Gives}
use Rattle.log_records.specs.Logged.{Logged}
use Rattle.log_records.specs.Unread.{unread, stored_messages}
use Rattle.log_records.proofs.OneBad.{law_batches}
use Rattle.log_records.proofs.OneReading.{gives_same}
use Rattle.stream_store.specs.Logs.{LogIn, HasLogs, current, current_file}
use Rattle.stream_store.specs.Holding.{Holds, last_of, logged}
use Rattle.stream_store.specs.Damage.{IsSomeLog, IsBadLog, IsBadLogged, IsBadVolume, HasBadBlocks, IsUnopenable, IsDamaged, IsOfAnotherVersion}
use Rattle.stream_store.specs.Untouched.{IsNoneOpen, IsUntouched}
use Rattle.durable_checks.specs.Storable.{IsOpenable}
use Rattle.stream_store.specs.Laws.{LawHolding}
use Rattle.stream_store.proofs.OneReading.{log_same, holds_same, known, one_log_fault, last_unread, told_unread, read_one}
use Rattle.stream_store.proofs.Vacant.{IsOnePlace, holds_nothing, none_batches, none_begun, not_touched, nothing_stored, one_touched, vacant_opens}

not_bad_log : (image : Files) (zero one : LogIn) (file at : ℕ) → HasLogs image zero one → IsBadLog image file (λ bytes. IsDamagedAt bytes at) → ⊥
not_bad_log image zero one file at h bad = go bad.which
  where
    go : ((file ≡ 0) × IsDamagedAt (image 0) at) ⊎ ((file ≡ 1) × (IsSomeLog (image 0) × IsDamagedAt (image 1) at)) → ⊥
    go (inl (is, damage)) = law.whole (image 0) zero.generation zero.batches at h.in_zero damage
    go (inr (is, (log, damage))) = law.whole (image 1) one.generation one.batches at h.in_one damage

-- ---- what is told of one list of batches

module _ (image : Files) (log : ℕ) (batches : List Bytes) where
  -- blocks that have the messages are not damaged
  stored_whole : (b : Blocks) (d : Durable) (file at : ℕ) → Gives batches (logged d b) → AreStoredIn image b (last_of d) (stored_messages d) → HasBadBlocks image batches file at → ⊥
  stored_whole b d file at gives stored bad =
      let same : bad.given ≡ logged d b = gives_same batches bad.given (logged d b) bad.gives gives in
      let damaged = subst (λ (g : Logged). AreDamaged image g.blocks (last_of g.durable) (stored_messages g.durable) file at) same bad.damaged in
      law_stored.whole image b (last_of d) (stored_messages (unread d)) (stored_messages d) file at stored (told_unread d)
      (subst (λ (n : ℕ). AreDamaged image b n (stored_messages (unread d)) file at) (last_unread d) damaged)

  none_bad : (b : Blocks) (d : Durable) (file at : ℕ) → Gives batches (logged d b) → AreStoredIn image b (last_of d) (stored_messages d) → IsOpenable d → IsBadLogged image log batches file at → ⊥
  none_bad b d file at gives stored openable (inl (is, inl bad)) = law_batches.whole batches (logged d b) at gives bad
  none_bad b d file at gives stored openable (inl (is, inr u)) =
      let same : d ≡ u.d = read_one image batches b u.b d u.d gives (law_batches.last batches (logged u.d u.b) at u.last) stored u.stored in
      u.bad (subst IsOpenable same openable)
  none_bad b d file at gives stored openable (inr bad) = stored_whole b d file at gives stored bad

  one_blocks : (file other at place : ℕ) → HasBadBlocks image batches file at → HasBadBlocks image batches other place → IsOnePlace file other at place
  one_blocks file other at place g h =
      let same : g.given ≡ h.given = gives_same batches g.given h.given g.gives h.gives in
      let damaged = subst (λ (x : Logged). AreDamaged image x.blocks (last_of x.durable) (stored_messages x.durable) file at) same g.damaged in
      record {
        files = law_stored.one_file image h.given.blocks (last_of h.given.durable) (stored_messages h.given.durable) file other at place damaged h.damaged;
        offsets = law_stored.one_offset image h.given.blocks (last_of h.given.durable) (stored_messages h.given.durable) file other at place damaged h.damaged;
      }

  opens_none : (at : ℕ) (u : IsUnopenable image batches at) → Gives batches (logged u.d u.b)
  opens_none at u = law_batches.last batches (logged u.d u.b) at u.last

  one_logged : (file other at place : ℕ) → IsBadLogged image log batches file at → IsBadLogged image log batches other place → IsOnePlace file other at place
  one_logged file other at place (inl (is, inl g)) (inl (too, inl h)) = record { files = is ∙ sym too; offsets = law_batches.one_offset batches at place g h }
  one_logged file other at place (inl (is, inl g)) (inl (too, inr u)) = absurd (law_batches.whole batches (logged u.d u.b) at (opens_none place u) g)
  one_logged file other at place (inl (is, inl g)) (inr h) = absurd (law_batches.whole batches h.given at h.gives g)
  one_logged file other at place (inl (is, inr u)) (inl (too, inl h)) = absurd (law_batches.whole batches (logged u.d u.b) place (opens_none at u) h)
  one_logged file other at place (inl (is, inr u)) (inl (too, inr v)) = record { files = is ∙ sym too; offsets = law_batches.one_last batches (logged u.d u.b) (logged v.d v.b) at place u.last v.last }
  one_logged file other at place (inl (is, inr u)) (inr h) = absurd (stored_whole u.b u.d other place (opens_none at u) u.stored h)
  one_logged file other at place (inr g) (inl (too, inl h)) = absurd (law_batches.whole batches g.given place g.gives h)
  one_logged file other at place (inr g) (inl (too, inr v)) = absurd (stored_whole v.b v.d file at (opens_none place v) v.stored g)
  one_logged file other at place (inr g) (inr h) = one_blocks file other at place g h

-- ---- what is told of an image

pub no_damage : (image : Files) (d : Durable) (file at : ℕ) → Holds image d → IsDamaged image file at → ⊥
no_damage image d file at (b, h) (inl bad) = not_bad_log image h.zero h.one file at h.logs bad
no_damage image d file at (b, h) (inr (inr missing)) = go h.begun
  where
    go : IsSome (current h.zero h.one).generation ⊎ IsUntouched image → ⊥
    go (inl some) = none_begun image missing.none h.zero h.one h.logs some
    go (inr untouched) = not_touched image file at untouched missing.touched
no_damage image d file at (b, h) (inr (inl bad)) =
    let zero = log_same (image 0) h.zero bad.zero h.logs.in_zero bad.logs.in_zero in
    let one = log_same (image 1) h.one bad.one h.logs.in_one bad.logs.in_one in
    let log : current h.zero h.one ≡ current bad.zero bad.one = ap (λ (l : LogIn). current l h.one) zero ∙ ap (λ (l : LogIn). current bad.zero l) one in
    none_bad image (current_file bad.zero bad.one) (current bad.zero bad.one).batches b d file at (subst (λ (l : LogIn). Gives l.batches (logged d b)) log h.gives) h.stored h.openable bad.bad

-- without batches nothing is wrong with what a log tells
none_bad_there : (image : Files) (file at : ℕ) → IsBadVolume image file at → IsNoneOpen image → ⊥
none_bad_there image file at v none =
    none_bad image (current_file v.zero v.one) [] no_blocks (vacant 0) file at refl (nothing_stored image) (vacant_opens 0)
    (subst (λ (bs : List Bytes). IsBadLogged image (current_file v.zero v.one) bs file at) (none_batches image none v.zero v.one v.logs) v.bad)

one_place : (image : Files) (file other at place : ℕ) → IsDamaged image file at → IsDamaged image other place → IsOnePlace file other at place
one_place image file other at place (inl bad) (inl worse) = go bad.which worse.which
  where
    go : ((file ≡ 0) × IsDamagedAt (image 0) at) ⊎ ((file ≡ 1) × (IsSomeLog (image 0) × IsDamagedAt (image 1) at))
        → ((other ≡ 0) × IsDamagedAt (image 0) place) ⊎ ((other ≡ 1) × (IsSomeLog (image 0) × IsDamagedAt (image 1) place)) → IsOnePlace file other at place
    go (inl (is, d)) (inl (too, e)) = record { files = is ∙ sym too; offsets = law.one_offset (image 0) at place d e }
    go (inl (is, d)) (inr (too, ((z, log), e))) = absurd (law.whole (image 0) z.generation z.batches at log d)
    go (inr (is, ((z, log), d))) (inl (too, e)) = absurd (law.whole (image 0) z.generation z.batches place log e)
    go (inr (is, (some, d))) (inr (too, (log, e))) = record { files = is ∙ sym too; offsets = law.one_offset (image 1) at place d e }
one_place image file other at place (inl bad) (inr (inl v)) = absurd (not_bad_log image v.zero v.one file at v.logs bad)
one_place image file other at place (inl bad) (inr (inr m)) = absurd (not_bad_log image m.none.zero m.none.one file at m.none.logs bad)
one_place image file other at place (inr (inl v)) (inl bad) = absurd (not_bad_log image v.zero v.one other place v.logs bad)
one_place image file other at place (inr (inr m)) (inl bad) = absurd (not_bad_log image m.none.zero m.none.one other place m.none.logs bad)
one_place image file other at place (inr (inl v)) (inr (inr m)) = absurd (none_bad_there image file at v m.none)
one_place image file other at place (inr (inr m)) (inr (inl v)) = absurd (none_bad_there image other place v m.none)
one_place image file other at place (inr (inr m)) (inr (inr n)) = one_touched image file other at place m.touched n.touched
one_place image file other at place (inr (inl v)) (inr (inl w)) =
    let zero = log_same (image 0) v.zero w.zero v.logs.in_zero w.logs.in_zero in
    let one = log_same (image 1) v.one w.one v.logs.in_one w.logs.in_one in
    let log : current v.zero v.one ≡ current w.zero w.one = ap (λ (l : LogIn). current l v.one) zero ∙ ap (λ (l : LogIn). current w.zero l) one in
    let number : current_file v.zero v.one ≡ current_file w.zero w.one = ap (λ (l : LogIn). current_file l v.one) zero ∙ ap (λ (l : LogIn). current_file w.zero l) one in
    let there = subst (λ (l : LogIn). IsBadLogged image (current_file v.zero v.one) l.batches file at) log v.bad in
    one_logged image (current_file w.zero w.one) (current w.zero w.one).batches file other at place (subst (λ (n : ℕ). IsBadLogged image n (current w.zero w.one).batches file at) number there) w.bad

one_fault : (image : Files) (file at n : ℕ) → IsDamaged image file at → IsOfAnotherVersion image n → ⊥
one_fault image file at n (inl bad) k = one_log_fault image file at n bad k
one_fault image file at n (inr (inl bad)) k = known image bad.zero bad.one n bad.logs k
one_fault image file at n (inr (inr missing)) k = known image missing.none.zero missing.none.one n missing.none.logs k

pub law_holding : LawHolding
law_holding = record {
  begins = holds_nothing;
  one = holds_same;
  whole = λ image d file at h k. no_damage image d file at h k;
  known = λ image d n h k. known image h.1.zero h.1.one n h.1.logs k;
  one_file = λ image file other at place h k. (one_place image file other at place h k).files;
  one_offset = λ image file other at place h k. (one_place image file other at place h k).offsets;
  one_fault = λ image file at n h k. one_fault image file at n h k;
}
