-- How what is known of the bytes of a batch is told of its log.
use Rattle.std.proofs.Common.{◌≡◌, ◌≢◌, inl, inr, ℕ, ◌+◌, ◌==◌, true, false, [], ◌∷◌, Option, Some, None, length, refl, sym, ap, subst, ◌∙◌, arith}
use Rattle.std.proofs.lemmas.Bool.{eqb-true, true≢false}
use Rattle.js_base.specs.Bytes.{Bytes}
use Rattle.log_records.specs.Logged.{Logged}
use Rattle.log_records.specs.Reading.{IsStartFault, IsWrongStart, IsBatchFault, IsTold, IsFirstFault, IsLaterFault, IsAdded, IsAddedAt, IsLastFrom, IsOffsetOf}
use Rattle.log_records.specs.declared.batch.BatchFault.{BatchFault}
use Rattle.log_records.specs.declared.fault.ReadFault.{ReadFault}
use Rattle.log_records.specs.declared.fault.ReadFault.TheVariants.{Fault, Damaged, NoMemory as OutOfMemory}

pub no_bytes : (bytes : Bytes) → true ≡ (length bytes == 0) → bytes ≡ []
no_bytes [] e = refl
no_bytes (b ∷ bytes) e = let none : length (b ∷ bytes) ≡ 0 = eqb-true (length (b ∷ bytes)) 0 (sym e) in absurd (omega (arith, none))

pub some_bytes : (bytes : Bytes) → false ≡ (length bytes == 0) → bytes ≢ []
some_bytes bytes e is = absurd (true≢false (sym (subst (λ (l : Bytes). false ≡ (length l == 0)) is e)))

pub first_told : (first : Bytes) (fault : BatchFault) (read : ReadFault) → first ≢ [] → IsStartFault first fault → IsTold 20 fault read → IsFirstFault first read
first_told first fault Fault some h t = absurd t
first_told first fault (Damaged at) some h (place, is, here) = go (subst (IsStartFault first) is h)
  where
    go : IsWrongStart first place → IsFirstFault first (Damaged at)
    go (inl (f, wrong, told)) = inr (inl (record { some = some; fault = f; place = place; wrong = wrong; told = told; here = here }))
    go (inr (unfit, begin)) = inr (inr (record { unfit = unfit; here = here ∙ ap (λ (n : ℕ). 20 + 9 + n) begin }))
first_told first fault OutOfMemory some h t = tt

pub later_told : (gate : ℕ) (old : Logged) (bytes : Bytes) (fault : BatchFault) (read : ReadFault) → IsBatchFault old bytes fault → IsTold gate fault read → IsLaterFault gate old bytes read
later_told gate old bytes fault Fault h t = absurd t
later_told gate old bytes fault (Damaged at) h (place, is, here) = (place, subst (IsBatchFault old bytes) is h, here)
later_told gate old bytes fault OutOfMemory h t = tt

pub placed_added : (gate : ℕ) (old : Logged) (bytes : Bytes) (new : Logged) (last at : Option ℕ) → IsAdded old bytes new last → IsOffsetOf gate last at → IsAddedAt gate old bytes new at
placed_added gate old bytes new None at a is = record { adds = a.adds; last_is = subst (IsLastFrom gate old bytes a.adds.made) (sym is) a.last_is.0 }
placed_added gate old bytes new (Some place) at a is = record { adds = a.adds; last_is = subst (IsLastFrom gate old bytes a.adds.made) (sym is) (place, a.last_is, refl) }
