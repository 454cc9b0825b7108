-- How the records of a batch are read, one behind the other.
use Rattle.std.proofs.Common.{◌≡◌, inl, inr, ℕ, ◌<◌, ◌≤◌, [], ◌∷◌, ◌++◌, Option, Some, None, Ok, length, refl, sym, ap, subst, ◌∙◌, arith}
use Rattle.js_base.specs.Bytes.{Bytes}
use Rattle.op_records.specs.declared.record.Record.{Record}
use Rattle.op_records.specs.Reading.{Stand, record_at}
use Rattle.durable_checks.specs.Storable.{IsStorable}
use Rattle.log_records.specs.Logged.{Logged, fold_record, fold_records}
use Rattle.log_records.specs.Batches.{closed_in}
use Rattle.log_records.specs.Damage.{IsFolded, HasBadRecord}
use Rattle.log_records.specs.Reading.{IsWrongNext, IsNext, IsNextFault, IsLastOf, AreRead, IsAdded, IsBatchFault}
use Rattle.log_records.specs.declared.batch.BatchFault.{BatchFault}
use Rattle.log_records.specs.declared.batch.BatchFault.TheVariants as batch
use Rattle.log_records.proofs.Logging.{records_append}
use Rattle.log_records.proofs.OneBad.{stand_push}

-- the last record that was read, if there is any
abbrev pub IsLastSoFar : Logged → Bytes → ℕ → Logged → Option ℕ → Type 0
IsLastSoFar old bytes at d None = (at ≡ 0) × (d ≡ old)
IsLastSoFar old bytes at d (Some here) = (mid : Logged) × (found : Record) × IsFolded old bytes here mid × (record_at bytes here ≡ Ok (found, at)) × (fold_record mid found ≡ Some d)

pub record IsReadUpTo (old : Logged) (bytes : Bytes) (at : ℕ) (d : Logged) (last : Option ℕ) : Type 0 where
  pub so_far : IsFolded old bytes at d
  pub last_is : IsLastSoFar old bytes at d last

pub none_read : (old : Logged) (bytes : Bytes) → IsReadUpTo old bytes 0 old None
none_read old bytes = record { so_far = record { records = []; stand = refl; folded = refl }; last_is = (refl, refl) }

pub one_read : (old : Logged) (bytes : Bytes) (at behind : ℕ) (d new : Logged) (last : Option ℕ) → IsReadUpTo old bytes at d last → IsNext d bytes at new behind → IsReadUpTo old bytes behind new (Some at)
one_read old bytes at behind d new last r n = record {
  so_far = record {
    records = r.so_far.records ++ n.next ∷ [];
    stand = stand_push bytes 0 at behind r.so_far.records n.next r.so_far.stand n.reads;
    folded = records_append r.so_far.records (n.next ∷ []) (Some old) ∙ ap (fold_records (n.next ∷ [])) r.so_far.folded ∙ n.fits;
  };
  last_is = (d, n.next, r.so_far, n.reads, n.fits);
}

last_of_all : (old : Logged) (bytes : Bytes) (at : ℕ) (d : Logged) (last : Option ℕ) → at ≡ length bytes → IsLastSoFar old bytes at d last → IsLastOf old bytes d last
last_of_all old [] at d None e h = (refl, h.1)
last_of_all old (b ∷ bytes) at d None e h = absurd (omega (arith, e, h.0))
last_of_all old bytes at d (Some here) e (mid, found, so_far, reads, fits) =
    record { mid = mid; so_far = so_far; next = found; reads = subst (λ (n : ℕ). record_at bytes here ≡ Ok (found, n)) e reads; fits = fits }

pub all_read : (old : Logged) (bytes : Bytes) (at : ℕ) (d : Logged) (last : Option ℕ) → length bytes ≤ at → at ≤ length bytes → IsReadUpTo old bytes at d last → AreRead old bytes d last
all_read old bytes at d last h k r =
    let end : at ≡ length bytes = omega (arith, h, k) in
    record {
      records = r.so_far.records;
      stand = subst (λ (n : ℕ). Stand bytes 0 r.so_far.records n) end r.so_far.stand;
      folded = r.so_far.folded;
      last_is = last_of_all old bytes at d last end r.last_is;
    }

pub one_wrong : (old : Logged) (bytes : Bytes) (at place : ℕ) (d : Logged) (last : Option ℕ) → at < length bytes → IsReadUpTo old bytes at d last → IsWrongNext d bytes at place → HasBadRecord old bytes place
one_wrong old bytes at place d last more r (inl (fault, wrong, told)) = inl (record { here = at; mid = d; so_far = r.so_far; more = more; fault = fault; wrong = wrong; place = told })
one_wrong old bytes at place d last more r (inr (found, behind, reads, unfit, told)) =
    inr (inl (record { here = at; mid = d; so_far = r.so_far; next = found; behind = behind; reads = reads; unfit = unfit; place = told }))

pub batch_fault : (old : Logged) (bytes : Bytes) (at : ℕ) (d : Logged) (last : Option ℕ) (fault : BatchFault) → at < length bytes → IsReadUpTo old bytes at d last → IsNextFault d bytes at fault → IsBatchFault old bytes fault
batch_fault old bytes at d last (batch.Wrong place) more r h = one_wrong old bytes at place d last more r h
batch_fault old bytes at d last batch.NoMemory more r h = tt

-- ---- at the end of the batch

pub added : (old : Logged) (bytes : Bytes) (made new : Logged) (last : Option ℕ) → AreRead old bytes made last → new ≡ closed_in made → IsStorable made.durable → IsAdded old bytes new last
added old bytes made new last r is storable = record {
  adds = record { records = r.records; stand = r.stand; made = made; folded = r.folded; new_is = is; storable = subst (λ (g : Logged). IsStorable g.durable) (sym is) storable };
  last_is = r.last_is;
}

pub stays_storable : (old : Logged) (bytes : Bytes) (new : Logged) → AreRead old bytes new None → IsStorable old.durable → IsStorable new.durable
stays_storable old bytes new r storable = subst (λ (g : Logged). IsStorable g.durable) (sym r.last_is.1) storable

pub unstorable : (old : Logged) (bytes : Bytes) (new : Logged) (at : ℕ) → AreRead old bytes new (Some at) → ¬ IsStorable new.durable → HasBadRecord old bytes at
unstorable old bytes new at r bad = inr (inr (record { new = new; last = r.last_is; bad = bad }))
