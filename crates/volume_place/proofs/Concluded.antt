-- What it comes to that what waits is committed, or waits on.
use Rattle.std.proofs.Common.{◌≡◌, ◌⊎◌, inl, inr, ℕ, Bool, true, false, Some, None, Result, Ok, Err, refl, sym, ◌∙◌}
use Rattle.vol_disk.specs.Disk.{Disk}
use Rattle.stream_store.specs.declared.fault.CommitFault.{CommitFault}
use Rattle.stream_store.specs.declared.fault.CommitFault.TheVariants.{NoMemory, Fault, Worn}
use Rattle.place_engine.specs.Flushing.{Unflushed}
use Rattle.volume_place.specs.Bringing.{Brings, Concludes, GoesOn}
use Rattle.volume_place.specs.Contents.{Contents}
use Rattle.volume_place.specs.Seeing.{seen_of}
use Rattle.volume_place.specs.Tail.{is_small}

module _ {V : Type 0} (told : Type 0) (disk : V → Disk) (faults refusals : V → ℕ) (a : Contents V) where
  -- nothing is done
  pub unchanged : a.stopped ≡ None → Unflushed (seen_of told disk faults refusals a) (seen_of told disk faults refusals a)
  unchanged going = record {
    going = going;
    rests = record { state = refl; stored = refl; stopped = refl; base = λ b on. on; waiting = refl; outs = refl };
    volume = record { volume = refl; images = λ t image left. left };
  }

  -- all that waits may wait on
  pub waits_on : (waits : Bool) → a.stopped ≡ None → waits ≡ is_small a.waiting → waits ≡ true → GoesOn (Some false) (seen_of told disk faults refusals a) (seen_of told disk faults refusals a)
  waits_on waits going told_so so = inr (record { patient = refl; small = sym told_so ∙ so; rests = unchanged going })

  -- it had to be committed
  pub concluded : (urgent : Bool) (n : Contents V) (result : Result (Unit {0}) CommitFault) → (urgent ≡ true) ⊎ (is_small a.waiting ≡ false)
      → Brings result (seen_of told disk faults refusals a) (seen_of told disk faults refusals n)
      → Concludes (Some urgent) result (seen_of told disk faults refusals a) (seen_of told disk faults refusals n)
  concluded urgent n (Ok done) cause brings = inl (record { cause = cause; all = brings })
  concluded urgent n (Err NoMemory) cause brings = brings
  concluded urgent n (Err Fault) cause brings = brings
  concluded urgent n (Err Worn) cause brings = brings
