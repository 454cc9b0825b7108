-- What holds of a place on a volume between two calls, as it is seen.
use Rattle.std.proofs.Common.{◌≡◌, ◌⊎◌, inl, inr, ℕ, Option, Some, None, sym, ap, subst, ◌∙◌}
use Rattle.std.proofs.lemmas.Option.{none-some}
use Rattle.js_model.specs.declared.stream.State.{State}
use Rattle.js_model.specs.Lasting.{lasting}
use Rattle.effects.specs.Durables.{durable_of}
use Rattle.effects.specs.Folding.{fold_all}
use Rattle.effects.specs.Laws.{Leads}
use Rattle.vol_disk.specs.Clock.{IsClocked}
use Rattle.vol_disk.specs.Disk.{Disk}
use Rattle.stream_store.specs.Waiting.{Waits as WaitsOn}
use Rattle.place_engine.specs.Stepping.{Image, IsKept, Waits}
use Rattle.volume_place.specs.Contents.{Contents}
use Rattle.volume_place.specs.Images.{base, clock, holds, left, reads}
use Rattle.volume_place.specs.Laws.{only_held}
use Rattle.volume_place.specs.Seeing.{seen_of}
use Rattle.volume_place.specs.Sound.{IsOnDisk, IsSoundPlace}
use Rattle.volume_place.proofs.Bases.{leads_lasting, leads_on, left_base, read_base}
use Rattle.volume_place.proofs.Asked.{quiet_room}

module _ {V : Type 0} (told : Type 0) (disk : V → Disk) (faults refusals : V → ℕ) (place : Contents V) where
  abbrev OnDisk : Option ℕ → Type 0
  OnDisk o = told → IsOnDisk o (disk place.vol) place.store place.waiting place.state

  only_one : (o : Option ℕ) → o ≡ None → (a b : State) → base told disk o place.vol a → base told disk o place.vol b → a ≡ b
  only_one None goes a b h k = only_held (disk place.vol).seen a b h.1 k.1
  only_one (Some count) goes a b h k = absurd (none-some count (sym goes))

  read : (o : Option ℕ) → OnDisk o → o ≡ None → (image : Image) → reads told disk place.vol image → (b : State) × holds image b × base told disk o place.vol b
  read None on_disk goes image is =
      let k = on_disk is.0 in
      let h = read_base (disk place.vol) place.store place.waiting place.state k in
      (k.base, subst (λ (i : Image). holds i k.base) (sym is.1) h, (is.0, h))
  read (Some count) on_disk goes image is = absurd (none-some count (sym goes))

  pub reads_of : IsSoundPlace told (disk place.vol) place.store place.waiting place.stopped place.state → place.stopped ≡ None → (image : Image) → reads told disk place.vol image
      → (b : State) × holds image b × base told disk place.stopped place.vol b
  reads_of sound goes image is = read place.stopped sound.on_disk goes image is

  module _ (clocked : IsClocked (disk place.vol)) where
    lead_or_last : (b s : State) → b ≡ s → WaitsOn (durable_of s) place.waiting place.state ⊎ (s ≡ lasting place.state) → Leads b place.waiting (lasting place.state) ⊎ (b ≡ lasting place.state)
    lead_or_last b s same (inl before) = inl (ap (λ (r : State). fold_all place.waiting (Some (durable_of r))) same ∙ leads_lasting s place.state place.waiting before)
    lead_or_last b s same (inr after) = inr (same ∙ after)

    waits : (o : Option ℕ) → OnDisk o → Waits o (base told disk o place.vol) place.waiting place.state
    waits None on_disk = λ b is. leads_on (disk place.vol) place.store place.waiting place.state (on_disk is.0) b is.1
    waits (Some count) on_disk = λ b is.
        let one = on_disk is.is_left.0 is.image (clocked.only_now is.image is.is_left.1) in
        lead_or_last b one.0 (only_held is.image b one.0 is.held one.1) one.2

    now : (o : Option ℕ) → OnDisk o → (image : Image) → left told disk place.vol (clock disk place.vol) image → (b : State) × holds image b × base told disk o place.vol b
    now None on_disk image is =
        let k = on_disk is.0 in (
          k.base,
          left_base (disk place.vol) place.store place.waiting place.state k image (clocked.only_now image is.1),
          (is.0, read_base (disk place.vol) place.store place.waiting place.state k),
        )
    now (Some count) on_disk image is =
        let one = on_disk is.0 image (clocked.only_now image is.1) in
        (one.0, one.1, record { image = image; is_left = is; held = one.1 })

    pub kept_of : IsSoundPlace told (disk place.vol) place.store place.waiting place.stopped place.state → IsKept holds (seen_of told disk faults refusals place)
    kept_of sound = record {
      waits = waits place.stopped sound.on_disk;
      one = only_one place.stopped;
      now = now place.stopped sound.on_disk;
      free = λ what quiet. quiet_room place.stopped place.fixed place.store place.state place.waiting what quiet;
      earlier = λ t u image le is. (is.0, clocked.earlier t u image le is.1);
    }
