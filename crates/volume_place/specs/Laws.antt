-- Laws of what the images of a volume hold, of what reads of it give and a crash may leave, and of why it is refused.
use Rattle.std.specs.Prelude.{◌≡◌, ◌≤◌, ◌⊎◌, ℕ, refl}
use Rattle.std.proofs.Common.{sym, ap, subst, inl, inr, ◌∙◌}
use Rattle.std.proofs.Math.Nat.{le_refl, le_trans}
use Rattle.js_model.specs.declared.stream.State.{State}
use Rattle.js_model.specs.Lasting.{lasting}
use Rattle.effects.specs.Durables.{durable_of, state_of}
use Rattle.restore_laws.proofs.Holding.{opened}
use Rattle.vol_disk.specs.Clock.{IsClocked}
use Rattle.vol_disk.specs.Disk.{Disk}
use Rattle.stream_store.specs.Holding.{Holds}
use Rattle.stream_store.proofs.OneVolume.{law_holding}
use Rattle.place_engine.specs.Stepping.{Image}
use Rattle.place_engine.specs.declared.faults.OpenFault.{OpenFault}
use Rattle.place_engine.specs.declared.faults.OpenFault.TheVariants.{Fault, Damaged, UnknownVersion, NoRoom, NoMemory}
use Rattle.volume_place.specs.Images.{Keeps, holds, left, reads}
use Rattle.volume_place.specs.Opening.{opens, refuses}

pub only_held : (image : Image) (a b : State) → holds image a → holds image b → a ≡ b
only_held image a b h k = sym h.1 ∙ sym (opened a) ∙ ap state_of (law_holding.one image (durable_of a) (durable_of b) h.0 k.0) ∙ opened b ∙ k.1

pub all_lasts : (image : Image) (state : State) → holds image state → lasting state ≡ state
all_lasts image state h = h.1

module _ {V : Type 0} (told : Type 0) (disk : V → Disk) where
  pub opens_read : (vol : V) (state : State) (image : Image) → opens told disk vol state → reads told disk vol image → holds image state
  opens_read vol state image opening read = subst (λ (i : Image). holds i state) (sym read.1) (opening read.0)

  pub refuses_read : (vol : V) (fault : OpenFault) (image : Image) (state : State) → reads told disk vol image → holds image state → refuses told disk vol fault
      → (fault ≡ Fault) ⊎ ((fault ≡ NoMemory) ⊎ (fault ≡ NoRoom))
  refuses_read vol Fault image state read held refused = inl refl
  refuses_read vol (Damaged file at) image state read held refused =
      absurd (law_holding.whole (disk vol).seen (durable_of state) file at (subst (λ (i : Image). Holds i (durable_of state)) read.1 held.0) (refused read.0))
  refuses_read vol (UnknownVersion version) image state read held refused =
      absurd (law_holding.known (disk vol).seen (durable_of state) version (subst (λ (i : Image). Holds i (durable_of state)) read.1 held.0) (refused read.0))
  refuses_read vol NoRoom image state read held refused = inr (inr refl)
  refuses_read vol NoMemory image state read held refused = inr (inl refl)

  pub earlier_left : ((vol : V) → IsClocked (disk vol)) → (vol : V) (t u : ℕ) (image : Image) → t ≤ u → left told disk vol u image → left told disk vol t image
  earlier_left clocked vol t u image le is = (is.0, (clocked vol).earlier t u image le is.1)

module _ {V : Type 0} (disk : V → Disk) (faults refusals : V → ℕ) where
  pub keeps_later : (a b : V) → Keeps disk faults refusals a b → ((disk a).moment ≤ (disk b).moment) × (faults a ≤ faults b) × (refusals a ≤ refusals b)
  keeps_later a b h = (h.moment_later, h.faults_later, h.refusals_later)

  pub keeps_none : (vol : V) → Keeps disk faults refusals vol vol
  keeps_none vol = record { faults_later = le_refl (faults vol); refusals_later = le_refl (refusals vol); moment_later = le_refl (disk vol).moment }

  pub keeps_more : (a b c : V) → Keeps disk faults refusals a b → Keeps disk faults refusals b c → Keeps disk faults refusals a c
  keeps_more a b c h k = record {
    faults_later = le_trans h.faults_later k.faults_later;
    refusals_later = le_trans h.refusals_later k.refusals_later;
    moment_later = le_trans h.moment_later k.moment_later;
  }
