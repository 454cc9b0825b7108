-- What a crash leaves of a file while its log is shut, or way is made for a new one.
use Rattle.std.proofs.Common.{◌≡◌, ◌≢◌, ◌⊎◌, inl, inr, ℕ, ◌+◌, ◌<◌, ◌≤◌, ◌^◌, [], ◌∷◌, ◌++◌, None, length, take, drop, get_or, sym, ◌∙◌, ap, subst, arith, append_assoc, length-take, take-append-drop}
use Rattle.std.specs.Int.{w16, to_be_bytes}
use Rattle.std.proofs.lemmas.Bool.{cases_eq}
use Rattle.std.proofs.lemmas.List.{drop_more, take_at, drop_at, drop-drop, get_or-drop, take-take}
use Rattle.vol_disk.specs.Disk.{Disk, Files}
use Rattle.vol_disk.specs.Images.{IsDurable, IsImage}
use Rattle.vol_disk.specs.Steps.{written, Torn}
use Rattle.vol_disk.specs.Moments.{Elsewhere, Quiet}
use Rattle.vol_disk.specs.Synced.{DoesSynced}
use Rattle.vol_disk.proofs.Moments.{joined, widened, rests_on}
use Rattle.js_base.specs.Bytes.{Bytes}
use Rattle.gate_log.specs.Head.{mark, version, head}
use Rattle.gate_log.specs.LogFile.{IsLog, HasOpen}
use Rattle.gate_log.specs.Starting.{IsClosed, IsEmptied, Starts}
use Rattle.gate_log.proofs.Growing.{torn_long, written_long}
use Rattle.gate_log.proofs.OneReading.{format_of}

pub emptied_short : (old new : Bytes) → length new ≤ 21 → IsEmptied old new
emptied_short old new short g batches open_ = inl short

-- with its first gate closed, a log file is shut
pub emptied_closed : (old new : Bytes) → 21 < length old → IsClosed old new → IsEmptied old new
emptied_closed old new long closed g batches open_ =
    inr (record {
      marked = sym (take-take 8 20 new (omega arith)) ∙ ap (λ (l : Bytes). take 8 l) closed.before ∙ take-take 8 20 old (omega arith) ∙ format_of old g batches long open_;
      long = omega (arith, closed.as_long);
      closed = closed.closed;
    })

-- a write of the first gate leaves the file as it was, or closed
pub torn_gate : (old c : Bytes) → 21 < length old → get_or old 20 0 ≡ 1 → Torn 20 1 old c → (c ≡ old) ⊎ IsClosed old c
torn_gate old c long was torn = elim (cases_eq (get_or c 20 0) 1) [
  | inl same ↦ inl (sym (take-append-drop 20 c) ∙ ap (λ (l : Bytes). l ++ drop 20 c) torn.before ∙ ap (λ (l : Bytes). take 20 old ++ l) (back same) ∙ take-append-drop 20 old)
  | inr shut ↦ inr (record { before = torn.before; closed = shut; behind = torn.after; as_long = torn_long 20 1 old c (omega arith) torn })
]
  where
    back : get_or c 20 0 ≡ 1 → drop 20 c ≡ drop 20 old
    back same =
        drop_more c 20 0 (omega (arith, torn.no_shorter)) ∙ ap (λ (g : ℕ). g ∷ drop 21 c) (same ∙ sym was) ∙ ap (λ (l : Bytes). get_or old 20 0 ∷ l) torn.after ∙ sym (drop_more old 20 0 (omega arith))

pub written_gate : (old new : Bytes) → 21 < length old → new ≡ written 20 (0 ∷ []) old → IsClosed old new
written_gate old new long is =
    let size : length (take 20 old) ≡ 20 = omega (arith, length-take 20 old) in
    let whole : new ≡ take 20 old ++ 0 ∷ drop 21 old = is ∙ append_assoc (take 20 old) (0 ∷ []) (drop 21 old) in
    let back : drop 20 new ≡ 0 ∷ drop 21 old = ap (λ (l : Bytes). drop 20 l) whole ∙ drop_at (take 20 old) (0 ∷ drop 21 old) 20 size in
    record {
      before = ap (λ (l : Bytes). take 20 l) whole ∙ take_at (take 20 old) (0 ∷ drop 21 old) 20 size;
      closed = λ one. absurd (omega (arith, one, sym (get_or-drop 20 new 0 0) ∙ ap (λ (l : Bytes). get_or l 0 0) back));
      behind = sym (drop-drop 1 20 new) ∙ ap (λ (l : Bytes). drop 1 l) back;
      as_long = written_long 20 (0 ∷ []) old new (omega arith) is;
    }

-- a gate that was closed before
pub closed_already : (old new : Bytes) (gate : ℕ) → drop 20 old ≡ gate ∷ drop 21 old → gate ≢ 1 → new ≡ old → IsClosed old new
closed_already old new gate is shut same = record {
  before = ap (λ (l : Bytes). take 20 l) same;
  closed = λ one. shut (sym (ap (λ (l : Bytes). get_or l 0 0) is) ∙ get_or-drop 20 old 0 0 ∙ ap (λ (l : Bytes). get_or l 20 0) (sym same) ∙ one);
  behind = ap (λ (l : Bytes). drop 21 l) same;
  as_long = ap length same;
}

pub gate_of : (old : Bytes) (gate : ℕ) → drop 20 old ≡ gate ∷ drop 21 old → gate ≡ 1 → get_or old 20 0 ≡ 1
gate_of old gate is one = sym (get_or-drop 20 old 0 0) ∙ ap (λ (l : Bytes). get_or l 0 0) is ∙ one

-- an open gate is none of a file that holds nothing
pub open_none : (old : Bytes) → 21 < length old → get_or old 20 0 ≡ 1 → HasOpen old None [] → ⊥
open_none old long open_ (inl short) = absurd (omega arith)
open_none old long open_ (inr shut) = shut.closed open_

-- ---- a new head

-- in front of a closed gate any generation and any checksum may stand
pub torn_number : (old mid c : Bytes) → 21 < length old → IsClosed old mid → Torn 8 12 mid c → IsEmptied old c
torn_number old mid c long closed torn g batches open_ =
    inr (record {
      marked = torn.before ∙ sym (take-take 8 20 mid (omega arith)) ∙ ap (λ (l : Bytes). take 8 l) closed.before ∙ take-take 8 20 old (omega arith) ∙ format_of old g batches long open_;
      long = omega (arith, closed.as_long, torn.no_shorter);
      closed = λ one. closed.closed (sym (get_or-drop 20 mid 0 0) ∙ ap (λ (l : Bytes). get_or l 0 0) (sym torn.after) ∙ get_or-drop 20 c 0 0 ∙ one);
    })

-- with its own they make a log without batches
pub written_number : (g : ℕ) (old mid new w : Bytes) → g < 2 ^ 62 → 21 < length old → take 8 old ≡ mark ++ to_be_bytes w16 version → IsClosed old mid →
    w ≡ take 12 (drop 8 (head g ++ 0 ∷ [])) → new ≡ written 8 w mid → IsLog g [] new
written_number g old mid new w below long marked closed w_is is = record {
  gate = get_or mid 20 0;
  rest = drop 21 mid;
  spells = record { bytes_are = whole; below = below; lengths = tt };
  closed = closed.closed;
}
  where
    front : take 8 mid ≡ mark ++ to_be_bytes w16 version
    front = sym (take-take 8 20 mid (omega arith)) ∙ ap (λ (l : Bytes). take 8 l) closed.before ∙ take-take 8 20 old (omega arith) ∙ marked

    back : drop 20 mid ≡ get_or mid 20 0 ∷ drop 21 mid
    back = drop_more mid 20 0 (omega (arith, closed.as_long))

    whole : new ≡ head g ++ (get_or mid 20 0 ∷ drop 21 mid)
    whole = is ∙ ap (λ (l : Bytes). take 8 mid ++ l ++ drop (8 + length l) mid) w_is ∙ ap (λ (l : Bytes). l ++ take 12 (drop 8 (head g ++ 0 ∷ [])) ++ drop 20 mid) front ∙ ap (λ (l : Bytes). head g ++ l) back

-- ---- disks

abbrev WasOrEmptied : ℕ → Disk → Files → Type 0
WasOrEmptied file old image = ((image file ≡ old.seen file) ⊎ IsEmptied (old.seen file) (image file)) × Elsewhere file old image

-- nothing was written
pub starts_quiet : (file : ℕ) (old mid : Disk) → IsDurable old file → Quiet old mid → Starts file old mid
starts_quiet file old mid durable still = record {
  elsewhere = λ other ne. record { seen = still.seen other; leaves = still.leaves other };
  any_moment = widened old mid (WasOrEmptied file old) (IsImage old) still.any_moment (λ image left. (inl (durable (image file) (left.left file)), λ other ne. left.left other));
}

-- one change more
pub starts_then : (file : ℕ) (step : Bytes → Bytes → Type 0) (old mid new : Disk) → Starts file old mid → DoesSynced file step mid new →
    ((c : Bytes) → step (mid.seen file) c → (c ≡ old.seen file) ⊎ IsEmptied (old.seen file) c) → Starts file old new
starts_then file step old mid new first does leads = record {
  elsewhere = λ other ne. rests_on other old mid new (first.elsewhere other ne) (does.elsewhere other ne);
  any_moment = joined old mid new (WasOrEmptied file old) _ first.any_moment does.any_moment (λ image left. (leads (image file) left.0, λ other ne. (first.elsewhere other ne).leaves (image other) (left.1 other ne)));
}

-- after calls that wrote nothing
pub starts_after : (file : ℕ) (old mid new : Disk) → IsDurable old file → Quiet old mid → Starts file mid new → Starts file old new
starts_after file old mid new durable still then_ =
    let first = starts_quiet file old mid durable still in
    record {
      elsewhere = λ other ne. rests_on other old mid new (first.elsewhere other ne) (then_.elsewhere other ne);
      any_moment = joined old mid new (WasOrEmptied file old) (WasOrEmptied file mid) first.any_moment then_.any_moment (λ image left. (subst (λ (l : Bytes). (image file ≡ l) ⊎ IsEmptied l (image file)) (still.seen file) left.0, λ other ne. still.leaves other (image other) (left.1 other ne)));
    }

-- a file as it was, or with its first gate closed
pub closed_of : (a b : Bytes) → (b ≡ a) ⊎ IsClosed a b → 21 < length a → (b ≡ a) ⊎ IsEmptied a b
closed_of a b (inl same) long = inl same
closed_of a b (inr closed) long = inr (emptied_closed a b long closed)
