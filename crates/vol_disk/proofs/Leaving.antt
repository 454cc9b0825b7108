-- What a crash leaves of a file after a call is what it might have left before, but for the call's step.
use Rattle.std.proofs.Common.{◌≡◌, ◌⊎◌, inl, inr, ℕ, ◌+◌, ◌<◌, ◌≤◌, max, min, Bool, true, false, get_or, List, [], ◌∷◌, ◌++◌, length, take, drop, refl, sym, ◌∙◌, ap, subst, arith, length-take}
use Rattle.std.proofs.lemmas.Bool.{or_parts, and_cases, leb-false, ltb-false}
use Rattle.std.proofs.lemmas.Bool.Decides.{nat_tests}
use Rattle.std.proofs.lemmas.List.{take_all, drop_all, take-take, get_or-take, ext_get_or, length-replicate}
use Rattle.std.proofs.lemmas.List.Folds.{list_any-append}
use Rattle.std.specs.Prelude.{if◌then◌else◌}
use Rattle.vol_disk.specs.Steps.{written, Torn, CutTo}
use Rattle.vol_disk.specs.Does.{Follows}
use Rattle.vol_disk.specs.FileState.{FileState, at_rest, IsSound}
use Rattle.vol_disk.specs.Left.{is_in, is_written, IsLeft, IsReached}
use Rattle.vol_disk.specs.Sound.{sound_after}
use Rattle.vol_disk.specs.Calls.{CanDo, step_of, after, after_write, after_cut, overwritten, zeros}
use Rattle.vol_disk.specs.declared.span.Span.{Span}
use Rattle.vol_disk.specs.declared.call.Deed.{Deed}
use Rattle.vol_disk.specs.declared.call.Deed.TheVariants.{Len, Read, Write, Grow, Cut, Sync, End}
use Rattle.vol_disk.proofs.Overlays.{mend, length-mend, take-mend, drop-mend, mend_in, mend_out, written_out, length-written, uncut, length-uncut, take-uncut, uncut_at}

-- a place outside of a range
is_in_out : (from to k : ℕ) → (k < from) ⊎ (to ≤ k) → is_in k (record { from = from; to = to }) ≡ false
is_in_out from to k (inl lt) = grind (arith, nat_tests)
is_in_out from to k (inr le) = grind (arith, nat_tests)

-- a place that no range has, with one range more that has it not
unwritten : (spans : List Span) (span : Span) (k : ℕ) → is_written spans k ≡ false → is_in k span ≡ false → is_written (spans ++ span ∷ []) k ≡ false
unwritten spans span k none out = list_any-append (is_in k) spans (span ∷ []) ∙ cc

-- a place that no range has is not in the last one
in_none : (spans : List Span) (span : Span) (k : ℕ) → is_written (spans ++ span ∷ []) k ≡ false → is_in k span ≡ false
in_none spans span k none = (or_parts _ _ (or_parts _ _ (sym (list_any-append (is_in k) spans (span ∷ [])) ∙ none)).1).0

-- it is before the range or behind it
outside : (from to k : ℕ) → is_in k (record { from = from; to = to }) ≡ false → (k < from) ⊎ (to ≤ k)
outside from to k none = elim (and_cases _ _ none) [
  | inl low ↦ inl (leb-false from k low)
  | inr high ↦ inr (ltb-false k to high)
]

-- a write that may have grown the file, and a cut, by the numbers alone
abbrev torn_at : ℕ → ℕ → FileState → FileState
torn_at at n s = record s { greatest = max s.greatest (at + n); written = s.written ++ record { from = at; to = at + n } ∷ [] }

abbrev cut_at : ℕ → FileState → FileState
cut_at to s = record s { least = min s.least to }

by_write : (s : FileState) (at : ℕ) (bytes c : List ℕ) → at ≤ length s.bytes → IsSound s → IsLeft (after_write at bytes s) c → IsLeft (torn_at at (length bytes) s) c
by_write s at bytes c can sound left = record {
  no_shorter = omega (arith, left.no_shorter, sound.no_shorter, length-written at bytes s.bytes can);
  no_longer = omega (arith, left.no_longer, sound.no_longer, length-written at bytes s.bytes can);
  stays = λ k low none. left.stays k (omega (arith, low, sound.no_shorter, length-written at bytes s.bytes can)) none;
}

by_cut : (s : FileState) (to : ℕ) (c : List ℕ) → to ≤ length s.bytes → IsSound s → IsLeft (after_cut to s) c → IsLeft (cut_at to s) c
by_cut s to c can sound left = record {
  no_shorter = omega (arith, left.no_shorter, length-take to s.bytes);
  no_longer = omega (arith, left.no_longer, sound.no_longer, length-take to s.bytes);
  stays = λ k low none. left.stays k (omega (arith, low, length-take to s.bytes)) none;
}

-- a write that is not seen
torn_from : (s : FileState) (at n : ℕ) (c : List ℕ) → at ≤ length s.bytes → IsSound s → IsLeft (torn_at at n s) c →
    (d : List ℕ) × IsLeft s d × Torn at n d c
torn_from s at n c can sound left =
    let m = mend at n s.bytes c in (
      take s.greatest m,
      record {
        no_shorter = omega (arith, left.no_shorter, sound.no_shorter, sound.no_longer, length-take s.greatest m, length-mend at n s.bytes c);
        no_longer = omega (arith, length-take s.greatest m);
        stays = λ k low none. get_or-take s.greatest m k 0 (omega (arith, sound.no_shorter, sound.no_longer)) ∙ mended k low none;
      },
      record {
        before = sym (take-take at s.greatest m (omega (arith, sound.no_longer)) ∙ take-mend at n s.bytes c);
        after = sym (drop_behind (at + n) s.greatest m (omega (arith, left.no_longer, length-mend at n s.bytes c)) ∙ drop-mend at n (at + n) s.bytes c refl);
        no_shorter = omega (arith, length-take s.greatest m, length-mend at n s.bytes c);
        no_longer = omega (arith, left.no_longer, length-take s.greatest m, length-mend at n s.bytes c);
      },
    )
  where
    place : (k : ℕ) → (k < at) ⊎ ((at ≤ k) × (k < at + n)) ⊎ (at + n ≤ k)
    place k = grind arith

    stay : (k : ℕ) → k < s.least → is_written s.written k ≡ false → (k < at) ⊎ (at + n ≤ k) → get_or (mend at n s.bytes c) k 0 ≡ get_or s.bytes k 0
    stay k low none out = mend_out at n k s.bytes c out ∙ left.stays k low (unwritten s.written (record { from = at; to = at + n }) k none (is_in_out at (at + n) k out))

    mended : (k : ℕ) → k < s.least → is_written s.written k ≡ false → get_or (mend at n s.bytes c) k 0 ≡ get_or s.bytes k 0
    mended k low none = elim (place k) [
      | inl lt ↦ stay k low none (inl lt)
      | inr (inl both) ↦ mend_in at n k s.bytes c both.0 both.1 (omega (arith, sound.no_shorter)) (omega (arith, left.no_shorter))
      | inr (inr le) ↦ stay k low none (inr le)
    ]

    either : (a b d : ℕ) → a ≤ max b d → (a ≤ b) ⊎ (a ≤ d)
    either a b d h = grind arith

    drop_behind : (i k : ℕ) (l : List ℕ) → length l ≤ max k i → drop i (take k l) ≡ drop i l
    drop_behind i k l h = elim (either (length l) k i h) [
      | inl small ↦ ap (λ (r : List ℕ). drop i r) (take_all k l small)
      | inr small ↦ drop_all i (take k l) (omega (arith, small, length-take k l)) ∙ sym (drop_all i l small)
    ]

-- a write that is seen leaves nothing else than one that is not
unseen : (s : FileState) (at : ℕ) (bytes c : List ℕ) → at ≤ length s.bytes → IsLeft (after (Write at bytes) true s) c →
    IsLeft (after (Write at bytes) false s) c
unseen s at bytes c can left = record {
  no_shorter = left.no_shorter;
  no_longer = left.no_longer;
  stays = λ k low none. left.stays k low none ∙ written_out at k bytes s.bytes can (out k none);
}
  where
    out : (k : ℕ) → is_written (after_write at bytes s).written k ≡ false → (k < at) ⊎ (at + length bytes ≤ k)
    out k none = outside at (at + length bytes) k (in_none s.written (record { from = at; to = at + length bytes }) k none)

-- a cut that is not seen
cut_from : (s : FileState) (to : ℕ) (c : List ℕ) → IsSound s → IsLeft (cut_at to s) c →
    (d : List ℕ) × IsLeft s d × CutTo to d c
cut_from s to c sound left = (
  uncut to s.least s.bytes c,
  record {
    no_shorter = omega (arith, length-uncut to s.least s.bytes c sound.no_shorter left.no_shorter);
    no_longer = omega (arith, left.no_longer, sound.no_shorter, sound.no_longer, length-uncut to s.least s.bytes c sound.no_shorter left.no_shorter);
    stays = λ k low none. uncut_at to s.least k s.bytes c sound.no_shorter left.no_shorter low (λ lt. left.stays k (omega arith) none);
  },
  record {
    front = sym (take-uncut to s.least s.bytes c sound.no_shorter left.no_shorter);
    no_longer = omega (arith, length-uncut to s.least s.bytes c sound.no_shorter left.no_shorter);
  },
)

-- a cut that is seen leaves nothing else than one that is not
uncut_left : (s : FileState) (to : ℕ) (c : List ℕ) → IsLeft (after (Cut to) true s) c → IsLeft (after (Cut to) false s) c
uncut_left s to c left = record {
  no_shorter = left.no_shorter;
  no_longer = left.no_longer;
  stays = λ k low none. left.stays k low none ∙ get_or-take to s.bytes k 0 (omega (arith, low, length-take to s.bytes));
}

-- a file at rest is left as it reads
pub only_at_rest : (bytes c : List ℕ) → IsLeft (at_rest bytes) c → c ≡ bytes
only_at_rest bytes c left =
    let n : length c ≡ length bytes = omega (arith, left.no_shorter, left.no_longer) in
    ext_get_or 0 c bytes n (λ k lt. left.stays k (omega arith) refl)

-- a sound file may be left as it reads
pub left_as_read : (s : FileState) → IsSound s → IsLeft s s.bytes
left_as_read s sound = record { no_shorter = sound.no_shorter; no_longer = sound.no_longer; stays = λ k low none. refl }

-- what a crash leaves after a write follows by its step
follows_write : (at : ℕ) (bytes : List ℕ) (is_done : Bool) (s : FileState) → at ≤ length s.bytes → IsSound s → Follows (Torn at (length bytes)) (IsLeft s) (IsLeft (overwritten at bytes is_done s))
follows_write at bytes true s can sound = λ c left. torn_from s at (length bytes) c can sound (by_write s at bytes c can sound (unseen s at bytes c can left))
follows_write at bytes false s can sound = λ c left. torn_from s at (length bytes) c can sound (by_write s at bytes c can sound left)

-- and so after any call
pub follows_after : (deed : Deed) (is_done : Bool) (s : FileState) → CanDo deed s → IsSound s → Follows (step_of (length s.bytes) deed) (IsLeft s) (IsLeft (after deed is_done s))
follows_after Len is_done s can sound = λ c left. (c, left, record { same = refl })
follows_after (Read at count) is_done s can sound = λ c left. (c, left, record { same = refl })
follows_after (Write at bytes) is_done s can sound = follows_write at bytes is_done s can sound
follows_after (Grow count) is_done s can sound =
    subst (λ (n : ℕ). Follows (Torn (length s.bytes) n) (IsLeft s) (IsLeft (overwritten (length s.bytes) (zeros count) is_done s))) (length-replicate {A = ℕ} count 0)
    (follows_write (length s.bytes) (zeros count) is_done s (omega arith) sound)
follows_after (Cut to) true s can sound = λ c left. cut_from s to c sound (by_cut s to c can sound (uncut_left s to c left))
follows_after (Cut to) false s can sound = λ c left. cut_from s to c sound (by_cut s to c can sound left)
follows_after Sync true s can sound = λ c left. (s.bytes, left_as_read s sound, record { same = only_at_rest s.bytes c left })
follows_after Sync false s can sound = λ c left. (c, left, record { same = refl })
follows_after End is_done s can sound = λ c left. (c, left, record { same = refl })

-- each step may leave all as it is
pub step_same : (len : ℕ) (deed : Deed) (bytes : List ℕ) → step_of len deed bytes bytes
step_same len Len bytes = record { same = refl }
step_same len (Read at count) bytes = record { same = refl }
step_same len (Write at w) bytes = record { before = refl; after = refl; no_shorter = omega arith; no_longer = omega arith }
step_same len (Grow count) bytes = record { before = refl; after = refl; no_shorter = omega arith; no_longer = omega arith }
step_same len (Cut to) bytes = record { front = refl; no_longer = omega arith }
step_same len Sync bytes = record { same = refl }
step_same len End bytes = record { same = refl }

-- ---- how a file is reached

reached_by : (s next : FileState) → IsSound next → next.synced ≡ s.synced → next.least ≤ s.least → s.greatest ≤ next.greatest →
    ((k : ℕ) → k < next.least → is_written next.written k ≡ false → (is_written s.written k ≡ false) × (get_or next.bytes k 0 ≡ get_or s.bytes k 0)) →
    IsReached s → IsReached next
reached_by s next sound same shorter longer kept was = record {
  sound = sound;
  synced = subst (λ (image : List ℕ). IsLeft next image) (sym same) (record {
    no_shorter = omega (arith, shorter, was.synced.no_shorter);
    no_longer = omega (arith, longer, was.synced.no_longer);
    stays = λ k low none. let there = kept k low none in was.synced.stays k (omega (arith, low, shorter)) there.0 ∙ sym there.1;
  });
}

-- a place that no range has, with one range less
less_written : (spans : List Span) (span : Span) (k : ℕ) → is_written (spans ++ span ∷ []) k ≡ false → is_written spans k ≡ false
less_written spans span k none = (or_parts _ _ (sym (list_any-append (is_in k) spans (span ∷ [])) ∙ none)).0

pub reached_rest : (bytes : List ℕ) → IsReached (at_rest bytes)
reached_rest bytes =
    let sound : IsSound (at_rest bytes) = record { no_shorter = omega arith; no_longer = omega arith } in
    record { sound = sound; synced = left_as_read (at_rest bytes) sound }

-- a write keeps it
reached_over : (at : ℕ) (bytes : List ℕ) (is_done : Bool) (s : FileState) → at ≤ length s.bytes → IsReached s → IsReached (overwritten at bytes is_done s)
reached_over at bytes true s can was =
    reached_by s (overwritten at bytes true s) (sound_after (Write at bytes) true s was.sound) refl (omega arith) (omega arith)
    (λ k low none. (less_written s.written (record { from = at; to = at + length bytes }) k none, written_out at k bytes s.bytes can (outside at (at + length bytes) k (in_none s.written (record { from = at; to = at + length bytes }) k none)))) was
reached_over at bytes false s can was =
    reached_by s (overwritten at bytes false s) (sound_after (Write at bytes) false s was.sound) refl (omega arith) (omega arith)
    (λ k low none. (less_written s.written (record { from = at; to = at + length bytes }) k none, refl)) was

-- and so does any call that could be made
pub reached_after : (deed : Deed) (is_done : Bool) (s : FileState) → CanDo deed s → IsReached s → IsReached (after deed is_done s)
reached_after Len is_done s can was = was
reached_after (Read at count) is_done s can was = was
reached_after (Write at bytes) is_done s can was = reached_over at bytes is_done s can was
reached_after (Grow count) is_done s can was = reached_over (length s.bytes) (zeros count) is_done s (omega arith) was
reached_after (Cut to) true s can was =
    reached_by s (after (Cut to) true s) (sound_after (Cut to) true s was.sound) refl (omega arith) (omega arith)
    (λ k low none. (none, get_or-take to s.bytes k 0 (omega (arith, low, length-take to s.bytes)))) was
reached_after (Cut to) false s can was =
    reached_by s (after (Cut to) false s) (sound_after (Cut to) false s was.sound) refl (omega arith) (omega arith)
    (λ k low none. (none, refl)) was
reached_after Sync true s can was = reached_rest s.bytes
reached_after Sync false s can was = was
reached_after End is_done s can was = was

-- what is fitted to a file is as it was wanted, where a crash may leave that
pub fits : (s : FileState) (wanted left : List ℕ) (len : ℕ) → len ≡ min (max (length wanted) s.least) s.greatest → length left ≡ len →
    ((k : ℕ) → k < len → k < s.least → is_written s.written k ≡ false → get_or left k 0 ≡ get_or s.bytes k 0) →
    ((k : ℕ) → k < len → k < length wanted → (get_or left k 0 ≡ get_or wanted k 0) ⊎ ((k < s.least) × (is_written s.written k ≡ false))) →
    IsLeft s wanted → left ≡ wanted
fits s wanted left len is size stays asked may =
    let same : length left ≡ length wanted = omega (arith, is, size, may.no_shorter, may.no_longer) in
    ext_get_or 0 left wanted same (λ k lt. at k (omega (arith, lt, size)) (omega (arith, lt, same)) (asked k (omega (arith, lt, size)) (omega (arith, lt, same))))
  where
    at : (k : ℕ) → k < len → k < length wanted → (get_or left k 0 ≡ get_or wanted k 0) ⊎ ((k < s.least) × (is_written s.written k ≡ false)) → get_or left k 0 ≡ get_or wanted k 0
    at k lt there (inl is) = is
    at k lt there (inr low) = stays k lt low.0 low.1 ∙ sym (may.stays k low.0 low.1)

-- a write, done or not, in the words of the code
pub reached_write : (s : FileState) (at : ℕ) (bytes now : List ℕ) (is_done : Bool) (greatest : ℕ) (spans : List Span) → at ≤ length s.bytes →
    now ≡ (if is_done then written at bytes s.bytes else s.bytes) → greatest ≡ max s.greatest (max (length s.bytes) (at + length bytes)) →
    spans ≡ s.written ++ record { from = at; to = at + length bytes } ∷ [] → IsReached s →
    IsReached (record { bytes = now; synced = s.synced; least = s.least; greatest = greatest; written = spans })
reached_write s at bytes now is_done greatest spans can is longer noted was =
    reached_by s (record { bytes = now; synced = s.synced; least = s.least; greatest = greatest; written = spans }) (sound is_done is) refl (omega arith) (omega (arith, longer)) (kept is_done is) was
  where
    sound : (b : Bool) → now ≡ (if b then written at bytes s.bytes else s.bytes) → IsSound (record { bytes = now; synced = s.synced; least = s.least; greatest = greatest; written = spans })
    sound true is = record {
      no_shorter = omega (arith, ap length is, length-written at bytes s.bytes can, was.sound.no_shorter);
      no_longer = omega (arith, ap length is, longer, length-written at bytes s.bytes can);
    }
    sound false is = record { no_shorter = omega (arith, ap length is, was.sound.no_shorter); no_longer = omega (arith, ap length is, longer) }

    range : Span
    range = record { from = at; to = at + length bytes }

    kept : (b : Bool) → now ≡ (if b then written at bytes s.bytes else s.bytes) → (k : ℕ) → k < s.least → is_written spans k ≡ false → (is_written s.written k ≡ false) × (get_or now k 0 ≡ get_or s.bytes k 0)
    kept true is k low none =
        let out = subst (λ (all : List Span). is_written all k ≡ false) noted none in
        (less_written s.written range k out, ap (λ (l : List ℕ). get_or l k 0) is ∙ written_out at k bytes s.bytes can (outside at (at + length bytes) k (in_none s.written range k out)))
    kept false is k low none =
        let out = subst (λ (all : List Span). is_written all k ≡ false) noted none in
        (less_written s.written range k out, ap (λ (l : List ℕ). get_or l k 0) is)
