-- A disk that is told by its calls keeps the laws of a volume.
use Rattle.std.proofs.Common.{◌≡◌, ◌≢◌, ◌⊎◌, inl, inr, ℕ, zero, suc, ◌+◌, ◌<◌, ◌≤◌, ◌==◌, Bool, true, false, cond, List, [], ◌∷◌, ◌++◌, Option, Some, None, length, refl, sym, ◌∙◌, ap, subst, arith, length-append}
use Rattle.std.specs.Prelude.{unwrap_or}
use Rattle.std.specs.BTreeMap.{is_at}
use Rattle.std.specs.Map.{lookup}
use Rattle.std.specs.Option.{option_map}
use Rattle.std.specs.Ordering.{nat_cmp}
use Rattle.std.proofs.lemmas.Bool.{cases_eq}
use Rattle.std.proofs.lemmas.Bool.Decides.{nat_tests}
use Rattle.std.proofs.lemmas.List.{take_all, take-append-le}
use Rattle.vol_disk.specs.Disk.{Disk, Files}
use Rattle.vol_disk.specs.Images.{IsImage}
use Rattle.vol_disk.specs.Sound.{sound_of}
use Rattle.vol_disk.specs.Does.{Follows, Elapses, Does}
use Rattle.vol_disk.specs.FileState.{FileState, at_rest}
use Rattle.vol_disk.specs.Left.{IsLeft}
use Rattle.vol_disk.specs.Calls.{CanDo, step_of, after}
use Rattle.vol_disk.specs.Replay.{after_call, after_calls, bytes_in, state_of}
use Rattle.vol_disk.specs.MemDisk.{AreLeft, disk_after}
use Rattle.vol_disk.specs.Held.{state_in, IsReplayed, IsPicked, ArePicked}
use Rattle.vol_disk.specs.declared.call.Call.{Call}
use Rattle.vol_disk.specs.declared.call.Deed.{Deed}
use Rattle.vol_disk.specs.declared.call.Deed.TheVariants.{Len, Read, Write, Grow, Cut, Sync, End}
use Rattle.vol_disk.proofs.Leaving.{follows_after}

-- one call more
pub one_more : (calls : List Call) (call : Call) (file : ℕ) (s : FileState) → after_calls (calls ++ call ∷ []) file s ≡ after_call call file (after_calls calls file s)
one_more [] call file s = refl
one_more (c ∷ calls) call file s = one_more calls call file (after_call c file s)

at_file : (call : Call) (file : ℕ) (s : FileState) → file ≡ call.file → after_call call file s ≡ after call.deed call.is_done s
at_file call file s is = grind (arith, nat_tests)

at_other : (call : Call) (file : ℕ) (s : FileState) → file ≢ call.file → after_call call file s ≡ s
at_other call file s ne = grind (arith, nat_tests)

module _ (start : List (ℕ × List ℕ)) (calls : List Call) (call : Call) where
  abbrev more : List Call
  more = calls ++ call ∷ []

  -- the call's own file, and another one
  pub state_here : (file : ℕ) → file ≡ call.file → state_of start more file ≡ after call.deed call.is_done (state_of start calls file)
  state_here file is = one_more calls call file (at_rest (bytes_in start file)) ∙ at_file call file (state_of start calls file) is

  pub state_there : (file : ℕ) → file ≢ call.file → state_of start more file ≡ state_of start calls file
  state_there file ne = one_more calls call file (at_rest (bytes_in start file)) ∙ at_other call file (state_of start calls file) ne

  elapses : Elapses (disk_after start calls) (disk_after start more)
  elapses = record {
    later = omega (arith, length-append calls (call ∷ []));
    keeps = λ t image le left. (
      left.0,
      left.1,
      omega (arith, left.2, length-append calls (call ∷ [])),
      subst (λ cs. AreLeft start cs image) (sym (take-append-le left.0 calls (call ∷ []) left.2)) left.3,
    );
    adds = λ t image le left. elim (early left.0 (omega (arith, left.2, length-append calls (call ∷ [])))) [
      | inl early ↦ inl (left.0, left.1, early, subst (λ cs. AreLeft start cs image) (take-append-le left.0 calls (call ∷ []) early) left.3)
      | inr late ↦ inr (image_of (subst (λ cs. AreLeft start cs image) (take_all left.0 more (omega (arith, late, length-append calls (call ∷ [])))) left.3))
    ];
  }
    where
      image_of : {image : Files} → AreLeft start more image → IsImage (disk_after start more) image
      image_of left = record { bytes = left.bytes; left = left.left }

      early : (k : ℕ) → k ≤ length calls + 1 → (k ≤ length calls) ⊎ (length calls < k)
      early k h = grind arith

  -- a call does to the disk what its step says
  pub does_call : CanDo call.deed (state_of start calls call.file) →
      Does call.file (step_of (length (state_of start calls call.file).bytes) call.deed) (disk_after start calls) (disk_after start more)
  does_call can = record {
    leaves = subst (λ s. Follows (step_of (length (state_of start calls call.file).bytes) call.deed) (IsLeft (state_of start calls call.file)) (IsLeft s)) (sym (state_here call.file refl)) (follows_after call.deed call.is_done (state_of start calls call.file) can (sound_of start calls call.file));
    elsewhere = λ other ne. record {
      seen = ap (λ (s : FileState). s.bytes) (state_there other ne);
      leaves = λ bytes left. subst (λ s. IsLeft s bytes) (state_there other ne) left;
    };
    time = elapses;
  }

-- a call that was not made
pub does_nothing : (disk : Disk) (file : ℕ) (Step : List ℕ → List ℕ → Type 0) → ((bytes : List ℕ) → Step bytes bytes) → Does file Step disk disk
does_nothing disk file Step same = record {
  leaves = λ bytes left. (bytes, left, same bytes);
  elsewhere = λ other ne. record { seen = refl; leaves = λ bytes left. left };
  time = record { later = omega arith; keeps = λ t image le left. left; adds = λ t image le left. inl left };
}

-- ---- files by number

-- the calls made of the files what one call more makes of them
pub replayed_more : (files next : List (ℕ × FileState)) (start : List (ℕ × List ℕ)) (calls recorded : List Call) (call : Call) → IsReplayed files start calls →
    ((file : ℕ) → state_in next file ≡ after_call call file (state_in files file)) → recorded ≡ calls ++ call ∷ [] → IsReplayed next start recorded
replayed_more files next start calls recorded call kept made noted =
    subst (λ cs. IsReplayed next start cs) (sym noted)
    (λ file. made file ∙ ap (after_call call file) (kept file) ∙ sym (one_more calls call file (at_rest (bytes_in start file))))

pub replayed_same : (files next : List (ℕ × FileState)) (start : List (ℕ × List ℕ)) (calls : List Call) → IsReplayed files start calls →
    ((file : ℕ) → state_in next file ≡ state_in files file) → IsReplayed next start calls
replayed_same files next start calls kept same = λ file. same file ∙ kept file

-- a deed that writes no bytes
pub record WritesNone (deed : Deed) : Type 0 where
  pub no_write : (at : ℕ) (bytes : List ℕ) → deed ≡ Write at bytes → ⊥
  pub no_zeros : (count : ℕ) → deed ≡ Grow count → ⊥

-- a call on a file that is not held, and writes nothing
empty_after : (deed : Deed) (is_done : Bool) → CanDo deed (at_rest []) → WritesNone deed → after deed is_done (at_rest []) ≡ at_rest []
empty_after Len is_done can none = refl
empty_after (Read at count) is_done can none = refl
empty_after (Write at bytes) is_done can none = absurd (none.no_write at bytes refl)
empty_after (Grow count) is_done can none = absurd (none.no_zeros count refl)
empty_after (Cut zero) true can none = refl
empty_after (Cut zero) false can none = refl
empty_after (Cut (suc to)) is_done can none = absurd (omega (arith, can))
empty_after Sync true can none = refl
empty_after Sync false can none = refl
empty_after End is_done can none = refl

-- ---- what is found by number

is_at_is : (file n : ℕ) → is_at (nat_cmp file) n ≡ (n == file)
is_at_is file n = grind (arith, nat_tests)

abbrev first : {X : Type 0} → Option X → Option X → Option X
first (Some x) other = Some x
first None other = other

lookup-push : {X : Type 0} (test : ℕ → Bool) (es : List (ℕ × X)) (e : ℕ × X) → lookup test (es ++ e ∷ []) ≡ first (lookup test es) (cond (test e.0) (Some e.1) None)
lookup-push test [] e = refl
lookup-push {X} test (x ∷ es) e = go (test x.0) (lookup-push test es e)
  where
    go : (b : Bool) → lookup test (es ++ e ∷ []) ≡ first (lookup test es) (cond (test e.0) (Some e.1) None) →
        cond b (Some x.1) (lookup test (es ++ e ∷ [])) ≡ first (cond b (Some x.1) (lookup test es)) (cond (test e.0) (Some e.1) None)
    go true rest = refl
    go false rest = rest

-- what is held at rest are the bytes that are listed first under each number
abbrev pub AreAtRest : List (ℕ × FileState) → List (ℕ × List ℕ) → Type 0
AreAtRest files start = (file : ℕ) → lookup (is_at (nat_cmp file)) files ≡ option_map at_rest (lookup (is_at (nat_cmp file)) start)

pub at_rest_more : (files next : List (ℕ × FileState)) (start : List (ℕ × List ℕ)) (number : ℕ) (bytes : List ℕ) → AreAtRest files start →
    lookup (is_at (nat_cmp number)) next ≡ Some (unwrap_or (lookup (is_at (nat_cmp number)) files) (at_rest bytes)) →
    ((other : ℕ) → is_at (nat_cmp number) other ≡ false → lookup (is_at (nat_cmp other)) next ≡ lookup (is_at (nat_cmp other)) files) →
    AreAtRest next (start ++ (number, bytes) ∷ [])
at_rest_more files next start number bytes so_far here there file = elim (cases_eq file number) [
  | inl is ↦ subst (λ (n : ℕ). lookup (is_at (nat_cmp n)) next ≡ option_map at_rest (lookup (is_at (nat_cmp n)) (start ++ (number, bytes) ∷ []))) (sym is) at_number
  | inr ne ↦ there file (out ne) ∙ so_far file ∙ ap (option_map at_rest) (none_here (lookup (is_at (nat_cmp file)) start) (out_too ne) ∙ sym (lookup-push (is_at (nat_cmp file)) start (number, bytes)))
]
  where
    out : file ≢ number → is_at (nat_cmp number) file ≡ false
    out ne = grind (arith, nat_tests)

    out_too : file ≢ number → is_at (nat_cmp file) number ≡ false
    out_too ne = grind (arith, nat_tests)

    itself : is_at (nat_cmp number) number ≡ true
    itself = grind (arith, nat_tests)

    none_here : (o : Option (List ℕ)) → is_at (nat_cmp file) number ≡ false → o ≡ first o (cond (is_at (nat_cmp file) number) (Some bytes) None)
    none_here (Some b) f = refl
    none_here None f = ap (λ (b : Bool). cond b (Some bytes) None) (sym f)

    both : (o : Option (List ℕ)) → Some (unwrap_or (option_map at_rest o) (at_rest bytes)) ≡ option_map at_rest (first o (cond (is_at (nat_cmp number) number) (Some bytes) None))
    both (Some b) = refl
    both None = ap (λ (b : Bool). option_map at_rest (cond b (Some bytes) None)) (sym itself)

    at_number : lookup (is_at (nat_cmp number)) next ≡ option_map at_rest (lookup (is_at (nat_cmp number)) (start ++ (number, bytes) ∷ []))
    at_number =
        here ∙ ap (λ (o : Option FileState). Some (unwrap_or o (at_rest bytes))) (so_far number)
        ∙ both (lookup (is_at (nat_cmp number)) start)
        ∙ ap (option_map at_rest) (sym (lookup-push (is_at (nat_cmp number)) start (number, bytes)))

pub states_at_rest : (files : List (ℕ × FileState)) (start : List (ℕ × List ℕ)) → AreAtRest files start → (file : ℕ) → state_in files file ≡ at_rest (bytes_in start file)
states_at_rest files start rest file = ap (λ (o : Option FileState). unwrap_or o (at_rest [])) (rest file) ∙ go (lookup (is_at (nat_cmp file)) start)
  where
    go : (o : Option (List ℕ)) → unwrap_or (option_map at_rest o) (at_rest []) ≡ at_rest (unwrap_or o [])
    go (Some bytes) = refl
    go None = refl

-- ---- the bytes that are picked

pub picked_more : (pick : ℕ) (files : List (ℕ × FileState)) (images : List (ℕ × List ℕ)) (file : ℕ × FileState) (image : ℕ × List ℕ) → ArePicked pick files images →
    image.0 ≡ file.0 → IsPicked pick file.1 image.1 → ArePicked pick (files ++ file ∷ []) (images ++ image ∷ [])
picked_more pick [] [] file image h is picked = ((is, picked), tt)
picked_more pick [] (i ∷ images) file image h is picked = absurd h
picked_more pick (f ∷ files) [] file image h is picked = absurd h
picked_more pick (f ∷ files) (i ∷ images) file image h is picked = (h.0, picked_more pick files images file image h.1 is picked)

picked_none : (pick : ℕ) → IsPicked pick (at_rest []) []
picked_none pick = record {
  bytes = λ k d lt. absurd (omega (arith, lt));
  left = record { no_shorter = omega arith; no_longer = omega arith; stays = λ k low none. refl };
  as_synced = λ is. refl;
  as_read = λ is. refl;
}

pub picked_at : (pick : ℕ) (files : List (ℕ × FileState)) (images : List (ℕ × List ℕ)) (file : ℕ) → ArePicked pick files images → IsPicked pick (state_in files file) (bytes_in images file)
picked_at pick [] [] file h = picked_none pick
picked_at pick [] (i ∷ images) file h = absurd h
picked_at pick (f ∷ files) [] file h = absurd h
picked_at pick (f ∷ files) (i ∷ images) file h =
    subst (λ (n : ℕ). IsPicked pick (state_in (f ∷ files) file) (unwrap_or (cond (is_at (nat_cmp file) n) (Some i.1) (lookup (is_at (nat_cmp file)) images)) [])) (sym h.0.0)
    (go (is_at (nat_cmp file) f.0) (picked_at pick files images file h.1))
  where
    go : (b : Bool) → IsPicked pick (state_in files file) (bytes_in images file) →
        IsPicked pick (unwrap_or (cond b (Some f.1) (lookup (is_at (nat_cmp file)) files)) (at_rest [])) (unwrap_or (cond b (Some i.1) (lookup (is_at (nat_cmp file)) images)) [])
    go true rest = h.0.1
    go false rest = rest

-- what is picked for all files is what a crash may leave of them
pub picked_left : (pick : ℕ) (files : List (ℕ × FileState)) (start images : List (ℕ × List ℕ)) (calls : List Call) → IsReplayed files start calls → ArePicked pick files images →
    (file : ℕ) → IsPicked pick (state_of start calls file) (bytes_in images file)
picked_left pick files start images calls kept all file = subst (λ s. IsPicked pick s (bytes_in images file)) (kept file) (picked_at pick files images file all)

pub all_left : (pick : ℕ) (start images : List (ℕ × List ℕ)) (calls : List Call) → ((file : ℕ) → IsPicked pick (state_of start calls file) (bytes_in images file)) → AreLeft start calls (bytes_in images)
all_left pick start images calls picked = record { bytes = λ file. (picked file).bytes; left = λ file. (picked file).left }

-- ---- a call on one of the files

-- a file has a new state under its number, and the others stay
pub applied_at : (files next : List (ℕ × FileState)) (call : Call) (state : FileState) →
    lookup (is_at (nat_cmp call.file)) next ≡ Some state →
    ((other : ℕ) → is_at (nat_cmp call.file) other ≡ false → lookup (is_at (nat_cmp other)) next ≡ lookup (is_at (nat_cmp other)) files) →
    state ≡ after call.deed call.is_done (state_in files call.file) →
    (file : ℕ) → state_in next file ≡ after_call call file (state_in files file)
applied_at files next call state here there is file = elim (cases_eq file call.file) [
  | inl same ↦
      ap (state_in next) same ∙ ap (λ (o : Option FileState). unwrap_or o (at_rest [])) here ∙ is
      ∙ ap (λ (n : ℕ). after call.deed call.is_done (state_in files n)) (sym same) ∙ sym (at_file call file (state_in files file) same)
  | inr ne ↦
      ap (λ (o : Option FileState). unwrap_or o (at_rest [])) (there file (out ne)) ∙ sym (at_other call file (state_in files file) ne)
]
  where
    out : file ≢ call.file → is_at (nat_cmp call.file) file ≡ false
    out ne = grind (arith, nat_tests)

-- a file that is not held stays so, where the call writes nothing
pub unheld_after : (files : List (ℕ × FileState)) (call : Call) → lookup (is_at (nat_cmp call.file)) files ≡ None → CanDo call.deed (at_rest []) →
    WritesNone call.deed → (file : ℕ) → state_in files file ≡ after_call call file (state_in files file)
unheld_after files call absent can none file = elim (cases_eq file call.file) [
  | inl same ↦
      let empty : state_in files file ≡ at_rest [] = ap (state_in files) same ∙ ap (λ (o : Option FileState). unwrap_or o (at_rest [])) absent in
      empty ∙ sym (empty_after call.deed call.is_done can none) ∙ ap (after call.deed call.is_done) (sym empty) ∙ sym (at_file call file (state_in files file) same)
  | inr ne ↦ sym (at_other call file (state_in files file) ne)
]

-- what one file is picked by is the pick, where that is fixed
pub picked_by : (pick drawn : ℕ) (state : FileState) (image : List ℕ) → (pick < 2 → drawn ≡ pick) → IsPicked drawn state image → IsPicked pick state image
picked_by pick drawn state image fixed picked = record {
  bytes = picked.bytes;
  left = picked.left;
  as_synced = λ is. picked.as_synced (fixed (omega (arith, is)) ∙ is);
  as_read = λ is. picked.as_read (fixed (omega (arith, is)) ∙ is);
}
