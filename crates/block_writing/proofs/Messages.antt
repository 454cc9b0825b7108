-- Runs with a message more.
use Rattle.std.proofs.Common.{◌≡◌, ◌≢◌, ◌≤◌, ◌⊎◌, inl, inr, ℕ, zero, suc, ◌+◌, ◌-◌, ◌==◌, Bool, true, false, if◌then◌else◌, List, [], ◌∷◌, ◌++◌, All, length, take, drop, refl, sym, ap, subst, ◌∙◌, arith, length-take, length-drop}
use Rattle.std.proofs.lemmas.Bool.{eq-eqb, ne_eqb}
use Rattle.std.proofs.lemmas.List.{take-append-le, drop-append-le}
use Rattle.std.proofs.lemmas.List.Elements.{All-nil, All-cons, All-head, All-tail}
use Rattle.js_base.specs.Bytes.{Bytes}
use Rattle.js_base.specs.declared.spot.Spot.{Spot}
use Rattle.js_model.specs.declared.stream.Message.{Message}
use Rattle.op_records.specs.Blocks.{spelled_message}
use Rattle.block_writing.specs.declared.run.Run.{Run}
use Rattle.block_writing.specs.Planning.{run_at, with_bytes, with_message}
use Rattle.block_writing.specs.Runs.{AreApart, HasAt, SomeRun, LiesIn}

-- ---- lists with one more at the end

module _ {X : Type 0} (P : X → Type 0) where
  pub all_front : (xs : List X) (y : X) → All P (xs ++ y ∷ []) → All P xs
  all_front [] y h = All-nil P
  all_front (x ∷ xs) y h = All-cons P x xs (All-head P x (xs ++ y ∷ []) h) (all_front xs y (All-tail P x (xs ++ y ∷ []) h))

  pub all_last : (xs : List X) (y : X) → All P (xs ++ y ∷ []) → P y
  all_last [] y h = All-head P y [] h
  all_last (x ∷ xs) y h = all_last xs y (All-tail P x (xs ++ y ∷ []) h)

module _ (P : Run → Type 0) where
  pub some_front : (xs ys : List Run) → SomeRun P xs → SomeRun P (xs ++ ys)
  some_front [] ys h = absurd h
  some_front (x ∷ xs) ys (inl h) = inl h
  some_front (x ∷ xs) ys (inr h) = inr (some_front xs ys h)

  pub some_last : (xs : List Run) (y : Run) → P y → SomeRun P (xs ++ y ∷ [])
  some_last [] y h = inl h
  some_last (x ∷ xs) y h = inr (some_last xs y h)

  pub some_split : (xs : List Run) (y : Run) → SomeRun P (xs ++ y ∷ []) → SomeRun P xs ⊎ P y
  some_split [] y (inl h) = inr h
  some_split [] y (inr h) = absurd h
  some_split (x ∷ xs) y (inl h) = inl (inl h)
  some_split (x ∷ xs) y (inr h) = go (some_split xs y h)
    where
      go : SomeRun P xs ⊎ P y → SomeRun P (x ∷ xs) ⊎ P y
      go (inl s) = inl (inr s)
      go (inr p) = inr p

-- ---- apart

pub apart_push : (runs : List Run) (r : Run) → AreApart runs → All (λ run. r.file ≢ run.file) runs → AreApart (runs ++ r ∷ [])
apart_push [] r h ne = (All-nil (λ (other : Run). other.file ≢ r.file), tt)
apart_push (run ∷ runs) r h ne = (more runs h.0, apart_push runs r h.1 (All-tail (λ (x : Run). r.file ≢ x.file) run runs ne))
  where
    more : (xs : List Run) → All (λ other. other.file ≢ run.file) xs → All (λ other. other.file ≢ run.file) (xs ++ r ∷ [])
    more [] all = All-cons (λ (other : Run). other.file ≢ run.file) r [] (All-head (λ (x : Run). r.file ≢ x.file) run runs ne) (All-nil (λ (other : Run). other.file ≢ run.file))
    more (x ∷ xs) all =
        All-cons (λ (other : Run). other.file ≢ run.file) x (xs ++ r ∷ []) (All-head (λ (other : Run). other.file ≢ run.file) x xs all)
        (more xs (All-tail (λ (other : Run). other.file ≢ run.file) x xs all))

-- another run of the same file in place of the last one
pub all_same : (P : ℕ → Type 0) (xs : List Run) (r s : Run) → s.file ≡ r.file → All (λ run. P run.file) (xs ++ r ∷ []) → All (λ run. P run.file) (xs ++ s ∷ [])
all_same P [] r s is h = All-cons (λ (x : Run). P x.file) s [] (subst P (sym is) (All-head (λ (x : Run). P x.file) r [] h)) (All-nil (λ (x : Run). P x.file))
all_same P (x ∷ xs) r s is h =
    All-cons (λ (x : Run). P x.file) x (xs ++ s ∷ []) (All-head (λ (x : Run). P x.file) x (xs ++ r ∷ []) h) (all_same P xs r s is (All-tail (λ (x : Run). P x.file) x (xs ++ r ∷ []) h))

pub apart_same : (xs : List Run) (r s : Run) → s.file ≡ r.file → AreApart (xs ++ r ∷ []) → AreApart (xs ++ s ∷ [])
apart_same [] r s is h = (All-nil (λ (other : Run). other.file ≢ s.file), tt)
apart_same (x ∷ xs) r s is h = (all_same (λ (f : ℕ). f ≢ x.file) xs r s is h.0, apart_same xs r s is h.1)

-- ---- a message more

-- in a file that no run has it begins one
pub new_run : (runs : List Run) (spot : Spot) (bytes : Bytes) → All (λ run. (run.file == spot.file) ≡ false) runs → with_message runs spot bytes ≡ runs ++ run_at spot bytes ∷ []
new_run [] spot bytes h = refl
new_run (run ∷ []) spot bytes h =
    ap (λ (b : Bool). if b then with_bytes run bytes ∷ [] else run ∷ run_at spot bytes ∷ []) (All-head (λ (x : Run). (x.file == spot.file) ≡ false) run [] h)
new_run (run ∷ other ∷ runs) spot bytes h =
    ap (λ (l : List Run). run ∷ l) (new_run (other ∷ runs) spot bytes (All-tail (λ (x : Run). (x.file == spot.file) ≡ false) run (other ∷ runs) h))

-- and in that of the last run it goes behind it
pub same_run : (front : List Run) (run : Run) (spot : Spot) (bytes : Bytes) → (run.file == spot.file) ≡ true → with_message (front ++ run ∷ []) spot bytes ≡ front ++ with_bytes run bytes ∷ []
same_run [] run spot bytes h = ap (λ (b : Bool). if b then with_bytes run bytes ∷ [] else run ∷ run_at spot bytes ∷ []) h
same_run (x ∷ []) run spot bytes h = ap (λ (l : List Run). x ∷ l) (same_run [] run spot bytes h)
same_run (x ∷ y ∷ zs) run spot bytes h = ap (λ (l : List Run). x ∷ l) (same_run (y ∷ zs) run spot bytes h)

-- in another file than the last run's
pub other_run : (front : List Run) (run : Run) (spot : Spot) (bytes : Bytes) → (run.file == spot.file) ≡ false → with_message (front ++ run ∷ []) spot bytes ≡ (front ++ run ∷ []) ++ run_at spot bytes ∷ []
other_run [] run spot bytes h = ap (λ (b : Bool). if b then with_bytes run bytes ∷ [] else run ∷ run_at spot bytes ∷ []) h
other_run (x ∷ []) run spot bytes h = ap (λ (l : List Run). x ∷ l) (other_run [] run spot bytes h)
other_run (x ∷ y ∷ zs) run spot bytes h = ap (λ (l : List Run). x ∷ l) (other_run (y ∷ zs) run spot bytes h)

-- as the code finds it: the last run is in another file, or in the message's
pub added_other : (old front : List Run) (last : Run) (spot : Spot) (bytes : Bytes) → old ≡ front ++ last ∷ [] → last.file ≢ spot.file →
    (front ++ last ∷ []) ++ run_at spot bytes ∷ [] ≡ with_message old spot bytes
added_other old front last spot bytes is ne = sym (ap (λ (l : List Run). with_message l spot bytes) is ∙ other_run front last spot bytes (ne_eqb last.file spot.file ne))

pub added_same : (old front : List Run) (last : Run) (spot : Spot) (bytes now : Bytes) → old ≡ front ++ last ∷ [] → last.file ≡ spot.file → now ≡ last.bytes ++ bytes →
    front ++ record { file = last.file; at = last.at; bytes = now } ∷ [] ≡ with_message old spot bytes
added_same old front last spot bytes now is same longer =
    ap (λ (l : Bytes). front ++ record { file = last.file; at = last.at; bytes = l } ∷ []) longer
    ∙ sym (ap (λ (l : List Run). with_message l spot bytes) is ∙ same_run front last spot bytes (eq-eqb last.file spot.file same))

-- ---- where messages lie

-- a longer run has what it had
pub has_longer : (run : Run) (spot : Spot) (m : Message) (bytes : Bytes) → HasAt spot m run → HasAt spot m (with_bytes run bytes)
has_longer run spot m bytes h = record {
  file = h.file;
  from = h.from;
  len = h.len;
  spelled = longer (spot.at - run.at) spot.len run.bytes (spelled_message m) h.len h.spelled;
}
  where
    longer : (at len : ℕ) (xs ys : Bytes) → len ≡ length ys → take len (drop at xs) ≡ ys → take len (drop at (xs ++ bytes)) ≡ ys
    longer at len xs ys is e = go len ys is e
      where
        within : (n : ℕ) (zs : Bytes) → n ≡ length zs → take n (drop at xs) ≡ zs → n ≤ length xs - at
        within n zs is e = omega (arith, is, ap length e, length-take n (drop at xs), length-drop at xs)

        go : (n : ℕ) (zs : Bytes) → n ≡ length zs → take n (drop at xs) ≡ zs → take n (drop at (xs ++ bytes)) ≡ zs
        go zero zs is e = e
        go (suc n) zs is e =
            let fits = within (suc n) zs is e in
            ap (take (suc n)) (drop-append-le at xs bytes (omega (arith, fits)))
            ∙ take-append-le (suc n) (drop at xs) bytes (omega (arith, fits, length-drop at xs)) ∙ e

pub lies_longer : (front : List Run) (run : Run) (spot : Spot) (m : Message) (bytes : Bytes) → LiesIn (front ++ run ∷ []) spot m → LiesIn (front ++ with_bytes run bytes ∷ []) spot m
lies_longer front run spot m bytes h = go (some_split (HasAt spot m) front run h)
  where
    go : SomeRun (HasAt spot m) front ⊎ HasAt spot m run → LiesIn (front ++ with_bytes run bytes ∷ []) spot m
    go (inl s) = some_front (HasAt spot m) front (with_bytes run bytes ∷ []) s
    go (inr p) = some_last (HasAt spot m) front (with_bytes run bytes) (has_longer run spot m bytes p)

-- the message that was added
pub has_first : (spot : Spot) (m : Message) → spot.len ≡ length (spelled_message m) → HasAt spot m (run_at spot (spelled_message m))
has_first spot m is =
    let none : spot.at - spot.at ≡ 0 = omega arith in
    record {
      file = refl;
      from = omega arith;
      len = is;
      spelled = ap (λ (n : ℕ). take spot.len (drop n (spelled_message m))) none ∙ ap (λ (n : ℕ). take n (spelled_message m)) is ∙ take_whole (spelled_message m);
    }
  where
    take_whole : (xs : Bytes) → take (length xs) xs ≡ xs
    take_whole [] = refl
    take_whole (x ∷ xs) = ap (λ (l : Bytes). x ∷ l) (take_whole xs)

pub has_last : (run : Run) (spot : Spot) (m : Message) → spot.file ≡ run.file → run.at + length run.bytes ≡ spot.at → spot.len ≡ length (spelled_message m) → HasAt spot m (with_bytes run (spelled_message m))
has_last run spot m file at is =
    let front : spot.at - run.at ≡ length run.bytes = omega (arith, at) in
    record {
      file = file;
      from = omega (arith, at);
      len = is;
      spelled = ap (λ (n : ℕ). take spot.len (drop n (run.bytes ++ spelled_message m))) front ∙ ap (take spot.len) (drop_front run.bytes (spelled_message m))
          ∙ ap (λ (n : ℕ). take n (spelled_message m)) is ∙ take_whole (spelled_message m);
    }
  where
    drop_front : (xs ys : Bytes) → drop (length xs) (xs ++ ys) ≡ ys
    drop_front [] ys = refl
    drop_front (x ∷ xs) ys = drop_front xs ys

    take_whole : (xs : Bytes) → take (length xs) xs ≡ xs
    take_whole [] = refl
    take_whole (x ∷ xs) = ap (λ (l : Bytes). x ∷ l) (take_whole xs)
