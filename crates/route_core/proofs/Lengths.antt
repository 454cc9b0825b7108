-- How long frames are together, and how many of them a collect takes.
use Rattle.std.proofs.Common.{◌≡◌, ◌⊎◌, inl, inr, ℕ, ◌+◌, ◌-◌, ◌<◌, ◌≤◌, Bool, true, false, cond, not, nat_lt, ◌==◌, List, [], ◌∷◌, ◌++◌, Option, Some, None, length, get_or, take, drop, map, sum, refl, sym, ap, ◌∙◌, arith, length-drop}
use Rattle.std.specs.Prelude.{is_some}
use Rattle.std.proofs.lemmas.List.{map-append, take-append-drop, take_more, drop_more, length-take}
use Rattle.std.proofs.lemmas.List.Sums.{sum_by-append, sum_by-cons, sum_by_push}
use Rattle.std.proofs.lemmas.Bool.Decides.{nat_tests}
use Rattle.js_base.specs.declared.frame.Frame.{Frame}
use Rattle.js_base.specs.declared.frame.Frame.TheVariants.{Info, Msg, Ping, Pong, Ok as Fine, Err as Error}
use Rattle.js_base.specs.Framing.{frame}
use Rattle.js_model.specs.Router.{Waiting, Queue, Marked, most_waiting, bytes_together, with_frame, front_within, collected}
use Rattle.route_core.specs.Queues.{waiting_of, IsWithin, gathered}
use Rattle.js_model.specs.declared.desk.Collected.TheVariants.{Frames}

-- ---- together

abbrev pub frame_length : Frame → ℕ
frame_length f = length (frame f)

pub together-cons : (f : Frame) (fs : List Frame) → bytes_together (f ∷ fs) ≡ frame_length f + bytes_together fs
together-cons f fs = sum_by-cons (λ n. n) (frame_length f) (map frame_length fs)

pub together-append : (xs ys : List Frame) → bytes_together (xs ++ ys) ≡ bytes_together xs + bytes_together ys
together-append xs ys = ap sum (map-append frame_length xs ys) ∙ sum_by-append (λ n. n) (map frame_length xs) (map frame_length ys)

pub together_push : (fs : List Frame) (f : Frame) → bytes_together (fs ++ f ∷ []) ≡ bytes_together fs + frame_length f
together_push fs f = ap sum (map-append frame_length fs (f ∷ [])) ∙ sum_by_push (λ n. n) (map frame_length fs) (frame_length f)

pub together_split : (fs : List Frame) (i : ℕ) → bytes_together fs ≡ bytes_together (take i fs) + bytes_together (drop i fs)
together_split fs i = ap bytes_together (sym (take-append-drop i fs)) ∙ together-append (take i fs) (drop i fs)

some_bytes : (f : Frame) → 1 ≤ frame_length f
some_bytes (Info client_id host port) = omega arith
some_bytes (Msg subject sid reply [] payload) = omega arith
some_bytes (Msg subject sid reply (h ∷ eaders) payload) = omega arith
some_bytes Ping = omega arith
some_bytes Pong = omega arith
some_bytes Fine = omega arith
some_bytes (Error text) = omega arith

-- there are no more frames than bytes
pub few_frames : (fs : List Frame) → length fs ≤ bytes_together fs
few_frames [] = omega arith
few_frames (f ∷ fs) = omega (arith, some_bytes f, few_frames fs, together-cons f fs)

-- ---- one more frame waits

abbrev waits : ℕ → List Frame → Waiting
waits n fs = cond (nat_lt most_waiting n) (Marked n) (Queue fs)

module _ (fs : List Frame) (f : Frame) (len more : ℕ) (is : len ≡ bytes_together fs) (long : more ≡ frame_length f) where
  together : bytes_together (fs ++ f ∷ []) ≡ len + more
  together = together_push fs f ∙ ap (λ n. n + frame_length f) (sym is) ∙ ap (λ n. len + n) (sym long)

  put_at : waits (len + more) (fs ++ f ∷ []) ≡ with_frame f (Queue fs)
  put_at = ap (λ n. waits n (fs ++ f ∷ [])) (sym together)

  over : most_waiting < len + more → nat_lt most_waiting (len + more) ≡ true
  over h = grind (arith, nat_tests)

  fits : len + more ≤ most_waiting → nat_lt most_waiting (len + more) ≡ false
  fits h = grind (arith, nat_tests)

  pub put_over : (mark : Option ℕ) → is_some mark ≡ false → most_waiting < len + more → waiting_of (Some (len + more)) [] ≡ with_frame f (waiting_of mark fs)
  put_over (Some length) h k = absurd (cc (h))
  put_over None h k = ap (λ b. cond b (Marked (len + more)) (Queue (fs ++ f ∷ []))) (sym (over k)) ∙ put_at

  pub put_within : (mark : Option ℕ) → is_some mark ≡ false → len + more ≤ most_waiting → waiting_of mark (fs ++ f ∷ []) ≡ with_frame f (waiting_of mark fs)
  put_within (Some length) h k = absurd (cc (h))
  put_within None h k = ap (λ b. cond b (Marked (len + more)) (Queue (fs ++ f ∷ []))) (sym (fits k)) ∙ put_at

-- ---- how many frames a collect takes

front_is_front : (max : ℕ) (fs : List Frame) → front_within max fs ≡ take (length (front_within max fs)) fs
front_is_front max [] = refl
front_is_front max (f ∷ fs) = go (nat_lt max (frame_length f)) (front_is_front (max - frame_length f) fs)
  where
    more : List Frame
    more = front_within (max - frame_length f) fs

    go : (b : Bool) → more ≡ take (length more) fs → cond b [] (f ∷ more) ≡ take (length (cond b [] (f ∷ more))) (f ∷ fs)
    go true h = refl
    go false h = ap (λ (xs : List Frame). f ∷ xs) h

-- it takes a prefix
pub collected_is_front : (max : ℕ) (fs : List Frame) → collected max fs ≡ take (length (collected max fs)) fs
collected_is_front max [] = refl
collected_is_front max (f ∷ fs) = ap (λ (xs : List Frame). f ∷ xs) (front_is_front (max - frame_length f) fs)

-- and no more than there are
pub few_collected : (max : ℕ) (fs : List Frame) → length (collected max fs) ≤ length fs
few_collected max fs = omega (arith, ap length (collected_is_front max fs), length-take (length (collected max fs)) fs)

-- what is still taken, if some were taken before or none
abbrev pub fitting : Bool → ℕ → List Frame → List Frame
fitting false room fs = collected room fs
fitting true room fs = front_within room fs

-- so many frames are taken, and of the others what fits
pub record Reaching (max : ℕ) (fs : List Frame) (count room : ℕ) : Type 0 where
  pub within : count ≤ length fs
  pub all : count + length (fitting (nat_lt 0 count) room (drop count fs)) ≡ length (collected max fs)

nothing_fits : (b : Bool) (room : ℕ) → fitting b room [] ≡ []
nothing_fits false room = refl
nothing_fits true room = refl

first_fits : (b : Bool) (room : ℕ) (f : Frame) (fs : List Frame) → (b ≡ true → nat_lt room (frame_length f) ≡ false)
    → fitting b room (f ∷ fs) ≡ f ∷ front_within (room - frame_length f) fs
first_fits false room f fs h = refl
first_fits true room f fs h = ap (λ c. cond c [] (f ∷ front_within (room - frame_length f) fs)) (h refl)

some_taken : (n : ℕ) → 0 < n → nat_lt 0 n ≡ true
some_taken n h = grind (arith, nat_tests)

too_long : (room len : ℕ) → room < len → nat_lt room len ≡ true
too_long room len h = grind (arith, nat_tests)

fits_after_first : (count room len : ℕ) → ((0 < count) × (len ≤ room)) ⊎ (count ≤ 0) → nat_lt 0 count ≡ true → nat_lt room len ≡ false
fits_after_first count room len (inl h) k = grind (arith, nat_tests)
fits_after_first count room len (inr h) k = grind (arith, nat_tests)

-- the next of the frames that are left
module _ (fs : List Frame) (i : ℕ) (f : Frame) (rest : List Frame) (next : f ∷ rest ≡ drop i fs) where
  pub next_within : i < length fs
  next_within = omega (arith, length-drop i fs, ap length next)

  pub next_is : f ≡ get_or fs i f
  next_is = let more = drop_more fs i f next_within in cc

  pub rest_is : rest ≡ drop (i + 1) fs
  rest_is = let more = drop_more fs i f next_within in cc

  pub next_taken : take i fs ++ f ∷ [] ≡ take (i + 1) fs
  next_taken = ap (λ x. take i fs ++ x ∷ []) next_is ∙ sym (take_more fs i f next_within)

  pub next_together : bytes_together (take i fs) + frame_length f ≡ bytes_together (take (i + 1) fs)
  next_together = sym (together_push (take i fs) f) ∙ ap bytes_together next_taken

module _ (max : ℕ) (fs : List Frame) (count room : ℕ) (r : Reaching max fs count room) where
  -- no frames are left
  pub reached_all : [] ≡ drop count fs → count ≡ length (collected max fs)
  reached_all h = omega (arith, r.all, ap length (ap (fitting (nat_lt 0 count) room) (sym h) ∙ nothing_fits (nat_lt 0 count) room))

  module _ (f : Frame) (rest : List Frame) (next : f ∷ rest ≡ drop count fs) where
    -- the next one does not fit
    pub reached_full : 0 < count → room < frame_length f → count ≡ length (collected max fs)
    reached_full some long =
        let none : fitting (nat_lt 0 count) room (drop count fs) ≡ [] =
        ap (λ b. fitting b room (drop count fs)) (some_taken count some) ∙ ap (front_within room) (sym next)
        ∙ ap (λ c. cond c [] (f ∷ front_within (room - frame_length f) rest)) (too_long room (frame_length f) long) in
        omega (arith, r.all, ap length none)

    -- it is taken
    pub reaching_more : ((0 < count) × (frame_length f ≤ room)) ⊎ (count ≤ 0) → Reaching max fs (count + 1) (room - frame_length f)
    reaching_more may =
        let taken : fitting (nat_lt 0 count) room (drop count fs) ≡ f ∷ front_within (room - frame_length f) rest =
        ap (fitting (nat_lt 0 count) room) (sym next) ∙ first_fits (nat_lt 0 count) room f rest (fits_after_first count room (frame_length f) may) in
        let more : fitting (nat_lt 0 (count + 1)) (room - frame_length f) (drop (count + 1) fs) ≡ front_within (room - frame_length f) rest =
        ap (λ b. fitting b (room - frame_length f) (drop (count + 1) fs)) (some_taken (count + 1) (omega arith)) ∙ ap (front_within (room - frame_length f)) (sym (rest_is fs count f rest next)) in
        record { within = omega (arith, next_within fs count f rest next); all = omega (arith, r.all, ap length taken, ap length more) }

-- ---- what is collected

-- whether more wait is whether some are left
some_left : (count len left : ℕ) → left ≡ len - count → not (left == 0) ≡ nat_lt count len
some_left count len left h = grind (arith, nat_tests)

-- what a collect took of a session that is not marked, and what it told
module _ (max : ℕ) (fs : List Frame) (count : ℕ) (is : count ≡ length (collected max fs)) where
  pub collects_within : count ≤ length fs
  collects_within = omega (arith, few_collected max fs)

  taken_is : take count fs ≡ collected max fs
  taken_is = ap (λ n. take n fs) is ∙ sym (collected_is_front max fs)

  pub gathers : (mark : Option ℕ) (list left : List Frame) (empty : Bool) → mark ≡ None → list ≡ take count fs → left ≡ drop count fs → empty ≡ (length left == 0)
      → Frames list (not empty) ≡ gathered max (waiting_of mark fs)
  gathers mark list left empty unmarked took leaves empties =
      let more : not empty ≡ nat_lt (length (collected max fs)) (length fs) =
      ap not empties ∙ some_left count (length fs) (length left) (ap length leaves ∙ length-drop count fs) ∙ ap (λ n. nat_lt n (length fs)) is in
      ap (λ xs. Frames xs (not empty)) (took ∙ taken_is) ∙ ap (Frames (collected max fs)) more ∙ ap (λ m. gathered max (waiting_of m fs)) (sym unmarked)

  pub left_within : (len taken : ℕ) (left : List Frame) → IsWithin fs len → taken ≡ bytes_together (take count fs) → left ≡ drop count fs → IsWithin left (len - taken)
  left_within len taken left h took leaves =
      let split = together_split fs count in
      let rest = ap bytes_together leaves in
      record { length_is = omega (arith, h.length_is); within = omega (arith, h.within) }

  pub takes_less : (len taken : ℕ) → IsWithin fs len → taken ≡ bytes_together (take count fs) → taken ≤ len
  takes_less len taken h took = let split = together_split fs count in omega (arith, h.length_is)
