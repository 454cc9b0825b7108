-- How long the records that wait are, each of which is measured once.
use Rattle.std.proofs.Common.{◌≡◌, ◌≢◌, inl, inr, ℕ, ◌+◌, ◌≤◌, ◌<◌, ◌^◌, Bool, true, false, ◌&&◌, List, [], ◌∷◌, ◌++◌, length, map, get_or, take, drop, refl, sym, ap, subst, ◌∙◌, arith, append_assoc}
use Rattle.std.specs.Prelude.{IsTrue, nat_le, nat_lt}
use Rattle.std.specs.List.{flat_map, list_all}
use Rattle.std.proofs.lemmas.Bool.{and_parts, le-ltb, leb-false, leb-true, lt-ltb, true≢false}
use Rattle.std.proofs.lemmas.List.{length-append, map-append, take-append-drop, take-append-le, take_all, take_more}
use Rattle.std.proofs.lemmas.List.Concat.{flat_map-append}
use Rattle.std.proofs.lemmas.List.Folds.{list_all-append}
use Rattle.js_base.specs.Bytes.{Bytes}
use Rattle.effects.specs.declared.effect.Effect.{Effect}
use Rattle.effects.specs.declared.effect.Effect.TheVariants.{MakeStream, ChangeStream, DropStream, PutHere, Skip, Remove, MakeConsumer, DropConsumer, Deliver, Acked, Due, GivenUp, Now}
use Rattle.op_records.specs.Allowed.{is_record}
use Rattle.op_records.specs.Spelling.{long, spelled, spelled_record, spelled_spot, text}
use Rattle.op_records.specs.declared.record.Record.{Record}
use Rattle.place_engine.specs.Following.{begins_with_moment, followed, left_before}
use Rattle.stream_store.proofs.Records.{record_there}
use Rattle.stream_store.specs.Committing.{batch_length, no_spot, recorded_at}
use Rattle.volume_place.specs.Measured.{AddUp, HasLengths, HaveLengths, IsMeasured}
use Rattle.volume_place.specs.Tail.{is_small}
use Rattle.volume_place.specs.declared.lengths.Lengths.{Lengths}
use Rattle.volume_place.proofs.Following.{Leaves, leaves, now_in}

-- ---- one behind the other

waiting_both : (xs ys : List Effect) → length (flat_map spelled (xs ++ ys)) ≡ length (flat_map spelled xs) + length (flat_map spelled ys)
waiting_both xs ys = ap (λ (l : Bytes). length l) (flat_map-append spelled xs ys) ∙ length-append (flat_map spelled xs) (flat_map spelled ys)

logged_both : (xs ys : List Effect) → batch_length (xs ++ ys) ≡ batch_length xs + batch_length ys
logged_both xs ys =
    ap (λ (l : List Record). length (flat_map spelled_record l)) (map-append (recorded_at no_spot) xs ys)
    ∙ ap (λ (l : Bytes). length l) (flat_map-append spelled_record (map (recorded_at no_spot) xs) (map (recorded_at no_spot) ys))
    ∙ length-append (flat_map spelled_record (map (recorded_at no_spot) xs)) (flat_map spelled_record (map (recorded_at no_spot) ys))

both : (xs ys : List Effect) (first more sum : Lengths) → HaveLengths xs first → HaveLengths ys more → AddUp first more sum → HaveLengths (xs ++ ys) sum
both xs ys first more sum h k adds = record {
  waiting = omega (arith, h.waiting, k.waiting, adds.waiting, waiting_both xs ys);
  logged = omega (arith, h.logged, k.logged, adds.logged, logged_both xs ys);
}

one_has : (e : Effect) (lengths : Lengths) → HasLengths e lengths → HaveLengths (e ∷ []) lengths
one_has e lengths h = record {
  waiting = omega (arith, h.waiting, length-append (spelled e) []);
  logged = omega (arith, h.logged, length-append (spelled_record (recorded_at no_spot e)) []);
}

-- ---- those that were measured, and the others

pub none_measured : (lengths : Lengths) → lengths ≡ record { waiting = 0; logged = 0 } → IsMeasured [] 0 lengths
none_measured lengths is = subst (IsMeasured [] 0) (sym is) (record { within = omega arith; first = record { waiting = refl; logged = refl } })

-- more records behind them change nothing
pub measured_more : (records more : List Effect) (measured : ℕ) (lengths : Lengths) → IsMeasured records measured lengths → IsMeasured (records ++ more) measured lengths
measured_more records more measured lengths h = record {
  within =
      let within : measured ≤ length records = h.within in
      let both : length (records ++ more) ≡ length records + length more = length-append records more in
      omega (arith, within, both);
  first = subst (λ (l : List Effect). HaveLengths l lengths) (sym (take-append-le measured records more h.within)) h.first;
}

-- each moment is as long as another one
moment_lengths : (first second : ℕ) (lengths : Lengths) → HaveLengths (Now first ∷ []) lengths → HaveLengths (Now second ∷ []) lengths
unfolding spelled spelled_record
moment_lengths first second lengths h = record { waiting = h.waiting; logged = h.logged }

last_lengths : (front : List Effect) (first second : ℕ) (lengths : Lengths) → HaveLengths (front ++ Now first ∷ []) lengths → HaveLengths (front ++ Now second ∷ []) lengths
last_lengths front first second lengths h =
    let one : HaveLengths (Now first ∷ []) (record { waiting = length (flat_map spelled (Now first ∷ [])); logged = batch_length (Now first ∷ []) }) = record { waiting = refl; logged = refl } in
    let other = moment_lengths first second (record { waiting = length (flat_map spelled (Now first ∷ [])); logged = batch_length (Now first ∷ []) }) one in
    record {
      waiting = omega (arith, h.waiting, other.waiting, waiting_both front (Now first ∷ []), waiting_both front (Now second ∷ []));
      logged = omega (arith, h.logged, other.logged, logged_both front (Now first ∷ []), logged_both front (Now second ∷ []));
    }

-- so it may stand for it
measured_last : (front : List Effect) (first second measured : ℕ) (lengths : Lengths) → IsMeasured (front ++ Now first ∷ []) measured lengths → IsMeasured (front ++ Now second ∷ []) measured lengths
measured_last front first second measured lengths h = record { within = within; first = go (nat_le measured (length front)) refl }
  where
    within : measured ≤ length (front ++ Now second ∷ [])
    within =
        let so_many : measured ≤ length (front ++ Now first ∷ []) = h.within in
        omega (arith, so_many, length-append front (Now first ∷ []), length-append front (Now second ∷ []))

    go : (b : Bool) → nat_le measured (length front) ≡ b → HaveLengths (take measured (front ++ Now second ∷ [])) lengths
    go true e =
        let few : measured ≤ length front = leb-true measured (length front) e in
        subst (λ (l : List Effect). HaveLengths l lengths) (take-append-le measured front (Now first ∷ []) few ∙ sym (take-append-le measured front (Now second ∷ []) few)) h.first
    go false e =
        let many : length front < measured = leb-false measured (length front) e in
        let all : take measured (front ++ Now first ∷ []) ≡ front ++ Now first ∷ [] =
        take_all measured (front ++ Now first ∷ []) (omega (arith, many, length-append front (Now first ∷ []))) in
        let all_then : take measured (front ++ Now second ∷ []) ≡ front ++ Now second ∷ [] =
        take_all measured (front ++ Now second ∷ []) (omega (arith, many, length-append front (Now second ∷ []))) in
        subst (λ (l : List Effect). HaveLengths l lengths) (sym all_then)
        (last_lengths front first second lengths (subst (λ (l : List Effect). HaveLengths l lengths) all h.first))

-- a moment that gives way to another one changes nothing
pub measured_followed : (tail more : List Effect) (measured : ℕ) (lengths : Lengths) → IsMeasured tail measured lengths → IsMeasured (followed tail more) measured lengths
measured_followed tail more measured lengths h = go (leaves more tail)
  where
    begins : (front more : List Effect) (first : ℕ) → begins_with_moment more ≡ true → IsMeasured (front ++ Now first ∷ []) measured lengths → IsMeasured (front ++ more) measured lengths
    begins front [] first is m = absurd (true≢false (sym is))
    begins front (effect ∷ rest) first is m =
        let now = now_in effect is in
        subst (λ (e : Effect). IsMeasured (front ++ e ∷ rest) measured lengths) (sym now.1)
        (subst (λ (l : List Effect). IsMeasured l measured lengths) (append_assoc front (Now now.0 ∷ []) rest)
        (measured_more (front ++ Now now.0 ∷ []) rest measured lengths (measured_last front first now.0 measured lengths m)))

    go : Leaves more tail → IsMeasured (left_before more tail ++ more) measured lengths
    go (inl same) = subst (λ (l : List Effect). IsMeasured (l ++ more) measured lengths) (sym same) (measured_more tail more measured lengths h)
    go (inr ends) = begins (left_before more tail) more ends.0 ends.2 (subst (λ (l : List Effect). IsMeasured l measured lengths) ends.1 h)

pub measured_sum : (records : List Effect) (measured : ℕ) (lengths more sum : Lengths) → IsMeasured records measured lengths → HaveLengths (drop measured records) more
    → AddUp lengths more sum → HaveLengths records sum
measured_sum records measured lengths more sum h k adds =
    subst (λ (l : List Effect). HaveLengths l sum) (take-append-drop measured records) (both (take measured records) (drop measured records) lengths more sum h.first k adds)

pub measured_all : (records : List Effect) (lengths : Lengths) → HaveLengths records lengths → IsMeasured records (length records) lengths
measured_all records lengths h = record {
  within = omega arith;
  first = subst (λ (l : List Effect). HaveLengths l lengths) (sym (take_all (length records) records (omega arith))) h;
}

pub rest_allowed : (records : List Effect) (from : ℕ) → IsTrue (list_all is_record records) → IsTrue (list_all is_record (drop from records))
rest_allowed records from all =
    (and_parts (list_all is_record (take from records)) (list_all is_record (drop from records))
    (sym (list_all-append is_record (take from records) (drop from records)) ∙ ap (list_all is_record) (take-append-drop from records) ∙ all)).1

-- each record may stand in a log
pub allowed_at : (records : List Effect) (at : ℕ) (effect : Effect) → IsTrue (list_all is_record records) → at < length records → effect ≡ get_or records at effect → IsTrue (is_record effect)
allowed_at = record_there

-- ---- one record after the other

pub none_yet : (records : List Effect) (lengths : Lengths) → lengths ≡ record { waiting = 0; logged = 0 } → HaveLengths (take 0 records) lengths
none_yet records lengths is = subst (HaveLengths []) (sym is) (record { waiting = refl; logged = refl })

pub one_more : (records : List Effect) (at : ℕ) (effect : Effect) (before more after : Lengths) → at < length records → effect ≡ get_or records at effect
    → HaveLengths (take at records) before → HasLengths effect more → AddUp before more after → HaveLengths (take (at + 1) records) after
one_more records at effect before more after within is so_far length_is adds =
    let next : take (at + 1) records ≡ take at records ++ effect ∷ [] = take_more records at effect within ∙ ap (λ (e : Effect). take at records ++ e ∷ []) (sym is) in
    subst (λ (l : List Effect). HaveLengths l after) (sym next) (both (take at records) (effect ∷ []) before more after so_far (one_has effect more length_is) adds)

pub each_measured : (records : List Effect) (at : ℕ) (lengths : Lengths) → length records ≤ at → HaveLengths (take at records) lengths → HaveLengths records lengths
each_measured records at lengths past so_far = subst (λ (l : List Effect). HaveLengths l lengths) (take_all at records past) so_far

-- a log has no message: in its place it has a spot, which is as long as the numbers that tell how long the parts of a message are
pub put_lengths : (seq at : ℕ) (id subject headers payload : Bytes) → length (spelled (PutHere seq at id subject headers payload)) ≡ length (spelled_record (recorded_at no_spot (PutHere seq at id subject headers payload))) + (length subject + (length headers + length payload))
unfolding spelled spelled_record
put_lengths seq at id subject headers payload = omega (
  arith,
  length-append (text id) (text subject ++ (long headers ++ long payload)),
  length-append (text subject) (long headers ++ long payload),
  length-append (long headers) (long payload),
  length-append (text id) (spelled_spot no_spot),
)

-- of the record of a message
pub put_lengths_of : (e : Effect) (seq at : ℕ) (id subject headers payload : Bytes) → e ≡ PutHere seq at id subject headers payload
    → length (spelled e) ≡ length (spelled_record (recorded_at no_spot e)) + (length subject + (length headers + length payload))
put_lengths_of e seq at id subject headers payload is =
    subst (λ (x : Effect). length (spelled x) ≡ length (spelled_record (recorded_at no_spot x)) + (length subject + (length headers + length payload))) (sym is) (put_lengths seq at id subject headers payload)

-- each other one is logged as it waits
pub other_lengths : (e : Effect) → ((seq at : ℕ) (id subject headers payload : Bytes) → e ≢ PutHere seq at id subject headers payload) → length (spelled e) ≡ length (spelled_record (recorded_at no_spot e))
unfolding spelled_record
other_lengths (MakeStream incarnation made config) other = refl
other_lengths (ChangeStream config) other = refl
other_lengths DropStream other = refl
other_lengths (PutHere seq at id subject headers payload) other = absurd (other seq at id subject headers payload refl)
other_lengths (Skip seq at id) other = refl
other_lengths (Remove low high) other = refl
other_lengths (MakeConsumer name made config cursor picks) other = refl
other_lengths (DropConsumer name) other = refl
other_lengths (Deliver name seq count due dseq) other = refl
other_lengths (Acked name low high) other = refl
other_lengths (Due name seq due) other = refl
other_lengths (GivenUp name moment) other = refl
other_lengths (Now moment) other = refl

-- ---- whether they are little

few_are : (records : List Effect) (b : Bool) → length records < 1024 → nat_lt (length (flat_map spelled records)) (2 ^ 20) ≡ b → is_small records ≡ b
few_are records b few short =
    ap (λ (c : Bool). c && nat_lt (length (flat_map spelled records)) (2 ^ 20)) (lt-ltb (length records) 1024 few)
    ∙ short

pub too_many : (records : List Effect) → 1024 ≤ length records → false ≡ is_small records
too_many records many = sym (ap (λ (b : Bool). b && nat_lt (length (flat_map spelled records)) (2 ^ 20)) (le-ltb (length records) 1024 many))

pub small_as : (records : List Effect) (lengths : Lengths) → length records < 1024 → HaveLengths records lengths → nat_lt lengths.waiting (2 ^ 20) ≡ is_small records
small_as records lengths few are = sym (few_are records (nat_lt lengths.waiting (2 ^ 20)) few (ap (λ (n : ℕ). nat_lt n (2 ^ 20)) (sym are.waiting)))
