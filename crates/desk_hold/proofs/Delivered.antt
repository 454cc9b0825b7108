-- The deliveries of a hold, one behind the other.
use Rattle.std.proofs.Common.{◌≡◌, ◌≢◌, ◌≤◌, ◌+◌, ◌++◌, ℕ, ◌<◌, get_or, add-one, List, [], ◌∷◌, length, length-append, append-nil, append_assoc, Option, None, Some, refl, sym, ap, subst, ◌∙◌, arith, inl, inr}
use Rattle.std.specs.Prelude.{◌⊎◌, ◌-◌, ◌^◌, min, sum_by, drop, take}
use Rattle.std.proofs.Math.Seq.{drop-append_seam, take-suc}
use Rattle.std.proofs.lemmas.List.{take_all}
use Rattle.std.proofs.lemmas.List.Sums.{sum_by-append}
use Rattle.js_base.specs.Bytes.{Bytes}
use Rattle.js_base.specs.declared.out.Out.{Out}
use Rattle.js_model.specs.declared.entry.Delivery.{Delivery}
use Rattle.js_model.specs.declared.entry.PlaceEntry.{PlaceEntry}
use Rattle.js_model.specs.declared.entry.PlaceEntry.TheVariants.{Deliver}
use Rattle.js_model.specs.declared.stream.State.{State}
use Rattle.js_model.specs.declared.desk.PlaceAt.{PlaceAt}
use Rattle.js_model.specs.PlaceStates.{PlaceIn}
use Rattle.js_api.specs.declared.fault.DeskFault.{DeskFault}
use Rattle.js_api.specs.Holding.{AreDeliveries, bytes_of, delivery_broke, most_bytes, most_deliveries}
use Rattle.js_api.specs.Outputs.{outs_from}
use Rattle.js_api.specs.Worlds.{IsLater}
use Rattle.place_engine.specs.Stepping.{Image, IsKept, Seen}
use Rattle.desk_hold.specs.declared.delivering.Ending.{Ending}
use Rattle.desk_hold.specs.declared.delivering.Ending.TheVariants.{Quiet, Full, Broke, Short, WornOut}
use Rattle.desk_hold.specs.Crashes.{Chain, MayCommit, Never, Outlasts}
use Rattle.desk_hold.specs.Deliveries.{DeliversOn, EndsSo, GoesOn, HasRoom, IsSentAt, Led, fault_by}
use Rattle.desk_hold.proofs.Beginnings.{outlasts_call, outlasts_more, outlasts_nothing}
use Rattle.desk_hold.proofs.Chain.{none_firm, sent_is}
use Rattle.desk_hold.proofs.Room.{more_room, none_room, room_for_one}

same_volume : (p : PlaceIn) → IsLater p.volume p.volume
same_volume p = record { faults = omega arith; refusals = omega arith; moments = omega arith; generations = omega arith }

module _ (holds : Image → State → Type 0) where
  -- So many deliveries were made and told so far. What goes on from here, goes on from the beginning
  pub record SoFar (seat : ℕ) (now : ℕ) (listening : List Bytes) (made : ℕ) (old here : Seen) (before outs : List Out) : Type 0 where
    pub first : List PlaceEntry
    pub sent : List Out
    pub count : length first ≡ made
    pub added : outs ≡ before ++ sent
    pub room : HasRoom before first
    pub goes : here.place.stopped ≡ None
    pub whole : (tail : List PlaceEntry) → delivery_broke (first ++ tail) ≡ delivery_broke tail
    pub are : (at : PlaceAt) (fault : Option DeskFault) (tail : List PlaceEntry) → AreDeliveries seat at now listening fault tail → AreDeliveries seat at now listening fault (first ++ tail)
    pub led : (tail : List PlaceEntry) (more : List Out) (new : PlaceIn) → Led here.place tail more new → Led old.place (first ++ tail) (sent ++ more) new
    pub outlasts : Outlasts holds Never first old here

  pub none_so_far : (seat now : ℕ) (listening : List Bytes) (old : Seen) (outs : List Out) → IsKept holds old → old.place.stopped ≡ None → SoFar seat now listening 0 old old outs outs
  none_so_far seat now listening old outs kept goes = record {
    first = [];
    sent = [];
    count = refl;
    added = sym (append-nil outs);
    room = none_room outs;
    goes = goes;
    whole = λ tail. refl;
    are = λ at fault tail h. h;
    led = λ tail more new h. h;
    outlasts = outlasts_nothing holds old kept;
  }

  -- what was sent so far is what these deliveries send
  sent_so_far : (seat now : ℕ) (listening : List Bytes) (made : ℕ) (old here : Seen) (before outs : List Out) (h : SoFar seat now listening made old here before outs) (stream : Bytes)
      → h.sent ≡ outs_from stream h.first
  sent_so_far seat now listening made old here before outs h stream =
      let led : Led old.place (h.first ++ []) (h.sent ++ []) here.place =
      h.led [] [] here.place (record { going = h.goes; state = refl; stored = refl; stopped = h.goes; later = same_volume here.place }, refl) in
      sym (append-nil h.sent) ∙ sent_is (h.first ++ []) stream old.place (h.sent ++ []) here.place led ∙ ap (λ (es : List PlaceEntry). outs_from stream es) (append-nil h.first)

  -- there is room as long as all that is to be sent has fewer bytes
  small_so_far : (seat now : ℕ) (listening : List Bytes) (made : ℕ) (old here : Seen) (before outs : List Out) (h : SoFar seat now listening made old here before outs) → sum_by bytes_of outs < most_bytes
      → (stream : Bytes) → sum_by bytes_of before + sum_by bytes_of (outs_from stream h.first) < most_bytes
  small_so_far seat now listening made old here before outs h small stream =
      let all : sum_by bytes_of outs ≡ sum_by bytes_of before + sum_by bytes_of h.sent = ap (λ (os : List Out). sum_by bytes_of os) h.added ∙ sum_by-append bytes_of before h.sent in
      let sent : sum_by bytes_of h.sent ≡ sum_by bytes_of (outs_from stream h.first) = ap (λ (os : List Out). sum_by bytes_of os) (sent_so_far seat now listening made old here before outs h stream) in
      omega (arith, small, all, sent)

  -- one more
  module _ (seat now : ℕ) (listening : List Bytes) (made : ℕ) (old here next : Seen) (before outs after : List Out) (d : Delivery) (os : List Out) (kept : IsKept holds here) (keeps : IsKept holds next)
      (h : SoFar seat now listening made old here before outs) (step : IsSentAt now listening d os here.place next.place) (goes : next.place.stopped ≡ None) (added : after ≡ outs ++ os) (commits : MayCommit holds here next)
      (small : sum_by bytes_of outs < most_bytes) where
    entry : PlaceEntry
    entry = Deliver seat now listening d os

    grown : (tail : List PlaceEntry) → (h.first ++ entry ∷ []) ++ tail ≡ h.first ++ entry ∷ tail
    grown tail = append_assoc h.first (entry ∷ []) tail

    not_firm : Chain ⊥ here.place.state (entry ∷ []) next.place.state
    unfolding entry
    not_firm = (next.place.state, (0, (next.place.state, step.step, refl)), (λ no. no), refl)

    pub one_more : SoFar seat now listening (made + 1) old next before after
    unfolding entry
    one_more = record {
      first = h.first ++ entry ∷ [];
      sent = h.sent ++ os;
      count = length-append h.first (entry ∷ []) ∙ ap (λ (n : ℕ). n + 1) h.count;
      added = added ∙ ap (λ (l : List Out). l ++ os) h.added ∙ append_assoc before h.sent os;
      room = more_room before h.first entry (small_so_far seat now listening made old here before outs h small);
      goes = goes;
      whole = λ tail. ap delivery_broke (grown tail) ∙ h.whole (entry ∷ tail);
      are = λ at fault tail k. subst (λ (es : List PlaceEntry). AreDeliveries seat at now listening fault es) (sym (grown tail)) (h.are at fault (entry ∷ tail) (refl, refl, refl, k));
      led = λ tail more new k.
          subst (λ (es : List PlaceEntry). Led old.place es ((h.sent ++ os) ++ more) new) (sym (grown tail))
          (subst (λ (l : List Out). Led old.place (h.first ++ entry ∷ tail) l new) (sym (append_assoc h.sent os more))
          (h.led (entry ∷ tail) (os ++ more) new (next.place, more, step, goes, refl, k)));
      outlasts = outlasts_more holds Never h.first (entry ∷ []) old here next h.outlasts (outlasts_call holds here next kept keeps commits (entry ∷ []) not_firm) not_firm;
    }

-- ---- the end

not_none : (first tail : List PlaceEntry) → tail ≢ [] → first ++ tail ≢ []
not_none [] tail some = some
not_none (e ∷ first) tail some = λ none. let no : ⊥ = cc in absurd no

ends_behind : (ending : Ending) (now : ℕ) (listening : List Bytes) (first tail : List PlaceEntry) (new : PlaceIn) (outs : List Out) → delivery_broke (first ++ tail) ≡ delivery_broke tail
    → EndsSo ending now listening tail new outs → EndsSo ending now listening (first ++ tail) new outs
ends_behind Quiet now listening first tail new outs same h = (same ∙ h.0, h.1)
ends_behind Full now listening first tail new outs same (whole, inl many) = (same ∙ whole, inl (omega (arith, many, length-append first tail)))
ends_behind Full now listening first tail new outs same (whole, inr big) = (same ∙ whole, inr big)
ends_behind Broke now listening first tail new outs same h = same ∙ h
ends_behind Short now listening first tail new outs same h = tt
ends_behind WornOut now listening first tail new outs same h = (not_none first tail h.0, h.1)

-- there was room for each of these and for the one behind them, if there is one
room_there : (holds : Image → State → Type 0) (seat now : ℕ) (listening : List Bytes) (made : ℕ) (old here : Seen) (before outs : List Out) (h : SoFar holds seat now listening made old here before outs)
    (entries : List PlaceEntry) → length entries ≤ 1 → HasRoom outs entries → HasRoom before (h.first ++ entries)
room_there holds seat now listening made old here before outs h [] few room = subst (λ (es : List PlaceEntry). HasRoom before es) (sym (append-nil h.first)) h.room
room_there holds seat now listening made old here before outs h (entry ∷ []) few room =
    more_room before h.first entry (small_so_far holds seat now listening made old here before outs h (room_for_one outs entry room))
room_there holds seat now listening made old here before outs h (entry ∷ next ∷ more) few room = absurd (omega (arith, few))

-- what ended there ends all
pub ended_there : (holds : Image → State → Type 0) (seat : ℕ) (at : PlaceAt) (now : ℕ) (listening : List Bytes) (made : ℕ) (ending : Ending) (old here new : Seen) (before outs after : List Out) → made < most_deliveries
    → SoFar holds seat now listening made old here before outs → DeliversOn holds 1 seat at now listening ending here new outs after → DeliversOn holds most_deliveries seat at now listening ending old new before after
ended_there holds seat at now listening made ending old here new before outs after less h k = record {
  entries = h.first ++ k.entries;
  sent = h.sent ++ k.sent;
  few = omega (arith, length-append h.first k.entries, h.count, k.few, less);
  room = room_there holds seat now listening made old here before outs h k.entries k.few k.room;
  are = h.are at (fault_by ending) k.entries k.are;
  led = h.led k.entries k.sent new.place k.led;
  outlasts = outlasts_more holds Never h.first k.entries old here new h.outlasts k.outlasts (none_firm k.entries here.place k.sent new.place k.led);
  added = k.added ∙ ap (λ (l : List Out). l ++ k.sent) h.added ∙ append_assoc before h.sent k.sent;
  ends = ends_behind ending now listening h.first k.entries new.place after (h.whole k.entries) k.ends;
}

-- it is full
pub full_there : (holds : Image → State → Type 0) (seat : ℕ) (at : PlaceAt) (now : ℕ) (listening : List Bytes) (made : ℕ) (old here : Seen) (before outs : List Out) → made ≤ most_deliveries → SoFar holds seat now listening made old here before outs
    → (most_deliveries ≤ made) ⊎ (most_bytes ≤ sum_by bytes_of outs) → DeliversOn holds most_deliveries seat at now listening Full old here before outs
full_there holds seat at now listening made old here before outs no_more h full = record {
  entries = h.first ++ [];
  sent = h.sent ++ [];
  few = omega (arith, length-append h.first [], h.count, no_more);
  room = room_there holds seat now listening made old here before outs h [] (omega arith) (none_room outs);
  are = h.are at None [] tt;
  led = h.led [] [] here.place (record { going = h.goes; state = refl; stored = refl; stopped = h.goes; later = same_volume here.place }, refl);
  outlasts = subst (λ (es : List PlaceEntry). Outlasts holds Never es old here) (sym (append-nil h.first)) h.outlasts;
  added = h.added ∙ ap (λ (l : List Out). before ++ l) (sym (append-nil h.sent));
  ends = (h.whole [], by full);
}
  where
    by : (most_deliveries ≤ made) ⊎ (most_bytes ≤ sum_by bytes_of outs) → (most_deliveries ≤ length (h.first ++ [])) ⊎ (most_bytes ≤ sum_by bytes_of outs)
    by (inl many) = inl (subst (λ (es : List PlaceEntry). most_deliveries ≤ length es) (sym (append-nil h.first)) (subst (λ (n : ℕ). most_deliveries ≤ n) (sym h.count) many))
    by (inr big) = inr big

-- ---- in the loop

pub next_so_far : (holds : Image → State → Type 0) (seat now : ℕ) (listening : List Bytes) (made : ℕ) (old here next : Seen) (before outs after : List Out) (told : Option Ending) → told ≡ None
    → IsKept holds here → IsKept holds next → SoFar holds seat now listening made old here before outs → GoesOn holds now listening told here next outs after → sum_by bytes_of outs < most_bytes
    → SoFar holds seat now listening (made + 1) old next before after
next_so_far holds seat now listening made old here next before outs after None none kept keeps h (d, os, step, goes, added, commits) small =
    one_more holds seat now listening made old here next before outs after d os kept keeps h step goes added commits small
next_so_far holds seat now listening made old here next before outs after (Some ending) some kept keeps h k small = let no : ⊥ = cc in absurd no

-- the bytes of what was there and of what was added
sum_more : (holds : Image → State → Type 0) (outs after : List Out) (now : ℕ) (listening : List Bytes) (here next : Seen) (told : Option Ending) → told ≡ None → GoesOn holds now listening told here next outs after
    → sum_by bytes_of after ≡ sum_by bytes_of outs + sum_by bytes_of (drop (length outs) after)
sum_more holds outs after now listening here next None none (d, os, step, goes, added, commits) =
    let tail : drop (length outs) after ≡ os = ap (λ (l : List Out). drop (length outs) l) added ∙ drop-append_seam outs os in
    let whole : sum_by bytes_of after ≡ sum_by bytes_of outs + sum_by bytes_of os = ap (λ (l : List Out). sum_by bytes_of l) added ∙ sum_by-append bytes_of outs os in
    let part : sum_by bytes_of (drop (length outs) after) ≡ sum_by bytes_of os = ap (λ (l : List Out). sum_by bytes_of l) tail in
    omega (arith, whole, part)
sum_more holds outs after now listening here next (Some last) some k = let no : ⊥ = cc in absurd no

-- sums that end at the greatest word
saturated : (a b x y total : ℕ) → x ≡ min a (2 ^ 64 - 1) → y ≡ min b (2 ^ 64 - 1) → total ≡ min (x + y) (2 ^ 64 - 1) → total ≡ min (a + b) (2 ^ 64 - 1)
saturated a b x y total = λ p q r. omega (arith, p, q, r)

-- the size with what was added
pub larger : (holds : Image → State → Type 0) (size more total : ℕ) (outs after : List Out) (now : ℕ) (listening : List Bytes) (here next : Seen) (told : Option Ending) → told ≡ None
    → GoesOn holds now listening told here next outs after → size ≡ min (sum_by bytes_of outs) (2 ^ 64 - 1) → more ≡ min (sum_by bytes_of (drop (length outs) after)) (2 ^ 64 - 1)
    → total ≡ min (size + more) (2 ^ 64 - 1) → total ≡ min (sum_by bytes_of after) (2 ^ 64 - 1)
larger holds size more total outs after now listening here next told none k is added sum =
    subst (λ (n : ℕ). total ≡ min n (2 ^ 64 - 1)) (sym (sum_more holds outs after now listening here next told none k))
    (saturated (sum_by bytes_of outs) (sum_by bytes_of (drop (length outs) after)) size more total is added sum)

-- ---- sizes

-- the size of one more
pub size_more : (outs : List Out) (i : ℕ) (out : Out) (size more total : ℕ) → i < length outs → out ≡ get_or outs i out → size ≡ min (sum_by bytes_of (take i outs)) (2 ^ 64 - 1)
    → more ≡ min (bytes_of out) (2 ^ 64 - 1) → total ≡ min (size + more) (2 ^ 64 - 1) → total ≡ min (sum_by bytes_of (take (i + 1) outs)) (2 ^ 64 - 1)
size_more outs i out size more total within item is one sum =
    let next : take (i + 1) outs ≡ take i outs ++ (out ∷ []) =
    ap (λ (n : ℕ). take n outs) (add-one i) ∙ take-suc outs i out within ∙ ap (λ (o : Out). take i outs ++ (o ∷ [])) (sym item) in
    let alone : sum_by bytes_of (out ∷ []) ≡ bytes_of out = omega arith in
    let whole : sum_by bytes_of (take (i + 1) outs) ≡ sum_by bytes_of (take i outs) + bytes_of out =
    ap (λ (l : List Out). sum_by bytes_of l) next ∙ sum_by-append bytes_of (take i outs) (out ∷ []) ∙ ap (λ (n : ℕ). sum_by bytes_of (take i outs) + n) alone in
    subst (λ (n : ℕ). total ≡ min n (2 ^ 64 - 1)) (sym whole) (saturated (sum_by bytes_of (take i outs)) (bytes_of out) size more total is one sum)

pub size_all : (outs : List Out) (i size : ℕ) → length outs ≤ i → size ≡ min (sum_by bytes_of (take i outs)) (2 ^ 64 - 1) → size ≡ min (sum_by bytes_of outs) (2 ^ 64 - 1)
size_all outs i size all is = subst (λ (os : List Out). size ≡ min (sum_by bytes_of os) (2 ^ 64 - 1)) (take_all i outs all) is
