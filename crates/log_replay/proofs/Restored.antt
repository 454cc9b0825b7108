-- What was written down is put into structures, one by one.
use Rattle.std.proofs.Common.{◌≡◌, ℕ, ◌+◌, ◌<◌, ◌≤◌, Bool, true, false, cond, List, [], ◌∷◌, ◌++◌, length, take, drop, get_or, Some, None, refl, sym, ap, subst, ◌∙◌, append_assoc, append-nil, arith}
use Rattle.std.specs.Prelude.{All, find}
use Rattle.std.specs.List.{list_any}
use Rattle.std.proofs.lemmas.Bool.{or_parts}
use Rattle.std.proofs.lemmas.List.{drop_more, length-append, take_more, take-append-drop}
use Rattle.std.proofs.lemmas.List.Elements.{All-nil, All-cons, All-head, All-tail}
use Rattle.js_base.specs.Bytes.{Bytes, same}
use Rattle.js_model.specs.declared.stream.Message.{Message}
use Rattle.js_model.specs.declared.stream.Id.{Id}
use Rattle.js_model.specs.declared.consumer.Consumer.{Consumer}
use Rattle.js_model.specs.Lists.{Between}
use Rattle.js_model.proofs.Named.{same_is, same_self}
use Rattle.model_laws.specs.Bounds.{IsBoundedConsumer}
use Rattle.model_laws.specs.Sound.{AreDifferent, IsWellStoredConsumer}
use Rattle.dedup_window.specs.Window.{id_of, IsLatest}
use Rattle.effects.specs.declared.durable.Body.{Body}
use Rattle.effects.specs.Folding.{live}
use Rattle.effects.specs.Restorable.{Rises}
use Rattle.durable_checks.specs.Storable.{IsConfigured, IsFormedBody, IsStorable}
use Rattle.replayed_consumer.specs.Replayed.{IsReplayable}
use Rattle.replayed_consumer.proofs.Replaying.{storable_replayable}

-- ---- what is put in, and what is still to come

pub one_more : {X : Type 0} (into more rest all : List X) (x : X) → into ++ x ∷ rest ≡ all → more ≡ into ++ x ∷ [] → more ++ rest ≡ all
one_more into more rest all x so_far pushed = ap (λ (xs : List _). xs ++ rest) pushed ∙ append_assoc into (x ∷ []) rest ∙ so_far

pub all_in : {X : Type 0} (into rest all : List X) → into ++ rest ≡ all → rest ≡ [] → into ≡ all
all_in into rest all so_far none = sym (append-nil into) ∙ ap (λ (xs : List _). into ++ xs) (sym none) ∙ so_far

each_at : {X : Type 0} (P : X → Type 0) (front : List X) (x : X) (rest : List X) → All P (front ++ x ∷ rest) → P x
each_at P [] x rest h = All-head P x rest h
each_at P (y ∷ front) x rest h = each_at P front x rest (All-tail P y (front ++ x ∷ rest) h)

-- of all of them, it holds of the one that comes next
pub next_holds : {X : Type 0} (P : X → Type 0) (front : List X) (x : X) (rest all : List X) → front ++ x ∷ rest ≡ all → All P all → P x
next_holds P front x rest all is h = each_at P front x rest (subst (All P) (sym is) h)

-- ---- a list that a loop goes through: what came before, the one at hand, and the rest

pub list_at : {X : Type 0} (xs : List X) (i : ℕ) (x : X) → i < length xs → x ≡ get_or xs i x → xs ≡ take i xs ++ x ∷ drop (i + 1) xs
list_at xs i x within is =
    sym (take-append-drop i xs) ∙ ap (λ (ys : List _). take i xs ++ ys) (drop_more xs i x within ∙ ap (λ (y : _). y ∷ drop (i + 1) xs) (sym is))

pub front_more : {X : Type 0} (xs : List X) (i : ℕ) (x : X) → i < length xs → x ≡ get_or xs i x → take i xs ++ x ∷ [] ≡ take (i + 1) xs
front_more xs i x within is = ap (λ (y : _). take i xs ++ y ∷ []) is ∙ sym (take_more xs i x within)

-- ---- messages

next_low : (low end : ℕ) (front : List Message) (m : Message) (rest : List Message) → Between (λ m. m.seq) low end (front ++ m ∷ rest) → low ≤ m.seq
next_low low end [] m rest h = h.0
next_low low end (x ∷ front) m rest h = let first = h.0 in let more = next_low (x.seq + 1) end front m rest h.1 in omega (arith, first, more)

below_next : (low end : ℕ) (front : List Message) (m : Message) (rest : List Message) → Between (λ m. m.seq) low end (front ++ m ∷ rest) → All (λ x. x.seq < m.seq) front
below_next low end [] m rest h = All-nil (λ (x : Message). x.seq < m.seq)
below_next low end (x ∷ front) m rest h =
    let above = next_low (x.seq + 1) end front m rest h.1 in
    All-cons (λ (y : Message). y.seq < m.seq) x front (omega (arith, above)) (below_next (x.seq + 1) end front m rest h.1)

pub all_before : (end : ℕ) (front : List Message) (m : Message) (rest all : List Message) → front ++ m ∷ rest ≡ all → Between (λ m. m.seq) 1 end all → All (λ x. x.seq < m.seq) front
all_before end front m rest all is h = below_next 1 end front m rest (subst (λ (ms : List Message). Between (λ m. m.seq) 1 end ms) (sym is) h)

pub few_before : {X : Type 0} (most : ℕ) (front : List X) (x : X) (rest all : List X) → front ++ x ∷ rest ≡ all → length all ≤ most → length front < most
few_before most front x rest all is few = let same = ap length is in let sum = length-append front (x ∷ rest) in omega (arith, same, sum, few)

-- ---- ids

same_turned : (a b : Bytes) → same a b ≡ false → same b a ≡ false
same_turned a b h = go (same b a) refl
  where
    go : (t : Bool) → same b a ≡ t → t ≡ false
    go true e = sym (ap (same a) (same_is b a e) ∙ same_self a) ∙ h
    go false e = refl

other_id : (front : List Id) (x : Id) (rest : List Id) (text : Bytes) → list_any (λ (j : Id). same j.id text) (front ++ x ∷ rest) ≡ false → same x.id text ≡ false
other_id [] x rest text h = (or_parts (same x.id text) (list_any (λ (j : Id). same j.id text) rest) h).0
other_id (y ∷ front) x rest text h = other_id front x rest text (or_parts (same y.id text) (list_any (λ (j : Id). same j.id text) (front ++ x ∷ rest)) h).1

pub absent_before : (front : List Id) (x : Id) (rest : List Id) → AreDifferent (front ++ x ∷ rest) → id_of front x.id ≡ None
absent_before [] x rest h = refl
absent_before (y ∷ front) x rest h =
    ap (λ (b : Bool). cond b (Some y) (find (λ (i : Id). same i.id x.id) front)) (same_turned x.id y.id (other_id front x rest y.id h.0.none)) ∙ absent_before front x rest h.1

rises_low : (low end : ℕ) (front : List Id) (x : Id) (rest : List Id) → Rises (λ i. i.at) low end (front ++ x ∷ rest) → low ≤ x.at
rises_low low end [] x rest h = h.0
rises_low low end (y ∷ front) x rest h = let first = h.0 in let more = rises_low y.at end front x rest h.1 in omega (arith, first, more)

pub latest_before : (low end : ℕ) (front : List Id) (x : Id) (rest : List Id) → Rises (λ i. i.at) low end (front ++ x ∷ rest) → IsLatest x.at front
latest_before low end [] x rest h = All-nil (λ (i : Id). i.at ≤ x.at)
latest_before low end (y ∷ front) x rest h = All-cons (λ (i : Id). i.at ≤ x.at) y front (rises_low y.at end front x rest h.1) (latest_before y.at end front x rest h.1)

rises_most : (low high : ℕ) (ids : List Id) → Rises (λ i. i.at) low high ids → low ≤ high
rises_most low high [] h = h
rises_most low high (i ∷ ids) h = let first = h.0 in let more = rises_most i.at high ids h.1 in omega (arith, first, more)

pub rises_latest : (low high : ℕ) (ids : List Id) → Rises (λ i. i.at) low high ids → IsLatest high ids
rises_latest low high [] h = All-nil (λ (i : Id). i.at ≤ high)
rises_latest low high (i ∷ ids) h = All-cons (λ (j : Id). j.at ≤ high) i ids (rises_most i.at high ids h.1) (rises_latest i.at high ids h.1)

-- ---- consumers

pub both_all : {X : Type 0} (P Q R : X → Type 0) (xs : List X) → ((x : X) → P x → Q x → R x) → All P xs → All Q xs → All R xs
both_all P Q R [] f p q = All-nil R
both_all P Q R (x ∷ xs) f p q = All-cons R x xs (f x (All-head P x xs p) (All-head Q x xs q)) (both_all P Q R xs f (All-tail P x xs p) (All-tail Q x xs q))

pub all_replayable : (i : ℕ) (b : Body) → IsFormedBody b → IsStorable (live i b) → All IsReplayable b.consumers
all_replayable i b formed storable =
    both_all IsConfigured (λ (c : Consumer). IsWellStoredConsumer b.messages b.last c × IsBoundedConsumer c) IsReplayable b.consumers
    (λ c k s. storable_replayable b.messages b.last c (record { stored = s.0; bounded = s.1 }) k.waiting k.mark) formed.consumers
    (both_all (IsWellStoredConsumer b.messages b.last) IsBoundedConsumer (λ (c : Consumer). IsWellStoredConsumer b.messages b.last c × IsBoundedConsumer c) b.consumers (λ c s k. (s, k)) storable.stored.consumers storable.bounded.each_consumer)
