-- The numbers of sessions, which ascend, so that each session has its own.
use Rattle.std.proofs.Common.{◌≡◌, ℕ, ◌+◌, ◌<◌, ◌≤◌, ◌^◌, ◌&&◌, ◌||◌, Bool, true, false, cond, List, [], ◌∷◌, ◌++◌, map, filter, refl, sym, ap, ◌∙◌, arith, eq-eqb}
use Rattle.std.specs.List.{AllByRecursion, list_any}
use Rattle.std.proofs.lemmas.Bool.{eqb-true, ne_eqb}
use Rattle.js_model.specs.Lists.{Between}
use Rattle.js_model.specs.Router.{Session, is_session}
use Rattle.route_core.specs.Sessions.{number_of, AreNumbered, with_first, takes_headers}

abbrev pub AreBetween : ℕ → ℕ → List Session → Type 0
AreBetween low high sessions = Between number_of low high sessions

between_is : (low high : ℕ) (sessions : List Session) → AreBetween low high sessions → low ≤ high
between_is low high [] h = h
between_is low high (s ∷ ss) h = let k = between_is (s.number + 1) high ss h.1 in omega (arith, h.0)

between_lower : (low lower high : ℕ) (sessions : List Session) → lower ≤ low → AreBetween low high sessions → AreBetween lower high sessions
between_lower low lower high [] k h = omega arith
between_lower low lower high (s ∷ ss) k h = (omega (arith, h.0), h.1)

between_push : (low high : ℕ) (sessions : List Session) (s : Session) → AreBetween low high sessions → s.number ≡ high → AreBetween low (high + 1) (sessions ++ s ∷ [])
between_push low high [] s h k = (omega arith, omega arith)
between_push low high (t ∷ ts) s h k = (h.0, between_push (t.number + 1) high ts s h.1 k)

between_filter : (low high : ℕ) (test : Session → Bool) (sessions : List Session) → AreBetween low high sessions → AreBetween low high (filter test sessions)
between_filter low high test [] h = h
between_filter low high test (s ∷ ss) h = go (test s) (between_filter (s.number + 1) high test ss h.1)
  where
    go : (b : Bool) → AreBetween (s.number + 1) high (filter test ss) → AreBetween low high (cond b (s ∷ filter test ss) (filter test ss))
    go true k = (h.0, k)
    go false k = between_lower (s.number + 1) low high (filter test ss) (omega (arith, h.0)) k

-- ---- sessions that are changed in place

-- the number stays
abbrev pub KeepsNumber : (Session → Session) → Type 0
KeepsNumber f = (s : Session) → (f s).number ≡ s.number

pub between_map : (f : Session → Session) → KeepsNumber f → (low high : ℕ) (sessions : List Session) → AreBetween low high sessions → AreBetween low high (map f sessions)
between_map f keeps low high [] h = h
between_map f keeps low high (s ∷ ss) h = go (f s).number (keeps s) (between_map f keeps (s.number + 1) high ss h.1)
  where
    go : (n : ℕ) → n ≡ s.number → AreBetween (s.number + 1) high (map f ss) → (low ≤ n) × AreBetween (n + 1) high (map f ss)
    go n e more = rw e (h.0, more)

-- a change of the sessions of this number
abbrev pub at_number : ℕ → (Session → Session) → Session → Session
at_number n change s = cond (is_session n s) (change s) s

pub number_stays : (n : ℕ) (change : Session → Session) → KeepsNumber change → KeepsNumber (at_number n change)
number_stays n change keeps s = go (is_session n s)
  where
    go : (b : Bool) → (cond b (change s) s).number ≡ s.number
    go true = keeps s
    go false = refl

not_there : (n : ℕ) (change : Session → Session) (low high : ℕ) (sessions : List Session) → AreBetween low high sessions → n < low → map (at_number n change) sessions ≡ sessions
not_there n change low high [] h k = refl
not_there n change low high (s ∷ ss) h k =
    ap (λ b. cond b (change s) s ∷ map (at_number n change) ss) (ne_eqb s.number n (λ e. omega (arith, h.0)))
    ∙ ap (λ (ts : List Session). s ∷ ts) (not_there n change (s.number + 1) high ss h.1 (omega (arith, h.0)))

-- the first one of this number is the only one
pub only_one : (n : ℕ) (change : Session → Session) (low high : ℕ) (sessions : List Session) → AreBetween low high sessions → with_first (is_session n) change sessions ≡ map (at_number n change) sessions
only_one n change low high [] h = refl
only_one n change low high (s ∷ ss) h = go (is_session n s) refl (only_one n change (s.number + 1) high ss h.1)
  where
    go : (b : Bool) → is_session n s ≡ b → with_first (is_session n) change ss ≡ map (at_number n change) ss
        → cond b (change s ∷ ss) (s ∷ with_first (is_session n) change ss) ≡ cond b (change s) s ∷ map (at_number n change) ss
    go true e more =
        let same = eqb-true s.number n e in
        ap (λ (ts : List Session). change s ∷ ts) (sym (not_there n change (s.number + 1) high ss h.1 (omega arith)))
    go false e more = ap (λ (ts : List Session). s ∷ ts) more

-- ---- the router's sessions stay in order

pub numbered_push : (latest : ℕ) (sessions : List Session) (s : Session) → AreNumbered latest sessions → s.number ≡ latest + 1 → latest + 1 < 2 ^ 62 → AreNumbered (latest + 1) (sessions ++ s ∷ [])
numbered_push latest sessions s h e k = record { small = k; ascend = between_push 1 (latest + 1) sessions s h.ascend e }

pub numbered_filter : (latest : ℕ) (test : Session → Bool) (sessions : List Session) → AreNumbered latest sessions → AreNumbered latest (filter test sessions)
numbered_filter latest test sessions h = record { small = h.small; ascend = between_filter 1 (latest + 1) test sessions h.ascend }

pub numbered_map : (latest : ℕ) (f : Session → Session) → KeepsNumber f → (sessions : List Session) → AreNumbered latest sessions → AreNumbered latest (map f sessions)
numbered_map latest f keeps sessions h = record { small = h.small; ascend = between_map f keeps 1 (latest + 1) sessions h.ascend }

pub numbered_first : (latest n : ℕ) (change : Session → Session) → KeepsNumber change → (sessions : List Session) → AreNumbered latest sessions → AreNumbered latest (with_first (is_session n) change sessions)
numbered_first latest n change keeps sessions h = rw (only_one n change 1 (latest + 1) sessions h.ascend) (numbered_map latest (at_number n change) (number_stays n change keeps) sessions h)

not_above : (n low high : ℕ) (sessions : List Session) → AreBetween low high sessions → high ≤ n → list_any (is_session n) sessions ≡ false
not_above n low high [] h k = refl
not_above n low high (s ∷ ss) h k =
    ap (λ b. b || list_any (is_session n) ss) (ne_eqb s.number n (λ e. omega (arith, between_is (s.number + 1) high ss h.1))) ∙ not_above n (s.number + 1) high ss h.1 k

-- the next number is new
pub new_number : (latest : ℕ) (sessions : List Session) → AreNumbered latest sessions → list_any (is_session (latest + 1)) sessions ≡ false
new_number latest sessions h = not_above (latest + 1) 1 (latest + 1) sessions h.ascend (omega arith)

-- ---- a session's number tells whether it takes header blocks

or_false : (b : Bool) → (b || false) ≡ b
or_false true = refl
or_false false = refl

none_takes : (n low high : ℕ) (sessions : List Session) → AreBetween low high sessions → n < low → takes_headers sessions n ≡ false
none_takes n low high [] h k = refl
none_takes n low high (s ∷ ss) h k =
    ap (λ b. (b && s.headers) || takes_headers ss n) (ne_eqb s.number n (λ e. omega (arith, h.0))) ∙ none_takes n (s.number + 1) high ss h.1 (omega (arith, h.0))

each_weaker : (P Q : Session → Type 0) → ((s : Session) → P s → Q s) → (sessions : List Session) → AllByRecursion P sessions → AllByRecursion Q sessions
each_weaker P Q f [] h = h
each_weaker P Q f (s ∷ ss) h = (f s h.0, each_weaker P Q f ss h.1)

each_above : (low high : ℕ) (sessions : List Session) → AreBetween low high sessions → AllByRecursion (λ s. low ≤ s.number) sessions
each_above low high [] h = tt
each_above low high (s ∷ ss) h = (h.0, each_weaker (λ t. s.number + 1 ≤ t.number) (λ t. low ≤ t.number) (λ t k. omega (arith, h.0)) ss (each_above (s.number + 1) high ss h.1))

abbrev pub TellHeaders : List Session → List Session → Type 0
TellHeaders all sessions = AllByRecursion (λ s. takes_headers all s.number ≡ s.headers) sessions

passed_over : (s : Session) (all sessions : List Session) → AllByRecursion (λ t. s.number + 1 ≤ t.number) sessions → TellHeaders all sessions → TellHeaders (s ∷ all) sessions
passed_over s all [] h k = tt
passed_over s all (t ∷ ts) h k =
    (ap (λ b. (b && s.headers) || takes_headers all t.number) (ne_eqb s.number t.number (λ e. omega (arith, h.0))) ∙ k.0, passed_over s all ts h.1 k.1)

pub tell_headers : (low high : ℕ) (sessions : List Session) → AreBetween low high sessions → TellHeaders sessions sessions
tell_headers low high [] h = tt
tell_headers low high (s ∷ ss) h =
    let own : takes_headers (s ∷ ss) s.number ≡ s.headers =
    ap (λ b. (b && s.headers) || takes_headers ss s.number) (eq-eqb s.number s.number refl) ∙ ap (λ b. s.headers || b) (none_takes s.number (s.number + 1) high ss h.1 (omega arith)) ∙ or_false s.headers in
    (own, passed_over s ss ss (each_above (s.number + 1) high ss h.1) (tell_headers (s.number + 1) high ss h.1))
