-- Of each queue group that member takes a message which was sent the fewest, the earliest of several, as the candidates come one by one.
use Rattle.std.proofs.Common.{◌≡◌, ℕ, ◌<◌, ◌≤◌, ◌+◌, zero, suc, ◌&&◌, Bool, true, false, cond, not, nat_lt, List, [], ◌∷◌, ◌++◌, Option, Some, None, length, get_or, set, take, map, filter, refl, sym, ap, subst, ◌∙◌, append_assoc, append-nil, arith, Bor}
use Rattle.std.specs.Prelude.{Contains, is_none}
use Rattle.std.specs.List.{AllByRecursion, position_from}
use Rattle.std.specs.BTreeMap.{BTreeMap}
use Rattle.std.specs.Cmp.Lexicographic.{nat_list_eq_equiv}
use Rattle.std.proofs.lemmas.Bool.{true≢false}
use Rattle.std.proofs.lemmas.Bool.Decides.{nat_tests}
use Rattle.std.proofs.lemmas.List.{map-append, length-map, take_more}
use Rattle.std.proofs.lemmas.List.Elements.{Contains-append_right}
use Rattle.js_base.specs.Bytes.{Bytes, same, same_option}
use Rattle.js_base.proofs.Meeting.{same_is, same_self}
use Rattle.js_model.proofs.Named.{some_is}
use Rattle.js_model.specs.Router.{Subscription, is_plain, with_group, groups, AreMembers}
use Rattle.route_core.specs.Subscriptions.{are_together}
use Rattle.route_core.specs.Groups.{next_of_two, next_of, next_of_groups, with_candidate, place_of, ArePlaces}
use Rattle.route_core.specs.Spreading.{IsNext}

-- ---- being in one group

abbrev queue_of : Subscription → Option Bytes
queue_of sub = sub.queue

abbrev test : Option Bytes → Option Bytes → Bool
test q r = not (is_none q) && same_option q r

one_queue : (q r : Option Bytes) → test q r ≡ true → r ≡ q
one_queue None r h = absurd (true≢false (sym h))
one_queue (Some a) None h = absurd (true≢false (sym h))
one_queue (Some a) (Some b) h = ap (λ name. Some name) (sym (same_is a b h))

of_one_queue : (q r : Option Bytes) → is_none q ≡ false → r ≡ q → test q r ≡ true
of_one_queue None r h e = absurd (true≢false h)
of_one_queue (Some a) r h e = ap (same_option (Some a)) e ∙ same_self a

named : (q : Option Bytes) (n : Bytes) → test q (Some n) ≡ same_option (Some n) q
named None n = refl
named (Some a) n = nat_list_eq_equiv.symm a n

to_none : (q : Option Bytes) → test q None ≡ false
to_none None = refl
to_none (Some a) = refl

-- ---- of two members

chosen_queue : (b : Bool) (member sub : Subscription) → sub.queue ≡ member.queue → (cond b sub member).queue ≡ member.queue
chosen_queue true member sub e = e
chosen_queue false member sub e = refl

next_queue : (member sub : Subscription) → are_together member sub ≡ true → (next_of_two member sub).queue ≡ member.queue
next_queue member sub h = chosen_queue (nat_lt sub.sent member.sent) member sub (one_queue member.queue sub.queue h)

abbrev step : Subscription → Subscription → Subscription
step member sub = cond (are_together member sub) (next_of_two member sub) member

step_queue : (member sub : Subscription) → (step member sub).queue ≡ member.queue
step_queue member sub = go (are_together member sub) refl
  where
    go : (b : Bool) → are_together member sub ≡ b → (cond b (next_of_two member sub) member).queue ≡ member.queue
    go true h = next_queue member sub h
    go false h = refl

pub next_of_queue : (sub : Subscription) (others : List Subscription) → (next_of sub others).queue ≡ sub.queue
next_of_queue sub [] = refl
next_of_queue sub (other ∷ others) = next_of_queue (step sub other) others ∙ step_queue sub other

next_of_more : (sub : Subscription) (others : List Subscription) (x : Subscription) → next_of sub (others ++ x ∷ []) ≡ step (next_of sub others) x
next_of_more sub [] x = refl
next_of_more sub (other ∷ others) x = next_of_more (step sub other) others x

-- ---- one candidate more

module _ (s : Subscription) where
  abbrev kept : Subscription → Bool
  kept other = not (are_together s other)

  kept_alike : (a b : Subscription) → a.queue ≡ b.queue → kept a ≡ kept b
  kept_alike a b e = ap (λ q. not (test s.queue q)) e

  -- of a group that is left out
  left_out : (x : Subscription) → kept x ≡ false → (ms : List Subscription) → filter kept (with_candidate ms x) ≡ filter kept ms
  left_out x e [] = ap (λ b. cond b (x ∷ []) []) e
  left_out x e (m ∷ ms) = go (are_together m x) refl (left_out x e ms)
    where
      go : (b : Bool) → are_together m x ≡ b → filter kept (with_candidate ms x) ≡ filter kept ms
          → filter kept (cond b (next_of_two m x ∷ ms) (m ∷ with_candidate ms x)) ≡ cond (kept m) (m ∷ filter kept ms) (filter kept ms)
      go true h k =
          let gone : kept m ≡ false = kept_alike m x (sym (one_queue m.queue x.queue h)) ∙ e in
          ap (λ b. cond b (next_of_two m x ∷ filter kept ms) (filter kept ms)) (kept_alike (next_of_two m x) m (next_queue m x h) ∙ gone)
          ∙ ap (λ b. cond b (m ∷ filter kept ms) (filter kept ms)) (sym gone)
      go false h k = ap (λ (ys : List Subscription). cond (kept m) (m ∷ ys) ys) k

  -- of a group that is kept
  left_in : (x : Subscription) → kept x ≡ true → (ms : List Subscription) → filter kept (with_candidate ms x) ≡ with_candidate (filter kept ms) x
  left_in x e [] = ap (λ b. cond b (x ∷ []) []) e
  left_in x e (m ∷ ms) = go (are_together m x) refl (left_in x e ms)
    where
      other : (b : Bool) → are_together m x ≡ false → filter kept (with_candidate ms x) ≡ with_candidate (filter kept ms) x
          → cond b (m ∷ filter kept (with_candidate ms x)) (filter kept (with_candidate ms x)) ≡ with_candidate (cond b (m ∷ filter kept ms) (filter kept ms)) x
      other true h k = ap (λ (ys : List Subscription). m ∷ ys) k ∙ ap (λ d. cond d (next_of_two m x ∷ filter kept ms) (m ∷ with_candidate (filter kept ms) x)) (sym h)
      other false h k = k

      go : (b : Bool) → are_together m x ≡ b → filter kept (with_candidate ms x) ≡ with_candidate (filter kept ms) x
          → filter kept (cond b (next_of_two m x ∷ ms) (m ∷ with_candidate ms x)) ≡ with_candidate (cond (kept m) (m ∷ filter kept ms) (filter kept ms)) x
      go true h k =
          let there : kept m ≡ true = kept_alike m x (sym (one_queue m.queue x.queue h)) ∙ e in
          ap (λ b. cond b (next_of_two m x ∷ filter kept ms) (filter kept ms)) (kept_alike (next_of_two m x) m (next_queue m x h) ∙ there)
          ∙ ap (λ d. cond d (next_of_two m x ∷ filter kept ms) (m ∷ with_candidate (filter kept ms) x)) (sym h)
          ∙ ap (λ b. with_candidate (cond b (m ∷ filter kept ms) (filter kept ms)) x) (sym there)
      go false h k = other (kept m) h k

pub one_more_grouped : (subs : List Subscription) (x : Subscription) → is_plain x ≡ false → next_of_groups (subs ++ x ∷ []) ≡ with_candidate (next_of_groups subs) x
one_more_grouped [] x h = ap (λ b. cond b [] (x ∷ [])) h
one_more_grouped (s ∷ ss) x h = go (is_plain s) (one_more_grouped ss x h)
  where
    best : Subscription
    best = next_of s ss

    rest : List Subscription
    rest = next_of_groups ss

    together_alike : are_together best x ≡ are_together s x
    together_alike = ap (λ q. test q x.queue) (next_of_queue s ss)

    by_group : (b : Bool) → are_together best x ≡ b
        → cond b (next_of_two best x) best ∷ filter (kept s) (with_candidate rest x) ≡ cond b (next_of_two best x ∷ filter (kept s) rest) (best ∷ with_candidate (filter (kept s) rest) x)
    by_group true e = ap (λ (ys : List Subscription). next_of_two best x ∷ ys) (left_out s x (ap not (sym together_alike ∙ e)) rest)
    by_group false e = ap (λ (ys : List Subscription). best ∷ ys) (left_in s x (ap not (sym together_alike ∙ e)) rest)

    go : (b : Bool) → next_of_groups (ss ++ x ∷ []) ≡ with_candidate rest x
        → cond b (next_of_groups (ss ++ x ∷ [])) (next_of s (ss ++ x ∷ []) ∷ filter (kept s) (next_of_groups (ss ++ x ∷ []))) ≡ with_candidate (cond b rest (best ∷ filter (kept s) rest)) x
    go true k = k
    go false k = ap (λ (ys : List Subscription). next_of s (ss ++ x ∷ []) ∷ filter (kept s) ys) k ∙ ap (λ y. y ∷ filter (kept s) (with_candidate rest x)) (next_of_more s ss x) ∙ by_group (are_together best x) refl

pub one_more_plain : (subs : List Subscription) (x : Subscription) → x.queue ≡ None → next_of_groups (subs ++ x ∷ []) ≡ next_of_groups subs
one_more_plain [] x h = ap (λ q. cond (is_none q) [] (x ∷ [])) h
one_more_plain (s ∷ ss) x h = go (is_plain s) (one_more_plain ss x h)
  where
    best : Subscription
    best = next_of s ss

    alone : next_of s (ss ++ x ∷ []) ≡ best
    alone = next_of_more s ss x ∙ ap (λ b. cond b (next_of_two best x) best) (ap (test best.queue) h ∙ to_none best.queue)

    go : (b : Bool) → next_of_groups (ss ++ x ∷ []) ≡ next_of_groups ss
        → cond b (next_of_groups (ss ++ x ∷ [])) (next_of s (ss ++ x ∷ []) ∷ filter (kept s) (next_of_groups (ss ++ x ∷ []))) ≡ cond b (next_of_groups ss) (best ∷ filter (kept s) (next_of_groups ss))
    go true k = k
    go false k = ap (λ (ys : List Subscription). next_of s (ss ++ x ∷ []) ∷ filter (kept s) ys) k ∙ ap (λ y. y ∷ filter (kept s) (next_of_groups ss)) alone

-- ---- the members by their places

module _ (n : Bytes) (x : Subscription) (in_group : x.queue ≡ Some n) where
  abbrev here : Option Bytes → Bool
  here q = same_option (Some n) q

  together_is : (m : Subscription) → are_together m x ≡ here m.queue
  together_is m = ap (test m.queue) in_group ∙ named m.queue n

  -- the group's member stands at this place, which is counted from i
  record Found (members : List Subscription) (i at j : ℕ) : Type 0 where
    pub counted : at ≡ i + j
    pub within : j < length members
    pub made : (d : Subscription) → set members j (next_of_two (get_or members j d) x) ≡ with_candidate members x
    pub queues : map queue_of (with_candidate members x) ≡ map queue_of members

  found_from : (members : List Subscription) (i at : ℕ) → position_from here i (map queue_of members) ≡ Some at → (j : ℕ) × Found members i at j
  found_from [] i at h = absurd (cc (h))
  found_from (m ∷ ms) i at h = go (here m.queue) refl h (found_from ms (i + 1) at)
    where
      by_tail : are_together m x ≡ false → (j : ℕ) → Found ms (i + 1) at j → (k : ℕ) × Found (m ∷ ms) i at k
      by_tail e j f = (
        suc j,
        record {
          counted = omega (arith, f.counted);
          within = omega (arith, f.within);
          made = λ d. ap (λ (ys : List Subscription). m ∷ ys) (f.made d) ∙ ap (λ b. cond b (next_of_two m x ∷ ms) (m ∷ with_candidate ms x)) (sym e);
          queues = ap (λ b. map queue_of (cond b (next_of_two m x ∷ ms) (m ∷ with_candidate ms x))) e ∙ ap (λ (qs : List (Option Bytes)). m.queue ∷ qs) f.queues;
        },
      )

      go : (b : Bool) → here m.queue ≡ b → cond b (Some i) (position_from here (i + 1) (map queue_of ms)) ≡ Some at → (position_from here (i + 1) (map queue_of ms) ≡ Some at → (j : ℕ) × Found ms (i + 1) at j) → (j : ℕ) × Found (m ∷ ms) i at j
      go true e k r =
          let together : are_together m x ≡ true = together_is m ∙ e in (
            0,
            record {
              counted = omega (arith, some_is k);
              within = omega arith;
              made = λ d. ap (λ b. cond b (next_of_two m x ∷ ms) (m ∷ with_candidate ms x)) (sym together);
              queues = ap (λ b. map queue_of (cond b (next_of_two m x ∷ ms) (m ∷ with_candidate ms x))) together ∙ ap (λ (q : Option Bytes). q ∷ map queue_of ms) (next_queue m x together);
            },
          )
      go false e k r = let f = r k in by_tail (together_is m ∙ e) f.0 f.1

  added_from : (members : List Subscription) (i : ℕ) → position_from here i (map queue_of members) ≡ None → with_candidate members x ≡ members ++ x ∷ []
  added_from [] i h = refl
  added_from (m ∷ ms) i h = go (here m.queue) refl h (added_from ms (i + 1))
    where
      go : (b : Bool) → here m.queue ≡ b → cond b (Some i) (position_from here (i + 1) (map queue_of ms)) ≡ None → (position_from here (i + 1) (map queue_of ms) ≡ None → with_candidate ms x ≡ ms ++ x ∷ []) → with_candidate (m ∷ ms) x ≡ (m ∷ ms) ++ x ∷ []
      go true e k r = absurd (cc (k))
      go false e k r = ap (λ b. cond b (next_of_two m x ∷ ms) (m ∷ with_candidate ms x)) (together_is m ∙ e) ∙ ap (λ (ys : List Subscription). m ∷ ys) (r k)

  -- the first of a new group stands behind the others
  placed_from : (members : List Subscription) (i : ℕ) → position_from here i (map queue_of members) ≡ None → position_from here i (map queue_of (members ++ x ∷ [])) ≡ Some (i + length members)
  placed_from [] i h = ap (λ q. cond (here q) (Some i) None) in_group ∙ ap (λ b. cond b (Some i) None) (same_self n) ∙ ap (λ k. Some k) (omega arith)
  placed_from (m ∷ ms) i h = go (here m.queue) h (placed_from ms (i + 1))
    where
      go : (b : Bool) → cond b (Some i) (position_from here (i + 1) (map queue_of ms)) ≡ None
          → (position_from here (i + 1) (map queue_of ms) ≡ None → position_from here (i + 1) (map queue_of (ms ++ x ∷ [])) ≡ Some (i + 1 + length ms))
          → cond b (Some i) (position_from here (i + 1) (map queue_of (ms ++ x ∷ []))) ≡ Some (i + suc (length ms))
      go true k f = absurd (cc (k))
      go false k f = f k ∙ ap (λ l. Some l) (omega arith)

  -- the others stay where they are
  others_from : (name : Bytes) → same n name ≡ false → (members : List Subscription) (i : ℕ)
      → position_from (same_option (Some name)) i (map queue_of (members ++ x ∷ [])) ≡ position_from (same_option (Some name)) i (map queue_of members)
  others_from name e [] i = ap (λ q. cond (same_option (Some name) q) (Some i) None) in_group ∙ ap (λ b. cond b (Some i) None) (nat_list_eq_equiv.symm name n ∙ e)
  others_from name e (m ∷ ms) i = ap (λ o. cond (same_option (Some name) m.queue) (Some i) o) (others_from name e ms (i + 1))

-- ---- the choice is one of the definition's

filter_mapped : {X Y : Type 0} (f : X → Y) (p : Y → Bool) (xs : List X) → map f (filter (λ x. p (f x)) xs) ≡ filter p (map f xs)
filter_mapped f p [] = refl
filter_mapped {X} f p (x ∷ xs) = go (p (f x)) (filter_mapped f p xs)
  where
    go : (b : Bool) → map f (filter (λ x. p (f x)) xs) ≡ filter p (map f xs) → map f (cond b (x ∷ filter (λ x. p (f x)) xs) (filter (λ x. p (f x)) xs)) ≡ cond b (f x ∷ filter p (map f xs)) (filter p (map f xs))
    go true h = ap (λ ys. f x ∷ ys) h
    go false h = h

abbrev some_name : Bytes → Option Bytes
some_name name = Some name

-- the names of the other groups
others_named : (n : Bytes) (names : List Bytes) → filter (λ q. not (test (Some n) q)) (map some_name names) ≡ map some_name (filter (λ other. not (same other n)) names)
others_named n [] = refl
others_named n (m ∷ ms) = ap (λ b. cond (not b) (Some m ∷ filter (λ q. not (test (Some n) q)) (map some_name ms)) (filter (λ q. not (test (Some n) q)) (map some_name ms))) (nat_list_eq_equiv.symm n m)
    ∙ go (not (same m n)) (others_named n ms)
  where
    go : (b : Bool) → filter (λ q. not (test (Some n) q)) (map some_name ms) ≡ map some_name (filter (λ other. not (same other n)) ms)
        → cond b (Some m ∷ filter (λ q. not (test (Some n) q)) (map some_name ms)) (filter (λ q. not (test (Some n) q)) (map some_name ms))
        ≡ map some_name (cond b (m ∷ filter (λ other. not (same other n)) ms) (filter (λ other. not (same other n)) ms))
    go true h = ap (λ qs. Some m ∷ qs) h
    go false h = h

names_are : (subs : List Subscription) → map queue_of (next_of_groups subs) ≡ map some_name (groups subs)
names_are [] = refl
names_are (s ∷ ss) = go s.queue refl (names_are ss)
  where
    rest : List Subscription
    rest = next_of_groups ss

    go : (q : Option Bytes) → s.queue ≡ q → map queue_of rest ≡ map some_name (groups ss)
        → map queue_of (cond (is_none s.queue) rest (next_of s ss ∷ filter (kept s) rest)) ≡ map some_name (with_group q (groups ss))
    go None e h = ap (λ q. map queue_of (cond (is_none q) rest (next_of s ss ∷ filter (kept s) rest))) e ∙ h
    go (Some n) e h =
        ap (λ q. map queue_of (cond (is_none q) rest (next_of s ss ∷ filter (kept s) rest))) e
        ∙ ap (λ q. q ∷ map queue_of (filter (kept s) rest)) (next_of_queue s ss ∙ e)
        ∙ ap (λ qs. Some n ∷ qs) (filter_mapped queue_of (λ q. not (test s.queue q)) rest ∙ ap (λ r. filter (λ q. not (test r q)) (map queue_of rest)) e ∙ ap (filter (λ q. not (test (Some n) q))) h
        ∙ others_named n (groups ss))

-- ---- of each group it is the next one

abbrev AtLeast : Option Bytes → ℕ → Subscription → Type 0
AtLeast q n other = other.queue ≡ q → n ≤ other.sent

abbrev More : Option Bytes → ℕ → Subscription → Type 0
More q n other = other.queue ≡ q → n < other.sent

each : {X : Type 0} (P Q : X → Type 0) → ((x : X) → P x → Q x) → (xs : List X) → AllByRecursion P xs → AllByRecursion Q xs
each P Q f [] h = tt
each P Q f (x ∷ xs) h = (f x h.0, each P Q f xs h.1)

joined : {X : Type 0} (P : X → Type 0) (xs ys : List X) → AllByRecursion P xs → AllByRecursion P ys → AllByRecursion P (xs ++ ys)
joined P [] ys h k = k
joined P (x ∷ xs) ys h k = (h.0, joined P xs ys h.1 k)

-- each one of its group was sent as many at least
none_fewer : (subs : List Subscription) (sub : Subscription) → IsNext subs sub → AllByRecursion (AtLeast sub.queue sub.sent) subs
none_fewer subs sub h =
    subst (AllByRecursion (AtLeast sub.queue sub.sent)) (sym h.place)
    (joined (AtLeast sub.queue sub.sent) h.before (sub ∷ h.after) (each (More sub.queue sub.sent) (AtLeast sub.queue sub.sent) (λ x f e. omega (arith, f e)) h.before h.earlier) ((λ e. omega arith), h.later))

module _ (subs : List Subscription) (sub x : Subscription) (h : IsNext subs sub) where
  -- it stays before one that was not sent fewer, or is of no or another group
  stays : AtLeast sub.queue sub.sent x → IsNext (subs ++ x ∷ []) sub
  stays f = record {
    before = h.before;
    after = h.after ++ x ∷ [];
    place = ap (λ xs. xs ++ x ∷ []) h.place ∙ append_assoc h.before (sub ∷ h.after) (x ∷ []);
    in_group = h.in_group;
    earlier = h.earlier;
    later = joined (AtLeast sub.queue sub.sent) h.after (x ∷ []) h.later (f, tt);
  }

  -- one that was sent fewer takes its place
  yields : x.queue ≡ sub.queue → x.sent < sub.sent → IsNext (subs ++ x ∷ []) x
  yields e l = record {
    before = subs;
    after = [];
    place = refl;
    in_group = ap is_none e ∙ h.in_group;
    earlier = each (AtLeast sub.queue sub.sent) (More x.queue x.sent) (λ y f k. omega (arith, l, f (k ∙ e))) subs (none_fewer subs sub h);
    later = tt;
  }

  one_further : IsNext (subs ++ x ∷ []) (step sub x)
  one_further = go (are_together sub x) refl
    where
      by_sent : (b : Bool) → nat_lt x.sent sub.sent ≡ b → x.queue ≡ sub.queue → IsNext (subs ++ x ∷ []) (cond b x sub)
      by_sent true e q = yields q (grind (arith, nat_tests))
      by_sent false e q = stays (λ k. grind (arith, nat_tests))

      go : (b : Bool) → are_together sub x ≡ b → IsNext (subs ++ x ∷ []) (cond b (next_of_two sub x) sub)
      go true e = by_sent (nat_lt x.sent sub.sent) refl (one_queue sub.queue x.queue e)
      go false e = stays (λ k. absurd (true≢false (sym (of_one_queue sub.queue x.queue h.in_group k) ∙ e)))

next_from : (subs : List Subscription) (sub : Subscription) (others : List Subscription) → IsNext subs sub → IsNext (subs ++ others) (next_of sub others)
next_from subs sub [] h = subst (λ xs. IsNext xs sub) (sym (append-nil subs)) h
next_from subs sub (x ∷ xs) h = subst (λ ys. IsNext ys (next_of (step sub x) xs)) (append_assoc subs (x ∷ []) xs) (next_from (subs ++ x ∷ []) (step sub x) xs (one_further subs sub x h))

-- one of another group stands before it
behind : (s : Subscription) (subs : List Subscription) (sub : Subscription) → (s.queue ≡ sub.queue → ⊥) → IsNext subs sub → IsNext (s ∷ subs) sub
behind s subs sub f h = record {
  before = s ∷ h.before;
  after = h.after;
  place = ap (λ xs. s ∷ xs) h.place;
  in_group = h.in_group;
  earlier = ((λ e. absurd (f e)), h.earlier);
  later = h.later;
}

all_behind : (s : Subscription) (subs members : List Subscription) → is_plain s ≡ false → AllByRecursion (IsNext subs) members → AllByRecursion (IsNext (s ∷ subs)) (filter (kept s) members)
all_behind s subs [] grouped h = tt
all_behind s subs (m ∷ ms) grouped h = go (kept s m) refl (all_behind s subs ms grouped h.1)
  where
    go : (b : Bool) → kept s m ≡ b → AllByRecursion (IsNext (s ∷ subs)) (filter (kept s) ms) → AllByRecursion (IsNext (s ∷ subs)) (cond b (m ∷ filter (kept s) ms) (filter (kept s) ms))
    go true e k = (behind s subs m (λ q. true≢false (sym e ∙ ap not (of_one_queue s.queue m.queue grouped (sym q)))) h.0, k)
    go false e k = k

plain_before : (s : Subscription) (subs members : List Subscription) → is_plain s ≡ true → AllByRecursion (IsNext subs) members → AllByRecursion (IsNext (s ∷ subs)) members
plain_before s subs members plain h = each (IsNext subs) (IsNext (s ∷ subs)) (λ m k. behind s subs m (λ q. true≢false (sym plain ∙ ap is_none q ∙ k.in_group)) k) members h

pub all_next : (subs : List Subscription) → AllByRecursion (IsNext subs) (next_of_groups subs)
all_next [] = tt
all_next (s ∷ ss) = go (is_plain s) refl (all_next ss)
  where
    go : (b : Bool) → is_plain s ≡ b → AllByRecursion (IsNext ss) (next_of_groups ss) → AllByRecursion (IsNext (s ∷ ss)) (cond b (next_of_groups ss) (next_of s ss ∷ filter (kept s) (next_of_groups ss)))
    go true e h = plain_before s ss (next_of_groups ss) e h
    go false e h = (next_from (s ∷ []) s ss (record { before = []; after = []; place = refl; in_group = e; earlier = tt; later = tt }), all_behind s ss (next_of_groups ss) e h)

-- ---- so they are members

abbrev first_queue : List (Option Bytes) → Option Bytes
first_queue [] = None
first_queue (q ∷ qs) = q

abbrev other_queues : List (Option Bytes) → List (Option Bytes)
other_queues [] = []
other_queues (q ∷ qs) = qs

are_members : (subs : List Subscription) (names : List Bytes) (chosen : List Subscription) → map queue_of chosen ≡ map some_name names → AllByRecursion (IsNext subs) chosen → AreMembers names subs chosen
are_members subs [] [] e h = refl
are_members subs [] (c ∷ cs) e h = absurd (cc (e))
are_members subs (n ∷ ns) [] e h = absurd (cc (e))
are_members subs (n ∷ ns) (c ∷ cs) e h =
    let next : IsNext subs c = h.0 in (
      c,
      cs,
      refl,
      record {
        candidate = subst (λ xs. Contains xs c) (sym next.place) (Contains-append_right next.before (c ∷ next.after) c (0, omega arith, refl));
        member = ap first_queue e;
      },
      are_members subs ns cs (ap other_queues e) h.1,
    )

pub next_are_members : (subs : List Subscription) → AreMembers (groups subs) subs (next_of_groups subs)
next_are_members subs = are_members subs (groups subs) (next_of_groups subs) (names_are subs) (all_next subs)

-- ---- members that are referred to, with their places

map_set : {R X : Type 0} (f : R → X) (refs : List R) (i : ℕ) (r : R) → map f (set refs i r) ≡ set (map f refs) i (f r)
map_set f [] i r = refl
map_set f (q ∷ qs) zero r = refl
map_set f (q ∷ qs) (suc i) r = ap (λ ys. f q ∷ ys) (map_set f qs i r)

get_map : {R X : Type 0} (f : R → X) (refs : List R) (i : ℕ) (d : R) → get_or (map f refs) i (f d) ≡ f (get_or refs i d)
get_map f [] i d = refl
get_map f (q ∷ qs) zero d = refl
get_map f (q ∷ qs) (suc i) d = get_map f qs i d

module _ {R : Type 0} (f : R → Subscription) (places : BTreeMap (Bor Bytes) ℕ) (refs : List R) (n : Bytes) (placed : ArePlaces places (map f refs)) where
  -- the group has a member, at this place
  module _ (x : Subscription) (in_group : x.queue ≡ Some n) (at : ℕ) (h : place_of places n ≡ Some at) where
    abbrev FoundAt : ℕ → Type 0
    FoundAt j = Found n x in_group (map f refs) 0 at j

    found : FoundAt at
    found =
        let k = found_from n x in_group (map f refs) 0 at (sym (placed n) ∙ h) in
        let here : k.0 ≡ at = omega (arith, k.1.counted) in
        subst FoundAt here k.1

    pub place_within : at < length refs
    place_within = omega (arith, found.within, length-map refs f)

    module _ (old new : R) (was : old ≡ get_or refs at old) (made : f new ≡ next_of_two (f old) x) where
      pub preferred_members : map f (set refs at new) ≡ with_candidate (map f refs) x
      preferred_members =
          map_set f refs at new ∙ ap (set (map f refs) at) (made ∙ ap (λ member. next_of_two member x) (ap f was ∙ sym (get_map f refs at old))) ∙ found.made (f old)

      pub preferred_places : ArePlaces places (map f (set refs at new))
      preferred_places name = placed name ∙ ap (position_from (same_option (Some name)) 0) (sym (ap (map queue_of) preferred_members ∙ found.queues))

  -- the group has none
  module _ (r : R) (in_group : (f r).queue ≡ Some n) (h : place_of places n ≡ None) where
    none_placed : position_from (same_option (Some n)) 0 (map queue_of (map f refs)) ≡ None
    none_placed = sym (placed n) ∙ h

    pub added_members : map f (refs ++ r ∷ []) ≡ with_candidate (map f refs) (f r)
    added_members = map-append f refs (r ∷ []) ∙ sym (added_from n (f r) in_group (map f refs) 0 none_placed)

    pub added_places : (new : BTreeMap (Bor Bytes) ℕ) → ((name : Bytes) → place_of new name ≡ cond (same n name) (Some (length refs)) (place_of places name)) → ArePlaces new (map f (refs ++ r ∷ []))
    added_places new changed name = go (same n name) refl
      where
        shown : List Subscription → Option ℕ
        shown members = position_from (same_option (Some name)) 0 (map queue_of members)

        go : (b : Bool) → same n name ≡ b → place_of new name ≡ shown (map f (refs ++ r ∷ []))
        go true e =
            let placed_last = placed_from n (f r) in_group (map f refs) 0 none_placed ∙ ap (λ l. Some l) (omega (arith, length-map refs f)) in
            changed name ∙ ap (λ b. cond b (Some (length refs)) (place_of places name)) e
            ∙ sym (ap shown (map-append f refs (r ∷ [])) ∙ ap (λ m. position_from (same_option (Some m)) 0 (map queue_of (map f refs ++ f r ∷ []))) (sym (same_is n name e)) ∙ placed_last)
        go false e =
            changed name ∙ ap (λ b. cond b (Some (length refs)) (place_of places name)) e ∙ placed name
            ∙ sym (ap shown (map-append f refs (r ∷ [])) ∙ others_from n (f r) in_group name e (map f refs) 0)

-- ---- one candidate further

module _ {R : Type 0} (f : R → Subscription) (refs : List R) (i : ℕ) (r : R) (within : i < length refs) (here : r ≡ get_or refs i r) (members : List Subscription)
    (so_far : members ≡ next_of_groups (map f (take i refs))) where
  next_taken : map f (take (i + 1) refs) ≡ map f (take i refs) ++ f r ∷ []
  next_taken = ap (map f) (take_more refs i r within ∙ ap (λ q. take i refs ++ q ∷ []) (sym here)) ∙ map-append f (take i refs) (r ∷ [])

  pub grouped_further : (n : Bytes) → Some n ≡ (f r).queue → with_candidate members (f r) ≡ next_of_groups (map f (take (i + 1) refs))
  grouped_further n e = ap (λ ms. with_candidate ms (f r)) so_far ∙ sym (ap next_of_groups next_taken ∙ one_more_grouped (map f (take i refs)) (f r) (ap is_none (sym e)))

  pub plain_further : None ≡ (f r).queue → members ≡ next_of_groups (map f (take (i + 1) refs))
  plain_further e = so_far ∙ sym (ap next_of_groups next_taken ∙ one_more_plain (map f (take i refs)) (f r) (sym e))
