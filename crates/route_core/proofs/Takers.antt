-- The takers of a message: the plain candidates, and one member of each queue group.
use Rattle.std.proofs.Common.{◌≡◌, ℕ, ◌==◌, ◌&&◌, Bool, true, false, cond, not, List, [], ◌∷◌, ◌++◌, Option, Some, None, filter, refl, sym, ap, ◌∙◌}
use Rattle.std.proofs.lemmas.Bool.{eqb-true}
use Rattle.std.proofs.lemmas.List.Elements.{filter_agree}
use Rattle.js_base.specs.Bytes.{Bytes}
use Rattle.js_model.specs.Router.{Router, Session, Subscription, is_match, is_plain, is_deaf, is_deaf_to, candidates}
use Rattle.js_model.specs.Router
use Rattle.route_core.specs.Sessions.{is_deaf_in, deaf_of}
use Rattle.route_core.specs.Subscriptions.{is_number, hears, plain_takers}
use Rattle.route_core.specs.Groups.{next_of_groups, takers_of}

-- ---- filters

filter_both : {X : Type 0} (p q : X → Bool) (xs : List X) → filter q (filter p xs) ≡ filter (λ x. p x && q x) xs
filter_both p q [] = refl
filter_both {X} p q (x ∷ xs) = go (p x) (q x) refl (filter_both p q xs)
  where
    go : (a b : Bool) → q x ≡ b → filter q (filter p xs) ≡ filter (λ x. p x && q x) xs → filter q (cond a (x ∷ filter p xs) (filter p xs)) ≡ cond (a && b) (x ∷ filter (λ x. p x && q x) xs) (filter (λ x. p x && q x) xs)
    go true true e h = ap (λ c. cond c (x ∷ filter q (filter p xs)) (filter q (filter p xs))) e ∙ ap (λ (ys : List X). x ∷ ys) h
    go true false e h = ap (λ c. cond c (x ∷ filter q (filter p xs)) (filter q (filter p xs))) e ∙ h
    go false b e h = h

-- ---- the candidates, as the code finds them

deaf_alike : (sessions : List Session) (m n : ℕ) → (m == n && is_deaf_in sessions n) ≡ is_number (cond (is_deaf_in sessions m) (Some m) None) n
deaf_alike sessions m n = go (m == n) refl
  where
    numbered : (b : Bool) → (m == n) ≡ true → b ≡ is_number (cond b (Some m) None) n
    numbered true e = sym e
    numbered false e = refl

    other : (b : Bool) → (m == n) ≡ false → false ≡ is_number (cond b (Some m) None) n
    other true e = sym e
    other false e = refl

    go : (b : Bool) → (m == n) ≡ b → (b && is_deaf_in sessions n) ≡ is_number (cond (is_deaf_in sessions m) (Some m) None) n
    go true e = ap (is_deaf_in sessions) (sym (eqb-true m n e)) ∙ numbered (is_deaf_in sessions m) e
    go false e = other (is_deaf_in sessions m) e

hears_alike : (r : Router) (subject : Bytes) (from : Option ℕ) (sub : Subscription) → Router.hears r subject from sub ≡ hears subject (deaf_of r.sessions from) sub
hears_alike r subject None sub = refl
hears_alike r subject (Some m) sub = ap (λ b. is_match subject sub && not b) (deaf_alike r.sessions m sub.session)

pub candidates_are : (r : Router) (subject : Bytes) (from : Option ℕ) → candidates r subject from ≡ filter (hears subject (deaf_of r.sessions from)) r.subscriptions
candidates_are r subject from = filter_agree (Router.hears r subject from) (hears subject (deaf_of r.sessions from)) (hears_alike r subject from) r.subscriptions

pub plain_are : (subject : Bytes) (deaf : Option ℕ) (subs : List Subscription) → filter is_plain (filter (hears subject deaf) subs) ≡ plain_takers subject deaf subs
plain_are subject deaf subs = filter_both (hears subject deaf) is_plain subs

-- by those that may be sent it
pub takers_heard : (subject : Bytes) (deaf : Option ℕ) (subs : List Subscription) → filter is_plain (filter (hears subject deaf) subs) ++ next_of_groups (filter (hears subject deaf) subs) ≡ takers_of subject deaf subs
takers_heard subject deaf subs = ap (λ ps. ps ++ next_of_groups (filter (hears subject deaf) subs)) (plain_are subject deaf subs)
