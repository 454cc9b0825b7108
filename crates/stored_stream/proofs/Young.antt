-- Messages that are too old stand first.
use Rattle.std.proofs.Common.{◌≡◌, ℕ, ◌+◌, ◌<◌, ◌≤◌, ◌==◌, Bool, true, false, cond, not, List, [], ◌∷◌, Option, Some, None, refl, sym, ap, subst, ◌∙◌, arith}
use Rattle.std.specs.Prelude.{filter, nat_lt, IfNone, IfSome, IsSome}
use Rattle.std.proofs.lemmas.Bool.{ltb-true, ltb-false, lt-ltb, le-ltb, eq-eqb}
use Rattle.js_base.specs.Moments.{plus}
use Rattle.js_model.specs.declared.stream.Message.{Message}
use Rattle.js_model.specs.declared.stream.Stream.{Stream}
use Rattle.js_model.specs.Advance.{young}
use Rattle.js_model.specs.Counts.{first_message}
use Rattle.js_model.specs.Events.{message_at}
use Rattle.js_model.specs.Lists.{Between}
use Rattle.stored_stream.specs.Stored.{Rises, IsSound, without}
use Rattle.stored_stream.proofs.Finding.{first_found, without_first}

plus_rises : (a b age : ℕ) → a ≤ b → plus a age ≤ plus b age
plus_rises a b age h = omega arith

-- if the first message is not too old, none is
lasting : (age now low high : ℕ) (ms : List Message) → now < plus low age → Rises (λ m. m.at) low high ms → filter (λ m. nat_lt now (plus m.at age)) ms ≡ ms
lasting age now low high [] l h = refl
lasting age now low high (m ∷ ms) l h =
    let rises : plus low age ≤ plus m.at age = plus_rises low m.at age h.0 in
    rw (lt-ltb now (plus m.at age) (omega arith)) (ap (λ (xs : List Message). m ∷ xs) (lasting age now m.at high ms (omega arith) h.1))

all_young : (age now high : ℕ) (m : Message) (ms : List Message) → now < plus m.at age → Rises (λ x. x.at) m.at high ms → filter (λ x. nat_lt now (plus x.at age)) (m ∷ ms) ≡ m ∷ ms
all_young age now high m ms l h = rw (lt-ltb now (plus m.at age) l) (ap (λ (xs : List Message). m ∷ xs) (lasting age now m.at high ms l h))

module _ (s : Stream) (now : ℕ) (sound : IsSound s) where
  -- without a limit
  pub young_unlimited : s.config.max_age ≡ 0 → young s now ≡ s.messages
  young_unlimited e = ap (λ b. cond b s.messages (filter (λ m. nat_lt now (plus m.at s.config.max_age)) s.messages)) (eq-eqb s.config.max_age 0 e)

  limited : (b : Bool) → (s.config.max_age == 0) ≡ b → filter (λ m. nat_lt now (plus m.at s.config.max_age)) s.messages ≡ s.messages → young s now ≡ s.messages
  limited true e h = ap (λ b. cond b s.messages (filter (λ m. nat_lt now (plus m.at s.config.max_age)) s.messages)) e
  limited false e h = ap (λ b. cond b s.messages (filter (λ m. nat_lt now (plus m.at s.config.max_age)) s.messages)) e ∙ h

  pub young_none : first_message s.messages ≡ None → young s now ≡ s.messages
  young_none e = limited (s.config.max_age == 0) refl (go s.messages e)
    where
      go : (ms : List Message) → first_message ms ≡ None → filter (λ m. nat_lt now (plus m.at s.config.max_age)) ms ≡ ms
      go [] k = refl
      go (m ∷ ms) k = absurd cc

  pub young_first : (m : Message) → first_message s.messages ≡ Some m → now < plus m.at s.config.max_age → young s now ≡ s.messages
  young_first m e l = limited (s.config.max_age == 0) refl (go s.messages e sound.messages)
    where
      go : (ms : List Message) → first_message ms ≡ Some m → Rises (λ x. x.at) 0 s.moment ms → filter (λ x. nat_lt now (plus x.at s.config.max_age)) ms ≡ ms
      go [] k h = refl
      go (x ∷ ms) k h = let is : x ≡ m = cc in all_young s.config.max_age now s.moment x ms (rw is l) h.1

  -- if the first message is too old, the others are looked at without it
  pub young_less : (m : Message) → first_message s.messages ≡ Some m → (s.config.max_age == 0) ≡ false → plus m.at s.config.max_age ≤ now → young (without m.seq s) now ≡ young s now
  young_less m e limit l =
      ap (λ b. cond b (without m.seq s).messages (filter (λ x. nat_lt now (plus x.at s.config.max_age)) (without m.seq s).messages)) limit
      ∙ go s.messages e sound.ascends
      ∙ sym (ap (λ b. cond b s.messages (filter (λ x. nat_lt now (plus x.at s.config.max_age)) s.messages)) limit)
    where
      go : (ms : List Message) → first_message ms ≡ Some m → Between (λ x. x.seq) 1 (s.last + 1) ms
          → filter (λ x. nat_lt now (plus x.at s.config.max_age)) (filter (λ x. not (x.seq == m.seq)) ms) ≡ filter (λ x. nat_lt now (plus x.at s.config.max_age)) ms
      go [] k h = refl
      go (x ∷ ms) k h =
          let is : x ≡ m = cc in
          ap (filter (λ y. nat_lt now (plus y.at s.config.max_age))) (ap (λ (n : ℕ). filter (λ y. not (y.seq == n)) (x ∷ ms)) (ap (λ (y : Message). y.seq) (sym is)) ∙ without_first 1 (s.last + 1) x ms h)
          ∙ sym (ap (λ b. cond b (x ∷ filter (λ y. nat_lt now (plus y.at s.config.max_age)) ms) (filter (λ y. nat_lt now (plus y.at s.config.max_age)) ms)) (ap (λ (y : Message). nat_lt now (plus y.at s.config.max_age)) is ∙ le-ltb now (plus m.at s.config.max_age) l))

-- ---- the first message

-- what is told of the first message, if it is there
pub record FirstOld (s : Stream) (now : ℕ) (told : Option ℕ) : Type 0 where
  pub there : IfSome told (λ n. IsSome (message_at s n))
  pub old : IfSome told (λ n. young (without n s) now ≡ young s now)
  pub none : IfNone told (young s now ≡ s.messages)

pub first_old : (s : Stream) (now : ℕ) → IsSound s → (m : Message) → first_message s.messages ≡ Some m → (s.config.max_age == 0) ≡ false
    → FirstOld s now (cond (nat_lt now (plus m.at s.config.max_age)) None (Some m.seq))
first_old s now sound m e limited = go (nat_lt now (plus m.at s.config.max_age)) refl
  where
    go : (b : Bool) → nat_lt now (plus m.at s.config.max_age) ≡ b → FirstOld s now (cond b None (Some m.seq))
    go true f = record { there = tt; old = tt; none = young_first s now sound m e (ltb-true now (plus m.at s.config.max_age) f) }
    go false f = record {
      there = subst IsSome (sym (first_found s m e)) refl;
      old = young_less s now sound m e limited (ltb-false now (plus m.at s.config.max_age) f);
      none = tt;
    }
