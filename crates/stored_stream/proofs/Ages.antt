-- Until when no message is too old and no id leaves.
use Rattle.std.proofs.Common.{◌≡◌, ◌==◌, ℕ, ◌≤◌, Bool, true, false, cond, List, [], ◌∷◌, Option, Some, None, map, refl, sym, ap, subst, arith}
use Rattle.std.specs.Prelude.{All, IfSome, option_map, slice_get}
use Rattle.std.proofs.lemmas.Bool.{eq-eqb}
use Rattle.std.proofs.lemmas.List.Elements.{All-cons, All-map, All-nil}
use Rattle.js_base.specs.Moments.{plus}
use Rattle.js_model.specs.declared.stream.Id.{Id}
use Rattle.js_model.specs.declared.stream.Message.{Message}
use Rattle.js_model.specs.declared.stream.Stream.{Stream}
use Rattle.js_model.specs.Counts.{first_message}
use Rattle.timers.specs.Bounds.{IsTimerBound}
use Rattle.timers.specs.Timers.{age_timers}
use Rattle.stored_stream.specs.Stored.{IsSound, Rises}

abbrev ages : ℕ → List Message → List ℕ
ages age ms = map (λ m. plus m.at age) ms

ages_from : (age bound low high : ℕ) (ms : List Message) → bound ≤ plus low age → Rises (λ m. m.at) low high ms → All (λ t. bound ≤ t) (ages age ms)
ages_from age bound low high [] l h = All-nil (λ t. bound ≤ t)
ages_from age bound low high (m ∷ ms) l h =
    let rises : low ≤ m.at = h.0 in
    let here : bound ≤ plus m.at age = omega (arith, l, rises) in
    All-cons (λ t. bound ≤ t) (plus m.at age) (ages age ms) here (ages_from age bound m.at high ms here h.1)

module _ (s : Stream) where
  -- without a limit
  pub unlimited : s.config.max_age ≡ 0 → IsTimerBound (age_timers s) None
  unlimited e = ap (λ b. cond b [] (ages s.config.max_age s.messages)) (eq-eqb s.config.max_age 0 e)

  pub none_ages : first_message s.messages ≡ None → IsTimerBound (age_timers s) None
  none_ages e = go (s.config.max_age == 0) s.messages e
    where
      go : (b : Bool) (ms : List Message) → first_message ms ≡ None → cond b [] (ages s.config.max_age ms) ≡ []
      go true ms k = refl
      go false [] k = refl
      go false (m ∷ ms) k = absurd cc

  pub first_ages : (m : Message) → first_message s.messages ≡ Some m → IsSound s → IsTimerBound (age_timers s) (Some (plus m.at s.config.max_age))
  first_ages m e sound = go (s.config.max_age == 0) s.messages e sound.messages
    where
      bound : ℕ
      bound = plus m.at s.config.max_age

      go : (b : Bool) (ms : List Message) → first_message ms ≡ Some m → Rises (λ x. x.at) 0 s.moment ms → All (λ t. bound ≤ t) (cond b [] (ages s.config.max_age ms))
      go true ms k h = All-nil (λ t. bound ≤ t)
      go false [] k h = absurd cc
      go false (x ∷ ms) k h =
          let is : x ≡ m = cc in
          let at : x.at ≡ m.at = ap (λ (y : Message). y.at) is in
          ages_from s.config.max_age bound x.at s.moment (x ∷ ms) (omega (arith, at)) (omega arith, h.1)

pub ids_bound : (window : ℕ) (ids : List Id) (o : Option ℕ) → o ≡ option_map (λ i. plus i.at window) (slice_get ids 0)
    → IfSome o (λ first. All (λ i. first ≤ plus i.at window) ids) → IsTimerBound (map (λ i. plus i.at window) ids) o
ids_bound window [] None is h = refl
ids_bound window (i ∷ ids) None is h = absurd cc
ids_bound window ids (Some first) is h = All-map (λ t. first ≤ t) (λ i. plus i.at window) ids h
