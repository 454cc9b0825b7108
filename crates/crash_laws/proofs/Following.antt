-- What a crash may leave after no entries, and after entries that others follow.
use Rattle.std.proofs.Common.{⊎_elim, inl, inr, ℕ, ◌<◌, ◌≤◌, ◌++◌, List, [], refl, arith}
use Rattle.std.proofs.lemmas.Bool.{cases_lt}
use Rattle.js_model.specs.declared.stream.State.{State}
use Rattle.crash_laws.specs.Timed.{Timed}
use Rattle.crash_laws.specs.Beginnings.{Chain, Ever, IsLeftOf}
use Rattle.crash_laws.specs.Outlasting.{Lasted, Outlasts}
use Rattle.crash_laws.proofs.Beginnings.{all_lost, begins_before, begins_behind, begins_since, both_between, chained, none_left, nothing_stands, wider_between}

module _ {V Image : Type 0} (holds : Image → State → Type 0) (left : V → ℕ → Image → Type 0) (clock : V → ℕ) where
  -- ---- nothing was made

  pub outlasts_nothing : (is_base : State → Type 0) → ((v : V) (t u : ℕ) (image : Image) → t ≤ u → left v u image → left v t image) → (s : State) (v : V)
      → Outlasts holds left clock is_base is_base [] s s v v
  outlasts_nothing is_base earlier s v bases = record {
    later = omega arith;
    led = refl;
    between = tt;
    crash = λ t image is_left. ⊎_elim
        (λ before. inl (before, is_left))
        (λ since. let b = bases image (earlier v (clock v) t image since is_left) in inr (b.0, b.1, nothing_of t b.0 b.2))
        (cases_lt t (clock v));
    base = λ b is. nothing_of (clock v) b is;
    bases = bases;
  }
    where
      nothing_of : (t : ℕ) (b : State) → is_base b → IsLeftOf t is_base s [] s b
      nothing_of t b is = record { beginning = none_left t s [] s refl; left_is = inr (refl, is) }

  -- ---- more was made

  module _ (was_base mid_base is_base : State → Type 0) (entries : List Timed) (old mid : State) (u v : V) (h : Lasted holds left clock was_base mid_base entries old mid u v) (more : List Timed) (new : State) where
    -- what is left of the entries before, and no more
    left_before : (t : ℕ) (l : State) → IsLeftOf t was_base old entries mid l → Chain (λ by. t < by) mid more new → IsLeftOf t was_base old (entries ++ more) new l
    left_before t l is chain = record { beginning = begins_before t old entries mid more new is.beginning chain; left_is = is.left_is }

    -- of those that follow something is left, or nothing, and then the volume holds all that was confirmed before them
    left_behind : (t : ℕ) (l : State) → IsLeftOf t mid_base mid more new l → IsLeftOf t was_base old (entries ++ more) new l
    left_behind t l is = ⊎_elim
        (λ e. record { beginning = begins_behind t old entries mid more new h.led is.beginning; left_is = inl e })
        (λ e.
        let b = h.base l e.1 in
        left_before t l (record { beginning = begins_since t (clock v) (clock u) old entries mid h.between b.beginning; left_is = b.left_is })
        (nothing_stands t mid more new is.beginning e.0))
        is.left_is

    lasted_more : (w : V) → Lasted holds left clock mid_base is_base more mid new v w → Lasted holds left clock was_base is_base (entries ++ more) old new u w
    lasted_more w k = record {
      later = omega (arith, h.later, k.later);
      led = chained Ever entries more old mid new h.led k.led;
      between = both_between (clock u) (clock w) entries more
          (wider_between (clock u) (clock v) (clock u) (clock w) (omega arith) k.later entries h.between)
          (wider_between (clock v) (clock w) (clock u) (clock w) h.later (omega arith) more k.between);
      crash = λ t image is_left. ⊎_elim
          (λ before. ⊎_elim
          (λ earlier. inl earlier)
          (λ l. inr (l.0, l.1, left_before t l.0 l.2 (all_lost t (clock v) (clock w) before.0 more mid new k.between k.led)))
          (h.crash t image before.1))
          (λ l. inr (l.0, l.1, left_behind t l.0 l.2))
          (k.crash t image is_left);
      base = λ b is. left_behind (clock w) b (k.base b is);
      bases = k.bases;
    }

  pub outlasts_more : (was_base mid_base is_base : State → Type 0) (entries more : List Timed) (a b c : State) (u v w : V) → Outlasts holds left clock was_base mid_base entries a b u v
      → Outlasts holds left clock mid_base is_base more b c v w → Outlasts holds left clock was_base is_base (entries ++ more) a c u w
  outlasts_more was_base mid_base is_base entries more a b c u v w h k bases =
      let first = h bases in lasted_more was_base mid_base is_base entries a b u v first more c w (k first.bases)
