-- Since when what waits does, with more behind it, or once it was committed.
use Rattle.std.proofs.Common.{◌≡◌, inl, inr, ◌&&◌, ℕ, Bool, true, false, cond, List, [], ◌∷◌, ◌++◌, Option, None, Some, unwrap_or, refl, sym, ap, subst, ◌∙◌}
use Rattle.effects.specs.declared.effect.Effect.{Effect}
use Rattle.place_engine.specs.Following.{followed, is_now, without_last_moment}
use Rattle.volume_place.specs.Contents.{Contents}
use Rattle.volume_place.specs.Since.{IsDated, KeepsTail, is_moment, since_by}

-- ---- what waits with more behind it is a moment alone just if both are

and_false : (b : Bool) → (b && false) ≡ false
and_false true = refl
and_false false = refl

and_true : (b : Bool) → (b && true) ≡ b
and_true true = refl
and_true false = refl

is_more : (e : Effect) (l : List Effect) (f : Effect) (m : List Effect) → is_moment (e ∷ l ++ f ∷ m) ≡ false
is_more e [] f m = refl
is_more e (g ∷ l) f m = refl

behind_one : (e f : Effect) (m : List Effect) (b : Bool) → is_now f ≡ b
    → is_moment (cond b (without_last_moment (e ∷ [])) (e ∷ []) ++ f ∷ m) ≡ (is_now e && is_moment (f ∷ m))
behind_one e f m true is = go (is_now e)
  where
    go : (c : Bool) → is_moment (cond c [] (e ∷ []) ++ f ∷ m) ≡ (c && is_moment (f ∷ m))
    go true = refl
    go false = refl
behind_one e f [] false is = sym (ap (λ (c : Bool). is_now e && c) is ∙ and_false (is_now e))
behind_one e f (g ∷ m) false is = sym (and_false (is_now e))

behind_more : (e g f : Effect) (l m : List Effect) (b : Bool) → is_moment (cond b (without_last_moment (e ∷ g ∷ l)) (e ∷ g ∷ l) ++ f ∷ m) ≡ false
behind_more e g f l m true = is_more e (without_last_moment (g ∷ l)) f m
behind_more e g f l m false = refl

behind_none : (f : Effect) (m : List Effect) (b : Bool) → is_moment (cond b [] [] ++ f ∷ m) ≡ is_moment (f ∷ m)
behind_none f m true = refl
behind_none f m false = refl

both_moments : (tail more : List Effect) → is_moment (followed tail more) ≡ (is_moment tail && is_moment more)
both_moments [] [] = refl
both_moments [] (f ∷ m) = behind_none f m (is_now f)
both_moments (e ∷ []) [] = sym (and_true (is_now e))
both_moments (e ∷ []) (f ∷ m) = behind_one e f m (is_now f) refl
both_moments (e ∷ g ∷ l) [] = refl
both_moments (e ∷ g ∷ l) (f ∷ m) = behind_more e g f l m (is_now f)

-- ---- since when it does

-- the same waits
pub dated_as : (these waiting : List Effect) (since : Option ℕ) → these ≡ waiting → IsDated waiting since → IsDated these since
dated_as these waiting since same = subst (λ (l : List Effect). IsDated l since) (sym same)

-- as it is told
dated_by : (now : ℕ) (since : Option ℕ) (waiting : List Effect) → IsDated waiting (since_by now since waiting)
dated_by now since waiting = go (is_moment waiting) refl
  where
    go : (b : Bool) → is_moment waiting ≡ b → IsDated waiting (cond b None (Some (unwrap_or since now)))
    go true is = is
    go false is = is

pub dated_with : (now : ℕ) (since told : Option ℕ) (waiting : List Effect) → told ≡ since_by now since waiting → IsDated waiting told
dated_with now since told waiting is = subst (λ (o : Option ℕ). IsDated waiting o) (sym is) (dated_by now since waiting)

-- nothing was made
pub since_kept : (now : ℕ) (since : Option ℕ) (waiting : List Effect) → IsDated waiting since → since ≡ since_by now since waiting
since_kept now None waiting dated = sym (ap (λ (b : Bool). cond b None (Some now)) dated)
since_kept now (Some first) waiting dated = sym (ap (λ (b : Bool). cond b None (Some first)) dated)

module _ (waiting made : List Effect) (now : ℕ) where
  -- something waited before
  pub since_before : (first : ℕ) → IsDated waiting (Some first) → Some first ≡ since_by now (Some first) (followed waiting made)
  since_before first dated = sym (ap (λ (b : Bool). cond b None (Some first)) (both_moments waiting made ∙ ap (λ (b : Bool). b && is_moment made) dated))

  -- nothing did
  pub since_none : IsDated waiting None → (b : Bool) → b ≡ is_moment made → cond b None (Some now) ≡ since_by now None (followed waiting made)
  since_none dated b is = ap (λ (c : Bool). cond c None (Some now)) (is ∙ sym (both_moments waiting made ∙ ap (λ (c : Bool). c && is_moment made) dated))

-- and then it was committed or not
pub since_then : {V : Type 0} (now : ℕ) (since : Option ℕ) (m n : Contents V) → m.since ≡ since_by now since m.waiting → KeepsTail m n → n.since ≡ since_by now since n.waiting
since_then now since m n is (inl gone) = gone.1 ∙ sym (ap (since_by now since) gone.0)
since_then now since m n is (inr kept) = kept.1 ∙ is ∙ sym (ap (since_by now since) kept.0)
