-- Consumers in order of their names.
use Rattle.std.proofs.Common.{◌≡◌, Bool, true, false, cond, List, [], ◌∷◌, refl, sym, ap, ◌∙◌}
use Rattle.std.specs.Prelude.{Some, None, filter, All}
use Rattle.std.specs.declared.cmp.Ordering.{Ordering}
use Rattle.std.specs.declared.cmp.Ordering.TheVariants.{Less, Equal, Greater}
use Rattle.std.specs.Ordering.{is_lt, is_eq, nat_cmp, ordering_reverse}
use Rattle.std.specs.Cmp.Lexicographic.{slice_cmp}
use Rattle.std.proofs.lemmas.Cmp.{nat_list_cmp_total}
use Rattle.std.proofs.lemmas.Map.Text.{is_eq-slice_cmp}
use Rattle.std.proofs.lemmas.Bool.{true≢false}
use Rattle.std.proofs.lemmas.List.Elements.{All-filter, All-weaker, All-cons, All-nil, All-head, All-tail}
use Rattle.js_base.specs.Bytes.{Bytes, same}
use Rattle.js_model.specs.declared.consumer.Consumer.{Consumer}
use Rattle.js_model.specs.Streams.{by_name}
use Rattle.js_model.specs.Consumers.{with_new, is_before}
use Rattle.model_laws.proofs.Whole.{AreOrdered}
use Rattle.js_model.proofs.Named.{none_some}

less_is : (o : Ordering) → is_lt o ≡ true → o ≡ Less
less_is Less h = refl
less_is Equal h = absurd (true≢false (sym h))
less_is Greater h = absurd (true≢false (sym h))

pub before_trans : (a b c : Bytes) → is_before a b ≡ true → is_before b c ≡ true → is_before a c ≡ true
before_trans a b c h k = ap is_lt (nat_list_cmp_total.trans a b c (less_is (slice_cmp nat_cmp a b) h) (less_is (slice_cmp nat_cmp b c) k))

-- of two names, one comes first, or they are the same
pub before_total : (a b : Bytes) → same a b ≡ false → is_before a b ≡ false → is_before b a ≡ true
before_total a b d h = go (slice_cmp nat_cmp a b) refl
  where
    reversed : (o : Ordering) → slice_cmp nat_cmp a b ≡ o → slice_cmp nat_cmp b a ≡ ordering_reverse o
    reversed o e = nat_list_cmp_total.antisymm b a ∙ ap ordering_reverse e

    go : (o : Ordering) → slice_cmp nat_cmp a b ≡ o → is_before b a ≡ true
    go Less e = absurd (true≢false (sym (ap is_lt e) ∙ h))
    go Equal e = absurd (true≢false (sym (sym (is_eq-slice_cmp a b) ∙ ap is_eq e) ∙ d))
    go Greater e = ap is_lt (reversed Greater e)

pub ordered_filter : (t : Consumer → Bool) (cs : List Consumer) → AreOrdered cs → AreOrdered (filter t cs)
ordered_filter t [] h = tt
ordered_filter t (c ∷ cs) h = go (t c) (ordered_filter t cs h.1)
  where
    go : (b : Bool) → AreOrdered (filter t cs) → AreOrdered (cond b (c ∷ filter t cs) (filter t cs))
    go true k = (All-filter t (λ d. is_before c.name d.name ≡ true) cs h.0, k)
    go false k = k

pub All-with_new : (P : Consumer → Type 0) (cs : List Consumer) (new : Consumer) → P new → All P cs → All P (with_new cs new)
All-with_new P [] new h k = All-cons P new [] h k
All-with_new P (c ∷ cs) new h k = go (is_before c.name new.name) (All-with_new P cs new h (All-tail P c cs k))
  where
    go : (b : Bool) → All P (with_new cs new) → All P (cond b (c ∷ with_new cs new) (new ∷ c ∷ cs))
    go true r = All-cons P c (with_new cs new) (All-head P c cs k) r
    go false r = All-cons P new (c ∷ cs) h k

pub ordered_with_new : (cs : List Consumer) (new : Consumer) → by_name cs new.name ≡ None → AreOrdered cs → AreOrdered (with_new cs new)
ordered_with_new [] new e h = (All-nil (λ d. is_before new.name d.name ≡ true), tt)
ordered_with_new (c ∷ cs) new e h = go (is_before c.name new.name) refl (same c.name new.name) refl e (λ k. ordered_with_new cs new k h.1)
  where
    after : is_before new.name c.name ≡ true → All (λ d. is_before new.name d.name ≡ true) (c ∷ cs)
    after q = All-cons (λ d. is_before new.name d.name ≡ true) c cs q (All-weaker (λ d. is_before c.name d.name ≡ true) (λ d. is_before new.name d.name ≡ true) (λ d w. before_trans new.name c.name d.name q w) cs h.0)

    go : (a : Bool) → is_before c.name new.name ≡ a → (b : Bool) → same c.name new.name ≡ b → cond b (Some c) (by_name cs new.name) ≡ None → (by_name cs new.name ≡ None → AreOrdered (with_new cs new)) → AreOrdered (cond a (c ∷ with_new cs new) (new ∷ c ∷ cs))
    go a q true w k f = absurd (none_some (sym k))
    go true q false w k f = (All-with_new (λ d. is_before c.name d.name ≡ true) cs new q h.0, f k)
    go false q false w k f = (after (before_total c.name new.name w q), h)
