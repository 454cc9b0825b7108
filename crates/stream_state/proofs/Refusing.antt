-- Which check of a new consumer refuses it.
use Rattle.std.proofs.Common.{◌≡◌, ℕ, ◌<◌, ◌≤◌, Bool, true, false, ◌&&◌, cond, List, [], ◌∷◌, ◌++◌, Some, None, Result, Ok, Err, IsErrAnd, length, map, refl, sym, ap, subst, ◌∙◌, arith}
use Rattle.std.specs.Prelude.{IfErr, codes, min, nat_le, nat_lt, unwrap_or}
use Rattle.std.specs.List.{list_any}
use Rattle.std.proofs.lemmas.Bool.{le-leb, lt-leb}
use Rattle.js_base.specs.Bytes.{Bytes}
use Rattle.js_base.specs.declared.out.ApiError.{ApiError}
use Rattle.js_model.specs.declared.stream.Stream.{Stream}
use Rattle.js_model.specs.declared.consumer_config.ConsumerConfig.{ConsumerConfig}
use Rattle.js_model.specs.Consumers.{is_rival, is_work_queue, making_checks, queue_checks}
use Rattle.js_model.specs.Refusals.{first_refusal, max_consumers_reached, too_many_subjects, work_queue_rule, Check}
use Rattle.js_model.specs.Start.{picks_at}
use Rattle.js_model.proofs.Named.{none_some}
use Rattle.consumer_state.specs.Making.{own_checks, policy_checks, IsRefusal}
use Rattle.consumer_state.specs.declared.fault.MakeFault.{MakeFault}
use Rattle.consumer_state.specs.declared.fault.MakeFault.TheVariants.{Refused, NoMemory}
use Rattle.consumer_state.proofs.Filters.{any_map}
use Rattle.followed_stream.specs.Followers.{Following}

-- ---- the first of several checks

refused_before : (xs ys : List Check) (e : ApiError) → first_refusal xs ≡ Some e → first_refusal (xs ++ ys) ≡ Some e
refused_before [] ys e h = absurd (none_some h)
refused_before (x ∷ xs) ys e h = go x.0 h (refused_before xs ys e)
  where
    go : (b : Bool) → cond b (Some x.1) (first_refusal xs) ≡ Some e → (first_refusal xs ≡ Some e → first_refusal (xs ++ ys) ≡ Some e) → cond b (Some x.1) (first_refusal (xs ++ ys)) ≡ Some e
    go true k r = k
    go false k r = r k

refused_behind : (xs ys : List Check) → first_refusal xs ≡ None → first_refusal (xs ++ ys) ≡ first_refusal ys
refused_behind [] ys h = refl
refused_behind (x ∷ xs) ys h = go x.0 h (refused_behind xs ys)
  where
    go : (b : Bool) → cond b (Some x.1) (first_refusal xs) ≡ None → (first_refusal xs ≡ None → first_refusal (xs ++ ys) ≡ first_refusal ys) → cond b (Some x.1) (first_refusal (xs ++ ys)) ≡ first_refusal ys
    go true k r = absurd (none_some (sym k))
    go false k r = r k

none_before : (xs ys : List Check) → first_refusal (xs ++ ys) ≡ None → first_refusal xs ≡ None
none_before [] ys h = refl
none_before (x ∷ xs) ys h = go x.0 h (none_before xs ys)
  where
    go : (b : Bool) → cond b (Some x.1) (first_refusal (xs ++ ys)) ≡ None → (first_refusal (xs ++ ys) ≡ None → first_refusal xs ≡ None) → cond b (Some x.1) (first_refusal xs) ≡ None
    go true k r = absurd (none_some (sym k))
    go false k r = r k

-- the fault that is passed on
pub refused_as : {X : Type 0} (checks : List Check) (fault : MakeFault) (result : Result X MakeFault) → IsErrAnd result (λ made. made ≡ fault) → IsRefusal checks fault → IfErr result (IsRefusal checks)
refused_as checks fault (Ok x) e h = tt
refused_as checks fault (Err made) e h = subst (IsRefusal checks) (sym e) h

-- ---- the rules of a work queue

module _ (s : Stream) (name : Bytes) (config : ConsumerConfig) where
  abbrev rivals : Check
  rivals = (is_work_queue s && list_any (is_rival name config) s.consumers, work_queue_rule (codes "filter_subject"))

  -- what is asked of the followers
  pub rivals_as : (fs : List Following) → map (λ f. f.consumer) fs ≡ s.consumers → list_any (λ f. is_rival name config f.consumer) fs ≡ list_any (is_rival name config) s.consumers
  rivals_as fs is = sym (any_map (is_rival name config) (λ (f : Following). f.consumer) fs) ∙ ap (list_any (is_rival name config)) is

  pub policy_refused : (e : ApiError) → first_refusal (policy_checks s config) ≡ Some e → first_refusal (queue_checks s name config) ≡ Some e
  policy_refused e h = refused_before (policy_checks s config) (rivals ∷ []) e h

  pub rival_refused : first_refusal (policy_checks s config) ≡ None → (is_work_queue s && list_any (is_rival name config) s.consumers) ≡ true → first_refusal (queue_checks s name config) ≡ Some (work_queue_rule (codes "filter_subject"))
  rival_refused h e = refused_behind (policy_checks s config) (rivals ∷ []) h ∙ ap (λ (b : Bool). cond b (Some rivals.1) None) e

  pub none_refused : first_refusal (policy_checks s config) ≡ None → (is_work_queue s && list_any (is_rival name config) s.consumers) ≡ false → first_refusal (queue_checks s name config) ≡ None
  none_refused h e = refused_behind (policy_checks s config) (rivals ∷ []) h ∙ ap (λ (b : Bool). cond b (Some rivals.1) None) e

  -- ---- all rules

  abbrev many : Check
  many = (nat_lt 65536 (length (picks_at config.deliver_policy config.filter_subject s)), too_many_subjects)

  abbrev full : Check
  full = (nat_le (min (unwrap_or s.config.max_consumers 256) 256) (length s.consumers), max_consumers_reached)

  pub is_full : (most count : ℕ) → most ≡ min (unwrap_or s.config.max_consumers 256) 256 → count ≡ length s.consumers → most ≤ count → full.0 ≡ true
  is_full most count m n l = le-leb (min (unwrap_or s.config.max_consumers 256) 256) (length s.consumers) (omega (arith, m, n, l))

  pub has_place : (most count : ℕ) → most ≡ min (unwrap_or s.config.max_consumers 256) 256 → count ≡ length s.consumers → count < most → full.0 ≡ false
  has_place most count m n l = lt-leb (min (unwrap_or s.config.max_consumers 256) 256) (length s.consumers) (omega (arith, m, n, l))

  pub by_queue : (e : ApiError) → Some e ≡ first_refusal (queue_checks s name config) → first_refusal (making_checks s name config) ≡ Some e
  by_queue e h = refused_before (queue_checks s name config) (many ∷ full ∷ []) e (sym h)

  module _ (queue : None ≡ first_refusal (queue_checks s name config)) where
    policies : first_refusal (policy_checks s config) ≡ None
    policies = none_before (policy_checks s config) (rivals ∷ []) (sym queue)

    behind : first_refusal (making_checks s name config) ≡ first_refusal (many ∷ full ∷ [])
    behind = refused_behind (queue_checks s name config) (many ∷ full ∷ []) (sym queue)

    pub by_own : (fault : MakeFault) → IsRefusal (own_checks s config) fault → IsRefusal (making_checks s name config) fault
    by_own (Refused e) h = behind ∙ refused_before (many ∷ []) (full ∷ []) e (sym (refused_behind (policy_checks s config) (many ∷ []) policies) ∙ h)
    by_own NoMemory h = h

    few : first_refusal (own_checks s config) ≡ None → first_refusal (many ∷ []) ≡ None
    few h = sym (refused_behind (policy_checks s config) (many ∷ []) policies) ∙ h

    pub by_number : first_refusal (own_checks s config) ≡ None → full.0 ≡ true → first_refusal (making_checks s name config) ≡ Some max_consumers_reached
    by_number h e = behind ∙ refused_behind (many ∷ []) (full ∷ []) (few h) ∙ ap (λ (b : Bool). cond b (Some full.1) None) e

    pub by_none : first_refusal (own_checks s config) ≡ None → full.0 ≡ false → first_refusal (making_checks s name config) ≡ None
    by_none h e = behind ∙ refused_behind (many ∷ []) (full ∷ []) (few h) ∙ ap (λ (b : Bool). cond b (Some full.1) None) e
