-- The messages for the takers, made over references to those that match.
use Rattle.std.proofs.Common.{◌≡◌, ℕ, ◌+◌, ◌<◌, Bool, true, false, cond, List, [], ◌∷◌, ◌++◌, Option, length, get_or, take, map, fold, sym, ap, ◌∙◌, append-nil, append_assoc}
use Rattle.std.specs.Prelude.{filter}
use Rattle.std.proofs.lemmas.List.{map-append, take_more}
use Rattle.std.proofs.lemmas.List.Elements.{filter-append}
use Rattle.std.proofs.lemmas.List.Sums.{fold_push}
use Rattle.js_base.specs.declared.out.Out.{Out}
use Rattle.js_model.specs.Router.{Session, Subscription, is_plain}
use Rattle.route_core.specs.declared.delivery.Delivery.{Delivery}
use Rattle.route_core.specs.Subscriptions.{hears}
use Rattle.route_core.specs.Groups.{next_of_groups, takers_of}
use Rattle.route_core.specs.Deliveries.{delivery_of, deliveries_of}
use Rattle.route_core.proofs.Takers.{takers_heard}

-- one further, it is there if it passes the test
module _ {R X : Type 0} (f : R → X) (test : X → Bool) {Y : Type 0} (made : X → Y) (old ys : List Y) (refs : List R) (i : ℕ) (r : R) (within : i < length refs)
    (so_far : ys ≡ old ++ map made (filter test (map f (take i refs)))) (here : r ≡ get_or refs i r) where
  abbrev kept : List X
  kept = filter test (map f (take i refs))

  one_kept : (b : Bool) → test (f r) ≡ b → filter test (map f (take (i + 1) refs)) ≡ kept ++ cond b (f r ∷ []) []
  one_kept b h =
      ap (λ (rs : List R). filter test (map f rs)) (take_more refs i r within ∙ ap (λ q. take i refs ++ q ∷ []) (sym here)) ∙ ap (filter test) (map-append f (take i refs) (r ∷ []))
      ∙ filter-append test (map f (take i refs)) (f r ∷ []) ∙ ap (λ c. kept ++ cond c (f r ∷ []) []) h

  pub kept_more : test (f r) ≡ true → ys ++ made (f r) ∷ [] ≡ old ++ map made (filter test (map f (take (i + 1) refs)))
  kept_more h =
      ap (λ zs. zs ++ made (f r) ∷ []) so_far ∙ append_assoc old (map made kept) (made (f r) ∷ []) ∙ ap (λ zs. old ++ zs) (sym (map-append made kept (f r ∷ [])) ∙ ap (map made) (sym (one_kept true h)))

  pub kept_same : test (f r) ≡ false → ys ≡ old ++ map made (filter test (map f (take (i + 1) refs)))
  kept_same h = so_far ∙ ap (λ zs. old ++ map made zs) (sym (one_kept false h ∙ append-nil kept))

-- one further
pub made_more : {R X : Type 0} (f : R → X) {Y : Type 0} (made : X → Y) (old ys : List Y) (refs : List R) (i : ℕ) (r : R) → i < length refs → ys ≡ old ++ map made (map f (take i refs)) → r ≡ get_or refs i r
    → ys ++ made (f r) ∷ [] ≡ old ++ map made (map f (take (i + 1) refs))
made_more f made old ys refs i r within so_far here =
    ap (λ zs. zs ++ made (f r) ∷ []) so_far ∙ append_assoc old (map made (map f (take i refs))) (made (f r) ∷ [])
    ∙ ap (λ zs. old ++ zs) (sym (ap (λ rs. map made (map f rs)) (take_more refs i r within ∙ ap (λ q. take i refs ++ q ∷ []) (sym here)) ∙ ap (map made) (map-append f (take i refs) (r ∷ [])) ∙ map-append made (map f (take i refs)) (f r ∷ [])))

-- one more thing is shown
pub added_one : {P Y : Type 0} (show : P → Y) (old new : List P) (p : P) (y : Y) → new ≡ old ++ p ∷ [] → show p ≡ y → map show new ≡ map show old ++ y ∷ []
added_one show old new p y e h = ap (map show) e ∙ map-append show old (p ∷ []) ∙ ap (λ z. map show old ++ z ∷ []) h

pub fold_shown : {P X A : Type 0} (show : P → X) (step : A → X → A) (start : A) (before : List P) (p : P) → fold step start (map show (before ++ p ∷ [])) ≡ step (fold step start (map show before)) (show p)
fold_shown show step start before p = ap (fold step start) (map-append show before (p ∷ [])) ∙ fold_push step start (map show before) (show p)

-- those that may be sent the message alone are asked
pub all_made : (sessions : List Session) (out : Out) (deaf : Option ℕ) (subs plainly grouped members : List Subscription) (made plain start : List Delivery)
    → made ≡ plain ++ deliveries_of sessions out members → members ≡ next_of_groups grouped → plain ≡ start ++ deliveries_of sessions out (filter is_plain plainly) → start ≡ []
    → plainly ≡ filter (hears out.to deaf) subs → grouped ≡ filter (hears out.to deaf) subs → made ≡ deliveries_of sessions out (takers_of out.to deaf subs)
all_made sessions out deaf subs plainly grouped members made plain start e m f g h k =
    let all = filter (hears out.to deaf) subs in
    let ds : List Subscription → List Delivery = deliveries_of sessions out in
    e ∙ ap (λ ps. ps ++ ds members) (f ∙ ap (λ xs. xs ++ ds (filter is_plain plainly)) g ∙ ap (λ ss. ds (filter is_plain ss)) h)
    ∙ ap (λ ss. ds (filter is_plain all) ++ ds ss) (m ∙ ap next_of_groups k)
    ∙ sym (map-append (delivery_of sessions out) (filter is_plain all) (next_of_groups all)) ∙ ap ds (takers_heard out.to deaf subs)
