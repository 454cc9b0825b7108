-- What a router's lists have after each call is what the definition says.
use Rattle.std.proofs.Common.{◌≡◌, inl, ℕ, ◌+◌, ◌==◌, ◌&&◌, ◌^◌, Bool, true, false, cond, not, List, [], ◌∷◌, ◌++◌, Option, Some, None, Ok, length, get_or, map, filter, refl, sym, ap, subst, ◌∙◌, eq-eqb}
use Rattle.std.specs.List.{AllByRecursion, list_any, fold, position}
use Rattle.std.proofs.lemmas.Bool.{ne_eqb}
use Rattle.std.proofs.lemmas.List.{length-map}
use Rattle.js_base.specs.Bytes.{Bytes}
use Rattle.js_base.specs.declared.out.Out.{Out}
use Rattle.js_model.specs.declared.desk.Collected.{Collected}
use Rattle.js_model.specs.Router as router
use Rattle.js_model.specs.Router.{Router, Session, Subscription, Waiting, Queue, Marked, RouteCall, RouteTold, Routed, IsRoute, IsChoice, AreMembers, route, telling, is_session, new_session, is_in_use, is_full, new_subscription, subscribing, is_interest, is_match, is_in_group, publishing, takers, candidates, groups, handed, collect_told, frames_told, session_of, emptied, collected_from, without_collected}
use Rattle.js_model.specs.Routing.{collected_told}
use Rattle.route_core.specs.Queues.{gathered}
use Rattle.route_core.specs.Sessions.{AreNumbered, with_first, set_options, is_publisher_open, deaf_of}
use Rattle.route_core.specs.Subscriptions.{hears, without_sub}
use Rattle.route_core.specs.Groups.{takers_of, group_takers}
use Rattle.route_core.specs.Spreading.{IsNext, Spreads}
use Rattle.route_core.specs.Deliveries.{delivery_of, deliveries_of, handed_over, counted_once}
use Rattle.route_core.proofs.Numbers.{only_one, tell_headers}
use Rattle.route_core.proofs.Places.{IsFirst, found_at, any_at, none_passes, not_any}
use Rattle.route_core.proofs.Takers.{candidates_are, plain_are}
use Rattle.route_core.proofs.Members.{next_are_members, all_next}
use Rattle.route_core.proofs.Handing.{router_of, handed_all}

-- what spreads a message is what the definition allows
pub spread_routed : (old new : Router) (out : Out) (from : Option ℕ) (count : ℕ) → Spreads old out from count new → IsRoute old (router.Publish out from) (router.Taken count) new
spread_routed old new out from count h = inl (record { chosen = h.chosen; choice = h.choice; routed = h.routed })

-- the lists, and the router r of which they are the parts
module _ (sessions : List Session) (subs : List Subscription) (latest : ℕ) (r : Router) (is : router_of sessions subs latest ≡ r) where
  abbrev here : Router
  here = router_of sessions subs latest

  said : (call : RouteCall) (told : RouteTold) (new : Router) (chosen : List Subscription) → IsChoice here call chosen → route here call chosen ≡ telling told new → IsRoute r call told new
  said call told new chosen choice h = subst (λ x. IsRoute x call told new) is (inl (record { chosen = chosen; choice = choice; routed = h }))

  pub worn_routed : latest + 1 ≡ 2 ^ 62 → IsRoute r router.Open router.Worn r
  unfolding route
  worn_routed h =
      said router.Open router.Worn r [] refl
      (ap (λ b. cond b (telling router.Worn here) (telling (router.Opened (latest + 1)) (router.opened here))) (eq-eqb (latest + 1) (2 ^ 62) h) ∙ ap (telling router.Worn) is)

  pub open_routed : (more : List Session) → more ≡ sessions ++ new_session (latest + 1) ∷ [] → (latest + 1 ≡ 2 ^ 62 → ⊥)
      → IsRoute r router.Open (router.Opened (latest + 1)) (router_of more subs (latest + 1))
  unfolding route
  open_routed more e k =
      said router.Open (router.Opened (latest + 1)) (router_of more subs (latest + 1)) [] refl
      (ap (λ b. cond b (telling router.Worn here) (telling (router.Opened (latest + 1)) (router.opened here))) (ne_eqb (latest + 1) (2 ^ 62) k)
      ∙ ap (λ xs. telling (router.Opened (latest + 1)) (router_of xs subs (latest + 1))) (sym e))

  pub close_routed : (n : ℕ) (sessions' : List Session) (subs' : List Subscription) → sessions' ≡ filter (λ s. not (is_session n s)) sessions → subs' ≡ filter (λ sub. not (sub.session == n)) subs
      → IsRoute r (router.Close n) router.Done (router_of sessions' subs' latest)
  unfolding route
  close_routed n sessions' subs' e f =
      said (router.Close n) router.Done (router_of sessions' subs' latest) [] refl
      (ap (λ xs. telling router.Done (router_of xs (filter (λ sub. not (sub.session == n)) subs) latest)) (sym e) ∙ ap (λ ys. telling router.Done (router_of sessions' ys latest)) (sym f))

  pub options_routed : (n : ℕ) (echo headers : Bool) → AreNumbered latest sessions → (sessions' : List Session) → sessions' ≡ with_first (is_session n) (set_options echo headers) sessions
      → IsRoute r (router.Options n echo headers) router.Done (router_of sessions' subs latest)
  unfolding route
  options_routed n echo headers numbered sessions' e =
      said (router.Options n echo headers) router.Done (router_of sessions' subs latest) [] refl
      (ap (λ xs. telling router.Done (router_of xs subs latest)) (sym (e ∙ only_one n (set_options echo headers) 1 (latest + 1) sessions numbered.ascend)))

  -- ---- calls of a session that has to be open

  if_open : (n : ℕ) (after : Routed) → list_any (is_session n) sessions ≡ true → router.if_open here n after ≡ after
  if_open n after h = ap (λ b. cond b after (telling (router.NoSession latest) here)) h

  if_shut : (n : ℕ) (after : Routed) → list_any (is_session n) sessions ≡ false → router.if_open here n after ≡ telling (router.NoSession latest) r
  if_shut n after h = ap (λ b. cond b after (telling (router.NoSession latest) here)) h ∙ ap (telling (router.NoSession latest)) is

  pub sub_refused : (n : ℕ) (pattern : Bytes) (queue : Option Bytes) (sid : Bytes) → list_any (is_session n) sessions ≡ false → IsRoute r (router.Sub n pattern queue sid) (router.NoSession latest) r
  unfolding route
  sub_refused n pattern queue sid h = said (router.Sub n pattern queue sid) (router.NoSession latest) r [] refl (if_shut n (subscribing here n pattern queue sid) h)

  module _ (n : ℕ) (pattern : Bytes) (queue : Option Bytes) (sid : Bytes) (open' : list_any (is_session n) sessions ≡ true) where
    abbrev new : Subscription
    new = new_subscription n pattern queue sid

    abbrev subscribed : Bool → Bool → Routed
    subscribed used full = cond used (telling router.Done here) (cond full (telling router.TooManySubs here) (telling router.Done (router_of sessions (subs ++ new ∷ []) latest)))

    sub_is : (used full : Bool) → is_in_use here n sid ≡ used → is_full here n ≡ full → router.if_open here n (subscribing here n pattern queue sid) ≡ subscribed used full
    sub_is used full e f = if_open n (subscribing here n pattern queue sid) open' ∙ ap (λ b. subscribed b (is_full here n)) e ∙ ap (subscribed used) f

    pub sub_in_use : is_in_use here n sid ≡ true → IsRoute r (router.Sub n pattern queue sid) router.Done r
    unfolding route
    sub_in_use h = said (router.Sub n pattern queue sid) router.Done r [] refl (sub_is true (is_full here n) h refl ∙ ap (telling router.Done) is)

    pub sub_full : is_in_use here n sid ≡ false → is_full here n ≡ true → IsRoute r (router.Sub n pattern queue sid) router.TooManySubs r
    unfolding route
    sub_full h k = said (router.Sub n pattern queue sid) router.TooManySubs r [] refl (sub_is false true h k ∙ ap (telling router.TooManySubs) is)

    pub sub_added : is_in_use here n sid ≡ false → is_full here n ≡ false → (subs' : List Subscription) → subs' ≡ subs ++ new ∷ [] → IsRoute r (router.Sub n pattern queue sid) router.Done (router_of sessions subs' latest)
    unfolding route
    sub_added h k subs' e =
        said (router.Sub n pattern queue sid) router.Done (router_of sessions subs' latest) [] refl (sub_is false false h k ∙ ap (λ ys. telling router.Done (router_of sessions ys latest)) (sym e))

  pub unsub_refused : (n : ℕ) (sid : Bytes) (max : Option ℕ) → list_any (is_session n) sessions ≡ false → IsRoute r (router.Unsub n sid max) (router.NoSession latest) r
  unfolding route
  unsub_refused n sid max h = said (router.Unsub n sid max) (router.NoSession latest) r [] refl (if_shut n (telling router.Done (router.unsubscribed here n sid max)) h)

  unsubscribed_is : (n : ℕ) (sid : Bytes) (max : Option ℕ) → router.unsubscribed here n sid max ≡ router_of sessions (without_sub n sid max subs) latest
  unsubscribed_is n sid None = refl
  unsubscribed_is n sid (Some max) = refl

  pub unsub_routed : (n : ℕ) (sid : Bytes) (max : Option ℕ) → list_any (is_session n) sessions ≡ true → (subs' : List Subscription) → subs' ≡ without_sub n sid max subs
      → IsRoute r (router.Unsub n sid max) router.Done (router_of sessions subs' latest)
  unfolding route
  unsub_routed n sid max h subs' e =
      said (router.Unsub n sid max) router.Done (router_of sessions subs' latest) [] refl
      (if_open n (telling router.Done (router.unsubscribed here n sid max)) h ∙ ap (telling router.Done) (unsubscribed_is n sid max ∙ ap (λ ys. router_of sessions ys latest) (sym e)))

  pub interest_routed : (subject : Bytes) (queue : Option Bytes) (listens : Bool) → listens ≡ list_any (λ sub. is_match subject sub && is_in_group queue sub) subs
      → IsRoute r (router.Interest subject queue) (router.Listens listens) r
  unfolding route
  interest_routed subject queue listens e =
      said (router.Interest subject queue) (router.Listens listens) r [] refl (ap (λ b. telling (router.Listens b) here) (sym e) ∙ ap (telling (router.Listens listens)) is)

  -- ---- publishing

  if_publisher : (from : Option ℕ) (after : Routed) → is_publisher_open sessions from ≡ true → router.if_publisher_open here from after ≡ after
  if_publisher None after h = refl
  if_publisher (Some n) after h = if_open n after h

  abbrev nexts : Out → Option ℕ → List Subscription
  nexts out from = group_takers out.to (deaf_of sessions from) subs

  nexts_are_chosen : (out : Out) (from : Option ℕ) → IsChoice here (router.Publish out from) (nexts out from)
  nexts_are_chosen out from = subst (λ cs. AreMembers (groups cs) cs (nexts out from)) (sym (candidates_are here out.to from)) (next_are_members (filter (hears out.to (deaf_of sessions from)) subs))

  nexts_are_next : (out : Out) (from : Option ℕ) → AllByRecursion (IsNext (candidates here out.to from)) (nexts out from)
  nexts_are_next out from = subst (λ cs. AllByRecursion (IsNext cs) (nexts out from)) (sym (candidates_are here out.to from)) (all_next (filter (hears out.to (deaf_of sessions from)) subs))

  takers_are : (out : Out) (from : Option ℕ) → takers here out.to from (nexts out from) ≡ takers_of out.to (deaf_of sessions from) subs
  takers_are out from =
      ap (λ cs. filter router.is_plain cs ++ nexts out from) (candidates_are here out.to from) ∙ ap (λ ps. ps ++ nexts out from) (plain_are out.to (deaf_of sessions from) subs)

  pub publish_refused : (out : Out) (from : Option ℕ) → is_publisher_open sessions from ≡ false → IsRoute r (router.Publish out from) (router.NoSession latest) r
  unfolding route
  publish_refused out None h = absurd (cc (h))
  publish_refused out (Some n) h =
      said (router.Publish out (Some n)) (router.NoSession latest) r (nexts out (Some n)) (nexts_are_chosen out (Some n)) (if_shut n (publishing here out (Some n) (nexts out (Some n))) h)

  pub publish_spread : (out : Out) (from : Option ℕ) → AreNumbered latest sessions → is_publisher_open sessions from ≡ true
      → (sessions' : List Session) (subs' : List Subscription) (count : ℕ)
      → sessions' ≡ fold handed_over sessions (deliveries_of sessions out (takers_of out.to (deaf_of sessions from) subs))
      → subs' ≡ fold counted_once subs (deliveries_of sessions out (takers_of out.to (deaf_of sessions from) subs))
      → count ≡ length (deliveries_of sessions out (takers_of out.to (deaf_of sessions from) subs))
      → Spreads r out from count (router_of sessions' subs' latest)
  unfolding route
  publish_spread out from numbered h sessions' subs' count e f g =
      let all = takers_of out.to (deaf_of sessions from) subs in
      let told : length all ≡ count = sym (g ∙ length-map all (delivery_of sessions out)) in
      let left : fold (handed out) here all ≡ router_of sessions' subs' latest =
      handed_all sessions out 1 (latest + 1) latest all sessions subs numbered.ascend (tell_headers 1 (latest + 1) sessions numbered.ascend)
      ∙ ap (λ xs. router_of xs (fold counted_once subs (deliveries_of sessions out all)) latest) (sym e) ∙ ap (λ ys. router_of sessions' ys latest) (sym f) in
      subst (λ x. Spreads x out from count (router_of sessions' subs' latest)) is (record {
        chosen = nexts out from;
        choice = nexts_are_chosen out from;
        next = nexts_are_next out from;
        routed = if_publisher from (publishing here out from (nexts out from)) h
            ∙ ap (λ ts. telling (router.Taken (length ts)) (fold (handed out) here ts)) (takers_are out from)
            ∙ ap (λ k. telling (router.Taken k) (fold (handed out) here all)) told ∙ ap (telling (router.Taken count)) left;
      })

  -- ---- collecting

  pub collect_refused : (n max : ℕ) (lent : List Session) (place : Option ℕ) → lent ≡ sessions → place ≡ position (is_session n) lent → place ≡ None
      → IsRoute r (router.Collect n max) (router.NoSession latest) r
  unfolding route
  collect_refused n max lent place same asked none =
      said (router.Collect n max) (router.NoSession latest) r [] refl
      (if_shut n (telling (collect_told max here (session_of here n)) (emptied here n max))
      (not_any (is_session n) sessions (none_passes (is_session n) sessions (ap (position (is_session n)) (sym same) ∙ sym asked ∙ none))))

  told_alike : (max : ℕ) (waiting : Waiting) → frames_told max waiting ≡ collected_told (Ok (gathered max waiting))
  told_alike max (Queue frames) = refl
  told_alike max (Marked length) = refl

  pub collect_routed : (n max : ℕ) → AreNumbered latest sessions → (i : ℕ) (s : Session) → IsFirst (is_session n) sessions i s → s ≡ get_or sessions i s
      → (sessions' : List Session) → sessions' ≡ with_first (is_session n) (λ s. record s { waiting = without_collected max s.waiting }) sessions
      → (got : Collected) → got ≡ gathered max s.waiting
      → IsRoute r (router.Collect n max) (collected_told (Ok got)) (router_of sessions' subs latest)
  unfolding route
  collect_routed n max numbered i s first at sessions' e got told =
      let found : session_of here n ≡ Some s = found_at (is_session n) sessions i s first ∙ ap (λ x. Some x) (sym at) in
      let left : map (collected_from n max) sessions ≡ sessions' = sym (e ∙ only_one n (λ s. record s { waiting = without_collected max s.waiting }) 1 (latest + 1) sessions numbered.ascend) in
      said (router.Collect n max) (collected_told (Ok got)) (router_of sessions' subs latest) [] refl
      (if_open n (telling (collect_told max here (session_of here n)) (emptied here n max)) (any_at (is_session n) sessions i s first)
      ∙ ap (λ f. telling (collect_told max here f) (emptied here n max)) found
      ∙ ap (λ t. telling t (emptied here n max)) (told_alike max s.waiting ∙ ap (λ g. collected_told (Ok g)) (sym told))
      ∙ ap (λ xs. telling (collected_told (Ok got)) (router_of xs subs latest)) left)
