-- A collect that gave nothing and left nothing gives nothing again.
use Rattle.std.proofs.Common.{◌≡◌, inl, inr, ℕ, ◌+◌, Bool, true, false, cond, List, [], ◌∷◌, Option, Some, None, Ok, refl, sym, ap, subst, ◌∙◌}
use Rattle.std.specs.List.{find}
use Rattle.js_model.specs.declared.desk.Collected.{Collected}
use Rattle.js_model.specs.declared.desk.Collected.TheVariants as answers
use Rattle.js_model.specs.Router.{Router, Session, Waiting, Queue, Marked, Routed, Collect, Frames, NoSession, IsRoute, route, telling, is_session, is_open, session_of, emptied, without_collected, collect_told, frames_told}
use Rattle.js_model.specs.Routing.{collected_told}
use Rattle.js_model.proofs.Named.{some_is}
use Rattle.route_core.specs.Sessions.{AreNumbered, with_first}
use Rattle.route_core.proofs.Numbers.{only_one}
use Rattle.route_core.specs.Idle.{IsIdle}

-- a change that leaves the first as it is leaves the list as it is
first_stays : {X : Type 0} (p : X → Bool) (g : X → X) (x : X) → g x ≡ x → (xs : List X) → find p xs ≡ Some x → with_first p g xs ≡ xs
first_stays p g x same [] h = refl
first_stays {X} p g x same (y ∷ ys) h = go (p y) h (first_stays p g x same ys)
  where
    go : (b : Bool) → cond b (Some y) (find p ys) ≡ Some x → (find p ys ≡ Some x → with_first p g ys ≡ ys) → cond b (g y ∷ ys) (y ∷ with_first p g ys) ≡ y ∷ ys
    go true e more = let first : y ≡ x = some_is e in ap (λ z. z ∷ ys) (ap g first ∙ same ∙ sym first)
    go false e more = ap (λ (zs : List X). y ∷ zs) (more e)

nothing_waits : (max : ℕ) (waiting : Waiting) → frames_told max waiting ≡ Frames [] false → waiting ≡ Queue []
nothing_waits max (Queue []) h = refl
nothing_waits max (Queue (f ∷ fs)) h = absurd (cc (h))
nothing_waits max (Marked length) h = absurd (cc (h))

-- a router whose sessions' numbers ascend, and an open session of it, for which nothing waits
module _ (r : Router) (n : ℕ) (numbered : AreNumbered r.latest r.sessions) (s : Session) (found : session_of r n ≡ Some s) (empty : s.waiting ≡ Queue []) where
  nothing_changes : (max : ℕ) → emptied r n max ≡ r
  nothing_changes max =
      let change : Session → Session = λ t. record t { waiting = without_collected max t.waiting } in
      let same : change s ≡ s = ap (λ w. record s { waiting = without_collected max w }) empty ∙ ap (λ w. record s { waiting = w }) (sym empty) in
      ap (λ ss. record r { sessions = ss }) (sym (only_one n change 1 (r.latest + 1) r.sessions numbered.ascend) ∙ first_stays (is_session n) change s same r.sessions found)

  is_idle : is_open r n ≡ true → IsIdle r n
  unfolding route
  is_idle open' max =
      inl (record {
        chosen = [];
        choice = refl;
        routed =
            ap (λ b. cond b (telling (collect_told max r (session_of r n)) (emptied r n max)) (telling (NoSession r.latest) r)) open'
            ∙ ap (λ f. telling (collect_told max r f) (emptied r n max)) found
            ∙ ap (λ w. telling (frames_told max w) (emptied r n max)) empty
            ∙ ap (telling (Frames [] false)) (nothing_changes max);
      })

idle_where : (r new : Router) (n max : ℕ) → AreNumbered r.latest r.sessions → (open' : Bool) (found : Option Session) → is_open r n ≡ open' → session_of r n ≡ found
    → cond open' (telling (collect_told max r found) (emptied r n max)) (telling (NoSession r.latest) r) ≡ telling (Frames [] false) new → IsIdle new n
idle_where r new n max numbered false found o f e = absurd (let told = ap (λ (x : Routed). x.told) e in cc)
idle_where r new n max numbered true None o f e = absurd (let told = ap (λ (x : Routed). x.told) e in cc)
idle_where r new n max numbered true (Some s) o f e =
    let empty = nothing_waits max s.waiting (ap (λ (x : Routed). x.told) e) in
    let same : r ≡ new = sym (nothing_changes r n numbered s f empty max) ∙ ap (λ (x : Routed). x.router) e in
    subst (λ x. IsIdle x n) same (is_idle r n numbered s f empty o)

idle_after : (r new : Router) (n max : ℕ) → AreNumbered r.latest r.sessions → IsRoute r (Collect n max) (Frames [] false) new → IsIdle new n
unfolding route
idle_after r new n max numbered (inl e) = idle_where r new n max numbered (is_open r n) (session_of r n) refl refl e.routed
idle_after r new n max numbered (inr e) = absurd (let told = e.told_is in cc)

pub collect_leaves_idle : (r new : Router) (n max : ℕ) (got : Collected) → AreNumbered r.latest r.sessions → IsRoute r (Collect n max) (collected_told (Ok got)) new → got ≡ answers.Frames [] false → IsIdle new n
collect_leaves_idle r new n max got numbered routed nothing =
    idle_after r new n max numbered (subst (λ g. IsRoute r (Collect n max) (collected_told (Ok g)) new) nothing routed)
