-- What all workers made of their passes.
use Rattle.std.proofs.Common.{◌≡◌, ◌||◌, ℕ, Bool, true, false, List, [], ◌∷◌, ◌++◌, Option, None, Some, length, reverse, refl, sym, subst, ap, ◌∙◌}
use Rattle.std.specs.List.{AllByRecursion, AllZip, list_any}
use Rattle.std.proofs.lemmas.Option.{same_Some}
use Rattle.session.specs.declared.ending.Limits.{Limits}
use Rattle.hub_fronts.specs.Fronts.{SharedScene}
use Rattle.link_edge.specs.Reports.{Report}
use Rattle.shared_desk.specs.Hubs.{HubView}
use Rattle.shared_desk.specs.Passes.{IsPassOf}
use Rattle.workers.proofs.Deeds.{worked_more, worked_nothing, works_nothing}
use Rattle.workers.proofs.Out.{still_served}
use Rattle.workers.proofs.Rows.{all_reversed, length_reversed, zip_length, zip_through, zip_turned}
use Rattle.workers.specs.Deeds.{Deed, Works, are_worn}
use Rattle.workers.specs.Doors.{Accepts, DoorTold}
use Rattle.workers.specs.Links.{AreLinks}
use Rattle.workers.specs.Serving.{DoorwayView, HaveWorked, IsDoorway, IsService}
use Rattle.workers.specs.Working.{HasPass, IsHired, IsIdle, Worked}
use Rattle.workers.specs.declared.doorway.Stop.{Stop}

-- ---- the workers

-- it has this pass
abbrev pub Gives : {X : Type 0} → (X → Option SharedScene) → X → SharedScene → Type 0
Gives pass w scene = pass w ≡ Some scene

module _ {X : Type 0} (pass : X → Option SharedScene) (worn : X → Bool) (limits : Limits) where
  abbrev pub HasDone : SharedScene → X → Type 0
  HasDone scene w = Worked limits (Some scene) (pass w) false (worn w)

  -- the deeds of each worker led its pass, and whether one of them ended for want of numbers was noted
  pub record Team (olds : List SharedScene) (ws : List X) (news : List SharedScene) : Type 0 where
    pub deeds : List (List Deed)
    pub worked : HaveWorked limits olds deeds news
    pub noted : list_any worn ws ≡ list_any are_worn deeds

  one_worked : (old new : SharedScene) (w : X) (h : HasDone old w) → Gives pass w new → Works limits old h.deeds new
  one_worked old new w h g =
      subst (λ s. Works limits s h.deeds new) (same_Some h.before old (sym h.old_is))
      (subst (λ s. Works limits h.before h.deeds s) (same_Some h.after new (sym h.new_is ∙ g)) h.works)

  pub team : (olds : List SharedScene) (ws : List X) (news : List SharedScene) → AllZip HasDone olds ws → AllZip (Gives pass) ws news → Team olds ws news
  team [] [] [] h g = record { deeds = []; worked = tt; noted = refl }
  team [] [] (new ∷ news) h g = absurd g
  team [] (w ∷ ws) news h g = absurd h
  team (old ∷ olds) [] news h g = absurd h
  team (old ∷ olds) (w ∷ ws) [] h g = absurd g
  team (old ∷ olds) (w ∷ ws) (new ∷ news) h g =
      let more = team olds ws news h.1 g.1 in
      record {
        deeds = h.0.deeds ∷ more.deeds;
        worked = (one_worked old new w h.0 g.0, more.worked);
        noted = ap (λ b. worn w || b) more.noted ∙ ap (λ b. b || list_any are_worn more.deeds) h.0.worn;
      }

  pub whole_team : (olds : List SharedScene) (ws : List X) (news : List SharedScene) → AllZip HasDone (reverse olds) ws → AllZip (Gives pass) (reverse ws) news → Team olds (reverse ws) news
  whole_team olds ws news h g = team olds (reverse ws) news (zip_turned HasDone olds ws h) g

  -- a round more of all
  pub done_more : (scenes : List SharedScene) (ws vs : List X) → AllZip HasDone scenes ws → AllZip (λ was is. Worked limits (pass was) (pass is) (worn was) (worn is)) ws vs → AllZip HasDone scenes vs
  done_more scenes ws vs h k =
      zip_through HasDone (λ was is. Worked limits (pass was) (pass is) (worn was) (worn is)) HasDone
      (λ scene w v f g. worked_more limits (Some scene) (pass w) (pass v) false (worn w) (worn v) f g) scenes ws vs h k

  pub done_length : (olds : List SharedScene) (ws : List X) → AllZip HasDone (reverse olds) ws → length ws ≡ length olds
  done_length olds ws h = sym (zip_length HasDone (reverse olds) ws h) ∙ length_reversed olds

module _ {X : Type 0} (pass : X → Option SharedScene) (parts amount : X → ℕ) (hub : HubView) where
  -- each pass is one of the hub
  all_own : (ws : List X) (news : List SharedScene) → AllByRecursion (λ w. IsIdle hub (pass w) (parts w) (amount w)) ws → AllZip (Gives pass) ws news → AllByRecursion (IsPassOf hub) news
  all_own [] [] h g = tt
  all_own [] (new ∷ news) h g = absurd g
  all_own (w ∷ ws) [] h g = absurd g
  all_own (w ∷ ws) (new ∷ news) h g =
      (subst (IsPassOf hub) (same_Some h.0.scene new (sym h.0.there ∙ g.0)) h.0.own, all_own ws news h.1 g.1)

  pub passes_own : (ws : List X) (news : List SharedScene) → AllByRecursion (λ w. IsIdle hub (pass w) (parts w) (amount w)) ws → AllZip (Gives pass) (reverse ws) news
      → AllByRecursion (IsPassOf hub) news
  passes_own ws news h g = all_own (reverse ws) news (all_reversed (λ w. IsIdle hub (pass w) (parts w) (amount w)) ws h) g

-- ---- hired workers

module _ {X : Type 0} (pass : X → Option SharedScene) (worn : X → Bool) (parts amount : X → ℕ) where
  abbrev AreHired : List SharedScene → List X → Type 0
  AreHired scenes ws = AllZip (λ scene w. IsHired scene (pass w) (parts w) (amount w) (worn w)) scenes ws

  pub hired_idle : (hub : HubView) (scenes : List SharedScene) (ws : List X) → AreHired scenes ws → AllByRecursion (IsPassOf hub) scenes → AllByRecursion (λ w. IsIdle hub (pass w) (parts w) (amount w)) ws
  hired_idle hub [] [] h own = tt
  hired_idle hub [] (w ∷ ws) h own = absurd h
  hired_idle hub (scene ∷ scenes) [] h own = absurd h
  hired_idle hub (scene ∷ scenes) (w ∷ ws) h own =
      (record { scene = scene; there = h.0.there; own = own.0; part = h.0.part; none = h.0.none }, hired_idle hub scenes ws h.1 own.1)

  pub hired_done : (limits : Limits) (scenes : List SharedScene) (ws : List X) → AreHired scenes ws → AllZip (HasDone pass worn limits) scenes ws
  hired_done limits [] [] h = tt
  hired_done limits [] (w ∷ ws) h = absurd h
  hired_done limits (scene ∷ scenes) [] h = absurd h
  hired_done limits (scene ∷ scenes) (w ∷ ws) h =
      (record { before = scene; after = scene; old_is = refl; new_is = h.0.there; deeds = []; works = works_nothing limits scene; worn = h.0.unworn }, hired_done limits scenes ws h.1)

-- ---- rounds

module _ {X : Type 0} (pass : X → Option SharedScene) (worn : X → Bool) (limits : Limits) where
  abbrev pub HasGone : X → X → Type 0
  HasGone was is = Worked limits (pass was) (pass is) (worn was) (worn is)

  pub gone_nothing : (hub : HubView) (parts amount : X → ℕ) (ws : List X) → AllByRecursion (λ w. IsIdle hub (pass w) (parts w) (amount w)) ws → AllZip HasGone ws ws
  gone_nothing hub parts amount [] h = tt
  gone_nothing hub parts amount (w ∷ ws) h = (worked_nothing limits h.0.scene (pass w) (worn w) h.0.there, gone_nothing hub parts amount ws h.1)

  pub gone_more : (ws vs us : List X) → AllZip HasGone ws vs → AllZip HasGone vs us → AllZip HasGone ws us
  gone_more ws vs us h k =
      zip_through HasGone HasGone HasGone (λ w v u f g. worked_more limits (pass w) (pass v) (pass u) (worn w) (worn v) (worn u) f g) ws vs us h k

  pub gone_length : (ws vs : List X) → AllZip HasGone ws vs → length ws ≡ length vs
  gone_length ws vs h = zip_length HasGone ws vs h

module _ {X : Type 0} (pass : X → Option SharedScene) (parts amount : X → ℕ) (hub : HubView) where
  pub idle_has : (ws : List X) → AllByRecursion (λ w. IsIdle hub (pass w) (parts w) (amount w)) ws → AllByRecursion (λ w. HasPass (pass w) (parts w) (amount w)) ws
  idle_has [] h = tt
  idle_has (w ∷ ws) h = (record { scene = h.0.scene; there = h.0.there; part = h.0.part; none = h.0.none }, idle_has ws h.1)

-- ---- the links

-- none is out, and more wants of memory were noted
pub links_back : (limits : Limits) (noted few many : Bool) (begun now : DoorTold) (out : ℕ) → AreLinks limits noted few begun out now → out ≡ 0 → (few ≡ true → many ≡ true) → AreLinks limits noted many begun 0 now
links_back limits noted few many begun now out h none more gave back g b fits =
    let s = subst (λ n. AreLinks limits noted few begun n now) none h gave back g b fits in
    record {
      reports = s.reports;
      back_is = s.back_is;
      gave_is = s.gave_is;
      served = still_served limits noted few noted many (λ e. e) more s.reports s.served;
      worn_by = s.worn_by;
    }

-- all are back
pub service : (limits : Limits) (accepts : Option ℕ) (hub : HubView) (olds news : List SharedScene) (begun : DoorTold) (last : DoorwayView) (now : DoorTold) (stop : Stop) (worn starved : Bool)
    (deeds : List (List Deed)) → HaveWorked limits olds deeds news → AllByRecursion (IsPassOf hub) news → IsDoorway begun limits accepts last → last.door ≡ now → last.stop ≡ Some stop → last.out ≡ 0
    → worn ≡ (last.worn || list_any are_worn deeds) → (last.starved ≡ true → starved ≡ true) → IsService limits accepts hub olds news begun now stop worn starved
service limits accepts hub olds news begun last now stop worn starved deeds worked own is door stopped out noted wanted = record {
  deeds = deeds;
  worked = worked;
  own = own;
  left = last.left;
  asked = subst (λ s. Accepts accepts last.left s begun now) stopped (subst (λ d. Accepts accepts last.left last.stop begun d) door is.asked);
  noted = last.worn;
  links = subst (λ d. AreLinks limits last.worn starved begun 0 d) door (links_back limits last.worn last.starved starved begun last.door last.out is.links out wanted);
  worn_is = noted;
}
