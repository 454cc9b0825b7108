-- Calls of the router by a caller of many, as the entries that they make.
use Rattle.std.proofs.Common.{◌≡◌, ◌-◌, ℕ, true, List, [], ◌∷◌, Option, Some, None, Result, Ok, Err, IfOk, IfErr, IsErrAnd, refl, sym, ap, subst, ◌∙◌, inl, inr}
use Rattle.std.specs.Prelude.{length}
use Rattle.js_base.specs.Bytes.{Bytes}
use Rattle.js_base.specs.declared.out.Out.{Out}
use Rattle.js_model.specs.declared.route_fault.RouteFault.{RouteFault}
use Rattle.js_model.specs.declared.route_fault.RouteFault.TheVariants as refused
use Rattle.js_model.specs.Router as routes
use Rattle.js_model.specs.Routing.{fault_told, collected_told, done_told, open_told, publish_told}
use Rattle.js_model.specs.declared.desk.Collected.{Collected}
use Rattle.js_model.specs.declared.desk.Collected.TheVariants.{Frames, Slow}
use Rattle.js_api.specs.declared.fault.DeskFault.{DeskFault}
use Rattle.js_api.specs.declared.fault.DeskFault.TheVariants as faults
use Rattle.js_api.specs.Answering.{DeskAnswer, Done, Opened, done, gave, gives, opened}
use Rattle.js_api.specs.Calls.{MaySay, Routes, Says}
use Rattle.js_api.specs.Entries.{DeskEntry, Routed, Spent}
use Rattle.js_api.specs.Leading.{Makes}
use Rattle.js_api.specs.Publishing.{Offers}
use Rattle.js_api.specs.Stages.{SendsOne}
use Rattle.desk_ground.specs.Callers.{client_of}
use Rattle.desk_ground.specs.declared.caller.Caller.{Caller}
use Rattle.desk_hold.proofs.Refused.{wants, never, publish_done, sending_done, unsub_done, collect_done}
use Rattle.turn_lock.specs.Calls.{worn}
use Rattle.turn_lock.specs.Ruled.{last_ticket}
use Rattle.turn_lock.specs.Seats.{SeatView}
use Rattle.hub_fronts.proofs.Seen.{made_one, sees_nothing}
use Rattle.hub_router.proofs.Sessions.{KeepsSessions, same_own, opened_own}
use Rattle.desk_places.specs.Faults.{desk_answer, desk_fault, sent}
use Rattle.desk_places.proofs.Refused.{open_refused, sub_refused}
use Rattle.shared_desk.specs.Grounds.{HubMade, IsRoutedBy, IsUnrouted, Standing, setting_of}

-- ---- a call that was made

module _ (call : routes.RouteCall) (told : routes.RouteTold) (old new : Standing) (h : IsRoutedBy call told old new) where
  pub made_routed : HubMade old (Routed call told ∷ []) new
  made_routed = (
    made_one old.scene new.scene (Routed call told)
        (record {
          mid = old.scene;
          sees = sees_nothing old.scene;
          step = ((h.called.turn, ap (λ (s : Standing). s.scene.fronts) h.same), ap (λ (s : Standing). s.scene.cursor) h.same);
        }),
    ap (λ (s : Standing). s.hub) h.same,
  )

  -- it opens and closes no session
  pub same_setting : KeepsSessions call → setting_of new ≡ setting_of old
  same_setting keeps = λ i. record {
    opened = λ n. same_own call told old.scene.fronts.router new.scene.fronts.router h.called.turn keeps n i;
    places = length (h.same i).hub.places;
  }

  pub routes_so : (result : Result DeskAnswer DeskFault) → MaySay call told → Says told result → Makes HubMade (Routes call result) old new
  routes_so result may says = record { entries = Routed call told ∷ []; are = inl (told, refl, may, says); led = made_routed }

-- ---- a call that was not made

module _ (fault : DeskFault) (old new : Standing) (h : IsUnrouted fault old new) where
  pub made_spent : HubMade old (Spent last_ticket ∷ []) new
  made_spent =
      let seat : new.scene.fronts.router ≡ worn old.scene.fronts.router = ap (λ (s : Standing). s.scene.fronts.router) h.same in
      let fronts : new.scene.fronts ≡ record old.scene.fronts { router = new.scene.fronts.router } =
      ap (λ (s : Standing). s.scene.fronts) h.same ∙ ap (λ (r : SeatView). record old.scene.fronts { router = r }) (sym seat)
      in (
        made_one old.scene new.scene (Spent last_ticket)
            (record {
              mid = old.scene;
              sees = sees_nothing old.scene;
              step = (record { number_is = refl; at = inl (seat, fronts) }, ap (λ (s : Standing). s.scene.cursor) h.same);
            }),
        ap (λ (s : Standing). s.hub) h.same,
      )

  -- whatever such a call is told
  pub worn_so : (P : DeskFault → List DeskEntry → Type 0) → P (faults.Worn last_ticket) (Spent last_ticket ∷ []) → Makes HubMade (P fault) old new
  worn_so P are = record { entries = Spent last_ticket ∷ []; are = subst (λ (f : DeskFault). P f (Spent last_ticket ∷ [])) (sym h.fault_is) are; led = made_spent }

  pub routes_worn : (call : routes.RouteCall) → Makes HubMade (Routes call (Err fault)) old new
  routes_worn call = worn_so (λ (f : DeskFault). Routes call (Err f)) (inr (last_ticket, refl, refl))

  pub worn_setting : setting_of new ≡ setting_of old
  worn_setting = ap setting_of h.same

-- ---- what each call tells

module _ (old new : Standing) where
  module _ (call : routes.RouteCall) (fault : RouteFault) (h : IsRoutedBy call (fault_told fault) old new) (only : fault ≡ refused.NoMemory) where
    -- memory ran out
    wanted : (P : DeskFault → List DeskEntry → Type 0) → P faults.NoMemory (Routed call routes.NoMemory ∷ []) → Makes HubMade (P (desk_fault fault)) old new
    wanted P are = record {
      entries = Routed call (fault_told fault) ∷ [];
      are = subst (λ (f : RouteFault). P (desk_fault f) (Routed call (fault_told f) ∷ [])) (sym only) are;
      led = made_routed call (fault_told fault) old new h;
    }

  pub opened_so : (answer : Result ℕ RouteFault) → IsRoutedBy routes.Open (open_told answer) old new → Makes HubMade (Routes routes.Open (opened (desk_answer answer))) old new
  opened_so (Ok session) h = routes_so routes.Open (routes.Opened session) old new h (Ok (Opened session)) tt refl
  opened_so (Err fault) h =
      let f = open_refused h.called.was h.called.is fault h.called.route in routes_so routes.Open (fault_told fault) old new h (Err (desk_fault fault)) f.may f.says

  pub opened_opens : (answer : Result ℕ RouteFault) → IsRoutedBy routes.Open (open_told answer) old new → IfOk (desk_answer answer) (λ session. (setting_of new).opened session ≡ true)
  opened_opens (Ok session) h = opened_own session old.scene.fronts.router new.scene.fronts.router h.called.turn
  opened_opens (Err fault) h = tt

  -- one that is always done
  pub done_so : (call : routes.RouteCall) → IsRoutedBy call routes.Done old new → Makes HubMade (Routes call (Ok Done)) old new
  done_so call h = routes_so call routes.Done old new h (Ok Done) tt refl

  pub subscribed_so : (n : ℕ) (pattern : Bytes) (queue : Option Bytes) (sid : Bytes) (answer : Result (Unit {0}) RouteFault) → IsRoutedBy (routes.Sub n pattern queue sid) (done_told answer) old new
      → Makes HubMade (Routes (routes.Sub n pattern queue sid) (done (desk_answer answer))) old new
  subscribed_so n pattern queue sid (Ok u) h = routes_so (routes.Sub n pattern queue sid) routes.Done old new h (Ok Done) tt refl
  subscribed_so n pattern queue sid (Err fault) h =
      let f = sub_refused h.called.was h.called.is n pattern queue sid fault h.called.for_open h.called.route in
      routes_so (routes.Sub n pattern queue sid) (fault_told fault) old new h (Err (desk_fault fault)) f.may f.says

  pub unsubscribed_so : (n : ℕ) (sid : Bytes) (max : Option ℕ) (answer : Result (Unit {0}) RouteFault) → IsRoutedBy (routes.Unsub n sid max) (done_told answer) old new
      → Makes HubMade (Routes (routes.Unsub n sid max) (done (desk_answer answer))) old new
  unsubscribed_so n sid max (Ok u) h = routes_so (routes.Unsub n sid max) routes.Done old new h (Ok Done) tt refl
  unsubscribed_so n sid max (Err fault) h =
      absurd (never h.called.was h.called.is (routes.Unsub n sid max) fault (unsub_done h.called.was n sid max h.called.for_open) refl h.called.route)

  pub published_so : (caller : Caller) (message : Out) (answer : Result ℕ RouteFault) → IsRoutedBy (routes.Publish message (Some caller.session)) (publish_told answer) old new
      → Makes HubMade (Offers (client_of caller) message (desk_answer answer)) old new
  published_so caller message (Ok count) h = record {
    entries = Routed (routes.Publish message (Some caller.session)) (routes.Taken count) ∷ [];
    are = refl;
    led = made_routed (routes.Publish message (Some caller.session)) (routes.Taken count) old new h;
  }
  published_so caller message (Err fault) h =
      let call = routes.Publish message (Some caller.session) in
      wanted call fault h (wants h.called.was h.called.is call fault (publish_done h.called.was caller.session message h.called.for_open) h.called.route)
      (λ (f : DeskFault). Offers (client_of caller) message (Err f)) refl

  pub sent_so : (message : Out) (answer : Result ℕ RouteFault) → IsRoutedBy (routes.Publish message None) (publish_told answer) old new → Makes HubMade (SendsOne message (sent answer)) old new
  sent_so message (Ok count) h = record {
    entries = Routed (routes.Publish message None) (routes.Taken count) ∷ [];
    are = (count, refl);
    led = made_routed (routes.Publish message None) (routes.Taken count) old new h;
  }
  sent_so message (Err fault) h =
      let call = routes.Publish message None in
      wanted call fault h (wants h.called.was h.called.is call fault (sending_done h.called.was message) h.called.route) (λ (f : DeskFault). SendsOne message (Err f)) (inr refl)

  pub collected_so : (n max : ℕ) (answer : Result Collected RouteFault) → IsRoutedBy (routes.Collect n max) (collected_told answer) old new
      → Makes HubMade (Routes (routes.Collect n max) (gave (desk_answer answer))) old new
  collected_so n max (Ok (Frames list rest)) h = routes_so (routes.Collect n max) (routes.Frames list rest) old new h (Ok (gives (Frames list rest))) tt refl
  collected_so n max (Ok (Slow size)) h = routes_so (routes.Collect n max) (routes.Slow size) old new h (Ok (gives (Slow size))) tt refl
  collected_so n max (Err fault) h =
      let call = routes.Collect n max in
      wanted call fault h (wants h.called.was h.called.is call fault (collect_done h.called.was n max h.called.for_open) h.called.route)
      (λ (f : DeskFault). Routes call (Err f)) (inl (routes.NoMemory, refl, refl, refl))

-- ---- made or not

module _ {X : Type 0} (call : routes.RouteCall) (told : X → routes.RouteTold) where
  abbrev IsMade : Result X DeskFault → Standing → Standing → Type 0
  IsMade result old new = IfOk result (λ (answer : X). IsRoutedBy call (told answer) old new)

  abbrev IsUnmade : Result X DeskFault → Standing → Standing → Type 0
  IsUnmade result old new = IfErr result (λ (fault : DeskFault). IsUnrouted fault old new)

  pub setting_stays : KeepsSessions call → (result : Result X DeskFault) (old new : Standing) → IsMade result old new → IsUnmade result old new → setting_of new ≡ setting_of old
  setting_stays keeps (Ok answer) old new made unmade = same_setting call (told answer) old new made keeps
  setting_stays keeps (Err fault) old new made unmade = worn_setting fault old new unmade

-- one that is always done if it is made
pub does_so : (call : routes.RouteCall) (result : Result (Unit {0}) DeskFault) (old new : Standing) → IfOk result (λ (answer : Unit {0}). IsRoutedBy call routes.Done old new)
    → IfErr result (λ (fault : DeskFault). IsUnrouted fault old new) → Makes HubMade (Routes call (done result)) old new
does_so call (Ok answer) old new made unmade = done_so old new call made
does_so call (Err fault) old new made unmade = routes_worn fault old new unmade call

-- one that was not made ended the desk's call, whose fault was handed on
pub worn_exit : {X : Type 0} (fault : DeskFault) (result : Result X DeskFault) (old new : Standing) → IsErrAnd result (λ (e : DeskFault). e ≡ fault) → IsUnrouted fault old new
    → (P : Result X DeskFault → List DeskEntry → Type 0) → P (Err (faults.Worn last_ticket)) (Spent last_ticket ∷ []) → Makes HubMade (P result) old new
worn_exit fault (Ok x) old new handed h P are = absurd handed
worn_exit fault (Err e) old new handed h P are = worn_so e old new (subst (λ (f : DeskFault). IsUnrouted f old new) (sym handed) h) (λ (f : DeskFault). P (Err f)) are
