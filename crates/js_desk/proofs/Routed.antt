-- Calls of the router, as the entries that they make.
use Rattle.std.proofs.Common.{◌≡◌, ◌≤◌, ℕ, Bool, true, false, List, [], ◌∷◌, Option, Some, None, Result, Ok, Err, IfOk, refl, sym, ap, subst, inl, inr}
use Rattle.js_base.specs.Bytes.{Bytes}
use Rattle.js_base.specs.declared.out.Out.{Out}
use Rattle.js_model.specs.declared.desk.PlaceAt.{PlaceAt}
use Rattle.js_model.specs.declared.route_fault.RouteFault.{RouteFault}
use Rattle.js_model.specs.declared.route_fault.RouteFault.TheVariants as refused
use Rattle.js_model.specs.Router as routes
use Rattle.js_model.specs.Routing.{fault_told, collected_told, done_told, open_told, publish_told, KeepsOpen, LeavesFewer, Opens}
use Rattle.js_model.specs.declared.desk.Collected.{Collected}
use Rattle.js_model.specs.declared.desk.Collected.TheVariants.{Frames, Slow}
use Rattle.js_model.specs.Catalog.{Catalog}
use Rattle.js_model.specs.declared.event.What.{What}
use Rattle.js_model.specs.declared.stream.State.{State}
use Rattle.js_model.specs.PlaceStates.{PlaceIn}
use Rattle.place_engine.specs.Stepping.{Image}
use Rattle.js_desk.specs.Outlasting.{outlast_quiet}
use Rattle.js_api.specs.declared.fault.DeskFault.{DeskFault}
use Rattle.js_api.specs.declared.fault.DeskFault.TheVariants as faults
use Rattle.js_api.specs.Answering.{DeskAnswer, Done, Opened, done, gave, gives, opened}
use Rattle.js_api.specs.Calls.{MaySay, Routes, Says}
use Rattle.js_api.specs.Collecting.{LeavesLess}
use Rattle.js_api.specs.Entries.{DeskEntry, Routed}
use Rattle.js_api.specs.Leading.{Makes}
use Rattle.js_api.specs.Publishing.{Offers}
use Rattle.js_api.specs.Stages.{SendsOne}
use Rattle.desk_ground.specs.Callers.{client_of}
use Rattle.desk_ground.specs.declared.caller.Caller.{Caller}
use Rattle.desk_ground.specs.Grounds.{Setting}
use Rattle.desk_places.specs.declared.turn.Turn.{Turn}
use Rattle.desk_places.specs.Faults.{desk_answer, desk_fault, sent}
use Rattle.desk_places.proofs.Refused.{open_refused, sub_refused}
use Rattle.js_desk.specs.Kept.{kept_none}
use Rattle.js_desk.specs.Grounds.{SoloMade, setting_of, standing}
use Rattle.desk_hold.proofs.Refused.{wants, never, publish_done, sending_done, unsub_done, collect_done}

-- ---- the entry

abbrev pub opening_as : ℕ → (ℕ → Bool) → Setting
opening_as places opened = record { opened = opened; places = places }

-- the same sessions are open
pub same_setting : {V : Type 0} (r new : routes.Router) (c : Catalog) (places : List PlaceIn) (vols : List V) (ticked : ℕ) (last : Option PlaceAt) (turn : Turn) → KeepsOpen r new
    → setting_of (standing new c places vols ticked last turn).scene ≡ setting_of (standing r c places vols ticked last turn).scene
same_setting r new c places vols ticked last turn h = ap (opening_as (setting_of (standing r c places vols ticked last turn).scene).places) (λ i n. h n i)

module _ {V : Type 0} (keeps : V → V → Type 0) (none : (v : V) → keeps v v) (holds : Image → State → Type 0) (left : V → ℕ → Image → Type 0) (clock : V → ℕ) (base : Option ℕ → V → State → Type 0) (outgrows : State → What → Type 0) (earlier : (v : V) (t u : ℕ) (image : Image) → t ≤ u → left v u image → left v t image) (r new : routes.Router) (c : Catalog) (places : List PlaceIn) (vols : List V) (ticked : ℕ) (last : Option PlaceAt) (turn : Turn) where
  pub routed : (call : routes.RouteCall) (told : routes.RouteTold) → routes.IsRoute r call told new → SoloMade keeps holds left clock base outgrows (standing r c places vols ticked last turn) (Routed call told ∷ []) (standing new c places vols ticked last turn)
  routed call told h = (((standing new c places vols ticked last turn).scene, (h, refl), refl), kept_none keeps none vols, outlast_quiet holds left clock base earlier (Routed call told ∷ []) (record { places = places; vols = vols }) (λ number. refl), (tt, tt))

  pub routes_so : (call : routes.RouteCall) (told : routes.RouteTold) (result : Result DeskAnswer DeskFault) → routes.IsRoute r call told new → MaySay call told → Says told result
      → Makes (SoloMade keeps holds left clock base outgrows) (Routes call result) (standing r c places vols ticked last turn) (standing new c places vols ticked last turn)
  routes_so call told result h may says = record { entries = Routed call told ∷ []; are = inl (told, refl, may, says); led = routed call told h }

  module _ (call : routes.RouteCall) (fault : RouteFault) (only : fault ≡ refused.NoMemory) (h : routes.IsRoute r call (fault_told fault) new) where
    wanting : routes.IsRoute r call routes.NoMemory new
    wanting = subst (λ (f : RouteFault). routes.IsRoute r call (fault_told f) new) only h

    abbrev Answered : (DeskFault → List DeskEntry → Type 0) → Type 0
    Answered answers = Makes (SoloMade keeps holds left clock base outgrows) (answers (desk_fault fault)) (standing r c places vols ticked last turn) (standing new c places vols ticked last turn)

    -- memory ran out
    wanted : (answers : DeskFault → List DeskEntry → Type 0) → answers faults.NoMemory (Routed call routes.NoMemory ∷ []) → Answered answers
    wanted answers are =
        subst (λ (f : RouteFault). Makes (SoloMade keeps holds left clock base outgrows) (answers (desk_fault f)) (standing r c places vols ticked last turn) (standing new c places vols ticked last turn)) (sym only)
        (record { entries = Routed call routes.NoMemory ∷ []; are = are; led = routed call routes.NoMemory wanting })

  pub opened_so : (answer : Result ℕ RouteFault) → routes.IsRoute r routes.Open (open_told answer) new
      → Makes (SoloMade keeps holds left clock base outgrows) (Routes routes.Open (opened (desk_answer answer))) (standing r c places vols ticked last turn) (standing new c places vols ticked last turn)
  opened_so (Ok session) h = routes_so routes.Open (routes.Opened session) (Ok (Opened session)) h tt refl
  opened_so (Err fault) h = let f = open_refused r new fault h in routes_so routes.Open (fault_told fault) (Err (desk_fault fault)) h f.may f.says

  pub subscribed_so : (n : ℕ) (pattern : Bytes) (queue : Option Bytes) (sid : Bytes) (answer : Result (Unit {0}) RouteFault) → routes.is_open r n ≡ true
      → routes.IsRoute r (routes.Sub n pattern queue sid) (done_told answer) new
      → Makes (SoloMade keeps holds left clock base outgrows) (Routes (routes.Sub n pattern queue sid) (done (desk_answer answer))) (standing r c places vols ticked last turn) (standing new c places vols ticked last turn)
  subscribed_so n pattern queue sid (Ok u) is_open h = routes_so (routes.Sub n pattern queue sid) routes.Done (Ok Done) h tt refl
  subscribed_so n pattern queue sid (Err fault) is_open h =
      let f = sub_refused r new n pattern queue sid fault is_open h in routes_so (routes.Sub n pattern queue sid) (fault_told fault) (Err (desk_fault fault)) h f.may f.says

  pub unsubscribed_so : (n : ℕ) (sid : Bytes) (max : Option ℕ) (answer : Result (Unit {0}) RouteFault) → routes.is_open r n ≡ true → routes.IsRoute r (routes.Unsub n sid max) (done_told answer) new
      → Makes (SoloMade keeps holds left clock base outgrows) (Routes (routes.Unsub n sid max) (done (desk_answer answer))) (standing r c places vols ticked last turn) (standing new c places vols ticked last turn)
  unsubscribed_so n sid max (Ok u) is_open h = routes_so (routes.Unsub n sid max) routes.Done (Ok Done) h tt refl
  unsubscribed_so n sid max (Err fault) is_open h = absurd (never r new (routes.Unsub n sid max) fault (unsub_done r n sid max is_open) refl h)

  pub published_so : (caller : Caller) (message : Out) (answer : Result ℕ RouteFault) → routes.is_open r caller.session ≡ true → routes.IsRoute r (routes.Publish message (Some caller.session)) (publish_told answer) new
      → Makes (SoloMade keeps holds left clock base outgrows) (Offers (client_of caller) message (desk_answer answer)) (standing r c places vols ticked last turn) (standing new c places vols ticked last turn)
  published_so caller message (Ok count) is_open h = record {
    entries = Routed (routes.Publish message (Some caller.session)) (routes.Taken count) ∷ [];
    are = refl;
    led = routed (routes.Publish message (Some caller.session)) (routes.Taken count) h;
  }
  published_so caller message (Err fault) is_open h =
      let call = routes.Publish message (Some caller.session) in
      wanted call fault (wants r new call fault (publish_done r caller.session message is_open) h) h (λ (f : DeskFault). Offers (client_of caller) message (Err f)) refl

  pub sent_so : (message : Out) (answer : Result ℕ RouteFault) → routes.IsRoute r (routes.Publish message None) (publish_told answer) new
      → Makes (SoloMade keeps holds left clock base outgrows) (SendsOne message (sent answer)) (standing r c places vols ticked last turn) (standing new c places vols ticked last turn)
  sent_so message (Ok count) h = record {
    entries = Routed (routes.Publish message None) (routes.Taken count) ∷ [];
    are = (count, refl);
    led = routed (routes.Publish message None) (routes.Taken count) h;
  }
  sent_so message (Err fault) h =
      let call = routes.Publish message None in
      wanted call fault (wants r new call fault (sending_done r message) h) h (λ (f : DeskFault). SendsOne message (Err f)) (inr refl)

  pub collected_so : (n max : ℕ) (answer : Result Collected RouteFault) → routes.is_open r n ≡ true → routes.IsRoute r (routes.Collect n max) (collected_told answer) new
      → Makes (SoloMade keeps holds left clock base outgrows) (Routes (routes.Collect n max) (gave (desk_answer answer))) (standing r c places vols ticked last turn) (standing new c places vols ticked last turn)
  collected_so n max (Ok (Frames list rest)) is_open h = routes_so (routes.Collect n max) (routes.Frames list rest) (Ok (gives (Frames list rest))) h tt refl
  collected_so n max (Ok (Slow size)) is_open h = routes_so (routes.Collect n max) (routes.Slow size) (Ok (gives (Slow size))) h tt refl
  collected_so n max (Err fault) is_open h =
      let call = routes.Collect n max in
      let only = wants r new call fault (collect_done r n max is_open) h in
      wanted call fault only h (λ (f : DeskFault). Routes call (Err f)) (inl (routes.NoMemory, refl, refl, refl))

-- if a collect left more, it left less than before
pub collect_leaves : (answer : Result Collected RouteFault) (before after : ℕ) → LeavesFewer answer before after → LeavesLess (desk_answer answer) before after
collect_leaves (Ok (Frames list true)) before after h = h
collect_leaves (Ok (Frames list false)) before after h = tt
collect_leaves (Ok (Slow size)) before after h = tt
collect_leaves (Err fault) before after h = tt

-- a session that was opened is open
pub opened_opens : (new : routes.Router) (answer : Result ℕ RouteFault) → IfOk answer (Opens new) → IfOk (desk_answer answer) (λ session. routes.is_open new session ≡ true)
opened_opens new (Ok session) h = h.0
opened_opens new (Err fault) h = tt
