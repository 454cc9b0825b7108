-- Laws of desks whose sessions are unmarked: no call tells that one is slow.
use Rattle.std.proofs.Common.{◌≡◌, ◌+◌, ◌^◌, ℕ, true, false, Bool, List, [], ◌∷◌, ◌++◌, Option, Some, None, Result, Ok, Err, refl, sym, ap, subst, inl, inr, if◌then◌else◌}
use Rattle.std.specs.Prelude.{IfSome, MatchBool, ◌==◌}
use Rattle.js_model.specs.Router as router
use Rattle.js_model.specs.Router.{route}
use Rattle.js_api.specs.declared.fault.DeskFault.{DeskFault}
use Rattle.js_api.specs.declared.fault.DeskFault.TheVariants as faults
use Rattle.js_api.specs.Answering.{DeskCall, Open, Options, Sub, Unsub, Publish, Tick, Settle, Collect, Close, DeskAnswer, Done, Took, Settled, Slow, answered_by}
use Rattle.js_api.specs.Calls as does
use Rattle.js_api.specs.Clients.{Client}
use Rattle.js_api.specs.Entries.{DeskEntry, Routed}
use Rattle.js_api.specs.Leading.{Leads}
use Rattle.js_api.specs.Worlds.{Scene, SoloStep}
use Rattle.server.specs.Laws.{IsQueue, AreQueues, IsUnmarked}

-- ---- runs of a desk, up to an entry

-- the entries before led to the scene in which it was made
pub record Reaches (old : Scene) (before after : List DeskEntry) (new : Scene) : Type 0 where
  pub mid : Scene
  pub first : Leads SoloStep old before mid
  pub behind : Leads SoloStep mid after new

pub reaches : (old new : Scene) (before after : List DeskEntry) → Leads SoloStep old (before ++ after) new → Reaches old before after new
reaches old new [] after h = record { mid = old; first = refl; behind = h }
reaches old new (entry ∷ before) after h =
    let k = reaches h.0 new before after h.2 in record { mid = k.mid; first = (h.0, h.1, k.first); behind = k.behind }

-- ---- a call of the router

told_slow : (max length : ℕ) (waiting : router.Waiting) → IsQueue waiting → router.frames_told max waiting ≡ router.Slow length → ⊥
told_slow max length (router.Queue frames) q e = cc
told_slow max length (router.Marked size) q e = absurd q

collects_slow : (max length : ℕ) (r : router.Router) (session : Option router.Session) → IfSome session (λ (s : router.Session). IsQueue s.waiting)
    → router.collect_told max r session ≡ router.Slow length → ⊥
collects_slow max length r None q e = cc
collects_slow max length r (Some s) q e = told_slow max length s.waiting q e

-- a call that may be made if the session is open
if_open_slow : (b : Bool) (r new : router.Router) (length : ℕ) (routed : router.Routed) → (routed.told ≡ router.Slow length → ⊥)
    → (if b then routed else router.telling (router.NoSession r.latest) r) ≡ router.telling (router.Slow length) new → ⊥
if_open_slow true r new length routed k e = k (ap (λ (x : router.Routed). x.told) e)
if_open_slow false r new length routed k e = let c : router.NoSession r.latest ≡ router.Slow length = ap (λ (x : router.Routed). x.told) e in cc

sub_slow : (used full : Bool) (r : router.Router) (sub : router.Subscription) (length : ℕ)
    → (if used then router.telling router.Done r else if full then router.telling router.TooManySubs r else router.telling router.Done (router.with_subscription r sub)).told ≡ router.Slow length → ⊥
sub_slow true full r sub length e = cc
sub_slow false true r sub length e = cc
sub_slow false false r sub length e = cc

no_slow : (call : router.RouteCall) (r new : router.Router) (chosen : List router.Subscription) (length : ℕ) → AreQueues r → route r call chosen ≡ router.telling (router.Slow length) new → ⊥
unfolding route
no_slow router.Open r new chosen length q e = opens (r.latest + 1 == 2 ^ 62) e
  where
    opens : (b : Bool) → (if b then router.telling router.Worn r else router.telling (router.Opened (r.latest + 1)) (router.opened r)) ≡ router.telling (router.Slow length) new → ⊥
    opens true e = let c : router.Worn ≡ router.Slow length = ap (λ (x : router.Routed). x.told) e in cc
    opens false e = let c : router.Opened (r.latest + 1) ≡ router.Slow length = ap (λ (x : router.Routed). x.told) e in cc
no_slow (router.Close n) r new chosen length q e = let c : router.Done ≡ router.Slow length = ap (λ (x : router.Routed). x.told) e in cc
no_slow (router.Options n echo headers) r new chosen length q e = let c : router.Done ≡ router.Slow length = ap (λ (x : router.Routed). x.told) e in cc
no_slow (router.Sub n pattern queue sid) r new chosen length q e =
    if_open_slow (router.is_open r n) r new length (router.subscribing r n pattern queue sid)
    (sub_slow (router.is_in_use r n sid) (router.is_full r n) r (router.new_subscription n pattern queue sid) length) e
no_slow (router.Unsub n sid max) r new chosen length q e = if_open_slow (router.is_open r n) r new length (router.telling router.Done (router.unsubscribed r n sid max)) (λ c. cc) e
no_slow (router.Publish out None) r new chosen length q e = let c = ap (λ (x : router.Routed). x.told) e in cc
no_slow (router.Publish out (Some n)) r new chosen length q e = if_open_slow (router.is_open r n) r new length (router.publishing r out (Some n) chosen) (λ c. cc) e
no_slow (router.Interest subject queue) r new chosen length q e = let c : router.Listens (router.is_interest r subject queue) ≡ router.Slow length = ap (λ (x : router.Routed). x.told) e in cc
no_slow (router.Collect n max) r new chosen length q e =
    if_open_slow (router.is_open r n) r new length (router.telling (router.collect_told max r (router.session_of r n)) (router.emptied r n max))
    (collects_slow max length r (router.session_of r n) (q n)) e

pub is_not_slow : (r new : router.Router) (call : router.RouteCall) (length : ℕ) → AreQueues r → router.IsRoute r call (router.Slow length) new → ⊥
is_not_slow r new call length q (inl h) = no_slow call r new h.chosen length q h.routed
is_not_slow r new call length q (inr h) = let k : router.Slow length ≡ router.NoMemory = h.told_is in cc

-- in a run over unmarked sessions no call of the router tells so
pub never_slow : (old new : Scene) (entries before after : List DeskEntry) (call : router.RouteCall) (length : ℕ) → IsUnmarked old entries
    → entries ≡ before ++ (Routed call (router.Slow length) ∷ after) → Leads SoloStep old entries new → ⊥
never_slow old new entries before after call length unmarked are led =
    let run = subst (λ (es : List DeskEntry). Leads SoloStep old es new) are led in
    let k = reaches old new before (Routed call (router.Slow length) ∷ after) run in
    let step = k.behind.1 in
    is_not_slow k.mid.world.router k.behind.0.world.router call length (unmarked before (Routed call (router.Slow length) ∷ after) k.mid are k.first) step.0

-- ---- a desk call

-- the entry of a call that was answered so
pub record TellsSlow (length : ℕ) (entries : List DeskEntry) : Type 0 where
  pub call : router.RouteCall
  pub entries_are : entries ≡ Routed call (router.Slow length) ∷ []

said_slow : (call : router.RouteCall) (told : router.RouteTold) (length : ℕ) (entries : List DeskEntry) → entries ≡ Routed call told ∷ [] → does.Says told (Ok (Slow length)) → TellsSlow length entries
said_slow call router.Done length entries e h = cc
said_slow call (router.Opened number) length entries e h = cc
said_slow call (router.Taken count) length entries e h = absurd h
said_slow call (router.Listens heard) length entries e h = absurd h
said_slow call (router.Frames list more) length entries e h = cc
said_slow call (router.Slow size) length entries e h =
    let same : size ≡ length = cc in record { call = call; entries_are = subst (λ (n : ℕ). entries ≡ Routed call (router.Slow n) ∷ []) same e }
said_slow call (router.NoSession latest) length entries e h = absurd h
said_slow call router.TooManySubs length entries e h = cc
said_slow call router.Worn length entries e h = cc
said_slow call router.NoMemory length entries e h = cc

routes_slow : (call : router.RouteCall) (length : ℕ) (entries : List DeskEntry) → does.Routes call (Ok (Slow length)) entries → TellsSlow length entries
routes_slow call length entries (inl h) = said_slow call h.0 length entries h.1 h.3
routes_slow call length entries (inr h) = let e = h.1 in cc

if_open_tells : (client : Client) (call : router.RouteCall) (length : ℕ) (entries : List DeskEntry) → does.IfOpen client (does.Routes call) (Ok (Slow length)) entries → TellsSlow length entries
if_open_tells client call length entries h = by client.is_open h
  where
    by : (b : Bool) → MatchBool b (does.Routes call (Ok (Slow length)) entries) ((Ok (Slow length) ≡ Err (faults.NoSession client.session)) × (entries ≡ [])) → TellsSlow length entries
    by true h = routes_slow call length entries h
    by false h = let e = h.0 in cc

stages_slow : {X : Type 0} (says : X → DeskAnswer) (stages : Result X DeskFault → List DeskEntry → Type 0) (length : ℕ) (entries : List DeskEntry) → ((x : X) → says x ≡ Slow length → ⊥)
    → does.Answered says stages (Ok (Slow length)) entries → ⊥
stages_slow says stages length entries not h = by h.given h.result_is
  where
    by : (given : Result _ DeskFault) → Ok (Slow length) ≡ answered_by says given → ⊥
    by (Ok value) e = let k : Slow length ≡ says value = cc in not value (sym k)
    by (Err fault) e = cc

published_slow : (client : Client) (stages : Result _ DeskFault → List DeskEntry → Type 0) (length : ℕ) (entries : List DeskEntry)
    → does.IfOpen client (does.Answered Took stages) (Ok (Slow length)) entries → ⊥
published_slow client stages length entries h = by client.is_open h
  where
    by : (b : Bool) → MatchBool b (does.Answered Took stages (Ok (Slow length)) entries) ((Ok (Slow length) ≡ Err (faults.NoSession client.session)) × (entries ≡ [])) → ⊥
    by true h = stages_slow Took stages length entries (λ taken e. cc) h
    by false h = let e = h.0 in cc

pub does_slow : (client : Client) (call : DeskCall) (length : ℕ) (entries : List DeskEntry) → does.Does client call (Ok (Slow length)) entries → TellsSlow length entries
does_slow client Open length entries h = routes_slow router.Open length entries h
does_slow client (Options echo headers no_responders) length entries h = if_open_tells client (router.Options client.session echo headers) length entries h
does_slow client (Sub subject queue sid) length entries h = if_open_tells client (router.Sub client.session subject queue sid) length entries h
does_slow client (Unsub sid max) length entries h = if_open_tells client (router.Unsub client.session sid max) length entries h
does_slow client (Publish message now) length entries h = absurd (published_slow client (does.Publishes client message now) length entries h)
does_slow client (Tick now) length entries h = absurd (stages_slow (λ (u : Unit {0}). Done) (does.Ticks now) length entries (λ u e. cc) h)
does_slow client (Settle now) length entries h = absurd (stages_slow Settled (does.Settles now) length entries (λ ready e. cc) h)
does_slow client (Collect max) length entries h = if_open_tells client (router.Collect client.session max) length entries h
does_slow client Close length entries h = if_open_tells client (router.Close client.session) length entries h
