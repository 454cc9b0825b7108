-- Laws of a desk that was just prepared: no session was opened yet, so their numbers are not used up.
use Rattle.std.proofs.Common.{◌≡◌, ℕ, ◌+◌, ◌^◌, List, [], ◌∷◌, ◌++◌, Bool, true, false, Option, None, Some, Result, Ok, Err, refl, sym, ◌∙◌, ap, subst, inl, inr}
use Rattle.std.specs.Prelude.{◌==◌, if◌then◌else◌, MatchOption}
use Rattle.js_base.specs.Bytes.{Bytes}
use Rattle.js_base.specs.declared.out.Out.{Out}
use Rattle.js_base.specs.declared.out.ApiError.{ApiError}
use Rattle.js_model.specs.PlaceStates.{PlaceIn}
use Rattle.js_model.specs.declared.desk.PlaceAt.{PlaceAt}
use Rattle.js_model.specs.declared.event.What.{What}
use Rattle.js_model.specs.declared.stream_config.StreamConfig.{StreamConfig}
use Rattle.js_model.specs.Catalog as catalog
use Rattle.js_model.specs.Router as router
use Rattle.js_model.specs.Router.{route}
use Rattle.stream_config.specs.Defaults.{default_config}
use Rattle.js_api.specs.declared.fault.DeskFault.{DeskFault}
use Rattle.js_api.specs.declared.fault.DeskFault.TheVariants as faults
use Rattle.js_api.specs.declared.outcome.Became.{Became}
use Rattle.js_api.specs.declared.outcome.Became.TheVariants.{Made, Unsaid, Ticked, Nothing, Broke, Stopped, Gone}
use Rattle.js_api.specs.Entries.{DeskEntry, Routed, Looked, Turned, Resumed, Held, Stirred, Halted, Missed, Spent}
use Rattle.js_api.specs.Holding.{HoldsBy, Prepares, Unmakes}
use Rattle.js_api.specs.Leading.{Leads}
use Rattle.js_api.specs.Making.{MakesStream, MakesAt, GoesOnTaken, IsMaking, IsPreparing}
use Rattle.js_api.specs.OneStream.{free_unless_made, is_info, removed}
use Rattle.js_api.specs.Stages.{Gives, LooksUp, Reads, Ending}
use Rattle.js_api.specs.Worlds.{Scene, SoloStep, AreTried, opening}
use Rattle.server.specs.declared.words.NamedStream.{NamedStream}
use Rattle.server.specs.Preparing as preparing

-- ---- entries without a call of the router

abbrev IsUnrouted : DeskEntry → Type 0
IsUnrouted (Routed call told) = ⊥
IsUnrouted (Looked joined call told) = Unit {0}
IsUnrouted (Turned after found) = Unit {0}
IsUnrouted (Resumed last) = Unit {0}
IsUnrouted (Held hold) = Unit {0}
IsUnrouted (Stirred at before after failed) = Unit {0}
IsUnrouted (Halted at state) = Unit {0}
IsUnrouted (Missed at kept) = Unit {0}
IsUnrouted (Spent number) = Unit {0}

abbrev AreUnrouted : List DeskEntry → Type 0
AreUnrouted [] = Unit {0}
AreUnrouted (entry ∷ more) = IsUnrouted entry × AreUnrouted more

unrouted-append : (first more : List DeskEntry) → AreUnrouted first → AreUnrouted more → AreUnrouted (first ++ more)
unrouted-append [] more h k = k
unrouted-append (entry ∷ first) more h k = (h.0, unrouted-append first more h.1 k)

none_routed : (entries : List DeskEntry) → entries ≡ [] → AreUnrouted entries
none_routed entries e = subst AreUnrouted (sym e) tt

one_unrouted : (entry : DeskEntry) (entries : List DeskEntry) → IsUnrouted entry → entries ≡ entry ∷ [] → AreUnrouted entries
one_unrouted entry entries h e = subst AreUnrouted (sym e) (h, tt)

-- ---- the latest number

routed_latest : (out : Out) (r : router.Router) (subs : List router.Subscription) → (router.routed r out subs).latest ≡ r.latest
routed_latest out r [] = refl
routed_latest out r (sub ∷ subs) = routed_latest out (router.handed out r sub) subs

publish_latest : (r new : router.Router) (out : Out) (told : router.RouteTold) → router.IsRoute r (router.Publish out None) told new → new.latest ≡ r.latest
unfolding route
publish_latest r new out told (inl h) =
    sym (ap (λ (x : router.Routed). x.router.latest) h.routed) ∙ routed_latest out r (router.takers r out.to None h.chosen)
publish_latest r new out told (inr h) = ap (λ (x : router.Router). x.latest) h.same

tried_latest : (outs : List Out) (taken : List Bool) (r new : router.Router) → AreTried r outs taken new → new.latest ≡ r.latest
tried_latest [] [] r new h = ap (λ (x : router.Router). x.latest) (sym h)
tried_latest [] (b ∷ taken) r new h = absurd h
tried_latest (out ∷ outs) [] r new h = absurd h
tried_latest (out ∷ outs) (b ∷ taken) r new h = tried_latest outs taken h.1 new h.4 ∙ publish_latest r h.1 out h.0 h.3

step_latest : (old new : Scene) (entry : DeskEntry) → SoloStep old entry new → IsUnrouted entry → new.world.router.latest ≡ old.world.router.latest
step_latest old new (Routed call told) h u = absurd u
step_latest old new (Looked joined call told) h u = ap (λ (s : Scene). s.world.router.latest) h.1
step_latest old new (Turned after found) h u = ap (λ (s : Scene). s.world.router.latest) h.2
step_latest old new (Resumed last) h u = ap (λ (s : Scene). s.world.router.latest) h.1
step_latest old new (Held hold) h u = tried_latest _ h.0.taken old.world.router new.world.router h.0.tried
step_latest old new (Stirred at before after failed) h u = ap (λ (r : router.Router). r.latest) h.0.router
step_latest old new (Halted at state) h u = ap (λ (s : Scene). s.world.router.latest) h.1
step_latest old new (Missed at kept) h u = ap (λ (s : Scene). s.world.router.latest) h.1
step_latest old new (Spent number) h u = absurd h

kept_latest : (old new : Scene) (entries : List DeskEntry) → Leads SoloStep old entries new → AreUnrouted entries → new.world.router.latest ≡ old.world.router.latest
kept_latest old new [] h u = ap (λ (s : Scene). s.world.router.latest) (sym h)
kept_latest old new (entry ∷ more) h u = kept_latest h.0 new more h.2 u.1 ∙ step_latest old h.0 entry h.1 u.0

-- ---- the making of a stream

prepares_unrouted : (at : PlaceAt) (entries : List DeskEntry) → Prepares at entries → AreUnrouted entries
prepares_unrouted at entries (inl e) = none_routed entries e
prepares_unrouted at entries (inr h) = one_unrouted _ entries tt h.3

unmade_unrouted : (at : PlaceAt) (fault : Option DeskFault) (entries : List DeskEntry) → Unmakes at fault entries → AreUnrouted entries
unmade_unrouted at None entries h = absurd h
unmade_unrouted at (Some faults.NoMemory) entries h = none_routed entries h
unmade_unrouted at (Some faults.TooManySubs) entries h = absurd h
unmade_unrouted at (Some (faults.Worn number)) entries (inl h) = one_unrouted (Spent number) entries tt h
unmade_unrouted at (Some (faults.Worn number)) entries (inr h) = one_unrouted _ entries tt h.2
unmade_unrouted at (Some (faults.NoSession latest)) entries h = absurd h

became_unrouted : (became : Became) (at : PlaceAt) (what : What) (now : ℕ) (ready : Bool) (fault : Option DeskFault) (entries : List DeskEntry)
    → HoldsBy became at what now ready fault entries → AreUnrouted entries
became_unrouted (Made reply) at what now ready fault entries h = one_unrouted _ entries tt h.1
became_unrouted (Unsaid refused) at what now ready fault entries h = one_unrouted _ entries tt h.3
became_unrouted Ticked at what now ready fault entries h = one_unrouted _ entries tt h.1
became_unrouted Nothing at what now ready fault entries h = unmade_unrouted at fault entries h.1
became_unrouted (Broke stream) at what now ready fault entries h = one_unrouted _ entries tt h.1
became_unrouted (Stopped stream) at what now ready fault entries h = one_unrouted _ entries tt h.1
became_unrouted Gone at what now ready fault entries h = one_unrouted _ entries tt h.1

free_unrouted : (at : PlaceAt) (became : Became) → AreUnrouted (free_unless_made at became)
free_unrouted at (Made reply) = by (is_info reply)
  where
    by : (b : Bool) → AreUnrouted (if b then [] else removed at false)
    by true = tt
    by false = (tt, tt)
free_unrouted at (Unsaid true) = (tt, tt)
free_unrouted at (Unsaid false) = tt
free_unrouted at Ticked = (tt, tt)
free_unrouted at Nothing = (tt, tt)
free_unrouted at (Broke stream) = (tt, tt)
free_unrouted at (Stopped stream) = (tt, tt)
free_unrouted at Gone = (tt, tt)

made_unrouted : (became : Became) (result : Result (Option ApiError) DeskFault) (entries : List DeskEntry) → IsMaking became result entries → AreUnrouted entries
made_unrouted (Made reply) result entries h = none_routed entries h.entries_are
made_unrouted (Unsaid refused) result entries h = absurd h
made_unrouted Ticked result entries h = absurd h
made_unrouted Nothing result entries h = absurd h
made_unrouted (Broke stream) result entries h = none_routed entries h.entries_are
made_unrouted (Stopped stream) result entries h = none_routed entries h.entries_are
made_unrouted Gone result entries h = absurd h

ended_unrouted : (fault : Option DeskFault) (became : Became) (result : Result (Option ApiError) DeskFault) (entries : List DeskEntry) → Ending fault (IsMaking became) result entries → AreUnrouted entries
ended_unrouted None became result entries h = made_unrouted became result entries h
ended_unrouted (Some fault) became result entries h = none_routed entries h.1

at_unrouted : (config : StreamConfig) (now : ℕ) (at : PlaceAt) (result : Result (Option ApiError) DeskFault) (entries : List DeskEntry) → MakesAt config now at result entries → AreUnrouted entries
at_unrouted config now at result entries h =
    let held = unrouted-append h.holds.first h.holds.more (prepares_unrouted at h.holds.first h.holds.prepares)
    (became_unrouted h.outcome.became at _ now h.outcome.ready h.outcome.fault h.holds.more h.holds.holds)
    in
    let ended = ended_unrouted h.outcome.fault h.outcome.became result h.ended h.ends in
    let freed = unrouted-append (free_unless_made at h.outcome.became) h.ended (free_unrouted at h.outcome.became) ended in
    subst AreUnrouted (sym h.entries_are) (unrouted-append h.held (free_unless_made at h.outcome.became ++ h.ended) (subst AreUnrouted (sym h.holds.entries_are) held) freed)

taken_unrouted : (config : StreamConfig) (now : ℕ) (told : catalog.CatTold) (result : Result (Option ApiError) DeskFault) (entries : List DeskEntry) → GoesOnTaken config now told result entries → AreUnrouted entries
taken_unrouted config now (catalog.At (Some at)) result entries h = at_unrouted config now at result entries h
taken_unrouted config now (catalog.At None) result entries h = absurd h
taken_unrouted config now (catalog.Refused e) result entries h = none_routed entries h.entries_are
taken_unrouted config now catalog.NoMemory result entries h = none_routed entries h.1
taken_unrouted config now catalog.Done result entries h = absurd h

read_unrouted : (config : StreamConfig) (result : Result StreamConfig DeskFault) (entries : List DeskEntry) → Reads config result entries → AreUnrouted entries
read_unrouted config (Ok given) entries h = none_routed entries h.1
read_unrouted config (Err faults.NoMemory) entries h = none_routed entries h
read_unrouted config (Err faults.TooManySubs) entries h = absurd h
read_unrouted config (Err (faults.Worn number)) entries h = absurd h
read_unrouted config (Err (faults.NoSession latest)) entries h = absurd h

preparing_unrouted : (name : Bytes) (config : StreamConfig) (now : ℕ) (result : Result (Option ApiError) DeskFault) (entries : List DeskEntry) → IsPreparing name config now result entries → AreUnrouted entries
preparing_unrouted name config now result entries (inl h) = read_unrouted config (Err h.fault) entries h.ended
preparing_unrouted name config now result entries (inr h) =
    let a = h.next_is in
    let more = subst AreUnrouted (sym a.entries_are) (tt, taken_unrouted h.given now a.added result a.more a.went_on) in
    subst AreUnrouted (sym h.entries_are) (unrouted-append h.before h.more (read_unrouted config (Ok h.given) h.before h.first_is) more)

looks_unrouted : (call : catalog.CatCall) (result : Result (Option PlaceAt) DeskFault) (entries : List DeskEntry) → LooksUp call result entries → AreUnrouted entries
looks_unrouted call (Ok found) entries h = one_unrouted _ entries tt h
looks_unrouted call (Err faults.NoMemory) entries h = absurd h
looks_unrouted call (Err faults.TooManySubs) entries h = absurd h
looks_unrouted call (Err (faults.Worn number)) entries h = one_unrouted (Spent number) entries tt h
looks_unrouted call (Err (faults.NoSession latest)) entries h = absurd h

found_unrouted : (name : Bytes) (config : StreamConfig) (now : ℕ) (found : Option PlaceAt) (result : Result (Option ApiError) DeskFault) (more : List DeskEntry)
    → MatchOption found (IsPreparing name config now result more) (λ at. Gives None result more) → AreUnrouted more
found_unrouted name config now None result more h = preparing_unrouted name config now result more h
found_unrouted name config now (Some at) result more h = none_routed more h.entries_are

making_unrouted : (name : Bytes) (config : StreamConfig) (now : ℕ) (result : Result (Option ApiError) DeskFault) (entries : List DeskEntry) → MakesStream name config now result entries → AreUnrouted entries
making_unrouted name config now result entries (inl h) = looks_unrouted (catalog.ByName name) (Err h.fault) entries h.ended
making_unrouted name config now result entries (inr h) =
    subst AreUnrouted (sym h.entries_are)
    (unrouted-append h.before h.more (looks_unrouted (catalog.ByName name) (Ok h.given) h.before h.first_is) (found_unrouted name config now h.given result h.more h.next_is))

pub prepared_latest : (opened : List PlaceIn) (stream : Option NamedStream) (result : Result (Option ApiError) DeskFault) (c0 c1 : Option (List ℕ)) (scene : Scene)
    → preparing.Prepares opened stream result c0 c1 scene → scene.world.router.latest ≡ 0
prepared_latest opened None result c0 c1 scene h = ap (λ (s : Scene). s.world.router.latest) h.1
prepared_latest opened (Some stream) result c0 c1 scene h =
    kept_latest (opening opened) scene h.entries h.led (making_unrouted stream.name (default_config stream.name stream.subject) h.moment result h.entries h.makes)

-- the first session has a number
pub is_not_worn : (r new : router.Router) → r.latest ≡ 0 → router.IsRoute r router.Open router.Worn new → ⊥
unfolding route
is_not_worn r new none (inl h) =
    let k : router.telling (router.Opened (r.latest + 1)) (router.opened r) ≡ router.telling router.Worn new =
    subst (λ (b : Bool). (if b then router.telling router.Worn r else router.telling (router.Opened (r.latest + 1)) (router.opened r)) ≡ router.telling router.Worn new)
    (ap (λ (n : ℕ). n + 1 == 2 ^ 62) none) h.routed
    in
    let told : router.Opened (r.latest + 1) ≡ router.Worn = ap (λ (x : router.Routed). x.told) k in cc
is_not_worn r new none (inr h) = let k : router.Worn ≡ router.NoMemory = h.told_is in cc
