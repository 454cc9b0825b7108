-- What the entries of a desk of one caller make of its router and of its catalog.
use Rattle.std.proofs.Common.{◌≡◌, ◌++◌, Bool, List, [], ◌∷◌, map, None, refl, sym, subst, ap}
use Rattle.js_base.specs.declared.out.Out.{Out}
use Rattle.js_model.specs.Router.{Router, RouteEntry, RouteRun, Publish}
use Rattle.js_model.specs.Catalog.{Catalog, CatEntry, CatRun}
use Rattle.js_api.specs.Entries.{Reading, entries_in, DeskEntry, Routed, Looked, Turned, Resumed, Held, Stirred, Halted, Missed, Spent}
use Rattle.js_api.specs.Leading.{Leads}
use Rattle.js_api.specs.Machines.{call_made, read, ArePublished, AreOfEntry, AreCalls, looks}
use Rattle.js_api.specs.Outputs.{outs_of}
use Rattle.js_api.specs.Worlds.{Scene, SoloStep, AreRead, AreTried}

-- ---- the router

route_more : (a b c : Router) (first more : List RouteEntry) → RouteRun a first b → RouteRun b more c → RouteRun a (first ++ more) c
route_more a b c [] more run next = subst (λ (r : Router). RouteRun r more c) (sym run) next
route_more a b c (entry ∷ first) more (mid, call, rest) next = (mid, call, route_more mid b c first more rest next)

reads : (router : Router) (readings : List Reading) → AreRead router readings → RouteRun router (map read readings) router
reads router [] are = refl
reads router (reading ∷ more) are = (router, are.0, reads router more are.1)

-- calls that lead from the one router to the other
record Publishes (outs : List Out) (old new : Router) : Type 0 where
  calls : List RouteEntry
  are : ArePublished outs calls
  run : RouteRun old calls new

tries : (outs : List Out) (taken : List Bool) (old new : Router) → AreTried old outs taken new → Publishes outs old new
tries [] [] old new tried = record { calls = []; are = refl; run = tried }
tries [] (one ∷ taken) old new tried = absurd tried
tries (out ∷ outs) [] old new tried = absurd tried
tries (out ∷ outs) (one ∷ taken) old new (told, mid, is, routed, rest) =
    let next = tries outs taken mid new rest in
    record {
      calls = call_made (Publish out None) told ∷ next.calls;
      are = (told, next.calls, refl, next.are);
      run = (mid, routed, next.run);
    }

record EntryRoutes (entry : DeskEntry) (old new : Router) : Type 0 where
  calls : List RouteEntry
  are : AreOfEntry entry calls
  run : RouteRun old calls new

entry_routes : (entry : DeskEntry) (old new : Scene) → SoloStep old entry new → EntryRoutes entry old.world.router new.world.router
entry_routes (Routed call told) old new step = record { calls = call_made call told ∷ []; are = refl; run = (new.world.router, step.0, refl) }
entry_routes (Looked joined call told) old new step = record { calls = []; are = refl; run = sym (ap (λ (s : Scene). s.world.router) step.1) }
entry_routes (Turned after found) old new step = record { calls = []; are = refl; run = sym (ap (λ (s : Scene). s.world.router) step.2) }
entry_routes (Resumed last) old new step = record { calls = []; are = refl; run = sym (ap (λ (s : Scene). s.world.router) step.1) }
entry_routes (Held hold) old new step =
    let held = step.0 in
    let published = tries (outs_of hold.before (entries_in hold)) held.taken old.world.router new.world.router held.tried in
    record {
      calls = map read hold.readings ++ published.calls;
      are = (published.calls, refl, published.are);
      run = route_more old.world.router old.world.router new.world.router (map read hold.readings) published.calls (reads old.world.router hold.readings held.read) published.run;
    }
entry_routes (Stirred at before after failed) old new step = record { calls = []; are = refl; run = sym step.0.router }
entry_routes (Halted at state) old new step = record { calls = []; are = refl; run = sym (ap (λ (s : Scene). s.world.router) step.1) }
entry_routes (Missed at kept) old new step = record { calls = []; are = refl; run = sym (ap (λ (s : Scene). s.world.router) step.1) }
entry_routes (Spent number) old new step = absurd step

pub record Routes (entries : List DeskEntry) (old new : Router) : Type 0 where
  pub calls : List RouteEntry
  pub are : AreCalls entries calls
  pub run : RouteRun old calls new

pub routes_led : (entries : List DeskEntry) (old new : Scene) → Leads SoloStep old entries new → Routes entries old.world.router new.world.router
routes_led [] old new led = record { calls = []; are = refl; run = ap (λ (s : Scene). s.world.router) led }
routes_led (entry ∷ entries) old new (mid, step, rest) =
    let first = entry_routes entry old mid step in
    let next = routes_led entries mid new rest in
    record {
      calls = first.calls ++ next.calls;
      are = (first.calls, next.calls, refl, first.are, next.are);
      run = route_more old.world.router mid.world.router new.world.router first.calls next.calls first.run next.run;
    }

-- ---- the catalog

same_catalog : (entries : List CatEntry) (old mid new : Catalog) → mid ≡ old → CatRun mid entries new → CatRun old entries new
same_catalog entries old mid new same run = subst (λ (c : Catalog). CatRun c entries new) same run

pub looks_led : (entries : List DeskEntry) (old new : Scene) → Leads SoloStep old entries new → CatRun old.world.catalog (looks entries) new.world.catalog
looks_led [] old new led = ap (λ (s : Scene). s.world.catalog) led
looks_led (Routed call told ∷ more) old new (mid, step, rest) =
    same_catalog (looks more) old.world.catalog mid.world.catalog new.world.catalog (ap (λ (s : Scene). s.world.catalog) step.1) (looks_led more mid new rest)
looks_led (Looked joined call told ∷ more) old new (mid, step, rest) = (mid.world.catalog, step.0, looks_led more mid new rest)
looks_led (Turned after found ∷ more) old new (mid, step, rest) =
    (old.world.catalog, step.1, same_catalog (looks more) old.world.catalog mid.world.catalog new.world.catalog (ap (λ (s : Scene). s.world.catalog) step.2) (looks_led more mid new rest))
looks_led (Resumed last ∷ more) old new (mid, step, rest) =
    same_catalog (looks more) old.world.catalog mid.world.catalog new.world.catalog (ap (λ (s : Scene). s.world.catalog) step.1) (looks_led more mid new rest)
looks_led (Held hold ∷ more) old new (mid, step, rest) =
    same_catalog (looks more) old.world.catalog mid.world.catalog new.world.catalog step.0.catalog (looks_led more mid new rest)
looks_led (Stirred at before after failed ∷ more) old new (mid, step, rest) =
    same_catalog (looks more) old.world.catalog mid.world.catalog new.world.catalog step.0.catalog (looks_led more mid new rest)
looks_led (Halted at state ∷ more) old new (mid, step, rest) =
    same_catalog (looks more) old.world.catalog mid.world.catalog new.world.catalog (ap (λ (s : Scene). s.world.catalog) step.1) (looks_led more mid new rest)
looks_led (Missed at kept ∷ more) old new (mid, step, rest) =
    same_catalog (looks more) old.world.catalog mid.world.catalog new.world.catalog (ap (λ (s : Scene). s.world.catalog) step.1) (looks_led more mid new rest)
looks_led (Spent number ∷ more) old new (mid, step, rest) = absurd step
