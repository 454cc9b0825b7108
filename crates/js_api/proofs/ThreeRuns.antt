-- The entries of a desk of one caller are a run of its router, one of its catalog, and one of each of its places.
use Rattle.std.proofs.Common.{length}
use Rattle.js_model.specs.Runs.{messages_of}
use Rattle.js_api.specs.Machines.{LawRuns}
use Rattle.js_api.proofs.PlacesLed.{places_led}
use Rattle.js_api.proofs.RoutesLed.{routes_led, looks_led}

pub law_runs : LawRuns
law_runs old new entries led =
    let routes = routes_led entries old new led in
    record {
      calls = routes.calls;
      are_calls = routes.are;
      router = routes.run;
      catalog = looks_led entries old new led;
      places = λ place before there.
          let at = places_led place before entries old new led there in
          record { after = at.after; is_there = at.there; run = at.run (length (messages_of before.state)) };
    }
