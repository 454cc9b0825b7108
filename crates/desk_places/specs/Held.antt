-- Whether a hold made a step at its place.
use Rattle.std.specs.Prelude.{Bool, true, false}
use Rattle.js_api.specs.declared.outcome.Became.{Became}
use Rattle.js_api.specs.declared.outcome.Became.TheVariants.{Made, Unsaid, Ticked, Nothing, Broke, Stopped, Gone}

-- also if the volume of the place failed in it
abbrev pub is_held : Became → Bool
is_held (Made reply) = true
is_held (Unsaid refused) = true
is_held Ticked = true
is_held Nothing = false
is_held (Broke stream) = true
is_held (Stopped stream) = false
is_held Gone = false
