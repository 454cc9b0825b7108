-- What waits for a commit with more behind it, by a rule of this server's own: of two moments of which one directly follows the other the second alone waits,
-- since to fold both is to fold the second.
use Rattle.std.specs.Prelude.{Bool, true, false, if◌then◌else◌, List, [], ◌∷◌, ◌++◌}
use Rattle.effects.specs.declared.effect.Effect.{Effect}
use Rattle.effects.specs.declared.effect.Effect.TheVariants as effects

-- whether it tells a moment, and nothing else
abbrev pub is_now : Effect → Bool
is_now (effects.MakeStream incarnation made config) = false
is_now (effects.ChangeStream config) = false
is_now effects.DropStream = false
is_now (effects.PutHere seq at id subject headers payload) = false
is_now (effects.Skip seq at id) = false
is_now (effects.Remove low high) = false
is_now (effects.MakeConsumer name made config cursor picks) = false
is_now (effects.DropConsumer name) = false
is_now (effects.Deliver name seq count due dseq) = false
is_now (effects.Acked name low high) = false
is_now (effects.Due name seq due) = false
is_now (effects.GivenUp name moment) = false
is_now (effects.Now moment) = true

abbrev pub begins_with_moment : List Effect → Bool
begins_with_moment [] = false
begins_with_moment (effect ∷ more) = is_now effect

abbrev pub without_last_moment : List Effect → List Effect
without_last_moment [] = []
without_last_moment (effect ∷ []) = if is_now effect then [] else effect ∷ []
without_last_moment (effect ∷ next ∷ more) = effect ∷ without_last_moment (next ∷ more)

-- what of a tail waits on before these
abbrev pub left_before : List Effect → List Effect → List Effect
left_before more tail = if begins_with_moment more then without_last_moment tail else tail

-- a tail with these behind it
abbrev pub followed : List Effect → List Effect → List Effect
followed tail more = left_before more tail ++ more
