-- Which records a stream can be given, and the entries that they give up.
use Rattle.std.specs.Prelude.{◌≡◌, ℕ, ◌^◌, ◌<◌, nat_le, Bool, ◌&&◌, Option, Some, None, ⊤}
use Rattle.js_model.specs.declared.consumer.Pending.{Pending}
use Rattle.js_model.specs.declared.consumer.Consumer.{Consumer}
use Rattle.js_model.specs.Streams.{at_limit}
use Rattle.model_laws.specs.Sound.{AreOrdered}
use Rattle.effects.specs.declared.durable.Body.{Body}
use Rattle.effects.specs.declared.durable.Durable.{Durable}
use Rattle.effects.specs.declared.effect.Effect.{Effect}
use Rattle.effects.specs.declared.effect.Effect.TheVariants.{MakeStream, ChangeStream, DropStream, PutHere, Skip, Remove, MakeConsumer, DropConsumer, Deliver, Acked, Due, GivenUp, Now}
use Rattle.effects.specs.Folding.{consumer_from}
use Rattle.record_fold.specs.declared.change.Change.{Change}
use Rattle.record_fold.specs.declared.change.Change.TheVariants as changes

-- an entry was delivered as often as it may be, and is due
abbrev pub is_spent_by : ℕ → Option ℕ → Pending → Bool
is_spent_by moment limit p = nat_le p.due moment && at_limit p.count limit

-- nothing was sent to the consumer
abbrev pub IsNew : Consumer → Type 0
IsNew c = c ≡ consumer_from c.name c.made c.config c.cursor c.picks

-- a sequence that was delivered is one of this server's, below 2^62, so that there is one after it
abbrev pub IsGiven : Effect → Type 0
IsGiven (MakeStream incarnation made config) = ⊤
IsGiven (ChangeStream config) = ⊤
IsGiven DropStream = ⊤
IsGiven (PutHere seq at id subject headers payload) = ⊤
IsGiven (Skip seq at id) = ⊤
IsGiven (Remove low high) = ⊤
IsGiven (MakeConsumer name made config cursor picks) = ⊤
IsGiven (DropConsumer name) = ⊤
IsGiven (Deliver name seq count due dseq) = seq < 2 ^ 62
IsGiven (Acked name low high) = ⊤
IsGiven (Due name seq due) = ⊤
IsGiven (GivenUp name moment) = ⊤
IsGiven (Now moment) = ⊤

abbrev pub IsGivenIn : Change → Type 0
IsGivenIn (changes.Deliver entry dseq) = entry.seq < 2 ^ 62
IsGivenIn (changes.End low high) = ⊤
IsGivenIn (changes.Due seq due) = ⊤
IsGivenIn (changes.GiveUp moment) = ⊤

-- the consumers of a stream, if there is one, are in order of their names
abbrev pub AreOrderedOf : Option Body → Type 0
AreOrderedOf None = ⊤
AreOrderedOf (Some b) = AreOrdered b.consumers

abbrev pub AreOrderedIn : Durable → Type 0
AreOrderedIn d = AreOrderedOf d.body
