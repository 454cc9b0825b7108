-- Where in a record that does not fit the field stands that is wrong, counted from the record's kind; of two it is the first. A record that may not
-- stand there at all is wrong as a whole. By the spelling of records.
use Rattle.std.specs.Prelude.{ℕ, ◌+◌, ◌*◌, ◌==◌, length, Option, Some, None, if◌then◌else◌}
use Rattle.js_base.specs.Bytes.{Bytes}
use Rattle.js_model.specs.declared.consumer.Consumer.{Consumer}
use Rattle.js_model.specs.Streams.{by_name}
use Rattle.effects.specs.declared.durable.Body.{Body}
use Rattle.effects.specs.declared.durable.Durable.{Durable}
use Rattle.effects.specs.declared.effect.Effect.{Effect}
use Rattle.effects.specs.declared.effect.Effect.TheVariants.{MakeStream, ChangeStream, DropStream, PutHere, Skip, Remove, MakeConsumer, DropConsumer, Deliver, Acked, Due, GivenUp, Now}

-- the kind, and the field behind it
abbrev pub kind_at : ℕ
kind_at = 0

abbrev pub first_at : ℕ
first_at = 1

-- behind a name, so many numbers on
abbrev pub after_name : Bytes → ℕ → ℕ
after_name name count = 2 + length name + 8 * count

-- a sequence that is not the next, or else the moment behind it
abbrev pub numbered_at : ℕ → Body → ℕ
numbered_at seq b = if seq == b.last + 1 then first_at + 8 else first_at

-- the name of a consumer that is not there, or else the field so many numbers behind it
abbrev pub named_at : Bytes → ℕ → Option Consumer → ℕ
named_at name count None = first_at
named_at name count (Some c) = after_name name count

abbrev pub misfit_vacant : Effect → ℕ
misfit_vacant (MakeStream incarnation made config) = first_at
misfit_vacant (ChangeStream config) = kind_at
misfit_vacant DropStream = kind_at
misfit_vacant (PutHere seq at id subject headers payload) = kind_at
misfit_vacant (Skip seq at id) = kind_at
misfit_vacant (Remove low high) = kind_at
misfit_vacant (MakeConsumer name made config cursor picks) = kind_at
misfit_vacant (DropConsumer name) = kind_at
misfit_vacant (Deliver name seq count due dseq) = kind_at
misfit_vacant (Acked name low high) = kind_at
misfit_vacant (Due name seq due) = kind_at
misfit_vacant (GivenUp name moment) = kind_at
misfit_vacant (Now moment) = kind_at

-- a changed configuration, the end of a stream and a range always fit
abbrev pub misfit_live : Body → Effect → ℕ
misfit_live b (MakeStream incarnation made config) = kind_at
misfit_live b (ChangeStream config) = kind_at
misfit_live b DropStream = kind_at
misfit_live b (PutHere seq at id subject headers payload) = numbered_at seq b
misfit_live b (Skip seq at id) = numbered_at seq b
misfit_live b (Remove low high) = kind_at
misfit_live b (MakeConsumer name made config cursor picks) = first_at
misfit_live b (DropConsumer name) = first_at
misfit_live b (Deliver name seq count due dseq) = named_at name 3 (by_name b.consumers name)
misfit_live b (Acked name low high) = first_at
misfit_live b (Due name seq due) = named_at name 0 (by_name b.consumers name)
misfit_live b (GivenUp name moment) = first_at
misfit_live b (Now moment) = first_at

abbrev pub misfit_in : Option Body → Effect → ℕ
misfit_in None e = misfit_vacant e
misfit_in (Some b) e = misfit_live b e

abbrev pub misfit : Durable → Effect → ℕ
misfit d e = misfit_in d.body e
