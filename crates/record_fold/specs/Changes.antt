-- A change of one consumer that is there, and the record that says it, by a rule of this server's own.
use Rattle.std.specs.Prelude.{ℕ, ◌+◌, ◌==◌, if◌then◌else◌, List, map, Option, Some, None}
use Rattle.std.specs.List.{list_any}
use Rattle.js_base.specs.Bytes.{Bytes}
use Rattle.js_model.specs.declared.consumer.Consumer.{Consumer}
use Rattle.js_model.specs.Streams.{in_place_of}
use Rattle.js_model.specs.Acknowledge.{without, with_due}
use Rattle.effects.specs.Folding.{delivered_to, with_given_up}
use Rattle.effects.specs.Ranges.{is_within}
use Rattle.effects.specs.declared.effect.Effect.{Effect}
use Rattle.effects.specs.declared.effect.Effect.TheVariants as effects
use Rattle.record_fold.specs.declared.change.Change.{Change}
use Rattle.record_fold.specs.declared.change.Change.TheVariants.{Deliver, End, Due, GiveUp}

-- the record of the change of a consumer of this name
abbrev pub effect_of : Bytes → Change → Effect
effect_of name (Deliver entry dseq) = effects.Deliver name entry.seq entry.count entry.due dseq
effect_of name (End low high) = effects.Acked name low high
effect_of name (Due seq due) = effects.Due name seq due
effect_of name (GiveUp moment) = effects.GivenUp name moment

-- the consumer after the change, if it fits: a consumer sequence has to be the next, and an entry has to be there
abbrev pub changed : Change → Consumer → Option Consumer
changed (Deliver entry dseq) c = if dseq == c.dseq + 1 then Some (delivered_to entry dseq c) else None
changed (End low high) c = Some (without (is_within low high) c)
changed (Due seq due) c = if list_any (λ p. p.seq == seq) c.pending then Some (with_due seq due c) else None
changed (GiveUp moment) c = Some (with_given_up moment c)

abbrev pub changed_in : Change → Option Consumer → Option Consumer
changed_in change None = None
changed_in change (Some c) = changed change c

-- the consumers with another one in the place of the one of its name
abbrev pub replaced_in : List Consumer → Option Consumer → Option (List Consumer)
replaced_in cs None = None
replaced_in cs (Some new) = Some (map (in_place_of new) cs)

-- how many numbers stand between the name and the number that may not fit, where records are spelled
abbrev pub fields_before : Change → ℕ
fields_before (Deliver entry dseq) = 3
fields_before (End low high) = 0
fields_before (Due seq due) = 0
fields_before (GiveUp moment) = 0
