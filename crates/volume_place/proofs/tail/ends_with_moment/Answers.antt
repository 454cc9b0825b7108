use Rattle.std.proofs.Common.{sym, ◌∙◌}
use Rattle.volume_place.proofs.Following.{ends_by}
use Rattle.volume_place.proofs.tail.ends_with_moment.Goals as goal

pub returns-in-Some : goal.returns-in-Some
returns-in-Some c = record { value = c.is_now.ensures.value ∙ sym (ends_by c.args.records.now c.in-Some.effect.now (sym c.in-Some.ensures.value)) }
