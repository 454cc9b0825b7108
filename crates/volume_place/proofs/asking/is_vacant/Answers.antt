use Rattle.volume_place.proofs.Raising.{none_told}
use Rattle.volume_place.proofs.asking.is_vacant.Goals as goal

pub returns : goal.returns
returns c = record { value = none_told c.name.result _ c.is_none.result c.is_none.ensures c.name.ensures.value }
