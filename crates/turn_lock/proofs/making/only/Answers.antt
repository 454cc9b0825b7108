use Rattle.std.proofs.Common.{◌++◌, Some, option_to_list, sym, ap, ◌∙◌}
use Rattle.turn_lock.specs.declared.kept.Kept.{Kept}
use Rattle.turn_lock.proofs.Seats.{last_one}
use Rattle.turn_lock.proofs.making.only.Goals as goal

pub returns : goal.returns
returns g c = record {
  value = λ k is. ap (λ (x : Kept _). x.value) (last_one c.pop-found.new.self.items c.in-Some-slot.kept k
      (sym is ∙ (c.pop-found.ensures.items ∙ ap (λ r. c.pop-found.new.self.items ++ option_to_list r) (c.in-Some.is ∙ ap Some c.in-Some-slot.is))));
}
