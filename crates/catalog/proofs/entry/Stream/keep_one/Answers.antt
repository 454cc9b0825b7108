use Rattle.std.proofs.Common.{◌∙◌, [], ◌∷◌, Option, ap, sym, refl, inl, inr}
use Rattle.catalog.specs.declared.entry.Listed.{Listed}
use Rattle.catalog.specs.Entries.{second_list}
use Rattle.catalog.proofs.entry.Stream.keep_one.Goals as goal

pub returns-then-new-clause-left : goal.returns-then-new-clause-left
returns-then-new-clause-left c = (
  c.args.listed,
  ap (λ (l : Listed). l ∷ second_list c.args.self.now.replacing) c.replace.ensures.after ∙ ap (λ (o : Option Listed). c.args.listed ∷ second_list o) c.requires.single,
  inl (ap (λ (l : Listed). l ∷ c.args.listed ∷ []) (sym c.replace.ensures.value)),
)

pub returns-else-new-clause-left : goal.returns-else-new-clause-left
returns-else-new-clause-left c = (c.args.self.now.current, ap (λ (o : Option Listed). c.args.self.now.current ∷ second_list o) c.requires.single, inr refl)
