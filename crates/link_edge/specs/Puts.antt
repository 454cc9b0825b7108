-- What a sink's put answers.
use Rattle.std.specs.Prelude.{◌≡◌, ℕ, List, take, Option}
use Rattle.link_edge.specs.declared.answers.Put.{Put}
use Rattle.link_edge.specs.declared.answers.Put.TheVariants.{Done, Failed}
use Rattle.link_edge.specs.Told.{grown}

-- all of the piece was written, or after a fault a prefix of it
abbrev pub Writes : Option (List ℕ) → Option (List ℕ) → Put → List ℕ → Type 0
Writes old new Done bytes = new ≡ grown old bytes
Writes old new Failed bytes = (n : ℕ) × (new ≡ grown old (take n bytes))
