use Rattle.std.proofs.Common.{refl, sym, subst, ◌∙◌}
use Rattle.std.proofs.lemmas.Bool.{true≢false}
use Rattle.durable_checks.specs.Storable.{IsStorable}
use Rattle.log_records.proofs.held.Held.of.Goals as goal

pub of-requires : goal.of-requires
of-requires c = record { formed = c.requires.formed; storable = c.requires.storable; in_time = c.goes_on.ensures.value.0 c.if-goes_on.true }

pub returns-then-goes_on : goal.returns-then-goes_on
returns-then-goes_on c = record {
  value = record { is = c.in_ok-replay.ensures.value; replay = subst IsStorable (sym c.in_ok-replay.ensures.value) c.requires.storable };
  replayed = λ in_time. tt;
}

pub returns : goal.returns
returns c = record { value = record { is = refl; replay = tt }; replayed = λ in_time. absurd (true≢false (sym (c.goes_on.ensures.value.1 in_time) ∙ c.if-goes_on.false)) }
