use Rattle.std.proofs.Common.{refl}
use Rattle.publish_wants.specs.Wants.{wants_of}
use Rattle.publish_wants.proofs.reading.wants_in.Goals as goal

pub returns : goal.returns
unfolding wants_of
returns c = record {
  wants = rw (
    c.in_ok-first_wrong.ensures.value,
    c.unwrap_or.ensures,
    c.in_ok-copy_in.ensures.value,
    c.empty.ensures,
    c.in_ok-copy_in-2.ensures.value,
    c.or_none.ensures.value,
    c.or_none-2.ensures.value,
    c.in_ok-copy_in-3.ensures.value,
    c.number_in-last.ensures.value,
    c.number_in-subject_last.ensures.value,
  ) refl;
}
