use Rattle.std.proofs.Common.{sym, ◌∙◌}
use Rattle.followed_stream.proofs.Searching.{stands_nowhere, stands_past, stands_there}
use Rattle.followed_stream.proofs.follower.place_of.Goals as goal

pub returns-in_err-follower : goal.returns-in_err-follower
returns-in_err-follower c = record {
  value = c.from_residual.ensures ∙ stands_past c.args.name.now c.args.followers.now c.requires.ordered c.place_before-place.result c.place_before-place.ensures.value c.in_err-follower.ensures.lookup.3;
}

pub returns-then-is_named : goal.returns-then-is_named
returns-then-is_named c = record {
  value = stands_there c.args.name.now c.args.followers.now c.requires.ordered c.place_before-place.result c.place_before-place.ensures.value c.in_ok-follower.follower.now c.in_ok-follower.ensures.lookup.3.0 c.in_ok-follower.ensures.lookup.1 (sym c.is_named.ensures.value ∙ c.if-is_named.true);
}

pub returns-else-is_named : goal.returns-else-is_named
returns-else-is_named c = record {
  value = stands_nowhere c.args.name.now c.args.followers.now c.requires.ordered c.place_before-place.result c.place_before-place.ensures.value c.in_ok-follower.follower.now c.in_ok-follower.ensures.lookup.1 (sym c.is_named.ensures.value ∙ c.if-is_named.false);
}
