use Rattle.std.proofs.Common.{Option, ℕ, length, ◌+◌, ◌<◌, sym, subst, ◌∙◌, arith}
use Rattle.stored_stream.specs.Heads.{TakesHead}
use Rattle.stored_stream.proofs.Merged.{merges_all, merges_full, merges_more, merges_none, merges_past}
use Rattle.stored_stream.proofs.purging.first_of_heads.Goals as goal

pub loop-below-init : goal.loop-below-init
loop-below-init c test h = rw c.new-gone.ensures.items (merges_none test c.args.stream.now.messages c.args.below c.args.most c.args.heads.now h)

pub loop-below-preserved : goal.loop-below-preserved
loop-below-preserved c test h =
    let s = c.args.stream.now in
    let w = c.loop-below.invariant test h in
    let taken = subst (λ (o : Option ℕ). TakesHead test s.messages w.from o c.take_head.new.heads) c.in-Some.is (c.in_ok-seq.ensures.value test w.from w.stand) in
    let room : length c.loop-below.gone.items < c.args.most = omega arith in
    rw c.in_ok-push.ensures.items (merges_more test s.messages c.args.below c.args.most 1 (s.last + 1) c.requires.sound.ascends c.loop-below.gone.items c.loop-below.heads c.take_head.new.heads w c.in-Some.seq taken (sym c.is_below.ensures.value ∙ c.if-not-is_below.false) room)

pub returns-in_default : goal.returns-in_default
returns-in_default c = record {
  value = λ test h.
      let s = c.args.stream.now in
      let w = c.loop-below.invariant test h in
      let taken = subst (λ (o : Option ℕ). TakesHead test s.messages w.from o c.take_head.new.heads) c.in_default.is (c.in_ok-seq.ensures.value test w.from w.stand) in
      merges_all test s.messages c.args.below c.args.most 1 (s.last + 1) c.requires.sound.ascends c.loop-below.gone.items c.loop-below.heads c.take_head.new.heads w taken;
}

pub returns-then-not-is_below : goal.returns-then-not-is_below
returns-then-not-is_below c = record {
  value = λ test h.
      let s = c.args.stream.now in
      let w = c.loop-below.invariant test h in
      let taken = subst (λ (o : Option ℕ). TakesHead test s.messages w.from o c.take_head.new.heads) c.in-Some.is (c.in_ok-seq.ensures.value test w.from w.stand) in
      merges_past test s.messages c.args.below c.args.most 1 (s.last + 1) c.requires.sound.ascends c.loop-below.gone.items c.loop-below.heads c.take_head.new.heads w c.in-Some.seq taken (sym c.is_below.ensures.value ∙ c.if-not-is_below.true);
}

pub returns : goal.returns
returns c = record { value = λ test h. merges_full test c.args.stream.now.messages c.args.below c.args.most c.loop-below.gone.items c.loop-below.heads (c.loop-below.invariant test h) (omega arith) }
