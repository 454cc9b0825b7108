use Rattle.std.proofs.Common.{Option, ℕ, ◌+◌, subst, sym}
use Rattle.std.proofs.lemmas.Bool.{true≢false}
use Rattle.stored_stream.specs.Heads.{IsWith}
use Rattle.stored_stream.proofs.Counted.{none_first}
use Rattle.stored_stream.proofs.Merging.{none_taken, one_taken}
use Rattle.stored_stream.proofs.heads.take_head.Goals as goal

pub returns-in_default : goal.returns-in_default
returns-in_default c =
    let s = c.args.stream.now in
    record { value = λ test from h. none_taken test s.messages 1 (s.last + 1) from c.requires.sound.ascends c.args.heads.now h (none_first c.args.heads.now (λ l. true≢false (sym (c.in_default.ensures.variant.1 l)))) c.pop_first.new.self }

pub returns : goal.returns
returns c =
    let s = c.args.stream.now in
    let seq = c.in-Some.seq in
    let put = subst (λ (o : Option ℕ). IsWith c.pop_first.new.self o c.put_head.new.heads) c.following.ensures.value c.in_ok-put_head.ensures.ok in
    record {
      value = λ test from h. one_taken test s.messages 1 (s.last + 1) from c.requires.sound.ascends c.args.heads.now h seq c.in-Some.ensures.member c.in-Some.ensures.least c.pop_first.new.self c.put_head.new.heads c.in-Some.ensures.updates.0 put;
    }
