use Rattle.std.proofs.Common.{◌≡◌, ◌==◌, false, cond, None, Some, nat_lt, sym}
use Rattle.std.proofs.lemmas.Bool.{ne_eqb}
use Rattle.js_base.specs.Moments.{plus}
use Rattle.stored_stream.proofs.Young.{first_old}
use Rattle.stored_stream.proofs.ageing.first_old.Goals as goal

pub returns-in-Some-clause-old : goal.returns-in-Some-clause-old
returns-in-Some-clause-old c =
    let s = c.args.stream.now in
    let m = c.in-Some.first.now in
    let limited : (s.config.max_age == 0) ≡ false = ne_eqb s.config.max_age 0 (rw (← c.config.ensures.value) c.if-max_age-eq0.false) in
    let told : c.if_old.result ≡ cond (nat_lt c.args.now (plus m.at s.config.max_age)) None (Some m.seq) = rw (← c.config.ensures.value) c.if_old.ensures.value in
    rw told (first_old s c.args.now c.requires.sound m (sym c.in-Some.ensures.value) limited).old

pub returns-in-Some-clause-none : goal.returns-in-Some-clause-none
returns-in-Some-clause-none c =
    let s = c.args.stream.now in
    let m = c.in-Some.first.now in
    let limited : (s.config.max_age == 0) ≡ false = ne_eqb s.config.max_age 0 (rw (← c.config.ensures.value) c.if-max_age-eq0.false) in
    let told : c.if_old.result ≡ cond (nat_lt c.args.now (plus m.at s.config.max_age)) None (Some m.seq) = rw (← c.config.ensures.value) c.if_old.ensures.value in
    rw told (first_old s c.args.now c.requires.sound m (sym c.in-Some.ensures.value) limited).none
