use Rattle.std.proofs.Common.{◌∙◌, arith}
use Rattle.volume_place.proofs.Measuring.{other_lengths, put_lengths_of}
use Rattle.volume_place.proofs.lengths.logged_len.Goals as goal

pub overflow_sub-result : goal.overflow_sub-result
overflow_sub-result c =
    let e = c.in-PutHere in
    let whole = c.requires.waiting ∙ put_lengths_of c.args.effect.now e.seq e.at e.id e.subject e.headers e.payload e.is in
    omega (arith, whole, c.len.ensures.value)

pub overflow_sub-result-in-PutHere : goal.overflow_sub-result-in-PutHere
overflow_sub-result-in-PutHere c =
    let e = c.in-PutHere in
    let whole = c.requires.waiting ∙ put_lengths_of c.args.effect.now e.seq e.at e.id e.subject e.headers e.payload e.is in
    omega (arith, whole, c.len.ensures.value, c.len-in-PutHere.ensures.value)

pub overflow_sub-result-in-PutHere-2 : goal.overflow_sub-result-in-PutHere-2
overflow_sub-result-in-PutHere-2 c =
    let e = c.in-PutHere in
    let whole = c.requires.waiting ∙ put_lengths_of c.args.effect.now e.seq e.at e.id e.subject e.headers e.payload e.is in
    omega (arith, whole, c.len.ensures.value, c.len-in-PutHere.ensures.value, c.len-in-PutHere-2.ensures.value)

pub returns-in-PutHere : goal.returns-in-PutHere
returns-in-PutHere c =
    let e = c.in-PutHere in
    let whole = c.requires.waiting ∙ put_lengths_of c.args.effect.now e.seq e.at e.id e.subject e.headers e.payload e.is in
    record { value = omega (arith, whole, c.len.ensures.value, c.len-in-PutHere.ensures.value, c.len-in-PutHere-2.ensures.value) }

pub returns-in_default : goal.returns-in_default
returns-in_default c = record { value = c.requires.waiting ∙ other_lengths c.args.effect.now (λ seq at id subject headers payload. c.in_default.not-PutHere seq at id subject headers payload) }
