-- A fault that begins the bytes begins them, whatever follows.
use Rattle.std.proofs.Common.{ℕ, ◌≡◌, [], ◌∷◌, ◌++◌, sym, ◌∙◌, ap, arith, inl, length-append, append_assoc}
use Rattle.std.proofs.lemmas.List.{get_or_append_left}
use Rattle.js_base.specs.Bytes.{Bytes}
use Rattle.nats_frames.specs.declared.fault.Fault.{Fault}
use Rattle.nats_frames.specs.declared.fault.Fault.TheVariants.{UnknownOp, LineTooLong, BadArgs, PayloadTooBig, BadEnd}
use Rattle.nats_frames.specs.Grammar.{HasNoLine, HasWords, IsWrongAt, IsFaulty}

no_line_on : (bytes more : Bytes) → HasNoLine bytes → HasNoLine (bytes ++ more)
no_line_on bytes more h =
    let long = h.long in
    record {
      long = omega (arith, length-append bytes more);
      none = λ k lt at. h.none k lt (sym (get_or_append_left bytes more 0 k (omega arith)) ∙ at);
    }

words_on : (words bytes more : Bytes) → HasWords words bytes → HasWords words (bytes ++ more)
words_on words bytes more h =
    record { line = h.line; more = h.more ++ more; is_line = h.is_line; whole = ap (λ b. b ++ more) h.whole ∙ append_assoc h.line h.more more }

wrong_on : (bytes more : Bytes) (place : ℕ) → IsWrongAt bytes place → IsWrongAt (bytes ++ more) place
wrong_on [] more place h = absurd h
wrong_on (b ∷ []) [] place h = h
wrong_on (b ∷ []) (c ∷ more) place h = inl h
wrong_on (b ∷ c ∷ rest) more place h = h

regroup : (line body tail more : Bytes) → (line ++ (body ++ tail)) ++ more ≡ line ++ (body ++ (tail ++ more))
regroup line body tail more = simp append_assoc

pub faulty_on : (bytes more : Bytes) (fault : Fault) → IsFaulty fault bytes → IsFaulty fault (bytes ++ more)
faulty_on bytes more UnknownOp h =
    record { words = h.words; word = h.word; first = words_on h.words bytes more h.first; cut = h.cut; unknown = h.unknown }
faulty_on bytes more LineTooLong h = no_line_on bytes more h
faulty_on bytes more BadArgs h =
    record { words = h.words; word = h.word; first = words_on h.words bytes more h.first; cut = h.cut; known = h.known; none = h.none }
faulty_on bytes more (PayloadTooBig size) h =
    record { words = h.words; said = h.said; first = words_on h.words bytes more h.first; says = h.says; counts = h.counts; big = h.big }
faulty_on bytes more (BadEnd place) h =
    record {
      said = h.said;
      line = h.line;
      body = h.body;
      tail = h.tail ++ more;
      behind = h.behind;
      told = h.told;
      counts = h.counts;
      small = h.small;
      whole = ap (λ b. b ++ more) h.whole ∙ regroup h.line h.body h.tail more;
      wrong = wrong_on h.tail more h.behind h.wrong;
      place_is = h.place_is;
    }
