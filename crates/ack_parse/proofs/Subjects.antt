-- A subject is read as a delivery exactly if it spells it.
use Rattle.std.proofs.Common.{◌≡◌, ℕ, Bool, true, false, ◌&&◌, List, [], ◌∷◌, Option, Some, None, Result, Ok, Err, nat_lt, ◌^◌, length, codes, refl, sym, ap, ◌∙◌, subst, if◌then◌else◌}
use Rattle.std.specs.Prelude.{IsOk}
use Rattle.js_base.specs.Bytes.{Bytes, same}
use Rattle.js_base.specs.Decimal.{number_of, small_or, value_of, first_bad as no_digit}
use Rattle.js_base.specs.declared.decimal.DecFault.TheVariants.{TooBig}
use Rattle.js_model.specs.Configs.{is_number}
use Rattle.js_base.specs.Names.{name_of, unless_bad, first_bad}
use Rattle.js_base.specs.declared.name.NameFault.TheVariants.{TooLong}
use Rattle.js_base.specs.Subjects.{tokens}
use Rattle.js_base.specs.declared.decimal.DecFault.{DecFault}
use Rattle.js_base.specs.declared.name.NameFault.{NameFault}
use Rattle.js_base.proofs.Meeting.{same_is}
use Rattle.ack_parse.specs.Steps.{◌>>=◌}
use Rattle.ack_parse.specs.Subjects.{name_or, number_or, name_at, number_at, delivered_of, read_tokens, subject_of}
use Rattle.ack_parse.specs.Grammar.{SpellsSubject}
use Rattle.ack_parse.specs.Laws.{LawSubject}
use Rattle.ack_parse.specs.declared.fault.AckFault.TheVariants.{NotAck}
use Rattle.ack_parse.specs.declared.fault.AckFault.{AckFault}
use Rattle.ack_parse.specs.declared.subject.Delivered.{Delivered}

-- ---- one reading after the other

pub record Read {A B : Type 0} (r : Result A AckFault) (next : A → Result B AckFault) (b : B) : Type 0 where
  pub first : A
  pub first_is : r ≡ Ok first
  pub then_is : next first ≡ Ok b

read_both : {A B : Type 0} (r : Result A AckFault) (next : A → Result B AckFault) (b : B) → (r >>= next) ≡ Ok b → Read r next b
read_both (Ok a) next b h = record { first = a; first_is = refl; then_is = h }
read_both (Err fault) next b h = absurd (cc)

name_back : (place : ℕ) (r : Result Bytes NameFault) (name : Bytes) → name_or place r ≡ Ok name → r ≡ Ok name
name_back place (Ok text) name h = cc
name_back place (Err fault) name h = absurd (cc)

number_back : (place : ℕ) (r : Result ℕ DecFault) (n : ℕ) → number_or place r ≡ Ok n → r ≡ Ok n
number_back place (Ok m) n h = cc
number_back place (Err fault) n h = absurd (cc)

is_ok : {A E : Type 0} (r : Result A E) (a : A) → r ≡ Ok a → IsOk r
is_ok (Ok b) a h = refl
is_ok (Err e) a h = absurd (cc)

-- ---- names

name_text : (long : Bool) (bad : Option ℕ) (text name : Bytes) → (if long then Err TooLong else unless_bad bad text) ≡ Ok name → text ≡ name
name_text true bad text name h = absurd (cc)
name_text false None text name h = cc
name_text false (Some at) text name h = absurd (cc)

-- what is read of a name is itself
same_name : (text name : Bytes) → name_of text ≡ Ok name → text ≡ name
same_name [] name h = absurd (cc)
same_name (byte ∷ more) name h = name_text (nat_lt 255 (length (byte ∷ more))) (first_bad (byte ∷ more)) (byte ∷ more) name h

-- ---- the seven tokens

record Are (stream consumer count sequence consumer_sequence time pending : Bytes) (d : Delivered) : Type 0 where
  stream_is : name_of stream ≡ Ok d.stream
  consumer_is : name_of consumer ≡ Ok d.consumer
  count_is : IsOk (number_of count)
  sequence_is : number_of sequence ≡ Ok d.seq
  consumer_sequence_is : IsOk (number_of consumer_sequence)
  time_is : IsOk (number_of time)
  pending_is : IsOk (number_of pending)

some_number : (place : ℕ) (token : Bytes) (n : ℕ) → number_at place token ≡ Ok n → IsOk (number_of token)
some_number place token n h = is_ok (number_of token) n (number_back place (number_of token) n h)

are : (stream consumer count sequence consumer_sequence time pending : Bytes) (d : Delivered)
    → delivered_of stream consumer count sequence consumer_sequence time pending ≡ Ok d → Are stream consumer count sequence consumer_sequence time pending d
unfolding delivered_of
are stream consumer count sequence consumer_sequence time pending d h =
    let a = read_both (name_at 2 stream) _ d h in
    let b = read_both (name_at 3 consumer) _ d a.then_is in
    let c = read_both (number_at 4 count) _ d b.then_is in
    let e = read_both (number_at 5 sequence) _ d c.then_is in
    let f = read_both (number_at 6 consumer_sequence) _ d e.then_is in
    let g = read_both (number_at 7 time) _ d f.then_is in
    let i = read_both (number_at 8 pending) _ d g.then_is in
    let same : record { stream = a.first; consumer = b.first; seq = e.first } ≡ d = cc in
    record {
      stream_is = name_back 2 (name_of stream) a.first a.first_is ∙ ap (λ (x : Delivered). Ok x.stream) same;
      consumer_is = name_back 3 (name_of consumer) b.first b.first_is ∙ ap (λ (x : Delivered). Ok x.consumer) same;
      count_is = some_number 4 count c.first c.first_is;
      sequence_is = number_back 5 (number_of sequence) e.first e.first_is ∙ ap (λ (x : Delivered). Ok x.seq) same;
      consumer_sequence_is = some_number 6 consumer_sequence f.first f.first_is;
      time_is = some_number 7 time g.first g.first_is;
      pending_is = some_number 8 pending i.first i.first_is;
    }

number_read : (place : ℕ) (r : Result ℕ DecFault) → IsOk r → (n : ℕ) × (number_or place r ≡ Ok n)
number_read place (Ok n) h = (n, refl)
number_read place (Err fault) h = absurd (cc)

they_are : (d : Delivered) (count sequence consumer_sequence time pending : Bytes) → Are d.stream d.consumer count sequence consumer_sequence time pending d
    → delivered_of d.stream d.consumer count sequence consumer_sequence time pending ≡ Ok d
unfolding delivered_of
they_are d count sequence consumer_sequence time pending a =
    let c = number_read 4 (number_of count) a.count_is in
    let f = number_read 6 (number_of consumer_sequence) a.consumer_sequence_is in
    let g = number_read 7 (number_of time) a.time_is in
    let i = number_read 8 (number_of pending) a.pending_is in
    rw (a.stream_is, a.consumer_is, c.1, a.sequence_is, f.1, g.1, i.1) refl

-- ---- the nine

spelled : (subject js ack stream consumer count sequence consumer_sequence time pending : Bytes) (d : Delivered)
    → tokens subject ≡ js ∷ ack ∷ stream ∷ consumer ∷ count ∷ sequence ∷ consumer_sequence ∷ time ∷ pending ∷ []
    → js ≡ codes "$JS" → ack ≡ codes "ACK" → Are stream consumer count sequence consumer_sequence time pending d → SpellsSubject subject d
spelled subject js ack stream consumer count sequence consumer_sequence time pending d e first second a =
    let s = same_name stream d.stream a.stream_is in
    let c = same_name consumer d.consumer a.consumer_is in
    record {
      count = count;
      sequence = sequence;
      consumer_sequence = consumer_sequence;
      time = time;
      pending = pending;
      spelled = rw (sym first, sym second, sym s, sym c) e;
      stream_is = rw (sym s) (a.stream_is ∙ ap Ok (sym s));
      consumer_is = rw (sym c) (a.consumer_is ∙ ap Ok (sym c));
      count_is = a.count_is;
      sequence_is = a.sequence_is;
      consumer_sequence_is = a.consumer_sequence_is;
      time_is = a.time_is;
      pending_is = a.pending_is;
    }

nine : (subject js ack stream consumer count sequence consumer_sequence time pending : Bytes) (d : Delivered)
    → tokens subject ≡ js ∷ ack ∷ stream ∷ consumer ∷ count ∷ sequence ∷ consumer_sequence ∷ time ∷ pending ∷ []
    → read_tokens (js ∷ ack ∷ stream ∷ consumer ∷ count ∷ sequence ∷ consumer_sequence ∷ time ∷ pending ∷ []) ≡ Ok d → SpellsSubject subject d
nine subject js ack stream consumer count sequence consumer_sequence time pending d e h = by (same js (codes "$JS")) (same ack (codes "ACK")) refl refl h
  where
    by : (first second : Bool) → same js (codes "$JS") ≡ first → same ack (codes "ACK") ≡ second
        → (if first && second then delivered_of stream consumer count sequence consumer_sequence time pending else Err NotAck) ≡ Ok d → SpellsSubject subject d
    by true true f s h =
        spelled subject js ack stream consumer count sequence consumer_sequence time pending d e (same_is js (codes "$JS") f) (same_is ack (codes "ACK") s)
        (are stream consumer count sequence consumer_sequence time pending d h)
    by true false f s h = absurd (cc)
    by false second f s h = absurd (cc)

to_grammar : (subject : Bytes) (d : Delivered) (ts : List Bytes) → tokens subject ≡ ts → read_tokens ts ≡ Ok d → SpellsSubject subject d
to_grammar subject d [] e h = absurd (cc)
to_grammar subject d (_ ∷ []) e h = absurd (cc)
to_grammar subject d (_ ∷ _ ∷ []) e h = absurd (cc)
to_grammar subject d (_ ∷ _ ∷ _ ∷ []) e h = absurd (cc)
to_grammar subject d (_ ∷ _ ∷ _ ∷ _ ∷ []) e h = absurd (cc)
to_grammar subject d (_ ∷ _ ∷ _ ∷ _ ∷ _ ∷ []) e h = absurd (cc)
to_grammar subject d (_ ∷ _ ∷ _ ∷ _ ∷ _ ∷ _ ∷ []) e h = absurd (cc)
to_grammar subject d (_ ∷ _ ∷ _ ∷ _ ∷ _ ∷ _ ∷ _ ∷ []) e h = absurd (cc)
to_grammar subject d (_ ∷ _ ∷ _ ∷ _ ∷ _ ∷ _ ∷ _ ∷ _ ∷ []) e h = absurd (cc)
to_grammar subject d (js ∷ ack ∷ stream ∷ consumer ∷ count ∷ sequence ∷ consumer_sequence ∷ time ∷ pending ∷ []) e h =
    nine subject js ack stream consumer count sequence consumer_sequence time pending d e h
to_grammar subject d (_ ∷ _ ∷ _ ∷ _ ∷ _ ∷ _ ∷ _ ∷ _ ∷ _ ∷ _ ∷ _) e h = absurd (cc)

from_grammar : (subject : Bytes) (d : Delivered) → SpellsSubject subject d → subject_of subject ≡ Ok d
unfolding subject_of
from_grammar subject d s =
    let a : Are d.stream d.consumer s.count s.sequence s.consumer_sequence s.time s.pending d = record {
      stream_is = s.stream_is;
      consumer_is = s.consumer_is;
      count_is = s.count_is;
      sequence_is = s.sequence_is;
      consumer_sequence_is = s.consumer_sequence_is;
      time_is = s.time_is;
      pending_is = s.pending_is;
    } in
    rw (s.spelled) (they_are d s.count s.sequence s.consumer_sequence s.time s.pending a)

-- what is read of a subject has names and a number that are valid
pub delivered_is : (subject : Bytes) (d : Delivered) → subject_of subject ≡ Ok d → SpellsSubject subject d
unfolding subject_of
delivered_is subject d h = to_grammar subject d (tokens subject) refl h

small_number : (bad : Option ℕ) (value n : ℕ) → small_or bad value ≡ Ok n → is_number n ≡ true
small_number (Some at) value n h = absurd (cc)
small_number None value n h = by (nat_lt value (2 ^ 62)) refl h
  where
    by : (small : Bool) → nat_lt value (2 ^ 62) ≡ small → (if small then Ok value else Err TooBig) ≡ Ok n → is_number n ≡ true
    by true e h = let same : value ≡ n = cc in subst (λ (m : ℕ). nat_lt m (2 ^ 62) ≡ true) same e
    by false e h = absurd (cc)

pub small : (text : Bytes) (n : ℕ) → number_of text ≡ Ok n → is_number n ≡ true
small [] n h = absurd (cc)
small (byte ∷ more) n h = small_number (no_digit (byte ∷ more)) (value_of (byte ∷ more)) n h

pub law_subject : LawSubject
unfolding subject_of
law_subject subject d = (λ h. to_grammar subject d (tokens subject) refl h, from_grammar subject d)
