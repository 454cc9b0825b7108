-- The reply subject of a delivery is spelled as an acknowledgement of its message.
use Rattle.std.proofs.Common.{◌≡◌, ◌<◌, ◌^◌, ℕ, Bool, true, false, cond, append_assoc, List, [], ◌∷◌, ◌++◌, Ok, codes, refl, sym, ap, ◌∙◌, IsOk, subst, arith, rules}
use Rattle.std.specs.Prelude.{decimal, ◌==◌, is_none, nat_le, nat_lt, length, Option, Some, None, Result}
use Rattle.std.specs.Char.{is_ascii_digit}
use Rattle.std.specs.List.{All, list_all, onto_first}
use Rattle.std.proofs.lemmas.Bool.{and_parts, true≢false}
use Rattle.std.proofs.lemmas.Bool.Decides.{nat_tests}
use Rattle.std.proofs.lemmas.Fmt.{digits_decimal}
use Rattle.std.proofs.lemmas.List.Elements.{All-cons}
use Rattle.std.proofs.lemmas.List.Splits.{length-slice_split, slice_split_none}
use Rattle.std.proofs.lemmas.Str.Parse.{IsNumeralModel, numerals_by_weight}
use Rattle.js_base.specs.Bytes.{Bytes}
use Rattle.js_base.specs.Decimal.{LawDecimal, value_of}
use Rattle.js_base.specs.Names.{first_bad, is_name_byte, name_of, unless_bad}
use Rattle.js_base.specs.Subjects.{tokens}
use Rattle.js_base.specs.declared.decimal.DecFault.{DecFault}
use Rattle.js_model.specs.Configs.{is_name}
use Rattle.js_model.specs.Counts.{pending_count}
use Rattle.js_model.specs.Deliver.{ack_subject}
use Rattle.js_base.proofs.Places.{none_fails}
use Rattle.js_model.proofs.NameTexts.{name_byte, name_parts}
use Rattle.ack_parse.specs.Laws.{LawSubject}
use Rattle.talk_laws.specs.Replying.{LawReplyRead}

-- ---- tokens without a dot

abbrev NoDot : Bytes → Type 0
NoDot text = All (λ byte. (byte == 46) ≡ false) text

none_is_dot : NoDot []
none_is_dot = λ k d less. absurd (omega (arith, less))

name_has_none : (text : Bytes) → list_all is_name_byte text ≡ true → NoDot text
name_has_none [] h = none_is_dot
name_has_none (byte ∷ more) h =
    let parts = and_parts (is_name_byte byte) (list_all is_name_byte more) h in
    All-cons (λ byte. (byte == 46) ≡ false) byte more (name_byte byte parts.0).no_dot (name_has_none more parts.1)

digit_no_dot : (byte : ℕ) → is_ascii_digit byte ≡ true → (byte == 46) ≡ false
digit_no_dot byte h = grind (arith, nat_tests)

digits_have_none : (text : Bytes) → list_all is_ascii_digit text ≡ true → NoDot text
digits_have_none [] h = none_is_dot
digits_have_none (byte ∷ more) h =
    let parts = and_parts (is_ascii_digit byte) (list_all is_ascii_digit more) h in
    All-cons (λ byte. (byte == 46) ≡ false) byte more (digit_no_dot byte parts.0) (digits_have_none more parts.1)

digits_weigh : IsNumeralModel (λ ds. list_all is_ascii_digit ds ≡ true) value_of
digits_weigh = numerals_by_weight _ (search rules) value_of (search rules)

number_has_none : (n : ℕ) → n < 2 ^ 62 → NoDot (decimal n)
number_has_none n small = digits_have_none (decimal n) (digits_decimal digits_weigh n (omega arith))

-- ---- names

unless_none : (bad : Option ℕ) (text : Bytes) → is_none bad ≡ true → unless_bad bad text ≡ Ok text
unless_none None text e = refl
unless_none (Some at) text e = absurd (true≢false (sym e))

within : (n : ℕ) → nat_le n 255 ≡ true → nat_lt 255 n ≡ false
within n h = grind (arith, nat_tests)

name_is_read : (name : Bytes) → is_name name ≡ true → name_of name ≡ Ok name
name_is_read [] h = absurd (true≢false (sym h))
name_is_read (byte ∷ more) h =
    let p = name_parts (byte ∷ more) h in
    rw (within (length (byte ∷ more)) p.short) (unless_none (first_bad (byte ∷ more)) (byte ∷ more) (none_fails is_name_byte (byte ∷ more) ∙ p.bytes))

-- ---- the tokens

some_tokens : (text : Bytes) → 0 < length (tokens text)
some_tokens text = omega (arith, length-slice_split (λ byte. byte == 46) text)

pushed : (dot : Bool) (byte : ℕ) (front back : List Bytes) → 0 < length front
    → cond dot ([] ∷ (front ++ back)) (onto_first byte (front ++ back)) ≡ cond dot ([] ∷ front) (onto_first byte front) ++ back
pushed true byte front back h = refl
pushed false byte [] back h = absurd (omega (arith, h))
pushed false byte (token ∷ front) back h = refl

-- those before a dot, and those behind it
split_at : (text rest : Bytes) → tokens (text ++ 46 ∷ rest) ≡ tokens text ++ tokens rest
split_at [] rest = refl
split_at (byte ∷ text) rest =
    ap (λ (l : List Bytes). cond (byte == 46) ([] ∷ l) (onto_first byte l)) (split_at text rest) ∙ pushed (byte == 46) byte (tokens text) (tokens rest) (some_tokens text)

-- one more token
with_token : (text token : Bytes) → NoDot token → tokens ((text ++ codes ".") ++ token) ≡ tokens text ++ token ∷ []
with_token text token h =
    ap tokens (append_assoc text (codes ".") token) ∙ split_at text token ∙ ap (λ (l : List Bytes). tokens text ++ l) (slice_split_none (λ byte. byte == 46) token h)

first_tokens : (stream : Bytes) → NoDot stream → tokens (codes "$JS.ACK." ++ stream) ≡ codes "$JS" ∷ codes "ACK" ∷ stream ∷ []
first_tokens stream h = ap (λ (l : List Bytes). codes "$JS" ∷ codes "ACK" ∷ l) (slice_split_none (λ byte. byte == 46) stream h)

-- one more token behind these
then_token : (text token : Bytes) (front : List Bytes) → NoDot token → tokens text ≡ front → tokens ((text ++ codes ".") ++ token) ≡ front ++ token ∷ []
then_token text token front h e = with_token text token h ∙ ap (λ (l : List Bytes). l ++ token ∷ []) e

is_ok : (n : ℕ) (r : Result ℕ DecFault) → r ≡ Ok n → IsOk r
is_ok n r e = subst (λ (x : Result ℕ DecFault). IsOk x) (sym e) refl

pub law_reply_read : LawDecimal → LawSubject → LawReplyRead
law_reply_read decimals subjects a c m count stream consumer n_count n_seq n_dseq n_at n_left =
    let s = a.config.name in
    let first : Bytes = codes "$JS.ACK." ++ s in
    let second : Bytes = (first ++ codes ".") ++ c.name in
    let third : Bytes = (second ++ codes ".") ++ decimal count in
    let fourth : Bytes = (third ++ codes ".") ++ decimal m.seq in
    let fifth : Bytes = (fourth ++ codes ".") ++ decimal c.dseq in
    let sixth : Bytes = (fifth ++ codes ".") ++ decimal m.at in
    let one = first_tokens s (name_has_none s (name_parts s stream).bytes) in
    let two = then_token first c.name _ (name_has_none c.name (name_parts c.name consumer).bytes) one in
    let three = then_token second (decimal count) _ (number_has_none count n_count) two in
    let four = then_token third (decimal m.seq) _ (number_has_none m.seq n_seq) three in
    let five = then_token fourth (decimal c.dseq) _ (number_has_none c.dseq n_dseq) four in
    let six = then_token fifth (decimal m.at) _ (number_has_none m.at n_at) five in
    let spelled = then_token sixth (decimal (pending_count a c)) _ (number_has_none (pending_count a c) n_left) six in
    (subjects (ack_subject a c m count) (record { stream = s; consumer = c.name; seq = m.seq })).1 (record {
      count = decimal count;
      sequence = decimal m.seq;
      consumer_sequence = decimal c.dseq;
      time = decimal m.at;
      pending = decimal (pending_count a c);
      spelled = spelled;
      stream_is = name_is_read s stream;
      consumer_is = name_is_read c.name consumer;
      count_is = is_ok count _ (decimals count n_count);
      sequence_is = decimals m.seq n_seq;
      consumer_sequence_is = is_ok c.dseq _ (decimals c.dseq n_dseq);
      time_is = is_ok m.at _ (decimals m.at n_at);
      pending_is = is_ok (pending_count a c) _ (decimals (pending_count a c) n_left);
    })
