-- Words that say nothing: without a name they are unknown, and else their fields are bad.
use Rattle.std.proofs.Common.{ℕ, ◌≡◌, ◌||◌, Bool, true, false, cond, nat_le, List, [], ◌∷◌, length, take, drop, Option, Some, None, refl, sym, ◌∙◌, ap}
use Rattle.std.specs.Prelude.{◌&&◌, is_some, Result, Ok, Err}
use Rattle.std.specs.List.{prefix_len}
use Rattle.std.specs.Str.{str_eq_ignore_ascii_case}
use Rattle.std.proofs.lemmas.List.{take-append-drop, take_at}
use Rattle.js_base.specs.Bytes.{Bytes}
use Rattle.js_base.specs.Decimal.{number_of}
use Rattle.js_base.specs.declared.decimal.DecFault.{DecFault}
use Rattle.nats_frames.specs.declared.fault.Fault.{Fault}
use Rattle.nats_frames.specs.declared.fault.Fault.TheVariants.{UnknownOp, BadArgs}
use Rattle.nats_frames.specs.declared.verb.Verb.{Verb}
use Rattle.nats_frames.specs.declared.verb.Verb.TheVariants.{Connect, Pub, HPub, Sub, Unsub, Ping, Pong}
use Rattle.nats_frames.specs.Grammar.{is_solid, BeginsBlank, IsFirstWord, is_name, Says, Line, ConnectLine, PubLine, HPubLine, SubLine, UnsubLine, PingLine, PongLine}
use Rattle.nats_frames.specs.Reading.{fields_of, is_sid, is_queue, behind_blanks, connect_of, numbered, headed, both_sized, limited, words_at, args_at, verb_of, pub_of, hpub_of, sub_of, unsub_of, bare_of}
use Rattle.nats_frames.proofs.FieldLemmas.{Stops, cut, blank_is}
use Rattle.nats_frames.proofs.Spelling.{not_solid}
use Rattle.nats_frames.proofs.Naming.{name_of, prefix_at}
use Rattle.nats_frames.proofs.Wording.{read_says}

-- ---- the first word

stops : (rest : Bytes) → BeginsBlank rest → Stops is_solid rest
stops [] h = tt
stops (b ∷ rest) h = not_solid b h

begins : (rest : Bytes) → Stops is_solid rest → BeginsBlank rest
begins [] h = tt
begins (b ∷ rest) h = blank_is b h

abbrev pub first_word : Bytes → Bytes
first_word words = take (prefix_len is_solid words) words

pub word_cut : (words : Bytes) → IsFirstWord (first_word words) words
word_cut words =
    let len = prefix_len is_solid words in
    let c = cut is_solid words in
    record { rest = drop len words; solid = c.passes; apart = begins (drop len words) c.stops; whole = sym (take-append-drop len words) }

word_again : (word words : Bytes) → IsFirstWord word words → first_word words ≡ word
word_again word words h =
    let len : prefix_len is_solid words ≡ length word =
    ap (prefix_len is_solid) h.whole ∙ prefix_at is_solid word h.rest h.solid (stops h.rest h.apart)
    in
    ap (λ n. take n words) len ∙ ap (take (length word)) h.whole ∙ take_at word h.rest (length word) refl

-- ---- its operation

or_else : (b : Bool) (v : Verb) (o : Option Verb) (t : Bool) → is_some o ≡ t → is_some (cond b (Some v) o) ≡ (b || t)
or_else true v o t e = refl
or_else false v o t e = e

-- a word is a name if it has an operation
named : (word : Bytes) → is_some (verb_of word) ≡ is_name word
named word =
    or_else (same Connect) Connect _ _ (or_else (same Pub) Pub _ _ (or_else (same HPub) HPub _ _ (or_else (same Sub) Sub _ _
    (or_else (same Unsub) Unsub _ _ (or_else (same Ping) Ping _ _ (or_else (same Pong) Pong None false refl))))))
  where
    same : Verb → Bool
    same v = str_eq_ignore_ascii_case word (name_of v)

first_named : (word words : Bytes) → IsFirstWord word words → is_some (verb_of (first_word words)) ≡ is_name word
first_named word words h = ap (λ w. is_some (verb_of w)) (word_again word words h) ∙ named word

-- ---- a name and bad fields

-- if it fails, it is by its fields
abbrev pub FailsByArgs : Result Line Fault → Type 0
FailsByArgs answer = (fault : Fault) → answer ≡ Err fault → fault ≡ BadArgs

made : (line : Line) → FailsByArgs (Ok line)
made line fault e = absurd (cc)

refused : FailsByArgs (Err BadArgs)
refused fault e = cc

tested : (t : Bool) (answer : Result Line Fault) → FailsByArgs answer → FailsByArgs (cond t answer (Err BadArgs))
tested true answer h = h
tested false answer h = refused

counted : (line : ℕ → Result Line Fault) (digits : Result ℕ DecFault) → ((n : ℕ) → FailsByArgs (line n)) → FailsByArgs (numbered line digits)
counted line (Ok n) h = h n
counted line (Err fault) h = refused

connect_args : (text : Bytes) → FailsByArgs (connect_of text)
connect_args [] = refused
connect_args (b ∷ text) = made (ConnectLine (b ∷ text))

pub_args : (fields : List Bytes) → FailsByArgs (pub_of fields)
pub_args [] = refused
pub_args (a ∷ []) = refused
pub_args (a ∷ b ∷ []) = counted (λ size. Ok (PubLine a None size)) (number_of b) (λ size. made (PubLine a None size))
pub_args (a ∷ b ∷ c ∷ []) = counted (λ size. Ok (PubLine a (Some b) size)) (number_of c) (λ size. made (PubLine a (Some b) size))
pub_args (a ∷ b ∷ c ∷ d ∷ more) = refused

both_args : (subject : Bytes) (reply : Option Bytes) (first second : Bytes) → FailsByArgs (both_sized subject reply first second)
both_args subject reply first second =
    counted (λ header. numbered (headed subject reply header) (number_of second)) (number_of first)
    (λ header. counted (headed subject reply header) (number_of second)
    (λ size. tested (nat_le header size) (Ok (HPubLine subject reply header size)) (made (HPubLine subject reply header size))))

hpub_args : (fields : List Bytes) → FailsByArgs (hpub_of fields)
hpub_args [] = refused
hpub_args (a ∷ []) = refused
hpub_args (a ∷ b ∷ []) = refused
hpub_args (a ∷ b ∷ c ∷ []) = both_args a None b c
hpub_args (a ∷ b ∷ c ∷ d ∷ []) = both_args a (Some b) c d
hpub_args (a ∷ b ∷ c ∷ d ∷ e ∷ more) = refused

sub_args : (fields : List Bytes) → FailsByArgs (sub_of fields)
sub_args [] = refused
sub_args (a ∷ []) = refused
sub_args (a ∷ b ∷ []) = tested (is_sid b) (Ok (SubLine a None b)) (made (SubLine a None b))
sub_args (a ∷ b ∷ c ∷ []) = tested (is_queue b && is_sid c) (Ok (SubLine a (Some b) c)) (made (SubLine a (Some b) c))
sub_args (a ∷ b ∷ c ∷ d ∷ more) = refused

unsub_args : (fields : List Bytes) → FailsByArgs (unsub_of fields)
unsub_args [] = refused
unsub_args (a ∷ []) = tested (is_sid a) (Ok (UnsubLine a None)) (made (UnsubLine a None))
unsub_args (a ∷ b ∷ []) =
    tested (is_sid a) (limited a b) (counted (λ max. Ok (UnsubLine a (Some max))) (number_of b) (λ max. made (UnsubLine a (Some max))))
unsub_args (a ∷ b ∷ c ∷ more) = refused

bare_args : (line : Line) (fields : List Bytes) → FailsByArgs (bare_of line fields)
bare_args line [] = made line
bare_args line (a ∷ more) = refused

verb_args : (v : Verb) (args : Bytes) → FailsByArgs (args_at (Some v) args)
unfolding args_at
verb_args Connect args = connect_args (behind_blanks args)
verb_args Pub args = pub_args (fields_of args)
verb_args HPub args = hpub_args (fields_of args)
verb_args Sub args = sub_args (fields_of args)
verb_args Unsub args = unsub_args (fields_of args)
verb_args Ping args = bare_args PingLine (fields_of args)
verb_args Pong args = bare_args PongLine (fields_of args)

-- ---- the fault of a text

no_operation : (o : Option Verb) (args : Bytes) → is_some o ≡ false → args_at o args ≡ Err UnknownOp
unfolding args_at
no_operation None args e = refl
no_operation (Some v) args e = absurd (cc)

an_operation : (o : Option Verb) (args : Bytes) → is_some o ≡ true → FailsByArgs (args_at o args)
an_operation None args e = absurd (cc)
an_operation (Some v) args e = verb_args v args

pub words_unknown : (word words : Bytes) → IsFirstWord word words → is_name word ≡ false → words_at words ≡ Err UnknownOp
unfolding words_at
words_unknown word words h e =
    no_operation (verb_of (first_word words)) (drop (prefix_len is_solid words) words) (first_named word words h ∙ e)

pub words_known : (word words : Bytes) → IsFirstWord word words → is_name word ≡ true → FailsByArgs (words_at words)
unfolding words_at
words_known word words h e =
    an_operation (verb_of (first_word words)) (drop (prefix_len is_solid words) words) (first_named word words h ∙ e)

-- a name after which nothing is said
pub words_bad : (word words : Bytes) → IsFirstWord word words → is_name word ≡ true → ((said : Line) → Says said words → ⊥) → words_at words ≡ Err BadArgs
words_bad word words h e none = by (words_at words) refl
  where
    by : (o : Result Line Fault) → words_at words ≡ o → o ≡ Err BadArgs
    by (Ok said) is = absurd (none said (read_says said words is))
    by (Err fault) is = ap (λ (f : Fault). Err f) (words_known word words h e fault is)
