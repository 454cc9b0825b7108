-- A subject is read as a call on a consumer exactly if it is spelled as one.
use Rattle.std.proofs.Common.{◌≡◌, Bool, true, false, nat_eq, ◌++◌, length, take, drop, Option, Some, None, option_map, refl, sym, ap, ◌∙◌, subst, if◌then◌else◌, take-append-drop}
use Rattle.std.specs.Prelude.{option_and_then}
use Rattle.std.specs.List.{starts_with}
use Rattle.std.specs.Option.{option_or}
use Rattle.std.specs.Str.{bytes_eq}
use Rattle.std.proofs.lemmas.Slice.Eq.{bytes_eq-Decides}
use Rattle.std.proofs.Math.Seq.{take-append_seam, drop-append_seam}
use Rattle.js_base.specs.Bytes.{Bytes}
use Rattle.api_requests.specs.declared.consumer_call.ConsumerCall.{ConsumerCall}
use Rattle.api_requests.specs.declared.consumer_call.ConsumerCall.TheVariants as consumer
use Rattle.api_requests.specs.Words.{consumer_words}
use Rattle.api_requests.specs.ConsumerCalls.{Tokens, tokens_of, is_allowed, allowed, behind, tokens_behind, called, creation_call, consumer_call}
use Rattle.api_requests.specs.Laws.{tokens_shown, IsCallOnConsumer, LawOnConsumer}
use Rattle.api_requests.proofs.Dots.{are_tokens, tokens_again}

-- ---- behind the words

behind_by : (words subject rest : Bytes) (begins : Bool) → starts_with nat_eq subject words ≡ begins
    → ◌≡◌ {A = Option Bytes} (if begins then Some (drop (length words) subject) else None) (Some rest) → subject ≡ words ++ rest
behind_by words subject rest true begins is =
    let found : drop (length words) subject ≡ rest = cc in
    let front : words ≡ take (length words) subject = (bytes_eq-Decides words (take (length words) subject)).0 begins in
    sym (take-append-drop (length words) subject) ∙ ap (λ xs. xs ++ drop (length words) subject) (sym front) ∙ ap (λ xs. words ++ xs) found
behind_by words subject rest false begins is = absurd (cc)

behind_is : (words subject rest : Bytes) → behind words subject ≡ Some rest → subject ≡ words ++ rest
behind_is words subject rest is = behind_by words subject rest _ refl is

either : (begins : Bool) (found rest : Bytes) → begins ≡ true → found ≡ rest → ◌≡◌ {A = Option Bytes} (if begins then Some found else None) (Some rest)
either begins found rest one two = rw (one, two) refl

behind_again : (words rest : Bytes) → behind words (words ++ rest) ≡ Some rest
behind_again words rest =
    either _ _ rest
    (ap (bytes_eq words) (take-append_seam words rest) ∙ (bytes_eq-Decides words words).1 refl)
    (drop-append_seam words rest)

-- ---- the tokens behind them

-- the call is spelled so, if it may be
record IfAllowed (call : ConsumerCall) (subject : Bytes) (tokens : Tokens) : Type 0 where
  made : is_allowed call tokens ≡ true → IsCallOnConsumer call tokens subject

if_allowed : (call : ConsumerCall) (subject : Bytes) (found tokens : Tokens) (may : Bool) → is_allowed call found ≡ may → IfAllowed call subject found
    → ◌≡◌ {A = Option Tokens} (if may then Some found else None) (Some tokens) → IsCallOnConsumer call tokens subject
if_allowed call subject found tokens true e spells is = let same : found ≡ tokens = cc in subst (λ (t : Tokens). IsCallOnConsumer call t subject) same (spells.made e)
if_allowed call subject found tokens false e spells is = absurd (cc)

by_tokens : (call : ConsumerCall) (subject rest : Bytes) (tokens : Tokens) (found : Option Tokens) → subject ≡ consumer_words call ++ rest → tokens_of rest ≡ found
    → option_and_then (allowed call) found ≡ Some tokens → IsCallOnConsumer call tokens subject
by_tokens call subject rest tokens None begins e is = absurd (cc)
by_tokens call subject rest tokens (Some found) begins e is =
    let are = are_tokens rest found e in
    if_allowed call subject found tokens (is_allowed call found) refl
    (record {
      made = λ may. record {
        spelled = begins ∙ ap (λ (x : Bytes). consumer_words call ++ x) are.spelled;
        one_stream = are.one_stream;
        one_consumer = are.one_consumer;
        allowed = may;
      };
    }) is

by_rest : (call : ConsumerCall) (subject : Bytes) (tokens : Tokens) (rest : Option Bytes) → behind (consumer_words call) subject ≡ rest
    → option_and_then (allowed call) (option_and_then tokens_of rest) ≡ Some tokens → IsCallOnConsumer call tokens subject
by_rest call subject tokens None e is = absurd (cc)
by_rest call subject tokens (Some rest) e is = by_tokens call subject rest tokens (tokens_of rest) (behind_is (consumer_words call) subject rest e) refl is

is_behind : (call : ConsumerCall) (subject : Bytes) (tokens : Tokens) → tokens_behind call subject ≡ Some tokens → IsCallOnConsumer call tokens subject
unfolding tokens_behind
is_behind call subject tokens is = by_rest call subject tokens (behind (consumer_words call) subject) refl is

may_have : (call : ConsumerCall) (tokens : Tokens) (may : Bool) → is_allowed call tokens ≡ may → may ≡ true → ◌≡◌ {A = Option Tokens} (if may then Some tokens else None) (Some tokens)
may_have call tokens true e is = refl
may_have call tokens false e is = absurd (cc)

behind_words : (call : ConsumerCall) (tokens : Tokens) (subject : Bytes) → IsCallOnConsumer call tokens subject → tokens_behind call (consumer_words call ++ tokens_shown tokens) ≡ Some tokens
unfolding tokens_behind
behind_words call tokens subject is =
    ap (λ (rest : Option Bytes). option_and_then (allowed call) (option_and_then tokens_of rest)) (behind_again (consumer_words call) (tokens_shown tokens))
    ∙ ap (λ (found : Option Tokens). option_and_then (allowed call) found) (tokens_again tokens is.one_stream is.one_consumer)
    ∙ may_have call tokens (is_allowed call tokens) refl is.allowed

-- ---- one call of them

-- if the first call is not it, the others are
called_or : (first call : ConsumerCall) (subject : Bytes) (tokens : Tokens) (found : Option Tokens) (others : Option (ConsumerCall × Tokens)) → tokens_behind first subject ≡ found
    → option_or (option_map (λ t. (first, t)) found) others ≡ Some (call, tokens) → (others ≡ Some (call, tokens) → IsCallOnConsumer call tokens subject) → IsCallOnConsumer call tokens subject
called_or first call subject tokens None others read is more = more is
called_or first call subject tokens (Some t) others read is more =
    let pair : ◌≡◌ {A = ConsumerCall × Tokens} (first, t) (call, tokens) = cc in
    let one : first ≡ call = ap (λ (x : ConsumerCall × Tokens). x.0) pair in
    let other : t ≡ tokens = ap (λ (x : ConsumerCall × Tokens). x.1) pair in
    let made = is_behind first subject t read in
    subst (λ (x : Tokens). IsCallOnConsumer call x subject) other (subst (λ (x : ConsumerCall). IsCallOnConsumer x t subject) one made)

last_call : (first call : ConsumerCall) (subject : Bytes) (tokens : Tokens) → called first subject ≡ Some (call, tokens) → IsCallOnConsumer call tokens subject
last_call first call subject tokens is = called_or first call subject tokens _ None refl (or_none _ is) (λ none. cc)
  where
    or_none : (o : Option (ConsumerCall × Tokens)) → o ≡ Some (call, tokens) → option_or o None ≡ Some (call, tokens)
    or_none None is = is
    or_none (Some x) is = is

one_of_both : {P : Type 0} (a b : Option (ConsumerCall × Tokens)) (x : ConsumerCall × Tokens) → option_or a b ≡ Some x → (a ≡ Some x → P) → (b ≡ Some x → P) → P
one_of_both (Some y) b x is first second = first is
one_of_both None b x is first second = second is

-- the other calls, behind those that make a consumer
abbrev behind_creation : Bytes → Option (ConsumerCall × Tokens)
behind_creation subject = option_or (called consumer.Info subject) (option_or (called consumer.Delete subject) (called consumer.MsgNext subject))

abbrev behind_info : Bytes → Option (ConsumerCall × Tokens)
behind_info subject = option_or (called consumer.Delete subject) (called consumer.MsgNext subject)

read_call : (subject : Bytes) (call : ConsumerCall) (tokens : Tokens) → consumer_call subject ≡ Some (call, tokens) → IsCallOnConsumer call tokens subject
read_call subject call tokens is =
    one_of_both (creation_call subject) (behind_creation subject) (call, tokens) is
    (λ creation. called_or consumer.Create call subject tokens _ _ refl creation (last_call consumer.DurableCreate call subject tokens))
    (λ others. called_or consumer.Info call subject tokens _ _ refl others
    (λ delete. called_or consumer.Delete call subject tokens _ _ refl delete (last_call consumer.MsgNext call subject tokens)))

-- one of the calls in its place
tagged : ConsumerCall → Option Tokens → Option (ConsumerCall × Tokens)
tagged call tokens = option_map (λ t. (call, t)) tokens

again : (call : ConsumerCall) (tokens : Tokens) (subject : Bytes) → IsCallOnConsumer call tokens subject → consumer_call (consumer_words call ++ tokens_shown tokens) ≡ Some (call, tokens)
unfolding tagged tokens_behind
again consumer.Create tokens subject is =
    let text = consumer_words consumer.Create ++ tokens_shown tokens in
    ap (λ (o : Option Tokens). option_or (option_or (tagged consumer.Create o) (called consumer.DurableCreate text)) (behind_creation text)) (behind_words consumer.Create tokens subject is)
again consumer.DurableCreate tokens subject is =
    let text = consumer_words consumer.DurableCreate ++ tokens_shown tokens in
    ap (λ (o : Option Tokens). option_or (tagged consumer.DurableCreate o) (behind_creation text)) (behind_words consumer.DurableCreate tokens subject is)
again consumer.Info tokens subject is =
    let text = consumer_words consumer.Info ++ tokens_shown tokens in
    ap (λ (o : Option Tokens). option_or (tagged consumer.Info o) (behind_info text)) (behind_words consumer.Info tokens subject is)
again consumer.Delete tokens subject is =
    let text = consumer_words consumer.Delete ++ tokens_shown tokens in
    ap (λ (o : Option Tokens). option_or (tagged consumer.Delete o) (called consumer.MsgNext text)) (behind_words consumer.Delete tokens subject is)
again consumer.MsgNext tokens subject is = ap (λ (o : Option Tokens). tagged consumer.MsgNext o) (behind_words consumer.MsgNext tokens subject is)

pub on_consumer_spelled : LawOnConsumer
on_consumer_spelled subject call tokens = (
  read_call subject call tokens,
  λ is. subst (λ (s : Bytes). consumer_call s ≡ Some (call, tokens)) (sym is.spelled) (again call tokens subject is),
)
