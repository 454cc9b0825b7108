-- A subject is read as a call exactly if it is spelled as one.
use Rattle.std.proofs.Common.{◌≡◌, Bool, true, false, not, ◌&&◌, nat_eq, ◌++◌, length, take, drop, Option, Some, None, option_map, refl, sym, ap, ◌∙◌, subst, if◌then◌else◌, take-append-drop}
use Rattle.std.specs.List.{starts_with}
use Rattle.std.specs.Option.{option_or}
use Rattle.std.specs.Str.{bytes_eq}
use Rattle.std.proofs.lemmas.Slice.Eq.{bytes_eq-Decides}
use Rattle.std.proofs.Math.Seq.{take-append_seam, drop-append_seam}
use Rattle.js_base.specs.Bytes.{Bytes, same, has}
use Rattle.api_requests.specs.declared.call.GeneralCall.{GeneralCall}
use Rattle.api_requests.specs.declared.call.GeneralCall.TheVariants as general
use Rattle.api_requests.specs.declared.call.StreamCall.{StreamCall}
use Rattle.api_requests.specs.declared.call.StreamCall.TheVariants as stream
use Rattle.api_requests.specs.Calls.{general_call, token_behind, called, setup_call, message_call, consumers_call, stream_call}
use Rattle.api_requests.specs.Words.{general_words, stream_words}
use Rattle.api_requests.specs.Laws.{IsCallOn, LawGeneral, LawOnStream}

-- ---- calls on no stream of their own

general_again : (call : GeneralCall) → general_call (general_words call) ≡ Some call
general_again general.AccountInfo = refl
general_again general.StreamNames = refl
general_again general.StreamList = refl

same_is : (a b : Bytes) → same a b ≡ true → a ≡ b
same_is a b h = (bytes_eq-Decides a b).0 h

by_tests : (subject : Bytes) (call : GeneralCall) (info names list : Bool)
    → same subject (general_words general.AccountInfo) ≡ info → same subject (general_words general.StreamNames) ≡ names → same subject (general_words general.StreamList) ≡ list
    → ◌≡◌ {A = Option GeneralCall} (if info then Some general.AccountInfo else if names then Some general.StreamNames else if list then Some general.StreamList else None) (Some call)
    → subject ≡ general_words call
by_tests subject call true names list a b c is =
    let found : general.AccountInfo ≡ call = cc in
    subst (λ (x : GeneralCall). subject ≡ general_words x) found (same_is subject _ a)
by_tests subject call false true list a b c is =
    let found : general.StreamNames ≡ call = cc in
    subst (λ (x : GeneralCall). subject ≡ general_words x) found (same_is subject _ b)
by_tests subject call false false true a b c is =
    let found : general.StreamList ≡ call = cc in
    subst (λ (x : GeneralCall). subject ≡ general_words x) found (same_is subject _ c)
by_tests subject call false false false a b c is = cc

pub general_spelled : LawGeneral
general_spelled subject call = (
  λ read. by_tests subject call _ _ _ refl refl refl read,
  λ spelled. subst (λ (s : Bytes). general_call s ≡ Some call) (sym spelled) (general_again call),
)

-- ---- calls on one stream

-- the token behind these words
record Behind (words subject token : Bytes) : Type 0 where
  pub spelled : subject ≡ words ++ token
  pub one : has token 46 ≡ false

behind_by : (words subject token : Bytes) (begins dotted : Bool) → starts_with nat_eq subject words ≡ begins → has (drop (length words) subject) 46 ≡ dotted
    → ◌≡◌ {A = Option Bytes} (if begins && not dotted then Some (drop (length words) subject) else None) (Some token) → Behind words subject token
behind_by words subject token true false begins dotted is =
    let found : drop (length words) subject ≡ token = cc in
    let front : words ≡ take (length words) subject = (bytes_eq-Decides words (take (length words) subject)).0 begins in
    let whole : subject ≡ words ++ drop (length words) subject = sym (take-append-drop (length words) subject) ∙ ap (λ xs. xs ++ drop (length words) subject) (sym front) in
    subst (λ (t : Bytes). Behind words subject t) found (record { spelled = whole; one = dotted })
behind_by words subject token true true begins dotted is = cc
behind_by words subject token false dots begins dotted is = cc

behind : (words subject token : Bytes) → token_behind words subject ≡ Some token → Behind words subject token
behind words subject token is = behind_by words subject token _ _ refl refl is

both_tests : (begins dotted : Bool) (found token : Bytes) → begins ≡ true → dotted ≡ false → found ≡ token → ◌≡◌ {A = Option Bytes} (if begins && not dotted then Some found else None) (Some token)
both_tests begins dotted found token one two three = rw (one, two, three) refl

behind_again : (words token : Bytes) → has token 46 ≡ false → token_behind words (words ++ token) ≡ Some token
behind_again words token one =
    let front : take (length words) (words ++ token) ≡ words = take-append_seam words token in
    let left : drop (length words) (words ++ token) ≡ token = drop-append_seam words token in
    both_tests _ _ _ token
    (ap (bytes_eq words) front ∙ (bytes_eq-Decides words words).1 refl)
    (ap (λ t. has t 46) left ∙ one)
    left

-- if the first call is not it, the others are
called_or : (first call : StreamCall) (subject token : Bytes) (found : Option Bytes) (others : Option (StreamCall × Bytes)) → token_behind (stream_words first) subject ≡ found
    → option_or (option_map (λ t. (first, t)) found) others ≡ Some (call, token) → (others ≡ Some (call, token) → IsCallOn call token subject) → IsCallOn call token subject
called_or first call subject token None others read is more = more is
called_or first call subject token (Some t) others read is more =
    let pair : ◌≡◌ {A = StreamCall × Bytes} (first, t) (call, token) = cc in
    let one : first ≡ call = ap (λ (x : StreamCall × Bytes). x.0) pair in
    let other : t ≡ token = ap (λ (x : StreamCall × Bytes). x.1) pair in
    let b = behind (stream_words first) subject t read in
    let made : IsCallOn first t subject = record { spelled = b.spelled; one = b.one } in
    subst (λ (x : Bytes). IsCallOn call x subject) other (subst (λ (x : StreamCall). IsCallOn x t subject) one made)

last_call : (first call : StreamCall) (subject token : Bytes) → called first subject ≡ Some (call, token) → IsCallOn call token subject
last_call first call subject token is = called_or first call subject token _ None refl (or_none _ is) (λ none. cc)
  where
    or_none : (o : Option (StreamCall × Bytes)) → o ≡ Some (call, token) → option_or o None ≡ Some (call, token)
    or_none None is = is
    or_none (Some x) is = is

one_of_both : {P : Type 0} (a b : Option (StreamCall × Bytes)) (x : StreamCall × Bytes) → option_or a b ≡ Some x → (a ≡ Some x → P) → (b ≡ Some x → P) → P
one_of_both (Some y) b x is first second = first is
one_of_both None b x is first second = second is

-- the calls behind those on a stream as a whole
abbrev behind_setup : Bytes → Option (StreamCall × Bytes)
behind_setup subject = option_or (message_call subject) (consumers_call subject)

read_call : (subject token : Bytes) (call : StreamCall) → stream_call subject ≡ Some (call, token) → IsCallOn call token subject
read_call subject token call is =
    one_of_both (setup_call subject) (behind_setup subject) (call, token) is
    (λ setup. called_or stream.Create call subject token _ _ refl setup
    (λ update. called_or stream.Update call subject token _ _ refl update
    (λ info. called_or stream.Info call subject token _ _ refl info (last_call stream.Delete call subject token))))
    (λ others. one_of_both (message_call subject) (consumers_call subject) (call, token) others
    (λ message. called_or stream.Purge call subject token _ _ refl message
    (λ get. called_or stream.MsgGet call subject token _ _ refl get (last_call stream.MsgDelete call subject token)))
    (λ consumers. called_or stream.ConsumerNames call subject token _ _ refl consumers
    (λ list. called_or stream.ConsumerList call subject token _ _ refl list (last_call stream.ConsumerCreate call subject token))))

-- one of the calls in its place
tagged : StreamCall → Option Bytes → Option (StreamCall × Bytes)
tagged call token = option_map (λ t. (call, t)) token

-- the other calls, behind the first one
abbrev behind_create : Bytes → Option (StreamCall × Bytes)
behind_create subject = option_or (called stream.Update subject) (option_or (called stream.Info subject) (called stream.Delete subject))

abbrev behind_update : Bytes → Option (StreamCall × Bytes)
behind_update subject = option_or (called stream.Info subject) (called stream.Delete subject)

abbrev behind_purge : Bytes → Option (StreamCall × Bytes)
behind_purge subject = option_or (called stream.MsgGet subject) (called stream.MsgDelete subject)

abbrev behind_names : Bytes → Option (StreamCall × Bytes)
behind_names subject = option_or (called stream.ConsumerList subject) (called stream.ConsumerCreate subject)

again : (call : StreamCall) (token : Bytes) → has token 46 ≡ false → stream_call (stream_words call ++ token) ≡ Some (call, token)
unfolding tagged
again stream.Create token one =
    let subject = stream_words stream.Create ++ token in
    ap (λ (o : Option Bytes). option_or (option_or (tagged stream.Create o) (behind_create subject)) (behind_setup subject)) (behind_again (stream_words stream.Create) token one)
again stream.Update token one =
    let subject = stream_words stream.Update ++ token in
    ap (λ (o : Option Bytes). option_or (option_or (tagged stream.Update o) (behind_update subject)) (behind_setup subject)) (behind_again (stream_words stream.Update) token one)
again stream.Info token one =
    let subject = stream_words stream.Info ++ token in
    ap (λ (o : Option Bytes). option_or (option_or (tagged stream.Info o) (called stream.Delete subject)) (behind_setup subject)) (behind_again (stream_words stream.Info) token one)
again stream.Delete token one =
    let subject = stream_words stream.Delete ++ token in
    ap (λ (o : Option Bytes). option_or (tagged stream.Delete o) (behind_setup subject)) (behind_again (stream_words stream.Delete) token one)
again stream.Purge token one =
    let subject = stream_words stream.Purge ++ token in
    ap (λ (o : Option Bytes). option_or (option_or (tagged stream.Purge o) (behind_purge subject)) (consumers_call subject)) (behind_again (stream_words stream.Purge) token one)
again stream.MsgGet token one =
    let subject = stream_words stream.MsgGet ++ token in
    ap (λ (o : Option Bytes). option_or (option_or (tagged stream.MsgGet o) (called stream.MsgDelete subject)) (consumers_call subject)) (behind_again (stream_words stream.MsgGet) token one)
again stream.MsgDelete token one =
    let subject = stream_words stream.MsgDelete ++ token in
    ap (λ (o : Option Bytes). option_or (tagged stream.MsgDelete o) (consumers_call subject)) (behind_again (stream_words stream.MsgDelete) token one)
again stream.ConsumerNames token one =
    let subject = stream_words stream.ConsumerNames ++ token in
    ap (λ (o : Option Bytes). option_or (tagged stream.ConsumerNames o) (behind_names subject)) (behind_again (stream_words stream.ConsumerNames) token one)
again stream.ConsumerList token one =
    let subject = stream_words stream.ConsumerList ++ token in
    ap (λ (o : Option Bytes). option_or (tagged stream.ConsumerList o) (called stream.ConsumerCreate subject)) (behind_again (stream_words stream.ConsumerList) token one)
again stream.ConsumerCreate token one = ap (λ (o : Option Bytes). tagged stream.ConsumerCreate o) (behind_again (stream_words stream.ConsumerCreate) token one)

pub on_stream_spelled : LawOnStream
on_stream_spelled subject token call = (
  read_call subject token call,
  λ is. subst (λ (s : Bytes). stream_call s ≡ Some (call, token)) (sym is.spelled) (again call token is.one),
)
