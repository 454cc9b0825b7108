-- What is read of the text of a line is what it says, both ways.
use Rattle.std.proofs.Common.{ℕ, ◌≡◌, ◌≤◌, Bool, true, false, ◌&&◌, cond, nat_le, List, [], ◌∷◌, ◌++◌, length, take, drop, Option, Some, None, refl, sym, ◌∙◌, ap, subst, arith}
use Rattle.std.specs.Prelude.{codes, ◌<◌, Result, Ok, Err, IfSome}
use Rattle.std.specs.List.{prefix_len}
use Rattle.std.proofs.lemmas.Bool.{and_parts, le-leb, leb-true}
use Rattle.std.proofs.lemmas.List.{take-append-drop, drop_at, length-append}
use Rattle.std.proofs.lemmas.List.Folds.{length-prefix_len}
use Rattle.js_base.specs.Bytes.{Bytes, is_blank}
use Rattle.js_base.specs.Decimal.{number_of}
use Rattle.js_base.specs.declared.decimal.DecFault.{DecFault}
use Rattle.nats_frames.specs.declared.fault.Fault.{Fault}
use Rattle.nats_frames.specs.declared.fault.Fault.TheVariants.{BadArgs}
use Rattle.nats_frames.specs.declared.verb.Verb.{Verb}
use Rattle.nats_frames.specs.declared.verb.Verb.TheVariants.{Connect, Pub, HPub, Sub, Unsub, Ping, Pong}
use Rattle.nats_frames.specs.Grammar.{is_solid, IsText, IsCall, IsNumber, listed, IsConnect, Says, Line, ConnectLine, PubLine, HPubLine, SubLine, UnsubLine, PingLine, PongLine}
use Rattle.nats_frames.specs.Reading.{fields_of, behind_blanks, connect_of, numbered, sized, headed, both_sized, limited, words_at, args_at, verb_of, pub_of, hpub_of, sub_of, unsub_of, bare_of}
use Rattle.nats_frames.proofs.FieldLemmas.{Stops, cut, solid_is}
use Rattle.nats_frames.proofs.Spelling.{blank_front, some_blank, fields_apart, fields_read, fields_spelled}
use Rattle.nats_frames.proofs.Naming.{name_of, verb_named, prefix_at, words_read}

-- ---- a call

-- the text is read by these fields
pub record Called (v : Verb) (fields : List Bytes) (words : Bytes) : Type 0 where
  pub rest : Bytes
  pub reads : words_at words ≡ args_at (Some v) rest
  pub are : fields_of rest ≡ fields

pub call_read : (v : Verb) (fields : List Bytes) (words : Bytes) → IsCall (name_of v) fields words → Called v fields words
call_read v fields words h =
    record {
      rest = h.rest;
      reads = ap words_at h.whole ∙ words_read v h.word h.rest h.named (fields_apart fields h.rest h.spelled);
      are = fields_read fields h.rest h.spelled;
    }

-- the text is so much of a name, and then the rest
pub record Begins (v : Verb) (words rest : Bytes) : Type 0 where
  pub word : Bytes
  pub named : verb_of word ≡ Some v
  pub apart : Stops is_solid rest
  pub whole : words ≡ word ++ rest

pub call_found : (v : Verb) (words rest : Bytes) → Begins v words rest → IsCall (name_of v) (fields_of rest) words
call_found v words rest h =
    record { word = h.word; rest = rest; named = verb_named h.word v h.named; spelled = fields_spelled rest h.apart; whole = h.whole }

-- ---- CONNECT

starts : (text : Bytes) → IsText text → Stops is_blank text
starts [] h = absurd h
starts (b ∷ text) h = solid_is b h

text_read : (text : Bytes) → IsText text → connect_of text ≡ Ok (ConnectLine text)
text_read [] h = absurd h
text_read (b ∷ text) h = refl

connect_read : (text words : Bytes) → IsConnect text words → words_at words ≡ Ok (ConnectLine text)
unfolding args_at
connect_read text words h =
    ap words_at h.whole ∙ words_read Connect h.word (h.gap ++ text) h.named (blank_front h.gap text h.apart)
    ∙ ap connect_of (ap (λ n. drop n (h.gap ++ text)) (prefix_at is_blank h.gap text h.apart.blank (starts text h.has_text)) ∙ drop_at h.gap text (length h.gap) refl)
    ∙ text_read text h.has_text

-- ---- what a text says is read

pub_fields : (subject : Bytes) (reply : Option Bytes) (digits : Bytes) (size : ℕ) → number_of digits ≡ Ok size →
    pub_of (subject ∷ listed reply ++ digits ∷ []) ≡ Ok (PubLine subject reply size)
pub_fields subject None digits size e = ap (numbered (λ n. Ok (PubLine subject None n))) e
pub_fields subject (Some reply) digits size e = ap (numbered (λ n. Ok (PubLine subject (Some reply) n))) e

both_fields : (subject : Bytes) (reply : Option Bytes) (first second : Bytes) (header size : ℕ) → number_of first ≡ Ok header → number_of second ≡ Ok size → header ≤ size →
    both_sized subject reply first second ≡ Ok (HPubLine subject reply header size)
both_fields subject reply first second header size e f le =
    ap (numbered (λ n. numbered (headed subject reply n) (number_of second))) e ∙ ap (numbered (headed subject reply header)) f
    ∙ ap (λ t. cond t (Ok (HPubLine subject reply header size)) (Err BadArgs)) (le-leb header size le)

hpub_fields : (subject : Bytes) (reply : Option Bytes) (first second : Bytes) → hpub_of (subject ∷ listed reply ++ first ∷ second ∷ []) ≡ both_sized subject reply first second
hpub_fields subject None first second = refl
hpub_fields subject (Some reply) first second = refl

sub_fields : (subject : Bytes) (queue : Option Bytes) (sid : Bytes) → IfSome queue (λ text. length text ≤ 1024) → length sid ≤ 256 →
    sub_of (subject ∷ listed queue ++ sid ∷ []) ≡ Ok (SubLine subject queue sid)
sub_fields subject None sid q s = ap (λ t. cond t (Ok (SubLine subject None sid)) (Err BadArgs)) (le-leb (length sid) 256 s)
sub_fields subject (Some queue) sid q s = rw (le-leb (length queue) 1024 q, le-leb (length sid) 256 s) refl

unsub_fields : (sid : Bytes) (digits : Option Bytes) (max : Option ℕ) → IsNumber digits max → length sid ≤ 256 → unsub_of (sid ∷ listed digits) ≡ Ok (UnsubLine sid max)
unsub_fields sid None None n s = ap (λ t. cond t (Ok (UnsubLine sid None)) (Err BadArgs)) (le-leb (length sid) 256 s)
unsub_fields sid None (Some max) n s = absurd n
unsub_fields sid (Some digits) None n s = absurd n
unsub_fields sid (Some digits) (Some max) n s =
    ap (λ t. cond t (limited sid digits) (Err BadArgs)) (le-leb (length sid) 256 s) ∙ ap (numbered (λ m. Ok (UnsubLine sid (Some m)))) n

pub says_read : (said : Line) (words : Bytes) → Says said words → words_at words ≡ Ok said
unfolding args_at
says_read (ConnectLine text) words h = connect_read text words h
says_read (PubLine subject reply size) words h =
    let c = call_read Pub (subject ∷ listed reply ++ h.digits ∷ []) words h.spelled in
    c.reads ∙ ap pub_of c.are ∙ pub_fields subject reply h.digits size h.number
says_read (HPubLine subject reply header size) words h =
    let c = call_read HPub (subject ∷ listed reply ++ h.header_digits ∷ h.digits ∷ []) words h.spelled in
    c.reads ∙ ap hpub_of c.are ∙ hpub_fields subject reply h.header_digits h.digits
    ∙ both_fields subject reply h.header_digits h.digits header size h.header_number h.number h.part
says_read (SubLine subject queue sid) words h =
    let c = call_read Sub (subject ∷ listed queue ++ sid ∷ []) words h.spelled in
    c.reads ∙ ap sub_of c.are ∙ sub_fields subject queue sid h.short_queue h.short_sid
says_read (UnsubLine sid max) words h =
    let c = call_read Unsub (sid ∷ listed h.digits) words h.spelled in
    c.reads ∙ ap unsub_of c.are ∙ unsub_fields sid h.digits max h.number h.short_sid
says_read PingLine words h = let c = call_read Ping [] words h in c.reads ∙ ap (bare_of PingLine) c.are
says_read PongLine words h = let c = call_read Pong [] words h in c.reads ∙ ap (bare_of PongLine) c.are

-- ---- what is read is said

-- a number was read
counted_as : (line : ℕ → Result Line Fault) (digits : Result ℕ DecFault) (said : Line) → numbered line digits ≡ Ok said → (n : ℕ) × (digits ≡ Ok n) × (line n ≡ Ok said)
counted_as line (Ok n) said e = (n, refl, e)
counted_as line (Err fault) said e = absurd (cc)

allowed : (t : Bool) (made : Result Line Fault) (said : Line) → cond t made (Err BadArgs) ≡ Ok said → (t ≡ true) × (made ≡ Ok said)
allowed true made said e = (refl, e)
allowed false made said e = absurd (cc)

abbrev fine : Line → Result Line Fault
fine line = Ok line

it_says : (words : Bytes) (made said : Line) → fine made ≡ fine said → Says made words → Says said words
it_says words made said e h = let is : made ≡ said = cc in subst (λ (l : Line). Says l words) is h

sized_found : (subject : Bytes) (reply : Option Bytes) (digits words : Bytes) (said : Line) → IsCall (codes "PUB") (subject ∷ listed reply ++ digits ∷ []) words →
    sized subject reply digits ≡ Ok said → Says said words
sized_found subject reply digits words said call e =
    let n = counted_as (λ size. Ok (PubLine subject reply size)) (number_of digits) said e in
    it_says words (PubLine subject reply n.0) said n.2 (record { digits = digits; spelled = call; number = n.1 })

pub_found : (fields : List Bytes) (words : Bytes) (said : Line) → IsCall (codes "PUB") fields words → pub_of fields ≡ Ok said → Says said words
pub_found [] words said call e = absurd (cc)
pub_found (a ∷ []) words said call e = absurd (cc)
pub_found (a ∷ b ∷ []) words said call e = sized_found a None b words said call e
pub_found (a ∷ b ∷ c ∷ []) words said call e = sized_found a (Some b) c words said call e
pub_found (a ∷ b ∷ c ∷ d ∷ more) words said call e = absurd (cc)

both_found : (subject : Bytes) (reply : Option Bytes) (first second words : Bytes) (said : Line) → IsCall (codes "HPUB") (subject ∷ listed reply ++ first ∷ second ∷ []) words →
    both_sized subject reply first second ≡ Ok said → Says said words
both_found subject reply first second words said call e =
    let h = counted_as (λ n. numbered (headed subject reply n) (number_of second)) (number_of first) said e in
    let n = counted_as (headed subject reply h.0) (number_of second) said h.2 in
    let fits = allowed (nat_le h.0 n.0) (Ok (HPubLine subject reply h.0 n.0)) said n.2 in
    it_says words (HPubLine subject reply h.0 n.0) said fits.1
    (record { header_digits = first; digits = second; spelled = call; header_number = h.1; number = n.1; part = leb-true h.0 n.0 fits.0 })

hpub_found : (fields : List Bytes) (words : Bytes) (said : Line) → IsCall (codes "HPUB") fields words → hpub_of fields ≡ Ok said → Says said words
hpub_found [] words said call e = absurd (cc)
hpub_found (a ∷ []) words said call e = absurd (cc)
hpub_found (a ∷ b ∷ []) words said call e = absurd (cc)
hpub_found (a ∷ b ∷ c ∷ []) words said call e = both_found a None b c words said call e
hpub_found (a ∷ b ∷ c ∷ d ∷ []) words said call e = both_found a (Some b) c d words said call e
hpub_found (a ∷ b ∷ c ∷ d ∷ f ∷ more) words said call e = absurd (cc)

sub_found : (fields : List Bytes) (words : Bytes) (said : Line) → IsCall (codes "SUB") fields words → sub_of fields ≡ Ok said → Says said words
sub_found [] words said call e = absurd (cc)
sub_found (a ∷ []) words said call e = absurd (cc)
sub_found (a ∷ b ∷ []) words said call e =
    let p = allowed (nat_le (length b) 256) (Ok (SubLine a None b)) said e in
    it_says words (SubLine a None b) said p.1 (record { spelled = call; short_queue = tt; short_sid = leb-true (length b) 256 p.0 })
sub_found (a ∷ b ∷ c ∷ []) words said call e =
    let p = allowed (nat_le (length b) 1024 && nat_le (length c) 256) (Ok (SubLine a (Some b) c)) said e in
    let both = and_parts (nat_le (length b) 1024) (nat_le (length c) 256) p.0 in
    it_says words (SubLine a (Some b) c) said p.1
    (record { spelled = call; short_queue = leb-true (length b) 1024 both.0; short_sid = leb-true (length c) 256 both.1 })
sub_found (a ∷ b ∷ c ∷ d ∷ more) words said call e = absurd (cc)

unsub_found : (fields : List Bytes) (words : Bytes) (said : Line) → IsCall (codes "UNSUB") fields words → unsub_of fields ≡ Ok said → Says said words
unsub_found [] words said call e = absurd (cc)
unsub_found (a ∷ []) words said call e =
    let p = allowed (nat_le (length a) 256) (Ok (UnsubLine a None)) said e in
    it_says words (UnsubLine a None) said p.1 (record { digits = None; spelled = call; number = tt; short_sid = leb-true (length a) 256 p.0 })
unsub_found (a ∷ b ∷ []) words said call e =
    let p = allowed (nat_le (length a) 256) (limited a b) said e in
    let n = counted_as (λ max. Ok (UnsubLine a (Some max))) (number_of b) said p.1 in
    it_says words (UnsubLine a (Some n.0)) said n.2 (record { digits = Some b; spelled = call; number = n.1; short_sid = leb-true (length a) 256 p.0 })
unsub_found (a ∷ b ∷ c ∷ more) words said call e = absurd (cc)

bare_found : (line : Line) (fields : List Bytes) (words : Bytes) (said : Line) → ((none : fields ≡ []) → Says line words) → bare_of line fields ≡ Ok said → Says said words
bare_found line [] words said says e = it_says words line said e (says refl)
bare_found line (a ∷ more) words said says e = absurd (cc)

-- the blanks after a name are a gap if a text follows them
connect_found : (words rest text : Bytes) (said : Line) → Begins Connect words rest → behind_blanks rest ≡ text → connect_of text ≡ Ok said → Says said words
connect_found words rest [] said h is e = absurd (cc)
connect_found words rest (b ∷ text) said h is e =
    let blanks = prefix_len is_blank rest in
    let c = cut is_blank rest in
    let apart : rest ≡ take blanks rest ++ (b ∷ text) = sym (take-append-drop blanks rest) ∙ ap (λ r. take blanks rest ++ r) is in
    let some : 0 < length rest = omega (arith, ap length apart, length-append (take blanks rest) (b ∷ text)) in
    it_says words (ConnectLine (b ∷ text)) said e
    (record {
      word = h.word;
      gap = take blanks rest;
      named = verb_named h.word Connect h.named;
      apart = record { some = omega (arith, length-prefix_len is_blank rest, some_blank rest h.apart some); blank = c.passes };
      has_text = solid_again b (subst (Stops is_blank) is c.stops);
      whole = h.whole ∙ ap (λ r. h.word ++ r) apart;
    })
  where
    solid_again : (b : ℕ) → is_blank b ≡ false → is_solid b ≡ true
    solid_again b h = rw h refl

args_found : (v : Verb) (words rest : Bytes) (said : Line) → Begins v words rest → args_at (Some v) rest ≡ Ok said → Says said words
unfolding args_at
args_found Connect words rest said h e = connect_found words rest (behind_blanks rest) said h refl e
args_found Pub words rest said h e = pub_found (fields_of rest) words said (call_found Pub words rest h) e
args_found HPub words rest said h e = hpub_found (fields_of rest) words said (call_found HPub words rest h) e
args_found Sub words rest said h e = sub_found (fields_of rest) words said (call_found Sub words rest h) e
args_found Unsub words rest said h e = unsub_found (fields_of rest) words said (call_found Unsub words rest h) e
args_found Ping words rest said h e =
    bare_found PingLine (fields_of rest) words said (λ none. subst (λ (f : List Bytes). IsCall (codes "PING") f words) none (call_found Ping words rest h)) e
args_found Pong words rest said h e =
    bare_found PongLine (fields_of rest) words said (λ none. subst (λ (f : List Bytes). IsCall (codes "PONG") f words) none (call_found Pong words rest h)) e

named_found : (words word rest : Bytes) (o : Option Verb) (said : Line) → verb_of word ≡ o → Stops is_solid rest → words ≡ word ++ rest → args_at o rest ≡ Ok said → Says said words
unfolding args_at
named_found words word rest None said is apart whole e = absurd (cc)
named_found words word rest (Some v) said is apart whole e = args_found v words rest said (record { word = word; named = is; apart = apart; whole = whole }) e

pub read_says : (said : Line) (words : Bytes) → words_at words ≡ Ok said → Says said words
unfolding words_at
read_says said words e =
    let len = prefix_len is_solid words in
    named_found words (take len words) (drop len words) (verb_of (take len words)) said refl (cut is_solid words).stops (sym (take-append-drop len words)) e
