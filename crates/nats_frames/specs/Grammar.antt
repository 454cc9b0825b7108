-- How operations are spelled, by the NATS client protocol: a line of a name and fields, and after the line of a publish its payload and
-- CR LF.
use Rattle.std.specs.Prelude.{ℕ, ◌≡◌, ◌≢◌, ◌+◌, ◌<◌, ◌≤◌, Bool, not, IsTrue, ◌⊎◌, List, [], ◌∷◌, ◌++◌, length, slice_index, codes, Option, None, Some, IfSome, Ok}
use Rattle.std.specs.List.{list_all, list_any}
use Rattle.std.specs.Str.{str_eq_ignore_ascii_case}
use Rattle.js_base.specs.Bytes.{Bytes, crlf, is_blank}
use Rattle.js_base.specs.Decimal.{number_of}
use Rattle.nats_frames.specs.declared.op.Op.{Op}
use Rattle.nats_frames.specs.declared.op.Op.TheVariants.{Connect, Pub, HPub, Sub, Unsub, Ping, Pong}
use Rattle.nats_frames.specs.declared.fault.Fault.{Fault}
use Rattle.nats_frames.specs.declared.fault.Fault.TheVariants.{UnknownOp, LineTooLong, BadArgs, PayloadTooBig, BadEnd}

-- ---- a line

-- no such byte is there
abbrev pub Lacks : ℕ → Bytes → Type 0
Lacks byte [] = Unit {0}
Lacks byte (b ∷ more) = (b ≢ byte) × Lacks byte more

-- it ends otherwise than by CR
abbrev pub EndsWithoutCr : Bytes → Type 0
EndsWithoutCr words = (front : Bytes) → words ≡ front ++ 13 ∷ [] → ⊥

-- CR LF, or an LF with no CR before it
abbrev pub IsLineEnd : Bytes → Bytes → Type 0
IsLineEnd words end = (end ≡ crlf) ⊎ ((end ≡ 10 ∷ []) × EndsWithoutCr words)

-- a line of this text, of at most 4,098 bytes
pub record IsLine (words line : Bytes) : Type 0 where
  pub end : Bytes
  pub ends : IsLineEnd words end
  pub whole : line ≡ words ++ end
  pub single : Lacks 10 words
  pub short : length line ≤ 4098

-- ---- its text

abbrev pub is_solid : ℕ → Bool
is_solid byte = not (is_blank byte)

-- one blank or more
pub record IsGap (gap : Bytes) : Type 0 where
  pub some : 0 < length gap
  pub blank : IsTrue (list_all is_blank gap)

-- one byte or more, of which none is a blank
pub record IsField (field : Bytes) : Type 0 where
  pub some : 0 < length field
  pub solid : IsTrue (list_all is_solid field)

-- the fields, each after a gap, and perhaps blanks at the end
abbrev pub SpellsFields : List Bytes → Bytes → Type 0
SpellsFields [] bytes = IsTrue (list_all is_blank bytes)
SpellsFields (field ∷ more) bytes = (gap rest : Bytes) × IsGap gap × IsField field × SpellsFields more rest × (bytes ≡ gap ++ (field ++ rest))

-- the word is the name, in any case
abbrev pub IsNamed : Bytes → Bytes → Type 0
IsNamed name word = IsTrue (str_eq_ignore_ascii_case word name)

-- the name, and fields after it
pub record IsCall (name : Bytes) (fields : List Bytes) (words : Bytes) : Type 0 where
  pub word : Bytes
  pub rest : Bytes
  pub named : IsNamed name word
  pub spelled : SpellsFields fields rest
  pub whole : words ≡ word ++ rest

-- a field that may be left out
abbrev pub listed : Option Bytes → List Bytes
listed None = []
listed (Some field) = field ∷ []

-- ---- what a line says

pub data Line : Type 0 where
  ConnectLine : Bytes → Line
  PubLine : Bytes → Option Bytes → ℕ → Line
  HPubLine : Bytes → Option Bytes → ℕ → ℕ → Line
  SubLine : Bytes → Option Bytes → Bytes → Line
  UnsubLine : Bytes → Option ℕ → Line
  PingLine : Line
  PongLine : Line

-- one byte or more, of which the first is no blank
abbrev pub IsText : Bytes → Type 0
IsText [] = ⊥
IsText (b ∷ _) = IsTrue (is_solid b)

-- `CONNECT text`, in which the text is all that follows the blanks
pub record IsConnect (text words : Bytes) : Type 0 where
  pub word : Bytes
  pub gap : Bytes
  pub named : IsNamed (codes "CONNECT") word
  pub apart : IsGap gap
  pub has_text : IsText text
  pub whole : words ≡ word ++ (gap ++ text)

-- `PUB subject [reply] size`
pub record IsPub (subject : Bytes) (reply : Option Bytes) (size : ℕ) (words : Bytes) : Type 0 where
  pub digits : Bytes
  pub spelled : IsCall (codes "PUB") (subject ∷ listed reply ++ digits ∷ []) words
  pub number : number_of digits ≡ Ok size

-- `HPUB subject [reply] header-size size`, in which the second size counts headers and payload
pub record IsHPub (subject : Bytes) (reply : Option Bytes) (header size : ℕ) (words : Bytes) : Type 0 where
  pub header_digits : Bytes
  pub digits : Bytes
  pub spelled : IsCall (codes "HPUB") (subject ∷ listed reply ++ header_digits ∷ digits ∷ []) words
  pub header_number : number_of header_digits ≡ Ok header
  pub number : number_of digits ≡ Ok size
  pub part : header ≤ size

-- a subscription's identifier has at most 256 bytes
abbrev pub IsSid : Bytes → Type 0
IsSid sid = length sid ≤ 256

-- `SUB subject [queue] sid`
pub record IsSub (subject : Bytes) (queue : Option Bytes) (sid words : Bytes) : Type 0 where
  pub spelled : IsCall (codes "SUB") (subject ∷ listed queue ++ sid ∷ []) words
  pub short_queue : IfSome queue (λ text. length text ≤ 1024)
  pub short_sid : IsSid sid

-- digits that may be left out, and their number
abbrev pub IsNumber : Option Bytes → Option ℕ → Type 0
IsNumber None None = Unit {0}
IsNumber None (Some _) = ⊥
IsNumber (Some _) None = ⊥
IsNumber (Some digits) (Some n) = number_of digits ≡ Ok n

-- `UNSUB sid [max]`
pub record IsUnsub (sid : Bytes) (max : Option ℕ) (words : Bytes) : Type 0 where
  pub digits : Option Bytes
  pub spelled : IsCall (codes "UNSUB") (sid ∷ listed digits) words
  pub number : IsNumber digits max
  pub short_sid : IsSid sid

-- the text says it
abbrev pub Says : Line → Bytes → Type 0
Says (ConnectLine text) words = IsConnect text words
Says (PubLine subject reply size) words = IsPub subject reply size words
Says (HPubLine subject reply header size) words = IsHPub subject reply header size words
Says (SubLine subject queue sid) words = IsSub subject queue sid words
Says (UnsubLine sid max) words = IsUnsub sid max words
Says PingLine words = IsCall (codes "PING") [] words
Says PongLine words = IsCall (codes "PONG") [] words

-- how many bytes after the line it counts
abbrev pub counted : Line → Option ℕ
counted (ConnectLine _) = None
counted (PubLine _ _ size) = Some size
counted (HPubLine _ _ _ size) = Some size
counted (SubLine _ _ _) = None
counted (UnsubLine _ _) = None
counted PingLine = None
counted PongLine = None

-- ---- operations

-- the line says it
pub record Tells (said : Line) (line : Bytes) : Type 0 where
  pub words : Bytes
  pub says : Says said words
  pub is_line : IsLine words line

-- a line, the bytes that it counts, at most 1,048,576, and CR LF
pub record Carries (said : Line) (body bytes : Bytes) : Type 0 where
  pub line : Bytes
  pub told : Tells said line
  pub small : length body ≤ 1048576
  pub whole : bytes ≡ line ++ (body ++ crlf)

-- the bytes are the operation's
abbrev pub Spells : Op → Bytes → Type 0
Spells (Connect text) bytes = Tells (ConnectLine text) bytes
Spells (Pub subject reply payload) bytes = Carries (PubLine subject reply (length payload)) payload bytes
Spells (HPub subject reply headers payload) bytes =
    Carries (HPubLine subject reply (length headers) (length headers + length payload)) (headers ++ payload) bytes
Spells (Sub subject queue sid) bytes = Tells (SubLine subject queue sid) bytes
Spells (Unsub sid max) bytes = Tells (UnsubLine sid max) bytes
Spells Ping bytes = Tells PingLine bytes
Spells Pong bytes = Tells PongLine bytes

-- no operation begins the bytes
abbrev pub BeginsNone : Bytes → Type 0
BeginsNone bytes = (op : Op) (front more : Bytes) → Spells op front → bytes ≡ front ++ more → ⊥

-- the bytes are spellings of the operations, one after the other, and then the rest
abbrev pub Fronts : Bytes → List Op → Bytes → Type 0
Fronts bytes [] rest = bytes ≡ rest
Fronts bytes (op ∷ ops) rest = (front more : Bytes) × Spells op front × (bytes ≡ front ++ more) × Fronts more ops rest

-- and in the rest no whole operation begins
abbrev pub Ops : Bytes → List Op → Bytes → Type 0
Ops bytes ops rest = Fronts bytes ops rest × BeginsNone rest

-- ---- faults

-- no line ends among the first 4,098 bytes
pub record HasNoLine (bytes : Bytes) : Type 0 where
  pub long : 4098 ≤ length bytes
  pub none : (k : ℕ) → k < 4098 → slice_index bytes k ≢ 10

-- the text of the first line
pub record HasWords (words bytes : Bytes) : Type 0 where
  pub line : Bytes
  pub more : Bytes
  pub is_line : IsLine words line
  pub whole : bytes ≡ line ++ more

-- nothing, or a blank and more
abbrev pub BeginsBlank : Bytes → Type 0
BeginsBlank [] = Unit {0}
BeginsBlank (b ∷ _) = IsTrue (is_blank b)

-- what comes before the first blank: nothing if a blank comes first
pub record IsFirstWord (word words : Bytes) : Type 0 where
  pub rest : Bytes
  pub solid : IsTrue (list_all is_solid word)
  pub apart : BeginsBlank rest
  pub whole : words ≡ word ++ rest

abbrev pub names : List Bytes
names = codes "CONNECT" ∷ codes "PUB" ∷ codes "HPUB" ∷ codes "SUB" ∷ codes "UNSUB" ∷ codes "PING" ∷ codes "PONG" ∷ []

abbrev pub is_name : Bytes → Bool
is_name word = list_any (str_eq_ignore_ascii_case word) names

-- the first line's name is that of no operation
pub record HasNoName (bytes : Bytes) : Type 0 where
  pub words : Bytes
  pub word : Bytes
  pub first : HasWords words bytes
  pub cut : IsFirstWord word words
  pub unknown : IsTrue (not (is_name word))

-- the first line has an operation's name, and says nothing
pub record HasBadArgs (bytes : Bytes) : Type 0 where
  pub words : Bytes
  pub word : Bytes
  pub first : HasWords words bytes
  pub cut : IsFirstWord word words
  pub known : IsTrue (is_name word)
  pub none : (said : Line) → Says said words → ⊥

-- the first line counts so many bytes, which are more than 1,048,576
pub record HasBigPayload (size : ℕ) (bytes : Bytes) : Type 0 where
  pub words : Bytes
  pub said : Line
  pub first : HasWords words bytes
  pub says : Says said words
  pub counts : counted said ≡ Some size
  pub big : 1048576 < size

-- the first byte that is not as in CR LF
abbrev pub IsWrongAt : Bytes → ℕ → Type 0
IsWrongAt [] place = ⊥
IsWrongAt (b ∷ []) place = (b ≢ 13) × (place ≡ 0)
IsWrongAt (b ∷ c ∷ _) place = ((b ≢ 13) × (place ≡ 0)) ⊎ ((b ≡ 13) × (c ≢ 10) × (place ≡ 1))

-- after the bytes that the first line counts there is no CR LF: the place is that of the first wrong byte
pub record HasBadEnd (place : ℕ) (bytes : Bytes) : Type 0 where
  pub said : Line
  pub line : Bytes
  pub body : Bytes
  pub tail : Bytes
  pub behind : ℕ
  pub told : Tells said line
  pub counts : counted said ≡ Some (length body)
  pub small : length body ≤ 1048576
  pub whole : bytes ≡ line ++ (body ++ tail)
  pub wrong : IsWrongAt tail behind
  pub place_is : place ≡ length line + length body + behind

-- the bytes begin with the fault. Each excludes those before it: a line, its name, its fields, its size, and then its payload's end.
abbrev pub IsFaulty : Fault → Bytes → Type 0
IsFaulty UnknownOp bytes = HasNoName bytes
IsFaulty LineTooLong bytes = HasNoLine bytes
IsFaulty BadArgs bytes = HasBadArgs bytes
IsFaulty (PayloadTooBig size) bytes = HasBigPayload size bytes
IsFaulty (BadEnd place) bytes = HasBadEnd place bytes
