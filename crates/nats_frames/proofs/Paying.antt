-- What is read after a line that counts a payload.
use Rattle.std.proofs.Common.{ℕ, ◌≡◌, ◌+◌, ◌-◌, ◌<◌, ◌≤◌, [], ◌∷◌, ◌++◌, length, take, drop, refl, sym, ◌∙◌, ap, ap₂, arith, inl, inr, length-append}
use Rattle.std.specs.Prelude.{Some, None, option_map, Ok}
use Rattle.std.proofs.lemmas.Bool.{lt-ltb, le-ltb, cases_lt}
use Rattle.std.proofs.lemmas.List.{append-nil, take-append-drop, take-take, drop-drop, drop-take, drop_all, length-drop, nil_from_length}
use Rattle.js_base.specs.Bytes.{Bytes}
use Rattle.nats_frames.specs.declared.op.Op.{Op}
use Rattle.nats_frames.specs.declared.op.Op.TheVariants as op
use Rattle.nats_frames.specs.declared.fault.Fault.TheVariants.{PayloadTooBig, BadEnd}
use Rattle.nats_frames.specs.declared.look.Ending.TheVariants as endings
use Rattle.nats_frames.specs.declared.line.Line.{Line as Lent}
use Rattle.nats_frames.specs.declared.line.Line.TheVariants.{Connect, Pub, HPub, Sub, Unsub, Ping, Pong}
use Rattle.nats_frames.specs.Fields.{span, part}
use Rattle.nats_frames.specs.Grammar.{Line, ConnectLine, PubLine, HPubLine, SubLine, UnsubLine, PingLine, PongLine, counted}
use Rattle.nats_frames.specs.Reading.{Whole, Partial, Broken, ended, payload_at, parted, behind_line}
use Rattle.nats_frames.specs.Shapes.{seen, Stands, parts_in}
use Rattle.nats_frames.specs.Looking.{Ends}

-- ---- a payload

pub too_big : (place size : ℕ) (made : Bytes → Op) (rest : Bytes) → 1048576 < size → payload_at place size made rest ≡ Broken (PayloadTooBig size)
too_big place size made rest big = rw (lt-ltb 1048576 size big) refl

split : (place size : ℕ) (made : Bytes → Op) (rest : Bytes) → size ≤ 1048576 → size ≤ length rest →
    payload_at place size made rest ≡ ended (made (take size rest)) (place + size) (drop size rest)
split place size made rest small there = rw (le-ltb 1048576 size small, le-ltb (length rest) size there) refl

too_few : (place size : ℕ) (made : Bytes → Op) (rest : Bytes) → size ≤ 1048576 → length rest < size → payload_at place size made rest ≡ Partial
too_few place size made rest small few = rw (le-ltb 1048576 size small, lt-ltb (length rest) size few) refl

pub paid_whole : (place size : ℕ) (made : Bytes → Op) (rest : Bytes) → size ≤ 1048576 → Ends size rest endings.Whole →
    payload_at place size made rest ≡ Whole (made (take size rest)) (drop (size + 2) rest)
paid_whole place size made rest small e =
    let tail = drop size rest in
    let tail_is : tail ≡ 13 ∷ 10 ∷ drop 2 tail = sym (take-append-drop 2 tail) ∙ ap (λ t. t ++ drop 2 tail) e.1 in
    split place size made rest small (omega (arith, e.0)) ∙ ap (ended (made (take size rest)) (place + size)) tail_is
    ∙ ap (Whole (made (take size rest))) (drop-drop 2 size rest)

cr_waits : (place : ℕ) (made : Op) (tail : Bytes) → tail ≡ 13 ∷ [] → ended made place tail ≡ Partial
cr_waits place made tail e = ap (ended made place) e

pub paid_partial : (place size quiet : ℕ) (made : Bytes → Op) (rest more : Bytes) → size ≤ 1048576 → Ends size rest (endings.Partial quiet) → length (rest ++ more) < quiet →
    payload_at place size made (rest ++ more) ≡ Partial
paid_partial place size quiet made rest more small e few =
    let all = rest ++ more in
    elim (cases_lt (length all) size) [
      | inl less ↦ too_few place size made all small less
      | inr there ↦
          split place size made all small there
          ∙ elim (cases_lt (size + 1) quiet) [
            | inr low ↦ ap (ended (made (take size all)) (place + size)) (drop_all size all (omega arith))
            | inl high ↦
                let cr = e.2 high in
                let one : length rest ≡ size + 1 = omega (arith, ap length cr, length-drop size rest) in
                let none : more ≡ [] = nil_from_length more (omega (arith, few, one, e.1, length-append rest more)) in
                cr_waits (place + size) (made (take size all)) (drop size all) (ap (drop size) (ap (λ m. rest ++ m) none ∙ append-nil rest) ∙ cr)
          ]
    ]

pub paid_wrong : (len size place : ℕ) (made : Bytes → Op) (rest : Bytes) → size ≤ 1048576 → Ends size rest (endings.Wrong place) →
    payload_at len size made rest ≡ Broken (BadEnd (len + place))
paid_wrong len size place made rest small e = split len size made rest small (omega (arith, e.0, e.1)) ∙ e.2 (made (take size rest)) len

-- ---- the operation that a line and a payload make

abbrev pub made_of : Line → Bytes → Op
made_of (ConnectLine text) body = op.Connect text
made_of (PubLine subject reply size) body = op.Pub subject reply body
made_of (HPubLine subject reply header size) body = parted subject reply header body
made_of (SubLine subject queue sid) body = op.Sub subject queue sid
made_of (UnsubLine sid max) body = op.Unsub sid max
made_of PingLine body = op.Ping
made_of PongLine body = op.Pong

size_is : (n size : ℕ) → Some n ≡ Some size → n ≡ size
size_is n size e = cc

pub counted_read : (said : Line) (size len : ℕ) (rest : Bytes) → counted said ≡ Some size → behind_line len (Ok said) rest ≡ payload_at len size (made_of said) rest
counted_read (ConnectLine text) size len rest e = absurd (cc)
counted_read (PubLine subject reply n) size len rest e = ap (λ k. payload_at len k (op.Pub subject reply) rest) (size_is n size e)
counted_read (HPubLine subject reply header n) size len rest e = ap (λ k. payload_at len k (parted subject reply header) rest) (size_is n size e)
counted_read (SubLine subject queue sid) size len rest e = absurd (cc)
counted_read (UnsubLine sid max) size len rest e = absurd (cc)
counted_read PingLine size len rest e = absurd (cc)
counted_read PongLine size len rest e = absurd (cc)

-- a line that counts none is the operation
pub alone_read : (bytes : Bytes) (line : Lent) (len : ℕ) (rest : Bytes) → counted (seen bytes line) ≡ None → behind_line len (Ok (seen bytes line)) rest ≡ Whole (parts_in bytes line len) rest
alone_read bytes (Connect text) len rest e = refl
alone_read bytes (Pub subject reply size) len rest e = absurd (cc)
alone_read bytes (HPub subject reply header size) len rest e = absurd (cc)
alone_read bytes (Sub subject queue sid) len rest e = refl
alone_read bytes (Unsub sid max) len rest e = refl
alone_read bytes Ping len rest e = refl
alone_read bytes Pong len rest e = refl

-- ---- the places of its parts

-- from a place on
part_from : (bytes : Bytes) (start len : ℕ) → part bytes (span start len) ≡ take len (drop start bytes)
part_from bytes start len = let size : start + len - start ≡ len = omega arith in ap (λ n. take n (drop start bytes)) size

headers_in : (bytes : Bytes) (len header size : ℕ) → header ≤ size → part bytes (span len header) ≡ take header (part bytes (span len size))
headers_in bytes len header size le =
    part_from bytes len header ∙ sym (take-take header size (drop len bytes) le) ∙ ap (take header) (sym (part_from bytes len size))

payload_in : (bytes : Bytes) (len header size : ℕ) → header ≤ size → part bytes (span (len + header) (size - header)) ≡ drop header (part bytes (span len size))
payload_in bytes len header size le =
    let all : header + (size - header) ≡ size = omega arith in
    part_from bytes (len + header) (size - header) ∙ ap (take (size - header)) (sym (drop-drop header len bytes))
    ∙ sym (drop-take header (size - header) (drop len bytes)) ∙ ap (λ n. drop header (take n (drop len bytes))) all ∙ ap (drop header) (sym (part_from bytes len size))

pub counted_parts : (bytes : Bytes) (line : Lent) (len size : ℕ) → counted (seen bytes line) ≡ Some size → Stands bytes line →
    parts_in bytes line len ≡ made_of (seen bytes line) (part bytes (span len size))
counted_parts bytes (Connect text) len size e h = absurd (cc)
counted_parts bytes (Pub subject reply n) len size e h = ap (λ k. parts_in bytes (Pub subject reply k) len) (size_is n size e)
counted_parts bytes (HPub subject reply header n) len size e h =
    ap₂ (op.HPub (part bytes subject) (option_map (part bytes) reply)) (headers_in bytes len header n h.2) (payload_in bytes len header n h.2)
    ∙ ap (λ k. parted (part bytes subject) (option_map (part bytes) reply) header (part bytes (span len k))) (size_is n size e)
counted_parts bytes (Sub subject queue sid) len size e h = absurd (cc)
counted_parts bytes (Unsub sid max) len size e h = absurd (cc)
counted_parts bytes Ping len size e h = absurd (cc)
counted_parts bytes Pong len size e h = absurd (cc)
