-- What is read as an operation is spelled so.
use Rattle.std.proofs.Common.{ℕ, ◌≡◌, ◌+◌, ◌==◌, ◌<◌, ◌≤◌, Bool, true, false, cond, [], ◌∷◌, ◌++◌, length, take, drop, nat_lt, refl, sym, ◌∙◌, ap, subst, arith, ◌⊎◌, inl, inr, Option, Some, None, length-append, append_assoc}
use Rattle.std.specs.Prelude.{Result, Ok, Err}
use Rattle.std.proofs.lemmas.Bool.{ltb-true, ltb-false, eqb-true}
use Rattle.std.proofs.lemmas.List.{take-append-drop, length-take-le, length-drop}
use Rattle.js_base.specs.Bytes.{Bytes, crlf}
use Rattle.nats_frames.specs.declared.op.Op.{Op}
use Rattle.nats_frames.specs.declared.op.Op.TheVariants.{Connect, Pub, HPub, Sub, Unsub, Ping, Pong}
use Rattle.nats_frames.specs.declared.fault.Fault.{Fault}
use Rattle.nats_frames.specs.declared.fault.Fault.TheVariants.{LineTooLong, PayloadTooBig, BadEnd}
use Rattle.nats_frames.specs.Grammar.{Lacks, Line, ConnectLine, PubLine, HPubLine, SubLine, UnsubLine, PingLine, PongLine, Tells, Spells}
use Rattle.nats_frames.specs.Reading.{split_at, without_cr, Whole, Partial, Broken, ended, payload_at, parted, behind_line, line_at, at_line, op_at}
use Rattle.nats_frames.proofs.Splits.{split_found}
use Rattle.nats_frames.proofs.Wording.{read_says}
use Rattle.nats_frames.proofs.Opening.{line_made}

pub chosen : {A : Type 0} (b : Bool) (x y z : A) → cond b x y ≡ z → ((b ≡ true) × (x ≡ z)) ⊎ ((b ≡ false) × (y ≡ z))
chosen true x y z e = inl (refl, e)
chosen false x y z e = inr (refl, e)

ended_whole : (made : Op) (place : ℕ) (bytes : Bytes) (op : Op) (rest : Bytes) → ended made place bytes ≡ Whole op rest → (made ≡ op) × (bytes ≡ crlf ++ rest)
ended_whole made place [] op rest e = absurd (cc)
ended_whole made place (b ∷ []) op rest e =
    elim (chosen (b == 13) _ _ _ e) [ inl p ↦ let no : Partial ≡ Whole op rest = p.1 in absurd (cc) | inr p ↦ let no : Broken (BadEnd place) ≡ Whole op rest = p.1 in absurd (cc) ]
ended_whole made place (b ∷ c ∷ more) op rest e =
    elim (chosen (b == 13) _ _ _ e) [
      | inl p ↦ elim (chosen (c == 10) _ _ _ p.1) [
        | inl q ↦ let same : Whole made more ≡ Whole op rest = q.1 in
            let b_is = eqb-true b 13 p.0 in let c_is = eqb-true c 10 q.0 in let more_is : more ≡ rest = cc in (cc, cc)
        | inr q ↦ let no : Broken (BadEnd (place + 1)) ≡ Whole op rest = q.1 in absurd (cc)
      ]
      | inr p ↦ let no : Broken (BadEnd place) ≡ Whole op rest = p.1 in absurd (cc)
    ]

-- a payload and its end
record Paid (size : ℕ) (made : Bytes → Op) (tail : Bytes) (op : Op) (rest : Bytes) : Type 0 where
  small : size ≤ 1048576
  there : size ≤ length tail
  op_is : made (take size tail) ≡ op
  ends : drop size tail ≡ crlf ++ rest

paid : (place size : ℕ) (made : Bytes → Op) (tail : Bytes) (op : Op) (rest : Bytes) → payload_at place size made tail ≡ Whole op rest → Paid size made tail op rest
paid place size made tail op rest e =
    elim (chosen (nat_lt 1048576 size) _ _ _ e) [
      | inl p ↦ let no : Broken (PayloadTooBig size) ≡ Whole op rest = p.1 in absurd (cc)
      | inr p ↦ elim (chosen (nat_lt (length tail) size) _ _ _ p.1) [
        | inl q ↦ let no : Partial ≡ Whole op rest = q.1 in absurd (cc)
        | inr q ↦
            let end = ended_whole (made (take size tail)) (place + size) (drop size tail) op rest q.1 in
            record { small = ltb-false 1048576 size p.0; there = ltb-false (length tail) size q.0; op_is = end.0; ends = end.1 }
      ]
    ]

pub record Found (bytes : Bytes) (op : Op) (rest : Bytes) : Type 0 where
  pub front : Bytes
  pub spelled : Spells op front
  pub whole : bytes ≡ front ++ rest

-- an operation of one line
alone : (line tail : Bytes) (made op : Op) (rest : Bytes) → Spells made line → Whole made tail ≡ Whole op rest → Found (line ++ tail) op rest
alone line tail made op rest spelled e =
    let op_is : made ≡ op = cc in
    let rest_is : tail ≡ rest = cc in
    record { front = line; spelled = subst (λ (o : Op). Spells o line) op_is spelled; whole = ap (λ r. line ++ r) rest_is }

-- an operation with a payload, which is made of its body
with_body : (line tail body : Bytes) (op : Op) (rest : Bytes) → Spells op (line ++ (body ++ crlf)) → tail ≡ body ++ (crlf ++ rest) → Found (line ++ tail) op rest
with_body line tail body op rest spelled is =
    let regroup : line ++ (body ++ (crlf ++ rest)) ≡ (line ++ (body ++ crlf)) ++ rest = simp append_assoc in
    record { front = line ++ (body ++ crlf); spelled = spelled; whole = ap (λ t. line ++ t) is ∙ regroup }

tail_is : (size : ℕ) (tail rest : Bytes) → drop size tail ≡ crlf ++ rest → tail ≡ take size tail ++ (crlf ++ rest)
tail_is size tail rest e = sym (take-append-drop size tail) ∙ ap (λ r. take size tail ++ r) e

pub_found : (line tail subject : Bytes) (reply : Option Bytes) (size : ℕ) (op : Op) (rest : Bytes) → Tells (PubLine subject reply size) line →
    payload_at (length line) size (Pub subject reply) tail ≡ Whole op rest → Found (line ++ tail) op rest
pub_found line tail subject reply size op rest told e =
    let p = paid (length line) size (Pub subject reply) tail op rest e in
    let body = take size tail in
    let n : length body ≡ size = length-take-le size tail p.there in
    let spelled : Spells (Pub subject reply body) (line ++ (body ++ crlf)) = record {
      line = line;
      told = subst (λ (k : ℕ). Tells (PubLine subject reply k) line) (sym n) told;
      small = omega (arith, n, p.small);
      whole = refl;
    } in
    with_body line tail body op rest (subst (λ (o : Op). Spells o (line ++ (body ++ crlf))) p.op_is spelled) (tail_is size tail rest p.ends)

hpub_found : (line tail subject : Bytes) (reply : Option Bytes) (header size : ℕ) (op : Op) (rest : Bytes) → Tells (HPubLine subject reply header size) line →
    payload_at (length line) size (parted subject reply header) tail ≡ Whole op rest → Found (line ++ tail) op rest
hpub_found line tail subject reply header size op rest told e =
    let p = paid (length line) size (parted subject reply header) tail op rest e in
    let body = take size tail in
    let headers = take header body in
    let payload = drop header body in
    let part = told.says.part in
    let n : length body ≡ size = length-take-le size tail p.there in
    let h : length headers ≡ header = length-take-le header body (omega (arith, part, n)) in
    let all : length headers + length payload ≡ size = omega (arith, part, n, h, length-drop header body) in
    let both : headers ++ payload ≡ body = take-append-drop header body in
    let told_so : Tells (HPubLine subject reply (length headers) (length headers + length payload)) line =
    subst (λ (k : ℕ). Tells (HPubLine subject reply (length headers) k) line) (sym all) (subst (λ (k : ℕ). Tells (HPubLine subject reply k size) line) (sym h) told) in
    let spelled : Spells (HPub subject reply headers payload) (line ++ (body ++ crlf)) = record {
      line = line;
      told = told_so;
      small = omega (arith, p.small, n, ap length both);
      whole = ap (λ b. line ++ (b ++ crlf)) (sym both);
    } in
    with_body line tail body op rest (subst (λ (o : Op). Spells o (line ++ (body ++ crlf))) p.op_is spelled) (tail_is size tail rest p.ends)

line_found : (line tail : Bytes) (o : Result Line Fault) → ((said : Line) → o ≡ Ok said → Tells said line) → (op : Op) (rest : Bytes) →
    behind_line (length line) o tail ≡ Whole op rest → Found (line ++ tail) op rest
line_found line tail (Err fault) tells op rest e = absurd (cc)
line_found line tail (Ok (ConnectLine text)) tells op rest e = alone line tail (Connect text) op rest (tells (ConnectLine text) refl) e
line_found line tail (Ok (PubLine subject reply size)) tells op rest e = pub_found line tail subject reply size op rest (tells (PubLine subject reply size) refl) e
line_found line tail (Ok (HPubLine subject reply header size)) tells op rest e =
    hpub_found line tail subject reply header size op rest (tells (HPubLine subject reply header size) refl) e
line_found line tail (Ok (SubLine subject queue sid)) tells op rest e = alone line tail (Sub subject queue sid) op rest (tells (SubLine subject queue sid) refl) e
line_found line tail (Ok (UnsubLine sid max)) tells op rest e = alone line tail (Unsub sid max) op rest (tells (UnsubLine sid max) refl) e
line_found line tail (Ok PingLine) tells op rest e = alone line tail Ping op rest (tells PingLine refl) e
line_found line tail (Ok PongLine) tells op rest e = alone line tail Pong op rest (tells PongLine refl) e

text_found : (text tail : Bytes) → Lacks 10 text → length text < 4098 → (op : Op) (rest : Bytes) →
    behind_line (length text + 1) (line_at text) tail ≡ Whole op rest → Found (text ++ 10 ∷ tail) op rest
text_found text tail first short op rest e =
    let line = text ++ 10 ∷ [] in
    let len : length text + 1 ≡ length line = sym (length-append text (10 ∷ [])) in
    subst (λ (b : Bytes). Found b op rest) (append_assoc text (10 ∷ []) tail)
    (line_found line tail (line_at text)
    (λ said is. record { words = without_cr text; says = read_says said (without_cr text) is; is_line = line_made text first short })
    op rest (subst (λ (n : ℕ). behind_line n (line_at text) tail ≡ Whole op rest) len e))

at_found : (bytes : Bytes) (s : Option (Bytes × Bytes)) → split_at 10 bytes ≡ s → (op : Op) (rest : Bytes) → at_line (length bytes) s ≡ Whole op rest → Found bytes op rest
at_found bytes None is op rest e =
    elim (chosen (nat_lt (length bytes) 4098) _ _ _ e) [ inl p ↦ let no : Partial ≡ Whole op rest = p.1 in absurd (cc) | inr p ↦ let no : Broken LineTooLong ≡ Whole op rest = p.1 in absurd (cc) ]
at_found bytes (Some s) is op rest e =
    let apart = split_found 10 bytes s.0 s.1 is in
    elim (chosen (nat_lt (length s.0) 4098) _ _ _ e) [
      | inl p ↦ subst (λ (b : Bytes). Found b op rest) (sym apart.whole) (text_found s.0 s.1 apart.first (ltb-true (length s.0) 4098 p.0) op rest p.1)
      | inr p ↦ let no : Broken LineTooLong ≡ Whole op rest = p.1 in absurd (cc)
    ]

pub op_found : (bytes : Bytes) (op : Op) (rest : Bytes) → op_at bytes ≡ Whole op rest → Found bytes op rest
unfolding op_at
op_found bytes op rest e = at_found bytes (split_at 10 bytes) refl op rest e
