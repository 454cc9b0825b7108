-- What is spelled as an operation is read as that operation.
use Rattle.std.proofs.Common.{ℕ, ◌≡◌, ◌+◌, ◌≤◌, ◌++◌, length, refl, sym, ◌∙◌, ap, ap₂, arith, length-append, append_assoc}
use Rattle.std.proofs.lemmas.Bool.{le-ltb}
use Rattle.std.proofs.lemmas.List.{take_at, drop_at}
use Rattle.js_base.specs.Bytes.{Bytes, crlf}
use Rattle.nats_frames.specs.declared.op.Op.{Op}
use Rattle.nats_frames.specs.declared.op.Op.TheVariants.{Connect, Pub, HPub, Sub, Unsub, Ping, Pong}
use Rattle.nats_frames.specs.Grammar.{Line, ConnectLine, PubLine, HPubLine, SubLine, UnsubLine, PingLine, PongLine, Tells, Carries, Spells}
use Rattle.nats_frames.specs.Reading.{Whole, ended, payload_at, parted, op_at}
use Rattle.nats_frames.proofs.Opening.{tells_read}

-- a payload that is there, and what follows it
pub payload_there : (place : ℕ) (made : Bytes → Op) (body tail : Bytes) → length body ≤ 1048576 →
    payload_at place (length body) made (body ++ tail) ≡ ended (made body) (place + length body) tail
payload_there place made body tail small =
    rw (
      le-ltb 1048576 (length body) small,
      le-ltb (length (body ++ tail)) (length body) (omega (arith, length-append body tail)),
      take_at body tail (length body) refl,
      drop_at body tail (length body) refl,
    ) refl

carried : (said : Line) (body front rest : Bytes) → Carries said body front → (line : Bytes) × Tells said line × (length body ≤ 1048576) × (front ++ rest ≡ line ++ (body ++ (crlf ++ rest)))
carried said body front rest h =
    let regroup : (h.line ++ (body ++ crlf)) ++ rest ≡ h.line ++ (body ++ (crlf ++ rest)) = simp append_assoc in
    (h.line, h.told, h.small, ap (λ f. f ++ rest) h.whole ∙ regroup)

pub op_again : (op : Op) (front rest : Bytes) → Spells op front → op_at (front ++ rest) ≡ Whole op rest
op_again (Connect text) front rest h = tells_read (ConnectLine text) front rest h
op_again (Pub subject reply payload) front rest h =
    let c = carried (PubLine subject reply (length payload)) payload front rest h in
    ap op_at c.3 ∙ tells_read (PubLine subject reply (length payload)) c.0 (payload ++ (crlf ++ rest)) c.1
    ∙ payload_there (length c.0) (Pub subject reply) payload (crlf ++ rest) c.2
op_again (HPub subject reply headers payload) front rest h =
    let body = headers ++ payload in
    let line = HPubLine subject reply (length headers) (length headers + length payload) in
    let c = carried line body front rest h in
    ap op_at c.3 ∙ tells_read line c.0 (body ++ (crlf ++ rest)) c.1
    ∙ ap (λ n. payload_at (length c.0) n (parted subject reply (length headers)) (body ++ (crlf ++ rest))) (sym (length-append headers payload))
    ∙ payload_there (length c.0) (parted subject reply (length headers)) body (crlf ++ rest) c.2
    ∙ ap₂ (λ (a : Bytes) (b : Bytes). Whole (HPub subject reply a b) rest) (take_at headers payload (length headers) refl) (drop_at headers payload (length headers) refl)
op_again (Sub subject queue sid) front rest h = tells_read (SubLine subject queue sid) front rest h
op_again (Unsub sid max) front rest h = tells_read (UnsubLine sid max) front rest h
op_again Ping front rest h = tells_read PingLine front rest h
op_again Pong front rest h = tells_read PongLine front rest h
