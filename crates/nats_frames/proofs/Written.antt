-- What several writes leave, one after the other.
use Rattle.std.proofs.Common.{◌≡◌, ◌+◌, ◌<◌, [], ◌∷◌, ◌++◌, length, codes, decimal, ◌∙◌, ap, Option, arith, append_assoc}
use Rattle.js_base.specs.Bytes.{Bytes, crlf}
use Rattle.js_base.specs.Framing.{message, spaced, optional}
use Rattle.nats_frames.specs.Writing.{sizes}

-- four pieces
pub four_written : (old now₁ now₂ now₃ now₄ a b c d : Bytes) → now₁ ≡ old ++ a → now₂ ≡ now₁ ++ b → now₃ ≡ now₂ ++ c → now₄ ≡ now₃ ++ d → now₄ ≡ old ++ (a ++ b ++ c ++ d)
four_written old now₁ now₂ now₃ now₄ a b c d e₁ e₂ e₃ e₄ = rw (e₄, e₃, e₂, e₁) (simp append_assoc)

-- the last piece ends the line
pub line_ended : (old front last : Bytes) → old ++ (front ++ (last ++ crlf)) ≡ old ++ (front ++ last ++ crlf)
line_ended old front last = simp append_assoc

-- the parts of a message with headers
grouped : (name fields first second end headers payload : Bytes) →
    name ++ fields ++ first ++ second ++ end ++ headers ++ payload ++ end ≡ name ++ fields ++ (first ++ second) ++ (end ++ headers ++ payload ++ end)
grouped name fields first second end headers payload = simp append_assoc

fields_grouped : (name subject sid reply : Bytes) → name ++ subject ++ sid ++ reply ≡ name ++ (subject ++ sid ++ reply)
fields_grouped name subject sid reply = simp append_assoc

pub headed : (subject sid : Bytes) (reply : Option Bytes) (headers payload : Bytes) → 0 < length headers →
    message subject sid reply headers payload ≡ codes "HMSG" ++ (spaced subject ++ spaced sid ++ optional reply) ++ sizes headers payload ++ (crlf ++ headers ++ payload ++ crlf)
headed subject sid reply [] payload some = absurd (omega arith)
headed subject sid reply (h ∷ eaders) payload some =
    let headers = h ∷ eaders in
    let first = spaced (decimal (length headers)) in
    let second = spaced (decimal (length headers + length payload)) in
    ap (λ f. f ++ first ++ second ++ crlf ++ headers ++ payload ++ crlf) (fields_grouped (codes "HMSG") (spaced subject) (spaced sid) (optional reply))
    ∙ grouped (codes "HMSG") (spaced subject ++ spaced sid ++ optional reply) first second crlf headers payload
