-- The subjects of the stream that is measured.
use Rattle.std.proofs.Common.{◌≡◌, true, refl, sym, subst}
use Rattle.std.specs.Prelude.{IsTrue, codes}
use Rattle.std.specs.Str.{is_utf8, chars}
use lib.Utf8.{encode}
use Rattle.js_base.specs.Bytes.{Bytes}
use Rattle.js_model.specs.Configs.{is_stream_subject}

may_be_taken : is_stream_subject (codes "orders.*") ≡ true
unfolding is_utf8 chars encode
may_be_taken = refl

pub orders : (text : Bytes) → text ≡ codes "orders.*" → IsTrue (is_stream_subject text)
orders text e = subst (λ (t : Bytes). IsTrue (is_stream_subject t)) (sym e) may_be_taken
