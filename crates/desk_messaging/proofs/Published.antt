-- A message that a client may publish is one that its stream may be asked to take.
use Rattle.std.proofs.Common.{◌≡◌, ◌∷◌, Bool, true, false, ◌&&◌, ◌||◌, [], Option, None, Some, refl, sym, subst, IsTrue}
use Rattle.std.specs.Prelude.{IfSome, nat_eq, codes}
use Rattle.std.specs.List.{starts_with}
use Rattle.std.proofs.lemmas.Bool.{le-leb, and_from, and_parts}
use Rattle.js_base.specs.Bytes.{Bytes, is_empty}
use Rattle.js_base.specs.Headers.{is_block}
use Rattle.js_base.specs.Subjects.{is_subject_text, is_pattern_text}
use Rattle.js_base.specs.declared.out.Out.{Out}
use Rattle.js_model.specs.Proper.{if_given}
use Rattle.publish_wants.proofs.Numbers.{proper as proper_wants}
use Rattle.publish_wants.proofs.Told.{told}
use Rattle.js_api.specs.Publishing.{IsMessage, is_headers, published}
use Rattle.desk_answers.specs.Asking.{MayAsk}
use Rattle.desk_messaging.specs.Plain.{IsPlain}

-- a publish subject that is none of the API's is a subject
plain_of : (a b p : Bool) → IsTrue (a || (b && p)) → b ≡ false → IsTrue a
plain_of true b p h e = refl
plain_of false true p h e = absurd (cc)
plain_of false false p h e = absurd (cc)

pub given : (reply : Option Bytes) → IfSome reply (λ text. IsTrue (is_subject_text text)) → IsTrue (if_given is_subject_text reply)
given None h = refl
given (Some text) h = h

block_of : (headers : Bytes) → IsTrue (is_headers headers) → (is_empty headers || is_block headers) ≡ true
block_of [] h = refl
block_of (byte ∷ more) h = h

pub may_publish : (message : Out) → IsMessage message → IsPlain message.to → MayAsk (published message)
may_publish message m plain =
    let subject : IsTrue (is_subject_text message.subject) =
    subst (λ (text : Bytes). IsTrue (is_subject_text text)) (sym m.same_subject)
    (plain_of (is_subject_text message.to) (starts_with nat_eq message.to (codes "$JS.API.")) (is_pattern_text message.to) m.to_text plain.api)
    in
    let block : (is_empty message.headers || is_block message.headers) ≡ true = block_of message.headers m.block in
    let numbers = and_parts _ _ (proper_wants message.headers) in
    record {
      reply = given message.reply m.reply_text;
      proper = and_from _ _ (and_from _ _ (and_from _ _ (and_from _ _ subject block) (le-leb _ _ m.small)) numbers.0) numbers.1;
      built = told message.headers;
    }
