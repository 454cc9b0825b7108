-- A body is read as an acknowledgement exactly if it says that.
use Rattle.std.proofs.Common.{◌≡◌, ℕ, Bool, true, false, ◌||◌, ◌⊎◌, inl, inr, [], ◌∷◌, ◌++◌, Option, Some, None, drop, take, length, nat_eq, codes, refl, sym, ap, subst, ◌∙◌, if◌then◌else◌}
use Rattle.std.specs.Prelude.{option_map, option_and_then}
use Rattle.std.specs.Cmp.Lexicographic.{same_text}
use Rattle.std.specs.List.{starts_with}
use Rattle.std.specs.Option.{option_or}
use Rattle.std.proofs.lemmas.List.{take-append-drop}
use Rattle.js_base.specs.Bytes.{Bytes, is_empty, same}
use Rattle.js_base.proofs.Meeting.{same_is}
use Rattle.js_model.proofs.Named.{some_is}
use Rattle.js_model.specs.declared.ack.AckKind.{AckKind}
use Rattle.js_model.specs.declared.ack.AckKind.TheVariants as kinds
use Rattle.js_model.specs.declared.ack.Ask.{Ask}
use Rattle.ack_parse.specs.Asks.{just, ask_of}
use Rattle.ack_parse.specs.Bodies.{plain_kind, delay_of, nak_kind, next_kind, kind_of}
use Rattle.ack_parse.specs.Grammar.{Says}
use Rattle.ack_parse.specs.Laws.{LawBody}
use Rattle.ack_parse.proofs.Pulls.{delay_says, delay_said, ask_says, ask_said}

-- a body that begins with words is these and what stands behind them
begins : (words body : Bytes) → starts_with nat_eq body words ≡ true → body ≡ words ++ drop (length words) body
begins words body h =
    sym (take-append-drop (length words) body) ∙ ap (λ (first : Bytes). first ++ drop (length words) body) (sym (same_text words (take (length words) body) (sym h)))

empty_is : (body : Bytes) → is_empty body ≡ true → body ≡ []
empty_is [] h = refl
empty_is (byte ∷ more) h = absurd (cc)

either : {X : Type 0} (a b : Option X) (x : X) → option_or a b ≡ Some x → (a ≡ Some x) ⊎ (b ≡ Some x)
either None b x h = inr h
either (Some a) b x h = inl h

-- ---- what is read is what it says

plain_says : (body : Bytes) (kind : AckKind) → plain_kind body ≡ Some kind → Says body kind
plain_says body kind h =
    by (is_empty body) (same body (codes "+ACK")) (same body (codes "+WPI")) (same body (codes "+TERM")) (starts_with nat_eq body (codes "+TERM ")) refl refl refl refl refl h
  where
    by : (empty done progress never reason : Bool) → is_empty body ≡ empty → same body (codes "+ACK") ≡ done → same body (codes "+WPI") ≡ progress
        → same body (codes "+TERM") ≡ never → starts_with nat_eq body (codes "+TERM ") ≡ reason
        → (if empty || done then Some kinds.Ack else if progress then Some kinds.Wpi else if never || reason then Some kinds.Term else None) ≡ Some kind → Says body kind
    by true done progress never reason e a w t r h = subst (Says body) (some_is h) (inl (empty_is body e))
    by false true progress never reason e a w t r h = subst (Says body) (some_is h) (inr (same_is body (codes "+ACK") a))
    by false false true never reason e a w t r h = subst (Says body) (some_is h) (same_is body (codes "+WPI") w)
    by false false false true reason e a w t r h = subst (Says body) (some_is h) (inl (same_is body (codes "+TERM") t))
    by false false false false true e a w t r h = subst (Says body) (some_is h) (inr (drop 6 body, begins (codes "+TERM ") body r))
    by false false false false false e a w t r h = absurd (cc)

nak_says : (body : Bytes) (kind : AckKind) → nak_kind body ≡ Some kind → Says body kind
nak_says body kind h = by (same body (codes "-NAK")) (starts_with nat_eq body (codes "-NAK ")) refl refl h
  where
    after : (delay : Option ℕ) → starts_with nat_eq body (codes "-NAK ") ≡ true → delay_of (drop 5 body) ≡ delay → option_map kinds.Nak delay ≡ Some kind → Says body kind
    after None b d h = absurd (cc)
    after (Some delay) b d h = subst (Says body) (some_is h) (inr (drop 5 body, begins (codes "-NAK ") body b, delay_says (drop 5 body) delay d))

    by : (at_once delayed : Bool) → same body (codes "-NAK") ≡ at_once → starts_with nat_eq body (codes "-NAK ") ≡ delayed
        → (if at_once then Some (kinds.Nak 0) else option_and_then (λ object. option_map kinds.Nak (delay_of object)) (if delayed then Some (drop 5 body) else None)) ≡ Some kind → Says body kind
    by true delayed a d h = subst (Says body) (some_is h) (inl (same_is body (codes "-NAK") a, refl))
    by false true a d h = after (delay_of (drop 5 body)) d refl h
    by false false a d h = absurd (cc)

next_says : (body : Bytes) (kind : AckKind) → next_kind body ≡ Some kind → Says body kind
next_says body kind h = by (same body (codes "+NXT")) (starts_with nat_eq body (codes "+NXT ")) refl refl h
  where
    after : (ask : Option Ask) → starts_with nat_eq body (codes "+NXT ") ≡ true → ask_of (drop 5 body) ≡ ask → option_map kinds.Next ask ≡ Some kind → Says body kind
    after None b d h = absurd (cc)
    after (Some ask) b d h = subst (Says body) (some_is h) (inr (drop 5 body, begins (codes "+NXT ") body b, ask_says (drop 5 body) ask d))

    by : (one more : Bool) → same body (codes "+NXT") ≡ one → starts_with nat_eq body (codes "+NXT ") ≡ more
        → (if one then Some (kinds.Next (just 1)) else option_and_then (λ text. option_map kinds.Next (ask_of text)) (if more then Some (drop 5 body) else None)) ≡ Some kind → Says body kind
    by true more a d h = subst (Says body) (some_is h) (inl (same_is body (codes "+NXT") a, refl))
    by false true a d h = after (ask_of (drop 5 body)) d refl h
    by false false a d h = absurd (cc)

to_grammar : (body : Bytes) (kind : AckKind) → kind_of body ≡ Some kind → Says body kind
unfolding kind_of
to_grammar body kind h = first (either (plain_kind body) (option_or (nak_kind body) (next_kind body)) kind h)
  where
    second : (nak_kind body ≡ Some kind) ⊎ (next_kind body ≡ Some kind) → Says body kind
    second (inl nak) = nak_says body kind nak
    second (inr next) = next_says body kind next

    first : (plain_kind body ≡ Some kind) ⊎ (option_or (nak_kind body) (next_kind body) ≡ Some kind) → Says body kind
    first (inl plain) = plain_says body kind plain
    first (inr more) = second (either (nak_kind body) (next_kind body) kind more)

-- ---- and the other way round

from_grammar : (body : Bytes) (kind : AckKind) → Says body kind → kind_of body ≡ Some kind
unfolding kind_of
from_grammar body kinds.Ack (inl e) = rw e refl
from_grammar body kinds.Ack (inr e) = rw e refl
from_grammar body (kinds.Nak delay) (inl (e, d)) = rw (e, d) refl
from_grammar body (kinds.Nak delay) (inr (object, e, d)) = rw (e, delay_said object delay d) refl
from_grammar body kinds.Wpi e = rw e refl
from_grammar body (kinds.Next ask) (inl (e, d)) = rw (e, d) refl
from_grammar body (kinds.Next ask) (inr (text, e, d)) = rw (e, ask_said text ask d) refl
from_grammar body kinds.Term (inl e) = rw e refl
from_grammar body kinds.Term (inr (reason, e)) = rw e refl

pub law_body : LawBody
law_body body kind = (to_grammar body kind, from_grammar body kind)
