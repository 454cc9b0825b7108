-- Laws of desk calls that led a desk, one after the other.
use Rattle.std.proofs.Common.{◌≡◌, List, [], ◌∷◌, ◌++◌, refl, sym, ap, subst, ◌∙◌, append_assoc}
use Rattle.std.proofs.lemmas.List.{append-nil}
use Rattle.std.proofs.lemmas.Grind.{flat_map-append}
use Rattle.js_base.specs.Bytes.{Bytes}
use Rattle.js_api.specs.Entries.{DeskEntry}
use Rattle.js_api.specs.Clients.{Client}
use Rattle.js_api.specs.Answering.{DeskCall}
use Rattle.session.specs.Calling.{Called, entries_of_calls}
use Rattle.session.specs.Gathering.{collected, given_by}
use Rattle.session.specs.Leading.{Adds, Cuts, IsAdded}
use Rattle.session.specs.Stopping.{IsCutBy, IsLastCall}
use Rattle.session.specs.declared.ending.Ended.{Ended}

pub entries-append : (calls more : List Called) → entries_of_calls (calls ++ more) ≡ entries_of_calls calls ++ entries_of_calls more
entries-append calls more = flat_map-append (λ (c : Called). c.entries) calls more

pub collected-append : (calls more : List Called) → collected (calls ++ more) ≡ collected calls ++ collected more
collected-append calls more = flat_map-append (λ (c : Called). given_by c.answer) calls more

written_on : (calls more : List Called) (a b c : Bytes) → b ≡ a ++ collected calls → c ≡ b ++ collected more → c ≡ a ++ collected (calls ++ more)
written_on calls more a b c e f =
    f ∙ ap (λ (bytes : Bytes). bytes ++ collected more) e ∙ append_assoc a (collected calls) (collected more)
    ∙ ap (λ (bytes : Bytes). a ++ bytes) (sym (collected-append calls more))

-- ---- one call

-- just one call, of which Q holds
abbrev pub IsOne : (Called → Type 0) → List Called → Type 0
IsOne Q calls = (called : Called) × (calls ≡ called ∷ []) × Q called

pub one_led : {D : Type 0} (made : D → List DeskEntry → D → Type 0) (old new : D) (entries : List DeskEntry) → made old entries new → made old (entries ++ []) new
one_led made old new entries h = subst (λ (es : List DeskEntry). made old es new) (sym (append-nil entries)) h

pub adds_one : {D : Type 0} (made : D → List DeskEntry → D → Type 0) (old new : D) (a b : Bytes) (Q : Called → Type 0) (called : Called) → Q called → made old called.entries new
    → b ≡ a ++ given_by called.answer → Adds made old new a b (IsOne Q)
adds_one made old new a b Q called q h w = record {
  calls = called ∷ [];
  are = (called, refl, q);
  led = one_led made old new called.entries h;
  written = w ∙ ap (λ (bytes : Bytes). a ++ bytes) (sym (append-nil (given_by called.answer)));
}

-- the session goes no further after the call
pub cut_one : {D : Type 0} (made : D → List DeskEntry → D → Type 0) (MayCome : List Called → DeskCall → Type 0) (client : Client) (cause : Ended) (old new : D) (a b : Bytes) (called : Called)
    → MayCome [] called.call → IsLastCall client cause called → made old called.entries new → IsAdded cause b a → Cuts made cause old new a b (IsCutBy MayCome client cause)
cut_one made MayCome client cause old new a b called m l h w = record {
  calls = called ∷ [];
  said = [];
  are = record { before = []; last = called; calls_are = refl; comes = m; is_last = l; said_is = refl };
  led = one_led made old new called.entries h;
  added = λ n. w n ∙ sym (append-nil a);
}

-- ---- one after the other

-- none yet
pub adds_none : {D : Type 0} (made : D → List DeskEntry → D → Type 0) (old : D) (out : Bytes) (P : List Called → Type 0) → made old [] old → P [] → Adds made old old out out P
adds_none made old out P h p = record { calls = []; are = p; led = h; written = sym (append-nil out) }

pub adds_as : {D : Type 0} (made : D → List DeskEntry → D → Type 0) (old new : D) (a b : Bytes) (P Q : List Called → Type 0) → ((calls : List Called) → P calls → Q calls)
    → Adds made old new a b P → Adds made old new a b Q
adds_as made old new a b P Q f h = record { calls = h.calls; are = f h.calls h.are; led = h.led; written = h.written }

pub cut_as : {D : Type 0} (made : D → List DeskEntry → D → Type 0) (client : Client) (cause : Ended) (MayCome MayBe : List Called → DeskCall → Type 0) (old new : D) (a b : Bytes)
    → ((before : List Called) (call : DeskCall) → MayCome before call → MayBe before call)
    → Cuts made cause old new a b (IsCutBy MayCome client cause) → Cuts made cause old new a b (IsCutBy MayBe client cause)
cut_as made client cause MayCome MayBe old new a b f h = record {
  calls = h.calls;
  said = h.said;
  are = record {
    before = h.are.before;
    last = h.are.last;
    calls_are = h.are.calls_are;
    comes = f h.are.before h.are.last.call h.are.comes;
    is_last = h.are.is_last;
    said_is = h.are.said_is;
  };
  led = h.led;
  added = h.added;
}

module _ {D : Type 0} (made : D → List DeskEntry → D → Type 0) (more_led : (a b c : D) (xs ys : List DeskEntry) → made a xs b → made b ys c → made a (xs ++ ys) c) where
  pub both_led : (old mid new : D) (calls more : List Called) → made old (entries_of_calls calls) mid → made mid (entries_of_calls more) new
      → made old (entries_of_calls (calls ++ more)) new
  both_led old mid new calls more h k =
      subst (λ (es : List DeskEntry). made old es new) (sym (entries-append calls more)) (more_led old mid new (entries_of_calls calls) (entries_of_calls more) h k)

  -- calls, and then calls
  pub adds_on : (old mid new : D) (a b c : Bytes) (P Q R : List Called → Type 0) → ((calls more : List Called) → P calls → Q more → R (calls ++ more))
      → Adds made old mid a b P → Adds made mid new b c Q → Adds made old new a c R
  adds_on old mid new a b c P Q R f h k = record {
    calls = h.calls ++ k.calls;
    are = f h.calls k.calls h.are k.are;
    led = both_led old mid new h.calls k.calls h.led k.led;
    written = written_on h.calls k.calls a b c h.written k.written;
  }

  -- calls, and then others within which the session ends
  pub cut_on : (client : Client) (cause : Ended) (P : List Called → Type 0) (MayCome MayBe : List Called → DeskCall → Type 0) (old mid new : D) (a b c : Bytes)
      → ((calls before : List Called) (call : DeskCall) → P calls → MayCome before call → MayBe (calls ++ before) call)
      → Adds made old mid a b P → Cuts made cause mid new b c (IsCutBy MayCome client cause) → Cuts made cause old new a c (IsCutBy MayBe client cause)
  cut_on client cause P MayCome MayBe old mid new a b c f h k = record {
    calls = h.calls ++ k.calls;
    said = collected h.calls ++ k.said;
    are = record {
      before = h.calls ++ k.are.before;
      last = k.are.last;
      calls_are = ap (λ (xs : List Called). h.calls ++ xs) k.are.calls_are ∙ sym (append_assoc h.calls k.are.before (k.are.last ∷ []));
      comes = f h.calls k.are.before k.are.last.call h.are k.are.comes;
      is_last = k.are.is_last;
      said_is = ap (λ (bytes : Bytes). collected h.calls ++ bytes) k.are.said_is ∙ sym (collected-append h.calls k.are.before);
    };
    led = both_led old mid new h.calls k.calls h.led k.led;
    added = λ n. k.added n ∙ ap (λ (bytes : Bytes). bytes ++ k.said) h.written ∙ append_assoc a (collected h.calls) k.said;
  }
