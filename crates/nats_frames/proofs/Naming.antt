-- The names of operations, in any case.
use Rattle.std.proofs.Common.{ℕ, ◌≡◌, ◌+◌, ◌==◌, Bool, true, false, cond, [], ◌∷◌, ◌++◌, length, take, drop, Option, Some, None, refl, sym, ◌∙◌, ap, ap₂, subst, arith, ◌⊎◌, inl, inr}
use Rattle.std.specs.Prelude.{codes, map, if◌then◌else◌}
use Rattle.std.specs.Char.{to_ascii_lowercase}
use Rattle.std.specs.List.{prefix_len, list_all}
use Rattle.std.specs.Str.{str_to_ascii_lowercase, str_eq_ignore_ascii_case}
use Rattle.std.proofs.lemmas.Bool.{and_parts, or_cases, false≢true, eqb-true}
use Rattle.std.proofs.lemmas.List.{take_at, drop_at}
use Rattle.std.proofs.lemmas.Slice.Eq.{bytes_eq-Decides}
use Rattle.js_base.specs.Bytes.{Bytes, same}
use Rattle.nats_frames.specs.declared.verb.Verb.{Verb}
use Rattle.nats_frames.specs.declared.verb.Verb.TheVariants.{Connect, Pub, HPub, Sub, Unsub, Ping, Pong}
use Rattle.nats_frames.specs.Grammar.{is_solid, IsNamed}
use Rattle.nats_frames.specs.Reading.{verb_of, words_at, args_at}
use Rattle.nats_frames.proofs.FieldLemmas.{Stops, blank_is}

abbrev pub name_of : Verb → Bytes
name_of Connect = codes "CONNECT"
name_of Pub = codes "PUB"
name_of HPub = codes "HPUB"
name_of Sub = codes "SUB"
name_of Unsub = codes "UNSUB"
name_of Ping = codes "PING"
name_of Pong = codes "PONG"

-- ---- what a name is read as

abbrev operation : Bytes → Option Verb
operation low =
    if same low (codes "connect") then Some Connect
    else if same low (codes "pub") then Some Pub
    else if same low (codes "hpub") then Some HPub
    else if same low (codes "sub") then Some Sub
    else if same low (codes "unsub") then Some Unsub
    else if same low (codes "ping") then Some Ping
    else if same low (codes "pong") then Some Pong
    else None

name_verb : (v : Verb) → verb_of (name_of v) ≡ Some v
name_verb Connect = refl
name_verb Pub = refl
name_verb HPub = refl
name_verb Sub = refl
name_verb Unsub = refl
name_verb Ping = refl
name_verb Pong = refl

lower_is : (name word : Bytes) → IsNamed name word → str_to_ascii_lowercase word ≡ str_to_ascii_lowercase name
lower_is name word h = (bytes_eq-Decides (str_to_ascii_lowercase word) (str_to_ascii_lowercase name)).0 h

pub verb_read : (v : Verb) (word : Bytes) → IsNamed (name_of v) word → verb_of word ≡ Some v
verb_read v word h = ap operation (lower_is (name_of v) word h) ∙ name_verb v

either : (b : Bool) (u : Verb) (other : Option Verb) (v : Verb) → cond b (Some u) other ≡ Some v → ((b ≡ true) × (u ≡ v)) ⊎ (other ≡ Some v)
either true u other v e = inl (refl, cc)
either false u other v e = inr e

-- what is read so is named so
pub verb_named : (word : Bytes) (v : Verb) → verb_of word ≡ Some v → IsNamed (name_of v) word
verb_named word v e =
    elim (either (str_eq_ignore_ascii_case word (name_of Connect)) Connect _ v e) [
      | inl p ↦ this Connect p.1 p.0
      | inr e ↦
          elim (either (str_eq_ignore_ascii_case word (name_of Pub)) Pub _ v e) [
            | inl p ↦ this Pub p.1 p.0
            | inr e ↦
                elim (either (str_eq_ignore_ascii_case word (name_of HPub)) HPub _ v e) [
                  | inl p ↦ this HPub p.1 p.0
                  | inr e ↦
                      elim (either (str_eq_ignore_ascii_case word (name_of Sub)) Sub _ v e) [
                        | inl p ↦ this Sub p.1 p.0
                        | inr e ↦
                            elim (either (str_eq_ignore_ascii_case word (name_of Unsub)) Unsub _ v e) [
                              | inl p ↦ this Unsub p.1 p.0
                              | inr e ↦
                                  elim (either (str_eq_ignore_ascii_case word (name_of Ping)) Ping _ v e) [
                                    | inl p ↦ this Ping p.1 p.0
                                    | inr e ↦
                                        elim (either (str_eq_ignore_ascii_case word (name_of Pong)) Pong None v e) [ inl p ↦ this Pong p.1 p.0 | inr e ↦ absurd (cc) ]
                                  ]
                            ]
                      ]
                ]
          ]
    ]
  where
    this : (u : Verb) → u ≡ v → str_eq_ignore_ascii_case word (name_of u) ≡ true → IsNamed (name_of v) word
    this u is named = subst (λ (w : Verb). IsNamed (name_of w) word) is named

-- ---- a name has no blank

solid_lower : (b : ℕ) → is_solid (to_ascii_lowercase b) ≡ true → is_solid b ≡ true
solid_lower b h = by (is_solid b) refl
  where
    by : (t : Bool) → is_solid b ≡ t → t ≡ true
    by true e = refl
    by false e =
        elim (or_cases (b == 32) (b == 9) (blank_is b e)) [
          | inl space ↦ absurd (false≢true (sym (ap (λ x. is_solid (to_ascii_lowercase x)) (eqb-true b 32 space)) ∙ h))
          | inr tab ↦ absurd (false≢true (sym (ap (λ x. is_solid (to_ascii_lowercase x)) (eqb-true b 9 tab)) ∙ h))
        ]

solid_word : (word : Bytes) → list_all is_solid (map to_ascii_lowercase word) ≡ true → list_all is_solid word ≡ true
solid_word [] h = refl
solid_word (b ∷ word) h =
    let both = and_parts (is_solid (to_ascii_lowercase b)) (list_all is_solid (map to_ascii_lowercase word)) h in
    rw (solid_lower b both.0) (solid_word word both.1)

solid_name : (v : Verb) → list_all is_solid (str_to_ascii_lowercase (name_of v)) ≡ true
solid_name Connect = refl
solid_name Pub = refl
solid_name HPub = refl
solid_name Sub = refl
solid_name Unsub = refl
solid_name Ping = refl
solid_name Pong = refl

pub prefix_at : (p : ℕ → Bool) (front rest : Bytes) → list_all p front ≡ true → Stops p rest → prefix_len p (front ++ rest) ≡ length front
prefix_at p [] [] h s = refl
prefix_at p [] (y ∷ ys) h s = rw s refl
prefix_at p (x ∷ front) rest h s =
    let both = and_parts (p x) (list_all p front) h in
    let more = prefix_at p front rest both.1 s in
    let next : 1 + prefix_len p (front ++ rest) ≡ length (x ∷ front) = omega (arith, more) in
    rw both.0 next

-- a text is read by its name
pub words_read : (v : Verb) (word rest : Bytes) → IsNamed (name_of v) word → Stops is_solid rest → words_at (word ++ rest) ≡ args_at (Some v) rest
unfolding words_at
words_read v word rest named stops =
    let solid : list_all is_solid word ≡ true = solid_word word (ap (list_all is_solid) (lower_is (name_of v) word named) ∙ solid_name v) in
    ap (λ n. args_at (verb_of (take n (word ++ rest))) (drop n (word ++ rest))) (prefix_at is_solid word rest solid stops)
    ∙ ap₂ (λ (w : Bytes) (r : Bytes). args_at (verb_of w) r) (take_at word rest (length word) refl) (drop_at word rest (length word) refl)
    ∙ ap (λ o. args_at o rest) (verb_read v word named)
