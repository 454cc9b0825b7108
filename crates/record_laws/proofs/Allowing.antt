-- Lists of changes that may be recorded, put together; and the numbers and names that stand in them.
use Rattle.std.proofs.Common.{◌≡◌, ℕ, ◌+◌, ◌<◌, ◌≤◌, ◌^◌, Bool, true, false, cond, List, [], ◌∷◌, ◌++◌, refl, ◌∙◌, subst, arith}
use Rattle.std.specs.Prelude.{IsTrue}
use Rattle.std.specs.List.{list_all, flat_map}
use Rattle.std.proofs.lemmas.Bool.{and_parts, and_from, lt-ltb}
use Rattle.std.proofs.lemmas.List.Folds.{list_all-append}
use Rattle.js_model.specs.declared.stream.Message.{Message}
use Rattle.js_model.specs.declared.consumer_config.ConsumerConfig.{ConsumerConfig}
use Rattle.js_model.specs.declared.consumer.Consumer.{Consumer}
use Rattle.js_model.specs.Lists.{Between}
use Rattle.js_model.specs.Configs.{is_name, is_number, is_consumer_config}
use Rattle.js_model.proofs.Members.{IsIn, here, there}
use Rattle.js_model.proofs.Named.{same_is}
use Rattle.js_model.proofs.Parts.{between_bounds}
use Rattle.model_laws.proofs.Whole.{IsSoundConsumer}
use Rattle.effects.specs.declared.effect.Effect.{Effect}
use Rattle.op_records.specs.Allowed.{is_record}

-- ---- lists of changes

-- each of the changes may be recorded
abbrev pub Allowed : List Effect → Type 0
Allowed effects = IsTrue (list_all is_record effects)

pub together : (xs ys : List Effect) → Allowed xs → Allowed ys → Allowed (xs ++ ys)
together xs ys h k = list_all-append is_record xs ys ∙ and_from (list_all is_record xs) (list_all is_record ys) h k

pub just : (e : Effect) → is_record e ≡ true → Allowed (e ∷ [])
just e h = and_from (is_record e) true h refl

-- a change that is made on a condition
pub only_if : (b : Bool) (e : Effect) → (b ≡ true → is_record e ≡ true) → Allowed (cond b (e ∷ []) [])
only_if true e h = just e (h refl)
only_if false e h = refl

pub for_each : {X : Type 0} (f : X → List Effect) (xs : List X) → ((x : X) → IsIn x xs → Allowed (f x)) → Allowed (flat_map f xs)
for_each f [] h = refl
for_each f (x ∷ xs) h = together (f x) (flat_map f xs) (h x here) (for_each f xs (λ y i. h y (there i)))

-- ---- numbers

pub number : (n : ℕ) → n < 2 ^ 62 → is_number n ≡ true
number n h = lt-ltb n (2 ^ 62) h

pub numbers : (low high : ℕ) (ns : List ℕ) → Between (λ n. n) low high ns → high ≤ 2 ^ 62 → list_all is_number ns ≡ true
numbers low high [] h l = refl
numbers low high (n ∷ ns) h l =
    and_from (is_number n) (list_all is_number ns)
    (number n (let q : n + 1 ≤ high = between_bounds (λ m. m) (n + 1) high ns h.1 in omega arith)) (numbers (n + 1) high ns h.1 l)

-- ---- names

config_name : (c : ConsumerConfig) → IsTrue (is_consumer_config c) → is_name c.name ≡ true
config_name c h =
    let heartbeat = (and_parts _ _ (and_parts _ _ h).0).0 in
    let subjects = (and_parts _ _ (and_parts _ _ (and_parts _ _ heartbeat).0).0).0 in
    let waiting = (and_parts _ _ (and_parts _ _ subjects).0).0 in
    let limits = (and_parts _ _ (and_parts _ _ waiting).0).0 in
    let waits = (and_parts _ _ (and_parts _ _ limits).0).0 in
    (and_parts _ _ (and_parts _ _ waits).0).0

pub consumer_name : (messages : List Message) (last : ℕ) (c : Consumer) → IsSoundConsumer messages last c → is_name c.name ≡ true
consumer_name messages last c k = subst (λ (name : List ℕ). is_name name ≡ true) (same_is c.config.name c.name k.named) (config_name c.config k.config)
