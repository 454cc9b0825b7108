-- What only falls while time passes and messages and entries leave: how many messages and ids there are, and what consumers hold.
use Rattle.std.proofs.Common.{◌≡◌, ℕ, suc, ◌+◌, ◌≤◌, Bool, true, false, ◌&&◌, ◌||◌, not, cond, List, [], ◌∷◌, ◌++◌, map, length, refl, sym, ap, ◌∙◌, subst, arith}
use Rattle.std.specs.Prelude.{Some, filter, fold, nat_lt}
use Rattle.std.specs.List.{list_any, flat_map}
use Rattle.std.proofs.lemmas.Bool.{eq-eqb, or_from}
use Rattle.std.proofs.lemmas.List.{length-map}
use Rattle.js_base.specs.Bytes.{Bytes, same, has}
use Rattle.js_base.specs.Moments.{plus}
use Rattle.js_model.specs.Lists.{IsPart, keep, none, skip}
use Rattle.js_model.specs.declared.stream.Message.{Message}
use Rattle.js_model.specs.declared.stream.Stream.{Stream}
use Rattle.js_model.specs.declared.consumer.Consumer.{Consumer}
use Rattle.js_model.specs.Streams.{only, seqs, confined, by_name, in_place_of, with_consumer}
use Rattle.js_model.specs.Advance.{stream_at, aged, young, consumer_at, is_spent, all_given_up, placed}
use Rattle.js_model.proofs.Members.{IsIn, here, there, in_filter}
use Rattle.js_model.proofs.Named.{found_named}
use Rattle.js_model.proofs.Parts.{filter_part, drop_part, young_part, part-length}
use Rattle.model_laws.specs.Sound.{AreOrdered}
use Rattle.effects.specs.declared.effect.Effect.TheVariants.{GivenUp, Now}
use Rattle.effects.specs.Ranges.{first_leaves, with_leaving, ranges}
use Rattle.effects.specs.TimeEffects.{remove_of, removals, has_spent_ids, now_effects, given_up_effects, effects_at}
use Rattle.effects.proofs.Removing.{in_has}
use Rattle.effects.proofs.Replacing.{one_named}
use Rattle.effects.proofs.Passing.{told}

-- ---- lists

pub filter_full : {X : Type 0} (t : X → Bool) (xs : List X) → length (filter t xs) ≡ length xs → (x : X) → IsIn x xs → t x ≡ true
filter_full t [] e x i = elim i [ ]
filter_full {X} t (y ∷ ys) e x i = go (t y) refl e (filter_full t ys) x i
  where
    few : length (filter t ys) ≤ length ys
    few = part-length (filter_part t ys)

    go : (b : Bool) → t y ≡ b → length (cond b (y ∷ filter t ys) (filter t ys)) ≡ length (y ∷ ys) → (length (filter t ys) ≡ length ys → (x : X) → IsIn x ys → t x ≡ true) → (x : X) → IsIn x (y ∷ ys) → t x ≡ true
    go true q w f x here = q
    go true q w f x (there i) = f (let r : suc (length (filter t ys)) ≡ suc (length ys) = w in omega arith) x i
    go false q w f x i = let r : length (filter t ys) ≡ suc (length ys) = w in let s : length (filter t ys) ≤ length ys = few in absurd (omega arith)

pub part_full : {X : Type 0} {ys xs : List X} → IsPart ys xs → length ys ≡ length xs → ys ≡ xs
part_full none e = refl
part_full (keep {x = x} {ys = ys} {xs = xs} p) e = ap (λ l. x ∷ l) (part_full p (let q : suc (length ys) ≡ suc (length xs) = e in omega arith))
part_full (skip {x = x} {ys = ys} {xs = xs} p) e = let q : length ys ≡ suc (length xs) = e in let r : length ys ≤ length xs = part-length p in absurd (omega arith)

pub none_fail : {X : Type 0} (t : X → Bool) (xs : List X) → ((x : X) → IsIn x xs → t x ≡ true) → list_any (λ x. not (t x)) xs ≡ false
none_fail t [] h = refl
none_fail t (x ∷ xs) h = or_from (not (t x)) (list_any (λ x. not (t x)) xs) (ap not (h x here)) (none_fail t xs (λ y i. h y (there i)))

no_filter : {X : Type 0} (t : X → Bool) (xs : List X) → length (filter t xs) ≡ 0 → list_any t xs ≡ false
no_filter t [] e = refl
no_filter t (x ∷ xs) e = go (t x) e (no_filter t xs)
  where
    go : (b : Bool) → length (cond b (x ∷ filter t xs) (filter t xs)) ≡ 0 → (length (filter t xs) ≡ 0 → list_any t xs ≡ false) → (b || list_any t xs) ≡ false
    go true w f = let r : suc (length (filter t xs)) ≡ 0 = w in absurd (omega arith)
    go false w f = f w

split_length : {X : Type 0} (t : X → Bool) (xs : List X) → length (filter (λ x. not (t x)) xs) + length (filter t xs) ≡ length xs
split_length t [] = refl
split_length {X} t (x ∷ xs) = go (t x) (split_length t xs)
  where
    stay : List X
    stay = filter (λ x. not (t x)) xs

    leave : List X
    leave = filter t xs

    go : (b : Bool) → length stay + length leave ≡ length xs → length (cond (not b) (x ∷ stay) stay) + length (cond b (x ∷ leave) leave) ≡ suc (length xs)
    go true e = let f : length stay + suc (length leave) ≡ suc (length xs) = omega arith in f
    go false e = let f : suc (length stay) + length leave ≡ suc (length xs) = omega arith in f

placed_length : (xs : List ℕ) (n : ℕ) → length (placed xs n) ≡ suc (length xs)
placed_length [] n = refl
placed_length (x ∷ xs) n = go (nat_lt x n) (placed_length xs n)
  where
    go : (b : Bool) → length (placed xs n) ≡ suc (length xs) → length (cond b (x ∷ placed xs n) (n ∷ x ∷ xs)) ≡ suc (suc (length xs))
    go true e = ap suc e
    go false e = refl

all_placed_length : (xs ns : List ℕ) → length (fold placed xs ns) ≡ length xs + length ns
all_placed_length xs [] = omega arith
all_placed_length xs (n ∷ ns) = let e : length (fold placed (placed xs n) ns) ≡ length (placed xs n) + length ns = all_placed_length (placed xs n) ns in let f : length (placed xs n) ≡ suc (length xs) = placed_length xs n in let g : length (fold placed (placed xs n) ns) ≡ length xs + suc (length ns) = omega arith in g

-- ---- removals of nothing

no_ranges : (leaves : ℕ → Bool) (ns : List ℕ) → ((n : ℕ) → IsIn n ns → leaves n ≡ false) → ranges leaves ns ≡ []
no_ranges leaves [] h = refl
no_ranges leaves (n ∷ ns) h = ap (λ (b : Bool). cond b (with_leaving n (first_leaves leaves ns) (ranges leaves ns)) (ranges leaves ns)) (h n here) ∙ no_ranges leaves ns (λ m i. h m (there i))

pub no_removals : (before after : List Message) → IsPart after before → length after ≡ length before → removals [] before after ≡ []
no_removals before after p e = subst (λ (l : List Message). removals [] before l ≡ []) (sym (part_full p e)) all_stay
  where
    all_stay : removals [] before before ≡ []
    all_stay = ap (map remove_of) (no_ranges (λ n. not (has (seqs before) n)) (filter (λ n. not (has [] n)) (seqs before)) (λ n i. ap not (in_has n (seqs before) (in_filter (λ n. not (has [] n)) n (seqs before) i).0)))

-- ---- what consumers hold

abbrev pub weight : Consumer → ℕ
weight c = length c.pending + length c.pending + length c.given_up

abbrev pub weights : List Consumer → ℕ
weights [] = 0
weights (c ∷ cs) = weight c + weights cs

pub weights_fall : (f : Consumer → Consumer) (cs : List Consumer) → ((c : Consumer) → IsIn c cs → weight (f c) ≤ weight c) → weights (map f cs) ≤ weights cs
weights_fall f [] h = omega arith
weights_fall f (c ∷ cs) h = let a : weight (f c) ≤ weight c = h c here in let b : weights (map f cs) ≤ weights cs = weights_fall f cs (λ d i. h d (there i)) in let e : weight (f c) + weights (map f cs) ≤ weight c + weights cs = omega arith in e

pub weights_each : (f : Consumer → Consumer) (cs : List Consumer) → ((c : Consumer) → IsIn c cs → weight (f c) ≤ weight c) → weights (map f cs) ≡ weights cs → (c : Consumer) → IsIn c cs → weight (f c) ≡ weight c
weights_each f [] h e c i = elim i [ ]
weights_each f (d ∷ ds) h e c i = go (h d here) (weights_fall f ds (λ x j. h x (there j))) e (weights_each f ds (λ x k. h x (there k))) c i
  where
    go : weight (f d) ≤ weight d → weights (map f ds) ≤ weights ds → weight (f d) + weights (map f ds) ≡ weight d + weights ds → (weights (map f ds) ≡ weights ds → (c : Consumer) → IsIn c ds → weight (f c) ≡ weight c)
        → (c : Consumer) → IsIn c (d ∷ ds) → weight (f c) ≡ weight c
    go x y z r c here = omega (arith, x, y, z)
    go x y z r c (there j) = r (omega (arith, x, y, z)) c j

pub weight_parts : (c d : Consumer) → IsPart d.pending c.pending → IsPart d.given_up c.given_up → weight d ≤ weight c
weight_parts c d p g = let a : length d.pending ≤ length c.pending = part-length p in let b : length d.given_up ≤ length c.given_up = part-length g in omega arith

-- what is given up weighs less than what waits
weight_at : (moment : ℕ) (c : Consumer) → weight (consumer_at moment c) + length (filter (is_spent moment c) c.pending) ≤ weight c
weight_at moment c =
    let spent : ℕ = length (filter (is_spent moment c) c.pending) in
    let split : length (filter (λ p. not (is_spent moment c p)) c.pending) + length (filter (is_spent moment c) c.pending) ≡ length c.pending = split_length (is_spent moment c) c.pending in
    let seqs : List ℕ = map (λ p. p.seq) (filter (is_spent moment c) c.pending) in
    let named : length (map (λ p. p.seq) (filter (is_spent moment c) c.pending)) ≡ length (filter (is_spent moment c) c.pending) = length-map (filter (is_spent moment c) c.pending) (λ p. p.seq) in
    let kept : length (all_given_up moment c) ≤ length (fold placed c.given_up (map (λ p. p.seq) (filter (is_spent moment c) c.pending))) = part-length (drop_part _ (fold placed c.given_up (map (λ p. p.seq) (filter (is_spent moment c) c.pending)))) in
    let more : length (fold placed c.given_up (map (λ p. p.seq) (filter (is_spent moment c) c.pending))) ≡ length c.given_up + length (map (λ p. p.seq) (filter (is_spent moment c) c.pending)) = all_placed_length c.given_up (map (λ p. p.seq) (filter (is_spent moment c) c.pending)) in
    omega arith

-- ---- streams

-- the moment rises, and there are no more messages, ids and entries
pub record Falls (x y : Stream) : Type 0 where
  pub moment : x.moment ≤ y.moment
  pub messages : length y.messages ≤ length x.messages
  pub ids : length y.ids ≤ length x.ids
  pub held : weights y.consumers ≤ weights x.consumers

-- all of these are the same
pub record Even (x y : Stream) : Type 0 where
  pub moment : x.moment ≡ y.moment
  pub messages : length y.messages ≡ length x.messages
  pub ids : length y.ids ≡ length x.ids
  pub held : weights y.consumers ≡ weights x.consumers

pub falls_both : (x y z : Stream) → Falls x y → Falls y z → Falls x z
falls_both x y z f g = record {
  moment = let a : x.moment ≤ y.moment = f.moment in let b : y.moment ≤ z.moment = g.moment in omega arith;
  messages = let a : length y.messages ≤ length x.messages = f.messages in let b : length z.messages ≤ length y.messages = g.messages in omega arith;
  ids = let a : length y.ids ≤ length x.ids = f.ids in let b : length z.ids ≤ length y.ids = g.ids in omega arith;
  held = let a : weights y.consumers ≤ weights x.consumers = f.held in let b : weights z.consumers ≤ weights y.consumers = g.held in omega arith;
}

pub falls_none : (x : Stream) → Falls x x
falls_none x = record { moment = omega arith; messages = omega arith; ids = omega arith; held = omega arith }

-- what is even over two falls is even over each
pub even_first : (x y z : Stream) → Falls x y → Falls y z → Even x z → Even x y
even_first x y z f g e = record {
  moment = let a : x.moment ≤ y.moment = f.moment in let b : y.moment ≤ z.moment = g.moment in let c : x.moment ≡ z.moment = e.moment in omega arith;
  messages = let a : length y.messages ≤ length x.messages = f.messages in let b : length z.messages ≤ length y.messages = g.messages in let c : length z.messages ≡ length x.messages = e.messages in omega arith;
  ids = let a : length y.ids ≤ length x.ids = f.ids in let b : length z.ids ≤ length y.ids = g.ids in let c : length z.ids ≡ length x.ids = e.ids in omega arith;
  held = let a : weights y.consumers ≤ weights x.consumers = f.held in let b : weights z.consumers ≤ weights y.consumers = g.held in let c : weights z.consumers ≡ weights x.consumers = e.held in omega arith;
}

pub even_second : (x y z : Stream) → Falls x y → Falls y z → Even x z → Even y z
even_second x y z f g e = record {
  moment = let a : x.moment ≤ y.moment = f.moment in let b : y.moment ≤ z.moment = g.moment in let c : x.moment ≡ z.moment = e.moment in omega arith;
  messages = let a : length y.messages ≤ length x.messages = f.messages in let b : length z.messages ≤ length y.messages = g.messages in let c : length z.messages ≡ length x.messages = e.messages in omega arith;
  ids = let a : length y.ids ≤ length x.ids = f.ids in let b : length z.ids ≤ length y.ids = g.ids in let c : length z.ids ≡ length x.ids = e.ids in omega arith;
  held = let a : weights y.consumers ≤ weights x.consumers = f.held in let b : weights z.consumers ≤ weights y.consumers = g.held in let c : weights z.consumers ≡ weights x.consumers = e.held in omega arith;
}

pub falls_only : (s : Stream) (messages : List Message) → IsPart messages s.messages → Falls s (only s messages)
falls_only s messages p = record {
  moment = omega arith;
  messages = part-length p;
  ids = omega arith;
  held = weights_fall (confined (seqs messages)) s.consumers (λ c i. weight_parts c (confined (seqs messages) c) (filter_part _ c.pending) (filter_part _ c.given_up));
}

-- a consumer that weighs no more in the place of one
pub falls_with : (s : Stream) (name : Bytes) (c new : Consumer) → AreOrdered s.consumers → by_name s.consumers name ≡ Some c → new.name ≡ c.name → weight new ≤ weight c → Falls s (with_consumer s new)
falls_with s name c new o e n w = record {
  moment = omega arith;
  messages = omega arith;
  ids = omega arith;
  held = weights_fall (in_place_of new) s.consumers each;
}
  where
    named : new.name ≡ name
    named = n ∙ found_named s.consumers name c e

    each : (d : Consumer) → IsIn d s.consumers → weight (in_place_of new d) ≤ weight d
    each d i = go (same d.name new.name) refl
      where
        go : (b : Bool) → same d.name new.name ≡ b → weight (cond b new d) ≤ weight d
        go true q = subst (λ (x : Consumer). weight new ≤ weight x) (sym (one_named s.consumers name c d o e i (subst (λ (x : Bytes). same d.name x ≡ true) named q))) w
        go false q = omega arith

-- ---- time

falls_told : (s : Stream) (moment : ℕ) → s.moment ≤ moment → Falls s (told s moment)
falls_told s moment le = record { moment = le; messages = omega arith; ids = part-length (filter_part _ s.ids); held = omega arith }

falls_given_up : (s : Stream) (moment : ℕ) → Falls s (record s { consumers = map (consumer_at moment) s.consumers })
falls_given_up s moment = record {
  moment = omega arith;
  messages = omega arith;
  ids = omega arith;
  held = weights_fall (consumer_at moment) s.consumers (λ c i. let a : weight (consumer_at moment c) + length (filter (is_spent moment c) c.pending) ≤ weight c = weight_at moment c in omega arith);
}

pub falls_at : (s : Stream) (moment : ℕ) → s.moment ≤ moment → Falls s (stream_at s moment)
falls_at s moment le = falls_both s (told s moment) (stream_at s moment) (falls_told s moment le) (falls_both (told s moment) (aged s moment) (stream_at s moment) (falls_only (told s moment) (young s moment) (young_part s moment)) (falls_given_up (aged s moment) moment))

no_now : (s : Stream) (moment : ℕ) → Even s (told s moment) → now_effects s moment ≡ []
no_now s moment e =
    ap (λ (b : Bool). cond (b && not (has_spent_ids s moment)) [] (Now moment ∷ [])) (eq-eqb s.moment moment e.moment)
    ∙ ap (λ (b : Bool). cond (not b) [] (Now moment ∷ [])) (none_fail (λ i. nat_lt moment (plus i.at s.config.duplicate_window)) s.ids (filter_full (λ i. nat_lt moment (plus i.at s.config.duplicate_window)) s.ids e.ids))

none_of : {X Y : Type 0} (f : X → List Y) (xs : List X) → ((x : X) → IsIn x xs → f x ≡ []) → flat_map f xs ≡ []
none_of f [] h = refl
none_of f (x ∷ xs) h = ap (λ l. l ++ flat_map f xs) (h x here) ∙ none_of f xs (λ y i. h y (there i))

no_given_up : (s : Stream) (moment : ℕ) → Even s (record s { consumers = map (consumer_at moment) s.consumers }) → flat_map (given_up_effects moment) s.consumers ≡ []
no_given_up s moment e = none_of (given_up_effects moment) s.consumers each
  where
    lighter : (c : Consumer) → IsIn c s.consumers → weight (consumer_at moment c) ≤ weight c
    lighter c i = let a : weight (consumer_at moment c) + length (filter (is_spent moment c) c.pending) ≤ weight c = weight_at moment c in omega arith

    each : (c : Consumer) → IsIn c s.consumers → given_up_effects moment c ≡ []
    each c i =
        let same : weight (consumer_at moment c) ≡ weight c = weights_each (consumer_at moment) s.consumers lighter e.held c i in
        let a : weight (consumer_at moment c) + length (filter (is_spent moment c) c.pending) ≤ weight c = weight_at moment c in
        ap (λ (b : Bool). cond b (GivenUp c.name moment ∷ []) []) (no_filter (is_spent moment c) c.pending (omega arith))

pub no_effects_at : (s : Stream) (moment : ℕ) → s.moment ≤ moment → Even s (stream_at s moment) → effects_at s moment ≡ []
no_effects_at s moment le e =
    let later = falls_both (told s moment) (aged s moment) (stream_at s moment) (falls_only (told s moment) (young s moment) (young_part s moment)) (falls_given_up (aged s moment) moment) in
    let rest = even_second s (told s moment) (stream_at s moment) (falls_told s moment le) later e in
    let left = even_first (told s moment) (aged s moment) (stream_at s moment) (falls_only (told s moment) (young s moment) (young_part s moment)) (falls_given_up (aged s moment) moment) rest in
    let given = even_second (told s moment) (aged s moment) (stream_at s moment) (falls_only (told s moment) (young s moment) (young_part s moment)) (falls_given_up (aged s moment) moment) rest in
    ap (λ l. l ++ (removals [] s.messages (young s moment) ++ flat_map (given_up_effects moment) (aged s moment).consumers)) (no_now s moment (even_first s (told s moment) (stream_at s moment) (falls_told s moment le) later e))
    ∙ ap (λ l. l ++ flat_map (given_up_effects moment) (aged s moment).consumers) (no_removals s.messages (young s moment) (young_part s moment) left.messages)
    ∙ no_given_up (aged s moment) moment given
