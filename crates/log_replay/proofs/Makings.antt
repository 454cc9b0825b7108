-- What is made of a stream is what its record says.
use Rattle.std.proofs.Common.{◌≡◌, ◌⊎◌, inl, inr, ℕ, ◌+◌, ◌<◌, ◌≤◌, Bool, true, false, cond, List, length, get_or, set, map, Option, Some, None, Result, Ok, Err, IsTrue, refl, sym, ap, subst, ◌∙◌, arith}
use Rattle.std.specs.Prelude.{OnOk, is_some, nat_le, ⊤}
use Rattle.std.specs.List.{position}
use Rattle.std.proofs.lemmas.Bool.{eq-eqb}
use Rattle.std.proofs.lemmas.Bool.Decides.{nat_tests}
use Rattle.js_base.specs.Bytes.{Bytes}
use Rattle.js_model.specs.declared.stream_config.StreamConfig.{StreamConfig}
use Rattle.js_model.specs.declared.stream.Message.{Message}
use Rattle.js_model.specs.declared.consumer_config.ConsumerConfig.{ConsumerConfig}
use Rattle.js_model.specs.declared.consumer.Consumer.{Consumer}
use Rattle.js_model.specs.Streams.{by_name, in_place_of}
use Rattle.js_model.proofs.Named.{found_named, none_some, some_is}
use Rattle.model_laws.specs.Bounds.{IsNumber}
use Rattle.model_laws.specs.Sound.{AreOrdered}
use Rattle.effects.specs.declared.durable.Body.{Body}
use Rattle.effects.specs.declared.durable.Durable.{Durable}
use Rattle.effects.specs.declared.effect.Effect.{Effect}
use Rattle.effects.specs.declared.effect.Effect.TheVariants.{MakeStream, ChangeStream, DropStream, PutHere, Skip, Remove, Now}
use Rattle.effects.specs.Folding.{live, live_if, fold, fold_in, empty_body, vacant, is_next, numbered, put, removed, at_moment, replaced}
use Rattle.durable_checks.specs.Storable.{IsStorable}
use Rattle.record_fold.proofs.Replacing.{has_name, place, at_none, at_place, replaced_at, some_found}
use Rattle.log_replay.specs.Made.{KeepsStorable, Makes, Replaces}
use Rattle.log_replay.specs.Given.{IsGivenStream}
use Rattle.log_replay.specs.Taken.{IsChange, IsNextNumber, IsNextMessage, IsTaken, IsTakenIn, IsThere}
use Rattle.log_replay.proofs.Streams.{empty_stored}

-- ---- answers

pub both_ok : {T E P Q R : Type 0} (r : Result T E) → OnOk r P → OnOk r Q → (P → Q → R) → OnOk r R
both_ok (Ok value) p q f = f p q
both_ok (Err fault) p q f = tt

pub at_ok : {T E P Q : Type 0} (r : Result T E) → OnOk r P → (P → Q) → OnOk r Q
at_ok (Ok value) p f = f p
at_ok (Err fault) p f = tt

-- ---- records of messages and ids

pub makes_change : (b new : Body) (config : StreamConfig) → new ≡ record b { config = config } → KeepsStorable b new → Makes b (ChangeStream config) new
makes_change b new config is keeps = record { made = λ i. ap (λ (x : Body). Some (live i x)) (sym is); keeps = keeps }

pub makes_put : (b new : Body) (m : Message) (id : Bytes) → IsNextMessage b m.seq m.at id → new ≡ put m id b → KeepsStorable b new → Makes b (PutHere m.seq m.at id m.subject m.headers m.payload) new
makes_put b new m id next is keeps = record {
  made = λ i. ap (λ (t : Bool). cond t (Some (live i (put m id b))) None) next.number.next ∙ ap (λ (x : Body). Some (live i x)) (sym is);
  keeps = keeps;
}

pub makes_skip : (b new : Body) (seq at : ℕ) (id : Bytes) → IsNextNumber b seq at id → new ≡ numbered seq at id b → KeepsStorable b new → Makes b (Skip seq at id) new
makes_skip b new seq at id next is keeps = record {
  made = λ i. ap (λ (t : Bool). cond t (Some (live i (numbered seq at id b))) None) next.next ∙ ap (λ (x : Body). Some (live i x)) (sym is);
  keeps = keeps;
}

pub makes_remove : (b new : Body) (low high : ℕ) → new ≡ removed low high b → KeepsStorable b new → Makes b (Remove low high) new
makes_remove b new low high is keeps = record { made = λ i. ap (λ (x : Body). Some (live i x)) (sym is); keeps = keeps }

later : (m n : ℕ) → m ≤ n → nat_le m n ≡ true
later m n h = grind (arith, nat_tests)

pub makes_now : (b new : Body) (moment : ℕ) → b.moment ≤ moment → new ≡ at_moment moment b → KeepsStorable b new → Makes b (Now moment) new
makes_now b new moment le is keeps = record {
  made = λ i. ap (λ (t : Bool). cond t (Some (live i (at_moment moment b))) None) (later b.moment moment le) ∙ ap (λ (x : Body). Some (live i x)) (sym is);
  keeps = keeps;
}

-- ---- of a consumer that is changed at its place

-- it is found there, and its change is that of the one of its name
pub record IsChangedAt (name : Bytes) (cs : List Consumer) (k : ℕ) (old new : Consumer) : Type 0 where
  pub within : k < length cs
  pub found : by_name cs name ≡ Some old
  pub changed : set cs k new ≡ map (in_place_of new) cs

pub changed_at : (name : Bytes) (cs : List Consumer) (k : ℕ) (old new : Consumer) → position (has_name name) cs ≡ Some k → old ≡ get_or cs k old → AreOrdered cs → new.name ≡ old.name → IsChangedAt name cs k old new
changed_at name cs k old new at is ordered same =
    let there = at_place name cs k old at in
    let found : by_name cs name ≡ Some old = there.found ∙ ap Some (sym is) in
    let named : new.name ≡ name = same ∙ found_named cs name old found in
    let place_is : k ≡ place new.name cs = there.is_place ∙ ap (λ (n : Bytes). place n cs) (sym named) in
    record {
      within = there.within;
      found = found;
      changed = ap (λ (n : ℕ). set cs n new) place_is ∙ replaced_at new cs ordered (subst (λ (n : ℕ). n < length cs) place_is there.within);
    }

-- ---- of a stream that stays

pub record IsMade (d : Durable) (e : Effect) (new : Durable) : Type 0 where
  pub made : fold d e ≡ Some new
  pub storable : IsStorable new

pub stream_made : (i : ℕ) (b new : Body) (e : Effect) → Makes b e new → IsStorable (live i b) → IsMade (live i b) e (live i new)
stream_made i b new e m storable = record { made = m.made i; storable = m.keeps.kept i storable }

-- ---- the consumer of a name at its place

pub not_there : (name : Bytes) (cs : List Consumer) (P : Consumer → Type 0) → IsThere cs name P → position (has_name name) cs ≡ None → ⊥
not_there name cs P there none = none_some (sym (at_none name cs none) ∙ there.found)

pub found_at : (name : Bytes) (cs : List Consumer) (k : ℕ) (old : Consumer) → position (has_name name) cs ≡ Some k → old ≡ get_or cs k old → by_name cs name ≡ Some old
found_at name cs k old at is = (at_place name cs k old at).found ∙ ap Some (sym is)

pub fits_at : (name : Bytes) (cs : List Consumer) (P : Consumer → Type 0) (k : ℕ) (old : Consumer) → IsThere cs name P → position (has_name name) cs ≡ Some k → old ≡ get_or cs k old → P old
fits_at name cs P k old there at is = let same : there.consumer ≡ old = some_is (sym there.found ∙ found_at name cs k old at is) in subst P same there.fits

pub there_at : (name : Bytes) (cs : List Consumer) (P : Consumer → Type 0) (k : ℕ) (old : Consumer) → position (has_name name) cs ≡ Some k → old ≡ get_or cs k old → P old → IsThere cs name P
there_at name cs P k old at is fits = record { consumer = old; found = found_at name cs k old at is; fits = fits }

pub replaces_at : (name : Bytes) (Became : Consumer → Consumer → Type 0) (cs : List Consumer) (k : ℕ) (old new : Consumer) → position (has_name name) cs ≡ Some k → old ≡ get_or cs k old → AreOrdered cs → new.name ≡ (get_or cs k old).name
    → Became (get_or cs k old) new → Replaces name Became cs (set cs k new)
replaces_at name Became cs k old new at is ordered same became =
    let there = changed_at name cs k old new at is ordered (same ∙ ap (λ (c : Consumer). c.name) (sym is)) in
    record { one = old; other = new; found = there.found; became = subst (λ (c : Consumer). Became c new) (sym is) became; replaced = there.changed }

pub there_if : (name : Bytes) (cs : List Consumer) (o : Option ℕ) → o ≡ position (has_name name) cs → is_some o ≡ true → IsThere cs name (λ c. ⊤)
there_if name cs o at is = let found = some_found name cs o at is in record { consumer = found.0; found = found.1; fits = tt }

-- ---- of a place

pub begun : (d : Durable) (incarnation made : ℕ) (config : StreamConfig) → IsTaken d (MakeStream incarnation made config) → IsGivenStream incarnation config → IsNumber made
    → IsMade d (MakeStream incarnation made config) (live incarnation (empty_body made config))
begun d incarnation made config taken given small = go d.body taken
  where
    go : (o : Option Body) → IsTakenIn d.incarnation o (MakeStream incarnation made config) → IsMade (record d { body = o }) (MakeStream incarnation made config) (live incarnation (empty_body made config))
    go None next = record {
      made = ap (λ (t : Bool). cond t (Some (live incarnation (empty_body made config))) None) (eq-eqb incarnation (d.incarnation + 1) next);
      storable = empty_stored incarnation made config given.number small given.valid;
    }
    go (Some b) (inl e) = absurd cc
    go (Some b) (inr h) = absurd h

pub dropped : (d : Durable) → IsTaken d DropStream → IsStorable d → IsMade d DropStream (vacant d.incarnation)
dropped d taken storable = go d.body taken storable
  where
    go : (o : Option Body) → IsTakenIn d.incarnation o DropStream → IsStorable (record d { body = o }) → IsMade (record d { body = o }) DropStream (vacant d.incarnation)
    go None h k = absurd h
    go (Some b) h k = record { made = refl; storable = record { stored = tt; bounded = k.bounded.incarnation } }

-- the record is one of a stream that stays
pub changes : (d : Durable) (b : Body) (e : Effect) → d.body ≡ Some b → (e ≡ DropStream → ⊥) → IsTaken d e → IsChange b e
changes d b e is other taken = go (subst (λ (o : Option Body). IsTakenIn d.incarnation o e) is taken)
  where
    go : (e ≡ DropStream) ⊎ IsChange b e → IsChange b e
    go (inl same) = absurd (other same)
    go (inr h) = h

pub changed : (d : Durable) (b new : Body) (e : Effect) → d.body ≡ Some b → Makes b e new → IsStorable d → IsMade d e (live d.incarnation new)
changed d b new e is m storable =
    let same : d ≡ live d.incarnation b = ap (λ (o : Option Body). record d { body = o }) is in
    subst (λ (x : Durable). IsMade x e (live d.incarnation new)) (sym same) (stream_made d.incarnation b new e m (subst IsStorable same storable))
