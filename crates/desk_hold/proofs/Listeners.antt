-- Who listens is read for one push consumer after the other.
use Rattle.std.proofs.Common.{◌≡◌, ◌≤◌, ◌<◌, ◌+◌, ◌++◌, ℕ, zero, suc, Bool, true, false, List, [], ◌∷◌, length, length-append, take, get_or, add-one, Option, None, Some, Err, refl, sym, ap, subst, ◌∙◌, arith}
use Rattle.std.specs.Prelude.{slice_get, filter, map, option_map, if◌then◌else◌, IfOk, IfErr, Result, Ok}
use Rattle.std.proofs.Math.Seq.{take-suc}
use Rattle.std.proofs.lemmas.List.{length-take-le, take_all, map-append}
use Rattle.std.proofs.lemmas.List.Elements.{filter-append}
use Rattle.std.proofs.lemmas.Option.{get_or_from_slice_get, slice_get_within}
use Rattle.js_base.specs.Bytes.{Bytes}
use Rattle.js_model.specs.declared.stream.State.{State}
use Rattle.js_model.specs.declared.stream.State.TheVariants.{Vacant, Live}
use Rattle.js_model.specs.declared.consumer.Consumer.{Consumer}
use Rattle.js_model.specs.Router.{RouteCall, RouteTold, Interest, Listens}
use Rattle.js_api.specs.Entries.{Reading}
use Rattle.js_api.specs.Holding.{AreFirstReadings, AreReadings, listening_of, push_consumers}
use Rattle.place_engine.specs.Pushes.{Pushing, push_of, pushes_in}
use Rattle.desk_hold.specs.declared.port.PortFault.TheVariants as faults
use Rattle.desk_hold.specs.Ports.{AreHeard, HearsBy, readings_of}
use Rattle.desk_hold.specs.Hearing.{Hears}
use Rattle.desk_hold.specs.declared.port.PortFault.{PortFault}

-- ---- the push consumers

-- the two words for the push consumers say the same
pub same_pushes : (state : State) → pushes_in state ≡ push_consumers state
same_pushes (Vacant last) = refl
same_pushes (Live stream) = refl

there : (o : Option Consumer) (push : Pushing) → Some push ≡ option_map push_of o → (c : Consumer) × (o ≡ Some c) × (push ≡ push_of c)
there None push is = let no : ⊥ = cc in absurd no
there (Some c) push is = let same : push ≡ push_of c = cc in (c, refl, same)

-- the place is one of a push consumer
pub is_within : (state : State) (at : ℕ) (push : Pushing) → Some push ≡ option_map push_of (slice_get (pushes_in state) at) → at < length (pushes_in state)
is_within state at push is = let t = there (slice_get (pushes_in state) at) push is in slice_get_within (pushes_in state) at t.0 t.1

-- one more of them
pub one_push : (state : State) (at : ℕ) (push : Pushing) (items : List Pushing) → Some push ≡ option_map push_of (slice_get (pushes_in state) at) → items ≡ map push_of (take at (pushes_in state))
    → items ++ push ∷ [] ≡ map push_of (take (at + 1) (pushes_in state))
one_push state at push items is so_far =
    let t = there (slice_get (pushes_in state) at) push is in
    let cs : List Consumer = pushes_in state in
    let next : take (at + 1) cs ≡ take at cs ++ t.0 ∷ [] =
    ap (λ (n : ℕ). take n cs) (add-one at) ∙ take-suc cs at t.0 (slice_get_within cs at t.0 t.1) ∙ ap (λ (c : Consumer). take at cs ++ c ∷ []) (get_or_from_slice_get cs at t.0 t.0 t.1) in
    ap (λ (ps : List Pushing). ps ++ push ∷ []) so_far
    ∙ ap (λ (p : Pushing). map push_of (take at cs) ++ p ∷ []) t.2
    ∙ sym (map-append push_of (take at cs) (t.0 ∷ []))
    ∙ ap (λ (l : List Consumer). map push_of l) (sym next)

none_left : {X : Type 0} (xs : List X) (i : ℕ) → slice_get xs i ≡ None → length xs ≤ i
none_left [] i none = omega arith
none_left (x ∷ xs) zero none = let no : ⊥ = cc in absurd no
none_left (x ∷ xs) (suc i) none = omega (arith, none_left xs i none)

not_there : (o : Option Consumer) → None ≡ option_map push_of o → o ≡ None
not_there None is = refl
not_there (Some c) is = let no : ⊥ = cc in absurd no

-- behind the last one there is none
pub all_pushes : (state : State) (at : ℕ) (items : List Pushing) → None ≡ option_map push_of (slice_get (pushes_in state) at) → items ≡ map push_of (take at (pushes_in state))
    → items ≡ map push_of (pushes_in state)
all_pushes state at items none so_far =
    so_far ∙ ap (λ (cs : List Consumer). map push_of cs) (take_all at (pushes_in state) (none_left (pushes_in state) at (not_there (slice_get (pushes_in state) at) none)))

-- ---- what was told of them

-- a reading for each, in order
are_readings : (cs : List Consumer) (told : List Bool) → length told ≡ length (map push_of cs) → AreReadings cs (readings_of (map push_of cs) told)
are_readings [] told same = refl
are_readings (c ∷ cs) [] same = let no : ⊥ = omega (arith, same) in absurd no
are_readings (c ∷ cs) (heard ∷ told) same = (heard, readings_of (map push_of cs) told, refl, are_readings cs told (omega (arith, same)))

-- for the first of them
are_first : (cs : List Consumer) (told : List Bool) → AreFirstReadings cs (readings_of (map push_of cs) told)
are_first [] told = tt
are_first (c ∷ cs) [] = tt
are_first (c ∷ cs) (heard ∷ told) = (heard, refl, are_first cs told)

-- ---- one more was told

abbrev pub reading_of : Pushing → Bool → Reading
reading_of push heard = record { consumer = push.name; subject = push.subject; group = push.group; heard = heard }

more_readings : (pushes : List Pushing) (told : List Bool) (push : Pushing) (heard : Bool) → length told ≡ length pushes
    → readings_of (pushes ++ push ∷ []) (told ++ heard ∷ []) ≡ readings_of pushes told ++ reading_of push heard ∷ []
more_readings [] [] push heard same = refl
more_readings [] (h ∷ told) push heard same = let no : ⊥ = omega (arith, same) in absurd no
more_readings (p ∷ pushes) [] push heard same = let no : ⊥ = omega (arith, same) in absurd no
more_readings (p ∷ pushes) (h ∷ told) push heard same =
    ap (λ (rs : List Reading). reading_of p h ∷ rs) (more_readings pushes told push heard (omega (arith, same)))

-- by the places of the push consumers and of what was told
next_readings : (pushes : List Pushing) (told : List Bool) (at : ℕ) (push : Pushing) (heard : Bool) → length told ≡ at → at < length pushes → push ≡ get_or pushes at push
    → readings_of (take (at + 1) pushes) (told ++ heard ∷ []) ≡ readings_of (take at pushes) told ++ reading_of push heard ∷ []
next_readings pushes told at push heard count within is =
    let next : take (at + 1) pushes ≡ take at pushes ++ push ∷ [] =
    ap (λ (n : ℕ). take n pushes) (add-one at) ∙ take-suc pushes at push within ∙ ap (λ (p : Pushing). take at pushes ++ p ∷ []) (sym is) in
    let long : length (take at pushes) ≡ at = length-take-le at pushes (omega (arith, within)) in
    ap (λ (ps : List Pushing). readings_of ps (told ++ heard ∷ [])) next ∙ more_readings (take at pushes) told push heard (count ∙ sym long)

-- ---- who listens

heard_more : (first : List Reading) (reading : Reading) → listening_of (first ++ reading ∷ []) ≡ listening_of first ++ listening_of (reading ∷ [])
heard_more first reading =
    ap (λ (rs : List Reading). map (λ (r : Reading). r.consumer) rs) (filter-append (λ (r : Reading). r.heard) first (reading ∷ []))
    ∙ map-append (λ (r : Reading). r.consumer) (filter (λ (r : Reading). r.heard) first) (filter (λ (r : Reading). r.heard) (reading ∷ []))

-- the names so far, and the name of the next one if somebody listens for it
pub next_named : (pushes : List Pushing) (told : List Bool) (at : ℕ) (push : Pushing) (heard : Bool) (listening after : List Bytes) → length told ≡ length pushes → at < length pushes
    → push ≡ get_or pushes at push → get_or told at false ≡ heard → listening ≡ listening_of (readings_of (take at pushes) (take at told))
    → after ≡ listening ++ (if heard then push.name ∷ [] else []) → after ≡ listening_of (readings_of (take (at + 1) pushes) (take (at + 1) told))
next_named pushes told at push heard listening after same within is was so_far added =
    let next : take (at + 1) told ≡ take at told ++ heard ∷ [] =
    ap (λ (n : ℕ). take n told) (add-one at) ∙ take-suc told at false (omega (arith, within, same)) ∙ ap (λ (b : Bool). take at told ++ b ∷ []) was in
    let long : length (take at told) ≡ at = length-take-le at told (omega (arith, within, same)) in
    let readings : readings_of (take (at + 1) pushes) (take (at + 1) told) ≡ readings_of (take at pushes) (take at told) ++ reading_of push heard ∷ [] =
    ap (λ (bs : List Bool). readings_of (take (at + 1) pushes) bs) next ∙ next_readings pushes (take at told) at push heard long within is in
    added ∙ ap (λ (l : List Bytes). l ++ (if heard then push.name ∷ [] else [])) so_far
    ∙ ap (λ (l : List Bytes). listening_of (readings_of (take at pushes) (take at told)) ++ l) (named heard)
    ∙ sym (heard_more (readings_of (take at pushes) (take at told)) (reading_of push heard))
    ∙ ap listening_of (sym readings)
  where
    named : (b : Bool) → (if b then push.name ∷ [] else []) ≡ listening_of (reading_of push b ∷ [])
    named true = refl
    named false = refl

pub all_named : (pushes : List Pushing) (told : List Bool) (at : ℕ) (listening : List Bytes) → length told ≡ length pushes → length pushes ≤ at
    → listening ≡ listening_of (readings_of (take at pushes) (take at told)) → listening ≡ listening_of (readings_of pushes told)
all_named pushes told at listening same all so_far =
    so_far ∙ ap (λ (ps : List Pushing). listening_of (readings_of ps (take at told))) (take_all at pushes all)
    ∙ ap (λ (bs : List Bool). listening_of (readings_of pushes bs)) (take_all at told (omega (arith, all, same)))

module _ {R : Type 0} (routes : R → RouteCall → RouteTold → R → Type 0) (worn : R → ℕ → R → Type 0) where
  more_heard : (readings : List Reading) (last : Reading) (old here new : R) → AreHeard routes worn old readings here → routes here (Interest last.subject last.group) (Listens last.heard) new
      → AreHeard routes worn old (readings ++ last ∷ []) new
  more_heard [] last old here new h one = (new, subst (λ (r : R). routes r (Interest last.subject last.group) (Listens last.heard) new) (sym h) one, refl)
  more_heard (reading ∷ readings) last old here new (mid, first, rest) one = (mid, first, more_heard readings last mid here new rest one)

  -- it was asked so for the first ones
  pub record HeardSoFar (pushes : List Pushing) (at : ℕ) (told : List Bool) (old here : R) : Type 0 where
    pub count : length told ≡ at
    pub heard : AreHeard routes worn old (readings_of (take at pushes) told) here

  pub none_heard : (pushes : List Pushing) (told : List Bool) (r : R) → told ≡ [] → HeardSoFar pushes 0 told r r
  none_heard pushes told r none =
      subst (λ (bs : List Bool). HeardSoFar pushes 0 bs r r) (sym none) (record { count = refl; heard = refl })

  pub next_heard : (pushes : List Pushing) (at : ℕ) (told after : List Bool) (push : Pushing) (heard : Bool) (old here new : R) → at < length pushes → push ≡ get_or pushes at push
      → HeardSoFar pushes at told old here → routes here (Interest push.subject push.group) (Listens heard) new → after ≡ told ++ heard ∷ [] → HeardSoFar pushes (at + 1) after old new
  next_heard pushes at told after push heard old here new within is h one added = record {
    count = ap length added ∙ length-append told (heard ∷ []) ∙ ap (λ (n : ℕ). n + 1) h.count;
    heard = subst (λ (rs : List Reading). AreHeard routes worn old rs new)
        (sym (next_readings pushes told at push heard h.count within is) ∙ ap (λ (bs : List Bool). readings_of (take (at + 1) pushes) bs) (sym added))
        (more_heard (readings_of (take at pushes) told) (reading_of push heard) old here new h.heard one);
  }

  pub all_heard : (pushes : List Pushing) (at : ℕ) (told : List Bool) (old here : R) → at ≡ length pushes → HeardSoFar pushes at told old here → HearsBy routes worn pushes (Ok told) old here
  all_heard pushes at told old here all h = (
    h.count ∙ all,
    subst (λ (ps : List Pushing). AreHeard routes worn old (readings_of ps told) here) (take_all at pushes (omega (arith, all))) h.heard,
  )

  no_readings : (pushes : List Pushing) → readings_of pushes [] ≡ []
  no_readings [] = refl
  no_readings (push ∷ pushes) = refl

  -- memory ran out, and nothing had changed
  pub short_heard : (pushes : List Pushing) (r : R) → HearsBy routes worn pushes (Err faults.NoMemory) r r
  short_heard pushes r = ([], subst (λ (rs : List Reading). AreHeard routes worn r rs r) (sym (no_readings pushes)) refl)

  -- ---- who listens for the push consumers of a place

  no_first : (consumers : List Consumer) → AreFirstReadings consumers []
  no_first [] = tt
  no_first (c ∷ cs) = tt

  module _ (state : State) where
    -- it was asked for none, as memory ran out
    pub none_asked : (fault : PortFault) (r : R) → fault ≡ faults.NoMemory → Hears routes worn (Err fault) state r r
    none_asked fault r is = subst (λ (f : PortFault). Hears routes worn (Err f) state r r) (sym is) (record { readings = []; reads = (no_first (push_consumers state), refl) })

    module _ (pushes : List Pushing) (are : pushes ≡ map push_of (pushes_in state)) where
      from : (told : List Bool) → readings_of pushes told ≡ readings_of (map push_of (push_consumers state)) told
      from told = ap (λ (ps : List Pushing). readings_of ps told) (are ∙ ap (λ (cs : List Consumer). map push_of cs) (same_pushes state))

      all : (told : List Bool) → length told ≡ length pushes → AreReadings (push_consumers state) (readings_of pushes told)
      all told same =
          subst (λ (rs : List Reading). AreReadings (push_consumers state) rs) (sym (from told))
          (are_readings (push_consumers state) told (same ∙ ap length are ∙ ap (λ (cs : List Consumer). length (map push_of cs)) (same_pushes state)))

      first : (told : List Bool) → AreFirstReadings (push_consumers state) (readings_of pushes told)
      first told = subst (λ (rs : List Reading). AreFirstReadings (push_consumers state) rs) (sym (from told)) (are_first (push_consumers state) told)

      -- there are none
      pub no_pushes : (listening : List Bytes) (r : R) → pushes ≡ [] → listening ≡ [] → Hears routes worn (Ok listening) state r r
      no_pushes listening r none empty = record {
        readings = readings_of pushes [];
        reads = (all [] (sym (ap length none)), empty ∙ sym (ap (λ (ps : List Pushing). listening_of (readings_of ps [])) none), subst (λ (ps : List Pushing). AreHeard routes worn r (readings_of ps []) r) (sym none) refl);
      }

      pub all_told : (told : List Bool) (listening : List Bytes) (old new : R) → HearsBy routes worn pushes (Ok told) old new → listening ≡ listening_of (readings_of pushes told)
          → Hears routes worn (Ok listening) state old new
      all_told told listening old new (same, heard) names = record { readings = readings_of pushes told; reads = (all told same, names, heard) }

      -- memory ran out for the names
      pub unnamed : (fault : PortFault) (told : List Bool) (old new : R) → fault ≡ faults.NoMemory → HearsBy routes worn pushes (Ok told) old new → Hears routes worn (Err fault) state old new
      unnamed fault told old new is (same, heard) =
          subst (λ (f : PortFault). Hears routes worn (Err f) state old new) (sym is) (record { readings = readings_of pushes told; reads = (first told, heard) })

      -- it was told of all, and the names were put together, of what has the same elements
      pub named : (result : Result (List Bytes) PortFault) (ps : List Pushing) (told bs : List Bool) (old new : R) → ps ≡ pushes → bs ≡ told → HearsBy routes worn pushes (Ok told) old new
          → IfOk result (λ listening. listening ≡ listening_of (readings_of ps bs)) → IfErr result (λ fault. fault ≡ faults.NoMemory) → Hears routes worn result state old new
      named (Ok listening) ps told bs old new same_pushes same_told h ok err =
          all_told told listening old new h (ok ∙ ap (λ (l : List Pushing). listening_of (readings_of l bs)) same_pushes ∙ ap (λ (l : List Bool). listening_of (readings_of pushes l)) same_told)
      named (Err fault) ps told bs old new same_pushes same_told h ok err = unnamed fault told old new err h

      -- it was told of the first ones alone
      pub not_told : (fault : PortFault) (old new : R) → HearsBy routes worn pushes (Err fault) old new → Hears routes worn (Err fault) state old new
      not_told faults.NoMemory old new (told, heard) = record { readings = readings_of pushes told; reads = (first told, heard) }
      not_told (faults.Worn number) old new (told, mid, heard, is) = record { readings = readings_of pushes told; reads = (mid, first told, heard, is) }
