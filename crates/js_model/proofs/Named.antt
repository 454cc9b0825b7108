-- The consumer of a name, through changes of the list of consumers.
use Rattle.std.proofs.Common.{◌≡◌, Bool, true, false, not, cond, List, [], ◌∷◌, map, refl, sym, ap, ◌∙◌, subst}
use Rattle.std.specs.Prelude.{Some, None, filter, option_map}
use Rattle.std.proofs.lemmas.Bool.{true≢false}
use Rattle.std.proofs.lemmas.Slice.Eq.{bytes_eq-Decides}
use Rattle.js_base.specs.Bytes.{Bytes, same}
use Rattle.js_model.specs.declared.consumer.Consumer.{Consumer}
use Rattle.js_model.specs.Streams.{by_name, in_place_of}
use Rattle.js_model.specs.Consumers.{with_new, is_before}

pub same_is : (a b : Bytes) → same a b ≡ true → a ≡ b
same_is a b h = (bytes_eq-Decides a b).0 h

pub same_self : (a : Bytes) → same a a ≡ true
same_self a = (bytes_eq-Decides a a).1 refl

pub some_is : {X : Type 0} {a b : X} → Some a ≡ Some b → a ≡ b
some_is h = cc

pub none_some : {X : Type 0} {a : X} → None ≡ Some a → ⊥
none_some h = cc

-- the list has a consumer of this name, of which P holds
pub record Stands (name : Bytes) (P : Consumer → Type 0) (cs : List Consumer) : Type 0 where
  pub consumer : Consumer
  pub found : by_name cs name ≡ Some consumer
  pub holds : P consumer

-- a change that leaves each name
pub record KeepsNames (f : Consumer → Consumer) : Type 0 where
  pub name : (c : Consumer) → (f c).name ≡ c.name

-- what a look-up finds has the name
pub found_named : (cs : List Consumer) (name : Bytes) (c : Consumer) → by_name cs name ≡ Some c → c.name ≡ name
found_named [] name c h = absurd (none_some h)
found_named (d ∷ cs) name c h = go (same d.name name) refl (found_named cs name c) h
  where
    go : (b : Bool) → same d.name name ≡ b → (by_name cs name ≡ Some c → c.name ≡ name) → cond b (Some d) (by_name cs name) ≡ Some c → c.name ≡ name
    go true e r k = subst (λ (x : Consumer). x.name ≡ name) (some_is k) (same_is d.name name e)
    go false e r k = r k

pub stands-found : {name : Bytes} {P : Consumer → Type 0} {cs : List Consumer} {c : Consumer} → Stands name P cs → by_name cs name ≡ Some c → P c
stands-found {P = P} h e = subst P (some_is (sym h.found ∙ e)) h.holds

pub stands-at : {name : Bytes} {P : Consumer → Type 0} {cs : List Consumer} (c : Consumer) → by_name cs name ≡ Some c → P c → Stands name P cs
stands-at c e h = record { consumer = c; found = e; holds = h }

pub by_name-map : (f : Consumer → Consumer) → KeepsNames f → (cs : List Consumer) (name : Bytes) → by_name (map f cs) name ≡ option_map f (by_name cs name)
by_name-map f k [] name = refl
by_name-map f k (c ∷ cs) name = ap (λ n. cond (same n name) (Some (f c)) (by_name (map f cs) name)) (k.name c) ∙ go (by_name-map f k cs name) (same c.name name)
  where
    go : by_name (map f cs) name ≡ option_map f (by_name cs name) → (b : Bool) → cond b (Some (f c)) (by_name (map f cs) name) ≡ option_map f (cond b (Some c) (by_name cs name))
    go r true = refl
    go r false = r

pub stands-map : {name : Bytes} {P Q : Consumer → Type 0} {cs : List Consumer} (f : Consumer → Consumer) → KeepsNames f → ((c : Consumer) → c.name ≡ name → P c → Q (f c)) → Stands name P cs → Stands name Q (map f cs)
stands-map {name} {cs = cs} f k g h = record {
  consumer = f h.consumer;
  found = by_name-map f k cs name ∙ ap (option_map f) h.found;
  holds = g h.consumer (found_named cs name h.consumer h.found) h.holds;
}

-- ---- a consumer that is put in the place of the one of its name

placed_name : (b : Bool) (new c : Consumer) → same c.name new.name ≡ b → (cond b new c).name ≡ c.name
placed_name true new c e = sym (same_is c.name new.name e)
placed_name false new c e = refl

pub in_place_of-names : (new : Consumer) → KeepsNames (in_place_of new)
in_place_of-names new = record { name = λ c. placed_name (same c.name new.name) new c refl }

-- the one of this name is the new one
pub placed_same : (new c : Consumer) → c.name ≡ new.name → in_place_of new c ≡ new
placed_same new c e = go (same c.name new.name) refl
  where
    go : (b : Bool) → same c.name new.name ≡ b → cond b new c ≡ new
    go true h = refl
    go false h = absurd (true≢false (sym (subst (λ (n : Bytes). same c.name n ≡ true) e (same_self c.name)) ∙ h))

pub placed_other : (new c : Consumer) → same c.name new.name ≡ false → in_place_of new c ≡ c
placed_other new c e = ap (λ (b : Bool). cond b new c) e

-- ---- a consumer that is made, and one that is dropped

by_name-with_new : (cs : List Consumer) (new : Consumer) (name : Bytes) → same new.name name ≡ false → by_name (with_new cs new) name ≡ by_name cs name
by_name-with_new [] new name h = rw h refl
by_name-with_new (c ∷ cs) new name h = go (is_before c.name new.name) (by_name-with_new cs new name h)
  where
    go : (b : Bool) → by_name (with_new cs new) name ≡ by_name cs name → by_name (cond b (c ∷ with_new cs new) (new ∷ c ∷ cs)) name ≡ by_name (c ∷ cs) name
    go true r = ap (cond (same c.name name) (Some c)) r
    go false r = rw h refl

pub stands-with_new : {name : Bytes} {P : Consumer → Type 0} {cs : List Consumer} (new : Consumer) → by_name cs new.name ≡ None → Stands name P cs → Stands name P (with_new cs new)
stands-with_new {name} {cs = cs} new e h = record { consumer = h.consumer; found = by_name-with_new cs new name (apart (same new.name name) refl) ∙ h.found; holds = h.holds }
  where
    apart : (b : Bool) → same new.name name ≡ b → same new.name name ≡ false
    apart true q = absurd (none_some (sym e ∙ ap (by_name cs) (same_is new.name name q) ∙ h.found))
    apart false q = q

-- a consumer that was made is found
pub by_name-made : (cs : List Consumer) (new : Consumer) → by_name cs new.name ≡ None → by_name (with_new cs new) new.name ≡ Some new
by_name-made [] new h = rw (same_self new.name) refl
by_name-made (c ∷ cs) new h = go (is_before c.name new.name) (same c.name new.name) refl h (by_name-made cs new)
  where
    go : (a b : Bool) → same c.name new.name ≡ b → cond b (Some c) (by_name cs new.name) ≡ None → (by_name cs new.name ≡ None → by_name (with_new cs new) new.name ≡ Some new)
        → by_name (cond a (c ∷ with_new cs new) (new ∷ c ∷ cs)) new.name ≡ Some new
    go a true e k r = absurd (none_some (sym k))
    go true false e k r = ap (λ (b : Bool). cond b (Some c) (by_name (with_new cs new) new.name)) e ∙ r k
    go false false e k r = rw (same_self new.name) refl

by_name-without : (cs : List Consumer) (other name : Bytes) → same name other ≡ false → by_name (filter (λ d. not (same d.name other)) cs) name ≡ by_name cs name
by_name-without [] other name h = refl
by_name-without (c ∷ cs) other name h = go (same c.name other) (same c.name name) refl refl (by_name-without cs other name h)
  where
    gone : List Consumer
    gone = filter (λ d. not (same d.name other)) cs

    go : (a b : Bool) → same c.name other ≡ a → same c.name name ≡ b → by_name gone name ≡ by_name cs name → by_name (cond (not a) (c ∷ gone) gone) name ≡ cond b (Some c) (by_name cs name)
    go true true e f r = absurd (true≢false (sym (rw (same_is c.name name f) at e) ∙ h))
    go true false e f r = r
    go false true e f r = rw f refl
    go false false e f r = rw f r

pub stands-without : {name : Bytes} {P : Consumer → Type 0} {cs : List Consumer} (other : Bytes) → same name other ≡ false → Stands name P cs → Stands name P (filter (λ d. not (same d.name other)) cs)
stands-without {name} {cs = cs} other e h = record { consumer = h.consumer; found = by_name-without cs other name e ∙ h.found; holds = h.holds }
