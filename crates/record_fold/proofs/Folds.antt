-- What a record makes of a stream, by its change of one consumer.
use Rattle.std.proofs.Common.{◌≡◌, ℕ, ◌+◌, ◌<◌, Bool, true, false, cond, List, length, get_or, set, Option, Some, None, Result, Ok, Err, map, refl, sym, ap, subst, ◌∙◌}
use Rattle.std.specs.Prelude.{◌==◌, OnOk, IfErr}
use Rattle.std.specs.List.{list_any, position}
use Rattle.js_base.specs.Bytes.{Bytes}
use Rattle.js_model.specs.declared.consumer.Consumer.{Consumer}
use Rattle.js_model.specs.Streams.{by_name, in_place_of}
use Rattle.js_model.specs.Acknowledge.{without, with_due}
use Rattle.js_model.proofs.Named.{some_is, none_some, found_named}
use Rattle.model_laws.specs.Sound.{AreOrdered}
use Rattle.effects.specs.declared.durable.Body.{Body}
use Rattle.effects.specs.Folding.{live, live_if, fold, replaced, delivered, acked, due_at, given_up_by, delivered_to, with_given_up}
use Rattle.effects.specs.Ranges.{is_within}
use Rattle.record_fold.specs.Changes.{effect_of, changed, changed_in, replaced_in, fields_before}
use Rattle.record_fold.specs.Faults.{IsChangeFault, IsChangeFaultIn}
use Rattle.record_fold.specs.Misfits.{misfit, named_at, after_name}
use Rattle.record_fold.specs.declared.fault.FoldFault.{FoldFault}
use Rattle.record_fold.specs.declared.fault.FoldFault.TheVariants.{Misfit, NoMemory as OutOfMemory}
use Rattle.record_fold.proofs.Replacing.{has_name, place, at_place, replaced_at}
use Rattle.record_fold.specs.declared.change.Change.{Change}
use Rattle.record_fold.specs.declared.change.Change.TheVariants.{Deliver, End, Due, GiveUp}

abbrev found : Body → Bytes → Option Consumer
found b name = by_name b.consumers name

pub change_folds : (i : ℕ) (b : Body) (name : Bytes) (change : Change) → fold (live i b) (effect_of name change) ≡ live_if i (replaced b (changed_in change (found b name)))
change_folds i b name (Deliver entry dseq) = go (found b name)
  where
    go : (o : Option Consumer) → live_if i (replaced b (delivered (record { seq = entry.seq; count = entry.count; due = entry.due }) dseq o)) ≡ live_if i (replaced b (changed_in (Deliver entry dseq) o))
    go None = refl
    go (Some c) = refl
change_folds i b name (End low high) = go (found b name)
  where
    go : (o : Option Consumer) → live_if i (replaced b (acked low high o)) ≡ live_if i (replaced b (changed_in (End low high) o))
    go None = refl
    go (Some c) = refl
change_folds i b name (Due seq due) = go (found b name)
  where
    go : (o : Option Consumer) → live_if i (replaced b (due_at seq due o)) ≡ live_if i (replaced b (changed_in (Due seq due) o))
    go None = refl
    go (Some c) = refl
change_folds i b name (GiveUp moment) = go (found b name)
  where
    go : (o : Option Consumer) → live_if i (replaced b (given_up_by moment o)) ≡ live_if i (replaced b (changed_in (GiveUp moment) o))
    go None = refl
    go (Some c) = refl

-- where it does not fit, its field is wrong
pub change_misfits : (i : ℕ) (b : Body) (name : Bytes) (change : Change) → changed_in change (found b name) ≡ None → misfit (live i b) (effect_of name change) ≡ named_at name (fields_before change) (found b name)
change_misfits i b name (Deliver entry dseq) h = refl
change_misfits i b name (End low high) h = go (found b name) h
  where
    go : (o : Option Consumer) → changed_in (End low high) o ≡ None → 1 ≡ named_at name 0 o
    go None h = refl
    go (Some c) h = absurd (cc)
change_misfits i b name (Due seq due) h = refl
change_misfits i b name (GiveUp moment) h = go (found b name) h
  where
    go : (o : Option Consumer) → changed_in (GiveUp moment) o ≡ None → 1 ≡ named_at name 0 o
    go None h = refl
    go (Some c) h = absurd (cc)

-- ---- a change keeps the name and the configuration

pub record IsSame (c new : Consumer) : Type 0 where
  pub name : new.name ≡ c.name
  pub config : new.config ≡ c.config

made_same : (c made new : Consumer) → Some made ≡ Some new → made.name ≡ c.name → made.config ≡ c.config → IsSame c new
made_same c made new h n k = let is = some_is h in record { name = sym (ap (λ (d : Consumer). d.name) is) ∙ n; config = sym (ap (λ (d : Consumer). d.config) is) ∙ k }

pub changed_same : (change : Change) (c new : Consumer) → changed change c ≡ Some new → IsSame c new
changed_same (Deliver entry dseq) c new h = go (dseq == c.dseq + 1) h
  where
    go : (b : Bool) → cond b (Some (delivered_to entry dseq c)) None ≡ Some new → IsSame c new
    go true e = made_same c (delivered_to entry dseq c) new e refl refl
    go false e = absurd (none_some e)
changed_same (End low high) c new h = made_same c (without (is_within low high) c) new h refl refl
changed_same (Due seq due) c new h = go (list_any (λ p. p.seq == seq) c.pending) h
  where
    go : (b : Bool) → cond b (Some (with_due seq due c)) None ≡ Some new → IsSame c new
    go true e = made_same c (with_due seq due c) new e refl refl
    go false e = absurd (none_some e)
changed_same (GiveUp moment) c new h = made_same c (with_given_up moment c) new h refl refl

-- ---- among the consumers of a stream

-- as it is found and changed at its place
pub changed_there : (name : Bytes) (cs : List Consumer) (k : ℕ) (old new : Consumer) (change : Change) → position (has_name name) cs ≡ Some k → old ≡ get_or cs k old → AreOrdered cs → changed change old ≡ Some new
    → replaced_in cs (changed_in change (by_name cs name)) ≡ Some (set cs k new)
changed_there name cs k old new change at is ordered made =
    let there = at_place name cs k old at in
    let found : by_name cs name ≡ Some old = there.found ∙ ap Some (sym is) in
    let named : new.name ≡ name = (changed_same change old new made).name ∙ found_named cs name old found in
    let place_is : k ≡ place new.name cs = there.is_place ∙ ap (λ (n : Bytes). place n cs) (sym named) in
    ap (λ (o : Option Consumer). replaced_in cs (changed_in change o)) found ∙ ap (replaced_in cs) made
    ∙ ap Some (sym (replaced_at new cs ordered (subst (λ (n : ℕ). n < length cs) place_is there.within)) ∙ ap (λ (n : ℕ). set cs n new) (sym place_is))

pub fault_there : (name : Bytes) (cs : List Consumer) (k : ℕ) (old : Consumer) (change : Change) (fault : FoldFault) → position (has_name name) cs ≡ Some k → old ≡ get_or cs k old → IsChangeFault change old fault
    → IsChangeFaultIn name change (by_name cs name) fault
fault_there name cs k old change (Misfit at) p is h =
    let found : by_name cs name ≡ Some old = (at_place name cs k old p).found ∙ ap Some (sym is) in
    let named : old.name ≡ name = found_named cs name old found in (
      ap (changed_in change) found ∙ h.0,
      h.1 ∙ ap (λ (n : Bytes). after_name n (fields_before change)) named ∙ ap (named_at name (fields_before change)) (sym found),
    )
fault_there name cs k old change OutOfMemory p is h = tt

pub at_ok : {T E P Q : Type 0} (result : Result T E) → (P → Q) → OnOk result P → OnOk result Q
at_ok (Ok value) f h = f h
at_ok (Err fault) f h = tt

pub at_err : {T E : Type 0} {P Q : E → Type 0} (result : Result T E) → ((fault : E) → P fault → Q fault) → IfErr result P → IfErr result Q
at_err (Ok value) f h = tt
at_err (Err fault) f h = f fault h

pub replaced_body : (b new : Body) (o : Option Consumer) (consumers : List Consumer) → replaced_in b.consumers o ≡ Some consumers → new ≡ record b { consumers = consumers } → replaced b o ≡ Some new
replaced_body b new None consumers h e = absurd (cc)
replaced_body b new (Some c) consumers h e =
    let same : map (in_place_of c) b.consumers ≡ consumers = cc in
    ap (λ (cs : List Consumer). Some (record b { consumers = cs })) same ∙ ap Some (sym e)

pub replaced_none : (b : Body) (o : Option Consumer) → o ≡ None → replaced b o ≡ None
replaced_none b o e = ap (replaced b) e
