-- Deeds, and deeds behind them.
use Rattle.std.proofs.Common.{◌≡◌, ◌||◌, Bool, true, false, List, [], ◌∷◌, ◌++◌, Option, None, Some, refl, sym, subst, ap, ◌∙◌, flat_map, append-nil}
use Rattle.std.specs.List.{AllByRecursion, list_any}
use Rattle.std.proofs.lemmas.Grind.{flat_map-append}
use Rattle.std.proofs.lemmas.List.Folds.{list_any-append}
use Rattle.std.proofs.lemmas.Option.{same_Some}
use Rattle.session.specs.declared.ending.Limits.{Limits}
use Rattle.hub_fronts.specs.Fronts.{SharedScene}
use Rattle.hub_fronts.specs.Making.{SharedMade}
use Rattle.hub_fronts.proofs.Seen.{made_more, made_nothing}
use Rattle.workers.proofs.Rows.{all_more}
use Rattle.workers.specs.Deeds.{Deed, IsDeed, Works, are_worn, deed_entries, is_worn_by}
use Rattle.workers.specs.Working.{Worked}

-- ---- tests

or_more : (a b c : Bool) → ((a || b) || c) ≡ (a || (b || c))
or_more true b c = refl
or_more false b c = refl

pub or_none : (a : Bool) → a ≡ (a || false)
or_none true = refl
or_none false = refl

-- ---- a worker

module _ (limits : Limits) where
  pub works_nothing : (a : SharedScene) → Works limits a [] a
  works_nothing a = record { are = tt; led = made_nothing a }

  pub works_more : (a b c : SharedScene) (first more : List Deed) → Works limits a first b → Works limits b more c → Works limits a (first ++ more) c
  works_more a b c first more h k = record {
    are = all_more (IsDeed limits) first more h.are k.are;
    led = subst (λ es. SharedMade a es c) (sym (flat_map-append deed_entries first more)) (made_more a b c (flat_map deed_entries first) (flat_map deed_entries more) h.led k.led);
  }

  -- it did nothing
  pub worked_nothing : (scene : SharedScene) (pass : Option SharedScene) (worn : Bool) → pass ≡ Some scene → Worked limits pass pass worn worn
  worked_nothing scene pass worn there = record {
    before = scene;
    after = scene;
    old_is = there;
    new_is = there;
    deeds = [];
    works = works_nothing scene;
    worn = or_none worn;
  }

  -- it worked, and then went on
  pub worked_more : (a b c : Option SharedScene) (u v w : Bool) → Worked limits a b u v → Worked limits b c v w → Worked limits a c u w
  worked_more a b c u v w h k =
      let same : h.after ≡ k.before = same_Some h.after k.before (sym h.new_is ∙ k.old_is) in
      record {
        before = h.before;
        after = k.after;
        old_is = h.old_is;
        new_is = k.new_is;
        deeds = h.deeds ++ k.deeds;
        works = works_more h.before k.before k.after h.deeds k.deeds (subst (λ s. Works limits h.before h.deeds s) same h.works) k.works;
        worn = k.worn ∙ ap (λ x. x || are_worn k.deeds) h.worn ∙ or_more u (are_worn h.deeds) (are_worn k.deeds)
            ∙ ap (λ x. u || x) (sym (list_any-append is_worn_by h.deeds k.deeds));
      }

  -- one deed more
  pub worked_one : (scene after : SharedScene) (a b : Option SharedScene) (u v : Bool) (deed : Deed) → a ≡ Some scene → b ≡ Some after → IsDeed limits deed
      → SharedMade scene (deed_entries deed) after → v ≡ (u || is_worn_by deed) → Worked limits a b u v
  worked_one scene after a b u v deed there then is led worn = record {
    before = scene;
    after = after;
    old_is = there;
    new_is = then;
    deeds = deed ∷ [];
    works = record { are = (is, tt); led = subst (λ es. SharedMade scene es after) (sym (append-nil (deed_entries deed))) led };
    worn = worn ∙ ap (λ x. u || x) (or_none (is_worn_by deed));
  }
