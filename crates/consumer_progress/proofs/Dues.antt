-- Whether a delivery is due at another moment, by what a table tells of its sequence.
use Rattle.std.proofs.Common.{◌≡◌, ℕ, ◌==◌, ◌&&◌, Bool, true, false, not, List, refl, sym, ap, ◌∙◌, subst}
use Rattle.std.specs.Prelude.{find, option_map, Option, Some, None}
use Rattle.std.specs.List.{list_any}
use Rattle.std.proofs.lemmas.Bool.{eqb-true, true≢false}
use Rattle.js_model.specs.declared.consumer.Pending.{Pending}
use Rattle.js_model.specs.Lists.{Between}
use Rattle.js_model.proofs.Members.{any_in, find_one, found_in, holds_of_one, IsIn}
use Rattle.js_model.proofs.Named.{none_some}
use Rattle.consumer_progress.specs.Ending.{changes_due}

-- the due moment that is told differs from this one
abbrev pub differs : ℕ → Option (ℕ × ℕ) → Bool
differs due None = false
differs due (Some told) = not (told.1 == due)

module _ (seq due high : ℕ) (ps : List Pending) (h : Between (λ e. e.seq) 0 high ps) where
  of_none : find (λ e. e.seq == seq) ps ≡ None → changes_due seq due ps ≡ false
  of_none f = go (changes_due seq due ps) refl
    where
      go : (b : Bool) → changes_due seq due ps ≡ b → changes_due seq due ps ≡ false
      go true e = absurd (none_some (sym f ∙ (find_one (λ e. e.seq) (λ e. not (e.due == due)) seq 0 high ps h e).1))
      go false e = e

  of_some : (q : Pending) → find (λ e. e.seq == seq) ps ≡ Some q → changes_due seq due ps ≡ not (q.due == due)
  of_some q f = go (not (q.due == due)) refl
    where
      found : IsIn q ps × ((q.seq == seq) ≡ true)
      found = found_in (λ e. e.seq == seq) q ps f

      own : changes_due seq due ps ≡ true → list_any (λ e. e.seq == q.seq && not (e.due == due)) ps ≡ true
      own k = subst (λ n. list_any (λ e. e.seq == n && not (e.due == due)) ps ≡ true) (sym (eqb-true q.seq seq found.1)) k

      go : (b : Bool) → not (q.due == due) ≡ b → changes_due seq due ps ≡ b
      go true e = any_in (λ e. e.seq == seq && not (e.due == due)) q ps found.0 (ap (λ b. b && not (q.due == due)) found.1 ∙ e)
      go false e = at (changes_due seq due ps) refl
        where
          at : (b : Bool) → changes_due seq due ps ≡ b → changes_due seq due ps ≡ false
          at true k = absurd (true≢false (sym (holds_of_one (λ e. e.seq) (λ e. not (e.due == due)) 0 high q ps h found.0 (own k)) ∙ e))
          at false k = k

  pub changes_told : (told : Option (ℕ × ℕ)) → told ≡ option_map (λ e. (e.count, e.due)) (find (λ e. e.seq == seq) ps) → differs due told ≡ changes_due seq due ps
  changes_told told is = ap (differs due) is ∙ go (find (λ e. e.seq == seq) ps) refl
    where
      go : (o : Option Pending) → find (λ e. e.seq == seq) ps ≡ o → differs due (option_map (λ e. (e.count, e.due)) o) ≡ changes_due seq due ps
      go None f = sym (of_none f)
      go (Some q) f = sym (of_some q f)
