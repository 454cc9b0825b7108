-- The links that are out, and those that came back.
use Rattle.std.proofs.Common.{◌≡◌, ℕ, ◌+◌, ◌<◌, ◌≤◌, ◌||◌, Bool, false, true, List, [], ◌∷◌, ◌++◌, length, Contains, Option, None, Some, option_map, ◌⊎◌, inl, inr, ⊎_elim, refl, sym, ap, subst, append_assoc, ◌∙◌, arith}
use Rattle.std.specs.List.{AllByRecursion}
use Rattle.std.proofs.lemmas.List.{length-append}
use Rattle.std.proofs.lemmas.List.Elements.{Contains-append_left, Contains-push}
use Rattle.link_edge.specs.Reports.{HasOut, Report}
use Rattle.link_edge.specs.Told.{grown}
use Rattle.session.specs.declared.ending.Limits.{Limits}
use Rattle.session.specs.declared.ending.Ended.{Ended}
use Rattle.session.specs.declared.ending.Ended.TheVariants as ends
use Rattle.session.specs.declared.ending.Refusal.{Refusal}
use Rattle.session.specs.declared.ending.Refusal.TheVariants as refusals
use Rattle.workers.specs.Deeds.{ended_worn, refused_worn}
use Rattle.workers.specs.Doors.{DoorTold}
use Rattle.workers.specs.Links.{AreLinks, HasSession, HasWornOne, IsServed}
use Rattle.workers.specs.Sessions.{ended_starved, used_up}

module _ (limits : Limits) (worn starved worn_now starved_now : Bool) (keeps_worn : worn ≡ true → worn_now ≡ true) (keeps_starved : starved ≡ true → starved_now ≡ true) where
  pub still_served : (reports : List Report) → AllByRecursion (IsServed limits worn starved) reports → AllByRecursion (IsServed limits worn_now starved_now) reports
  still_served [] served = tt
  still_served (report ∷ reports) served = (
    record {
      journal = served.0.journal;
      bytes = served.0.bytes;
      ended = served.0.ended;
      session = served.0.session;
      worn_is = λ e. keeps_worn (served.0.worn_is e);
      starved_is = λ e. keeps_starved (served.0.starved_is e);
    },
    still_served reports served.1,
  )

  served_more : (reports : List Report) (report : Report) → AllByRecursion (IsServed limits worn starved) reports → IsServed limits worn_now starved_now report → AllByRecursion (IsServed limits worn_now starved_now) (reports ++ report ∷ [])
  served_more [] report served last = (last, tt)
  served_more (r ∷ reports) report served last = ((still_served (r ∷ []) (served.0, tt)).0, served_more reports report served.1 last)

  has_out : (gave : ℕ) (back reports : List Report) (out : ℕ) (g : Option ℕ) (b : Option (List Report)) → length back ≤ gave → 0 < out → g ≡ Some (gave + (length reports + out)) → b ≡ Some (back ++ reports) → HasOut g b
  has_out gave back reports out g b le some e f =
      let long = length-append back reports in
      let less : length (back ++ reports) < gave + (length reports + out) = omega (arith, long, le, some) in
      subst (λ (o : Option ℕ). HasOut o b) (sym e) (subst (λ (o : Option (List Report)). HasOut (Some (gave + (length reports + out))) o) (sym f) less)

  one_back : (gave m out left : ℕ) → left + 1 ≡ out → gave + (m + out) ≡ gave + ((m + 1) + left)
  one_back gave m out left e = omega (arith, e)

  worn_before : (reports : List Report) (report : Report) → HasWornOne limits reports → HasWornOne limits (reports ++ report ∷ [])
  worn_before reports report one = record {
    report = one.report;
    among = Contains-append_left reports (report ∷ []) one.report one.among;
    session = one.session;
  }

  worn_last : (reports : List Report) (report : Report) (ended : Ended) → ended ≡ used_up → HasSession limits report ended → HasWornOne limits (reports ++ report ∷ [])
  worn_last reports report ended e session = record {
    report = report;
    among = Contains-push reports report;
    session = subst (λ (how : Ended). HasSession limits report how) e session;
  }

  -- one came back, over which a session was held
  pub came_back : (begun was is : DoorTold) (out left : ℕ) (report : Report) (ended : Ended) → HasSession limits report ended → (ended ≡ used_up → worn_now ≡ true) → (ended ≡ ends.NoMemory → starved_now ≡ true) →
      (worn_now ≡ true → (worn ≡ true) ⊎ (ended ≡ used_up)) → left + 1 ≡ out →
      is.gave ≡ was.gave → (HasOut was.gave was.back → is.back ≡ grown was.back (report ∷ [])) → AreLinks limits worn starved begun out was → AreLinks limits worn_now starved_now begun left is
  came_back begun was is out left report ended session worn_is starved_is by less gave_is back_is links gave back g b le =
      let old = links gave back g b le in
      let some : 0 < out = omega (arith, less) in
      let told = back_is (has_out gave back old.reports out was.gave was.back le some old.gave_is old.back_is) in
      let last : IsServed limits worn_now starved_now report = record {
        journal = session.journal;
        bytes = session.bytes;
        ended = ended;
        session = session.session;
        worn_is = worn_is;
        starved_is = starved_is;
      } in
      record {
        reports = old.reports ++ report ∷ [];
        back_is = told ∙ ap (λ (o : Option (List Report)). grown o (report ∷ [])) old.back_is ∙ ap Some (append_assoc back old.reports (report ∷ []));
        gave_is = gave_is ∙ old.gave_is ∙ ap Some (one_back gave (length old.reports) out left less ∙ ap (λ (n : ℕ). gave + (n + left)) (sym (length-append old.reports (report ∷ []))));
        served = served_more old.reports report old.served last;
        worn_by = λ e. ⊎_elim (λ before. worn_before old.reports report (old.worn_by before)) (λ now. worn_last old.reports report ended now session) (by e);
      }

-- none was given out and none came back
pub none_moved : (limits : Limits) (worn starved starved_now : Bool) → (starved ≡ true → starved_now ≡ true) → (begun was is : DoorTold) (out : ℕ) → is.gave ≡ was.gave → is.back ≡ was.back → AreLinks limits worn starved begun out was → AreLinks limits worn starved_now begun out is
none_moved limits worn starved starved_now keeps begun was is out gave_is back_is links gave back g b le =
    let old = links gave back g b le in
    record {
      reports = old.reports;
      back_is = back_is ∙ old.back_is;
      gave_is = gave_is ∙ old.gave_is;
      served = still_served limits worn starved worn starved_now (λ e. e) keeps old.reports old.served;
      worn_by = old.worn_by;
    }

one_out : (gave m out more : ℕ) → more ≡ out + 1 → gave + (m + out) + 1 ≡ gave + (m + more)
one_out gave m out more e = omega (arith, e)

-- one was given out
pub went_out : (limits : Limits) (worn starved : Bool) (begun was is : DoorTold) (out more : ℕ) → more ≡ out + 1 → is.gave ≡ option_map (λ n. n + 1) was.gave → is.back ≡ was.back → AreLinks limits worn starved begun out was → AreLinks limits worn starved begun more is
went_out limits worn starved begun was is out more one gave_is back_is links gave back g b le =
    let old = links gave back g b le in
    record {
      reports = old.reports;
      back_is = back_is ∙ old.back_is;
      gave_is = gave_is ∙ ap (option_map (λ n. n + 1)) old.gave_is ∙ ap Some (one_out gave (length old.reports) out more one);
      served = old.served;
      worn_by = old.worn_by;
    }

-- ---- how a session ended

pub noted_worn : (worn now : Bool) (ended : Ended) → now ≡ ended_worn ended → ended ≡ used_up → (worn || now) ≡ true
noted_worn false now ended is e = is ∙ ap ended_worn e
noted_worn true now ended is e = refl

pub noted_starved : (starved now : Bool) (ended : Ended) → now ≡ ended_starved ended → ended ≡ ends.NoMemory → (starved || now) ≡ true
noted_starved false now ended is e = is ∙ ap ended_starved e
noted_starved true now ended is e = refl

refused_by : (refusal : Refusal) → refused_worn refusal ≡ true → refusal ≡ refusals.NumbersUsed
refused_by refusals.NumbersUsed e = refl
refused_by (refusals.Frame fault) e = let no : ⊥ = cc in absurd no
refused_by refusals.BadConnect e = let no : ⊥ = cc in absurd no
refused_by refusals.BadHeaders e = let no : ⊥ = cc in absurd no

ended_by : (ended : Ended) → ended_worn ended ≡ true → ended ≡ used_up
ended_by (ends.Refused refusal) e = ap ends.Refused (refused_by refusal e)
ended_by ends.Closed e = let no : ⊥ = cc in absurd no
ended_by (ends.Slow size) e = let no : ⊥ = cc in absurd no
ended_by ends.Stale e = let no : ⊥ = cc in absurd no
ended_by ends.LinkFault e = let no : ⊥ = cc in absurd no
ended_by ends.InputLimit e = let no : ⊥ = cc in absurd no
ended_by ends.NoMemory e = let no : ⊥ = cc in absurd no

pub worn_since : (worn now : Bool) (ended : Ended) → now ≡ ended_worn ended → (worn || now) ≡ true → (worn ≡ true) ⊎ (ended ≡ used_up)
worn_since true now ended is e = inl refl
worn_since false now ended is e = inr (ended_by ended (sym is ∙ e))

pub or_kept : (a b : Bool) → a ≡ true → (a || b) ≡ true
or_kept true b e = refl
or_kept false b e = let no : ⊥ = cc in absurd no
