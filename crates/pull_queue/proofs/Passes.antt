-- What passing time sends to pulls and leaves of them.
use Rattle.std.proofs.Common.{◌≡◌, ℕ, Bool, true, false, cond, ◌&&◌, ◌||◌, List, [], ◌∷◌, ◌++◌, map, not, refl, sym, ap, ◌∙◌, append-nil}
use Rattle.std.specs.Prelude.{All, filter}
use Rattle.std.specs.List.{list_any}
use Rattle.std.proofs.lemmas.List.{map-append, append_assoc}
use Rattle.std.proofs.lemmas.List.Elements.{filter-append, All-head, All-tail}
use Rattle.js_base.specs.declared.out.Out.{Out}
use Rattle.js_model.specs.declared.consumer.Pull.{Pull}
use Rattle.js_model.specs.Advance.{timeout, pull_beat, is_over, pull_comes, beaten}
use Rattle.pull_queue.specs.Queue.{Queue}
use Rattle.pull_queue.specs.Passing.{going_on, passing_outs, is_beaten, passed}
use Rattle.pull_queue.specs.Quiet.{is_due}
use Rattle.pull_queue.proofs.Quieter.{neither}

abbrev pub with_pulls : ℕ → List Pull → Queue
with_pulls max pulls = record { max_waiting = max; pulls = pulls }

-- ---- nothing is due

module _ (now : ℕ) where
  head_due : (p : Pull) (ps : List Pull) → All (λ q. is_due now q ≡ false) (p ∷ ps) → (is_over now p ≡ false) × (pull_comes now p ≡ false)
  head_due p ps h = neither (is_over now p) (pull_comes now p) (All-head (λ q. is_due now q ≡ false) p ps h)

  tail_due : (p : Pull) (ps : List Pull) → All (λ q. is_due now q ≡ false) (p ∷ ps) → All (λ q. is_due now q ≡ false) ps
  tail_due p ps h = All-tail (λ q. is_due now q ≡ false) p ps h

  none_over : (ps : List Pull) → All (λ q. is_due now q ≡ false) ps → filter (is_over now) ps ≡ []
  none_over [] h = refl
  none_over (p ∷ ps) h =
      ap (λ b. cond b (p ∷ filter (is_over now) ps) (filter (is_over now) ps)) (head_due p ps h).0 ∙ none_over ps (tail_due p ps h)

  pub quiet_over : (ps : List Pull) → All (λ q. is_due now q ≡ false) ps → list_any (is_over now) ps ≡ false
  quiet_over [] h = refl
  quiet_over (p ∷ ps) h = ap (λ b. b || list_any (is_over now) ps) (head_due p ps h).0 ∙ quiet_over ps (tail_due p ps h)

  all_going : (ps : List Pull) → All (λ q. is_due now q ≡ false) ps → going_on now ps ≡ ps
  all_going [] h = refl
  all_going (p ∷ ps) h =
      ap (λ b. cond (not b) (p ∷ going_on now ps) (going_on now ps)) (head_due p ps h).0
      ∙ ap (λ (qs : List Pull). p ∷ qs) (all_going ps (tail_due p ps h))

  none_comes : (ps : List Pull) → All (λ q. is_due now q ≡ false) ps → filter (pull_comes now) ps ≡ []
  none_comes [] h = refl
  none_comes (p ∷ ps) h =
      ap (λ b. cond b (p ∷ filter (pull_comes now) ps) (filter (pull_comes now) ps)) (head_due p ps h).1 ∙ none_comes ps (tail_due p ps h)

  none_beaten : (ps : List Pull) → All (λ q. is_due now q ≡ false) ps → map (beaten now) ps ≡ ps
  none_beaten [] h = refl
  none_beaten (p ∷ ps) h =
      ap (λ b. cond b (record p { mark = now }) p ∷ map (beaten now) ps) (head_due p ps h).1
      ∙ ap (λ (qs : List Pull). p ∷ qs) (none_beaten ps (tail_due p ps h))

  pub quiet_passed : (ps : List Pull) → All (λ q. is_due now q ≡ false) ps → ps ≡ passed now ps
  quiet_passed ps h = sym (ap (map (beaten now)) (all_going ps h) ∙ none_beaten ps h)

  no_outs : (ps : List Pull) → All (λ q. is_due now q ≡ false) ps → passing_outs now ps ≡ []
  no_outs ps h =
      ap (λ (qs : List Pull). map timeout qs ++ map pull_beat (filter (pull_comes now) (going_on now ps))) (none_over ps h)
      ∙ ap (λ (qs : List Pull). map pull_beat (filter (pull_comes now) qs)) (all_going ps h)
      ∙ ap (λ (qs : List Pull). map pull_beat qs) (none_comes ps h)

  pub quiet_outs : (outs : List Out) (ps : List Pull) → All (λ q. is_due now q ≡ false) ps → outs ≡ outs ++ passing_outs now ps
  quiet_outs outs ps h = sym (ap (λ (more : List Out). outs ++ more) (no_outs ps h) ∙ append-nil outs)

-- ---- what is sent, from the two parts of the queue

-- the heartbeats by one filter
beats_are : (now : ℕ) (ps : List Pull) → filter (is_beaten now) ps ≡ filter (pull_comes now) (going_on now ps)
beats_are now [] = refl
beats_are now (p ∷ ps) = go (is_over now p) (beats_are now ps)
  where
    go : (b : Bool) → filter (is_beaten now) ps ≡ filter (pull_comes now) (going_on now ps)
        → cond (not b && pull_comes now p) (p ∷ filter (is_beaten now) ps) (filter (is_beaten now) ps)
        ≡ filter (pull_comes now) (cond (not b) (p ∷ going_on now ps) (going_on now ps))
    go true e = e
    go false e = ap (λ (qs : List Pull). cond (pull_comes now p) (p ∷ qs) qs) e

joined : (t : Pull → Bool) (f : Pull → Out) (a b : List Pull) → map f (filter t a) ++ map f (filter t b) ≡ map f (filter t (a ++ b))
joined t f a b = sym (ap (map f) (filter-append t a b) ∙ map-append f (filter t a) (filter t b))

pub outs_are : (now : ℕ) (a b ps : List Pull) (o1 o2 o3 o4 : List Out) → a ++ b ≡ ps → o1 ≡ map timeout (filter (is_over now) a)
    → o2 ≡ o1 ++ map timeout (filter (is_over now) b) → o3 ≡ o2 ++ map pull_beat (filter (is_beaten now) a)
    → o4 ≡ o3 ++ map pull_beat (filter (is_beaten now) b) → o4 ≡ passing_outs now ps
outs_are now a b ps o1 o2 o3 o4 is e1 e2 e3 e4 =
    let first : o2 ≡ map timeout (filter (is_over now) (a ++ b)) = e2 ∙ ap (λ (o : List Out). o ++ map timeout (filter (is_over now) b)) e1 ∙ joined (is_over now) timeout a b in
    let beats : map pull_beat (filter (is_beaten now) a) ++ map pull_beat (filter (is_beaten now) b) ≡ map pull_beat (filter (pull_comes now) (going_on now (a ++ b))) =
    joined (is_beaten now) pull_beat a b ∙ ap (map pull_beat) (beats_are now (a ++ b)) in
    e4 ∙ ap (λ (o : List Out). o ++ map pull_beat (filter (is_beaten now) b)) e3
    ∙ append_assoc o2 (map pull_beat (filter (is_beaten now) a)) (map pull_beat (filter (is_beaten now) b))
    ∙ ap (λ (o : List Out). o2 ++ o) beats
    ∙ ap (λ (o : List Out). o ++ map pull_beat (filter (pull_comes now) (going_on now (a ++ b)))) first
    ∙ ap (passing_outs now) is
