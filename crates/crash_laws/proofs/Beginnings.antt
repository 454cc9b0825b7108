-- Chains of entries, and what is left of entries that others follow.
use Rattle.std.proofs.Common.{◌≡◌, ℕ, ◌<◌, ◌≤◌, ◌++◌, List, [], ◌∷◌, append_assoc, refl, sym, ap, subst, ◌∙◌, arith}
use Rattle.js_model.specs.declared.stream.State.{State}
use Rattle.crash_laws.specs.Timed.{Timed}
use Rattle.crash_laws.specs.Beginnings.{Beginning, Chain, Ever}
use Rattle.crash_laws.specs.Outlasting.{AreBetween}

-- ---- chains

pub loosened : (IsFine IsGood : ℕ → Type 0) → (from until : ℕ) → ((by : ℕ) → from ≤ by → by ≤ until → IsFine by → IsGood by)
    → (entries : List Timed) (old new : State) → AreBetween from until entries → Chain IsFine old entries new → Chain IsGood old entries new
loosened IsFine IsGood from until so [] old new within h = h
loosened IsFine IsGood from until so (e ∷ more) old new within h =
    (h.0, h.1, (λ firm. so e.by within.0 within.1 (h.2 firm)), loosened IsFine IsGood from until so more h.0 new within.2 h.3)

pub chained : (IsFine : ℕ → Type 0) (first more : List Timed) (old mid new : State) → Chain IsFine old first mid → Chain IsFine mid more new → Chain IsFine old (first ++ more) new
chained IsFine [] more old mid new h k = subst (λ (s : State). Chain IsFine s more new) (sym h) k
chained IsFine (e ∷ first) more old mid new h k = (h.0, h.1, h.2, chained IsFine first more h.0 mid new h.3 k)

-- ---- moments

pub both_between : (from until : ℕ) (first more : List Timed) → AreBetween from until first → AreBetween from until more → AreBetween from until (first ++ more)
both_between from until [] more h k = k
both_between from until (e ∷ first) more h k = (h.0, h.1, both_between from until first more h.2 k)

pub last_between : (from until : ℕ) (first more : List Timed) → AreBetween from until (first ++ more) → AreBetween from until more
last_between from until [] more h = h
last_between from until (e ∷ first) more h = last_between from until first more h.2

pub wider_between : (from until start end : ℕ) → start ≤ from → until ≤ end → (entries : List Timed) → AreBetween from until entries → AreBetween start end entries
wider_between from until start end le ge [] h = tt
wider_between from until start end le ge (e ∷ more) h = (omega (arith, h.0, le), omega (arith, h.1, ge), wider_between from until start end le ge more h.2)

-- ---- what is left

-- if they all were answered after a moment, each may be lost since then
pub all_lost : (t from until : ℕ) → t < from → (entries : List Timed) (old new : State) → AreBetween from until entries → Chain Ever old entries new → Chain (λ by. t < by) old entries new
all_lost t from until before entries old new within chain =
    loosened Ever (λ by. t < by) from until (λ by le ge fine. omega (arith, before, le)) entries old new within chain

-- none of the entries
abbrev pub none_left : (t : ℕ) (old : State) (entries : List Timed) (new : State) → Chain (λ by. t < by) old entries new → Beginning t old entries new
none_left t old entries new chain = record { first = []; more = entries; entries_are = refl; mid = old; stays = refl; lost = chain }

module _ (t : ℕ) (old : State) (entries : List Timed) (mid : State) (more : List Timed) (new : State) where
  -- of those before, and the others are lost with what follows
  abbrev pub begins_before : Beginning t old entries mid → Chain (λ by. t < by) mid more new → Beginning t old (entries ++ more) new
  begins_before h chain = record {
    first = h.first;
    more = h.more ++ more;
    entries_are = ap (λ (es : List Timed). es ++ more) h.entries_are ∙ append_assoc h.first h.more more;
    mid = h.mid;
    stays = h.stays;
    lost = chained (λ by. t < by) h.more more h.mid mid new h.lost chain;
  }

  -- of all those before and some that follow
  abbrev pub begins_behind : Chain Ever old entries mid → Beginning t mid more new → Beginning t old (entries ++ more) new
  begins_behind whole k = record {
    first = entries ++ k.first;
    more = k.more;
    entries_are = ap (λ (es : List Timed). entries ++ es) k.entries_are ∙ sym (append_assoc entries k.first k.more);
    mid = k.mid;
    stays = chained Ever entries k.first old mid k.mid whole k.stays;
    lost = k.lost;
  }

-- a beginning that loses nothing that was answered by a moment loses nothing since another one, if all were answered by then
abbrev pub begins_since : (t s from : ℕ) (old : State) (entries : List Timed) (new : State) → AreBetween from s entries → Beginning s old entries new → Beginning t old entries new
begins_since t s from old entries new within h = record {
  first = h.first;
  more = h.more;
  entries_are = h.entries_are;
  mid = h.mid;
  stays = h.stays;
  lost = loosened (λ by. s < by) (λ by. t < by) from s (λ by le ge late. let no : ⊥ = omega (arith, ge, late) in absurd no) h.more h.mid new
      (last_between from s h.first h.more (subst (λ (es : List Timed). AreBetween from s es) h.entries_are within)) h.lost;
}

-- where nothing of them stands, all are lost
pub nothing_stands : (t : ℕ) (old : State) (entries : List Timed) (new : State) → (h : Beginning t old entries new) → h.first ≡ [] → Chain (λ by. t < by) old entries new
nothing_stands t old entries new h none =
    let at : old ≡ h.mid = subst (λ (es : List Timed). Chain Ever old es h.mid) none h.stays in
    let all : entries ≡ h.more = h.entries_are ∙ ap (λ (es : List Timed). es ++ h.more) none in
    subst (λ (es : List Timed). Chain (λ by. t < by) old es new) (sym all) (subst (λ (s : State). Chain (λ by. t < by) s h.more new) (sym at) h.lost)
