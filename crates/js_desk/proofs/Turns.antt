-- What the calls of a turn of the catalog keep: one list of subjects for each stream, and the incarnations that the places keep.
use Rattle.std.proofs.Common.{◌≡◌, ◌≢◌, ◌+◌, ℕ, Bool, true, false, List, Option, Some, None, refl, sym, ap, ◌∙◌, if◌then◌else◌, IsNone, is_some}
use Rattle.std.specs.Prelude.{◌==◌, slice_get}
use Rattle.std.proofs.lemmas.Bool.{eq-eqb, ne_eqb}
use Rattle.js_base.specs.Bytes.{Bytes}
use Rattle.js_model.specs.Catalog.{Catalog, Place, Used, edited, taken_by, on_used, changing, keeping, kept_list, freed, stopping}
use Rattle.js_model.specs.Events.{kept_incarnation}
use Rattle.js_model.specs.PlaceStates.{PlaceIn}
use Rattle.desk_places.specs.declared.turn.Turn.{Turn}
use Rattle.desk_places.specs.declared.turn.Turn.TheVariants as turns
use Rattle.js_desk.specs.Grounds.{AreSingle, AreAgreed, HasOneList, is_between, told_incarnation}
use Rattle.js_desk.proofs.Edits.{edited_all}

abbrev One : Turn → ℕ → Place → Type 0
One turn n p = is_between turn n ≡ false → HasOneList p.used

module _ (c : Catalog) (places : List PlaceIn) (place : ℕ) where
  abbrev Agrees : Turn → ℕ → Place → Type 0
  Agrees turn n p = (contents : PlaceIn) → slice_get places n ≡ Some contents → contents.stopped ≡ None → told_incarnation turn n p ≡ kept_incarnation contents.state

  -- ---- a new stream

  pub added_single : (name : Bytes) (subjects : List Bytes) → AreSingle turns.Within c → AreSingle turns.Within (edited (taken_by name subjects) place c)
  added_single name subjects h = edited_all (taken_by name subjects) place c (One turns.Within) (One turns.Within) h (λ p one b going. refl) (λ n p other one. one)

  pub added_agreed : (name : Bytes) (subjects : List Bytes) → AreAgreed turns.Within c places → AreAgreed turns.Within (edited (taken_by name subjects) place c) places
  added_agreed name subjects h = λ n p contents there stands.
      edited_all (taken_by name subjects) place c (Agrees turns.Within) (Agrees turns.Within) (λ m q is x y. h m q x is y) (λ q agrees. agrees) (λ m q other agrees. agrees) n p there contents stands

  -- ---- new subjects beside the old ones

  at_place : (place == place) ≡ true
  at_place = eq-eqb place place refl

  pub changed_single : (subjects : List Bytes) → AreSingle turns.Within c → AreSingle (turns.Between place) (edited (on_used (changing subjects)) place c)
  changed_single subjects h =
      edited_all (on_used (changing subjects)) place c (One turns.Within) (One (turns.Between place)) h (λ p one b. absurd (let yes : (place == place) ≡ true = at_place in cc (yes, b))) (λ n p other one b. one refl)

  pub changed_agreed : (subjects : List Bytes) → AreAgreed turns.Within c places → AreAgreed (turns.Between place) (edited (on_used (changing subjects)) place c) places
  changed_agreed subjects h = λ n p contents there stands.
      edited_all (on_used (changing subjects)) place c (Agrees turns.Within) (Agrees (turns.Between place)) (λ m q is x y. h m q x is y) (λ q agrees. agrees) (λ m q other agrees. agrees) n p there contents stands

  -- ---- one of the lists is kept

  kept_one : (new : Bool) (used : Option Used) (p : Place) → HasOneList (on_used (keeping new) (record p { used = used })).used
  kept_one new None p = tt
  kept_one new (Some u) p = by u.stopped refl
    where
      lists : (other : Option (List Bytes)) → u.new_subjects ≡ other → (kept_list new u other).stopped ≡ false → IsNone (kept_list new u other).new_subjects
      lists None e going = ap is_some e
      lists (Some subjects) e going = refl

      by : (b : Bool) → u.stopped ≡ b → (if b then u else kept_list new u u.new_subjects).stopped ≡ false → IsNone (if b then u else kept_list new u u.new_subjects).new_subjects
      by true e going = absurd (cc (e, going))
      by false e going = lists u.new_subjects refl going

  pub kept_single : (new : Bool) → AreSingle (turns.Between place) c → AreSingle turns.Within (edited (on_used (keeping new)) place c)
  kept_single new h = edited_all (on_used (keeping new)) place c (One (turns.Between place)) (One turns.Within) h (λ p one b. kept_one new p.used p) (λ n p other one b. one (ne_eqb place n other))

  pub kept_agreed : (new : Bool) → AreAgreed (turns.Between place) c places → AreAgreed turns.Within (edited (on_used (keeping new)) place c) places
  kept_agreed new h = λ n p contents there stands.
      edited_all (on_used (keeping new)) place c (Agrees (turns.Between place)) (Agrees turns.Within) (λ m q is x y. h m q x is y) (λ q agrees. agrees) (λ m q other agrees. agrees) n p there contents stands

  -- ---- a place that is free again, or stopped

  abbrev before : Bool → Turn
  before true = turns.Owing place
  before false = turns.Within

  pub freed_single : (dropped : Bool) → AreSingle (before dropped) c → AreSingle turns.Within (edited (freed dropped) place c)
  freed_single true h = edited_all (freed true) place c (One (turns.Owing place)) (One turns.Within) h (λ p one b. tt) (λ n p other one b. one refl)
  freed_single false h = edited_all (freed false) place c (One turns.Within) (One turns.Within) h (λ p one b. tt) (λ n p other one b. one refl)

  pub freed_agreed : (dropped : Bool) → AreAgreed (before dropped) c places → AreAgreed turns.Within (edited (freed dropped) place c) places
  freed_agreed true h = λ n p contents there stands.
      edited_all (freed true) place c (Agrees (turns.Owing place)) (Agrees turns.Within) (λ m q is x y. h m q x is y)
      (λ q agrees x y going. sym (ap (λ (b : Bool). if b then q.incarnation + 1 else q.incarnation) at_place) ∙ agrees x y going)
      (λ m q other agrees x y going. sym (ap (λ (b : Bool). if b then q.incarnation + 1 else q.incarnation) (ne_eqb place m other)) ∙ agrees x y going) n p there contents stands
  freed_agreed false h = λ n p contents there stands.
      edited_all (freed false) place c (Agrees turns.Within) (Agrees turns.Within) (λ m q is x y. h m q x is y) (λ q agrees. agrees) (λ m q other agrees. agrees) n p there contents stands

  stopped_one : (used : Option Used) (p : Place) → HasOneList (on_used stopping (record p { used = used })).used
  stopped_one None p = tt
  stopped_one (Some u) p = λ going. absurd (cc)

  pub stopped_single : (turn : Turn) → ((n : ℕ) → place ≢ n → is_between turn n ≡ false) → AreSingle turn c → AreSingle turns.Within (edited (on_used stopping) place c)
  stopped_single turn others h = edited_all (on_used stopping) place c (One turn) (One turns.Within) h (λ p one b. stopped_one p.used p) (λ n p other one b. one (others n other))

  pub stopped_agreed : (turn : Turn) → ((n : ℕ) (p : Place) → told_incarnation turn n p ≡ p.incarnation) → AreAgreed turn c places → AreAgreed turns.Within (edited (on_used stopping) place c) places
  stopped_agreed turn none h = λ n p contents there stands.
      edited_all (on_used stopping) place c (Agrees turn) (Agrees turns.Within) (λ m q is x y. h m q x is y) (λ q agrees x y going. sym (none place q) ∙ agrees x y going) (λ m q other agrees x y going. sym (none m q) ∙ agrees x y going) n p there contents stands
