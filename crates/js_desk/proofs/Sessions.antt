-- A hold opens no session and closes none.
use Rattle.std.proofs.Common.{◌≡◌, ℕ, Bool, List, [], ◌∷◌, length, Option, None, sym, ap, ◌∙◌, inl, inr}
use Rattle.js_base.specs.Bytes.{Bytes}
use Rattle.js_base.specs.declared.out.Out.{Out}
use Rattle.js_model.specs.declared.desk.PlaceAt.{PlaceAt}
use Rattle.js_model.specs.Router.{Router, RouteTold, Routed as Answered, Interest, IsRoute, Listens, is_open, route}
use Rattle.js_model.specs.Catalog.{Catalog}
use Rattle.js_model.specs.Routing.{KeepsOpen}
use Rattle.route_core.proofs.Laws.{publish_keeps}
use Rattle.js_model.specs.PlaceStates.{PlaceIn}
use Rattle.js_api.specs.Entries.{Reading, entries_in, DeskEntry, Routed, Looked, Turned, Resumed, Held, Stirred, Halted, Missed, Spent}
use Rattle.js_api.specs.Leading.{Leads}
use Rattle.js_api.specs.Outputs.{outs_of}
use Rattle.desk_hold.specs.OnePlace.{OnPlace, PlaceStep}
use Rattle.desk_hold.specs.Ports.{AreHeard, AreSent}
use Rattle.desk_hold.proofs.Alone.{never}
use Rattle.desk_places.specs.declared.turn.Turn.{Turn}
use Rattle.js_desk.specs.Grounds.{setting_of, standing}
use Rattle.js_desk.proofs.Routed.{opening_as}

-- who listens is told, and nothing changes
interest_same : (r new : Router) (subject : Bytes) (group : Option Bytes) (told : RouteTold) → IsRoute r (Interest subject group) told new → new ≡ r
unfolding route
interest_same r new subject group told (inl h) = sym (ap (λ (a : Answered). a.router) h.routed)
interest_same r new subject group told (inr h) = h.same

heard_same : (r : Router) (readings : List Reading) (s : Router) → AreHeard IsRoute never r readings s → s ≡ r
heard_same r [] s h = sym h
heard_same r (reading ∷ more) s h = heard_same h.0 more s h.2 ∙ interest_same r h.0 reading.subject reading.group (Listens reading.heard) h.1

sent_keeps : (r : Router) (outs : List Out) (taken : List Bool) (s : Router) → AreSent IsRoute never r outs taken s → KeepsOpen r s
sent_keeps r [] [] s h n = ap (λ (x : Router). is_open x n) (sym h)
sent_keeps r [] (t ∷ taken) s h n = absurd h
sent_keeps r (out ∷ outs) [] s h n = absurd h
sent_keeps r (out ∷ outs) (t ∷ taken) s h n = sent_keeps h.1 outs taken s h.4 n ∙ publish_keeps r h.1 out None h.0 h.3 n

module _ (at : PlaceAt) where
  entry_keeps : (entry : DeskEntry) (old new : OnPlace Router) → PlaceStep IsRoute never at old entry new → KeepsOpen old.port new.port
  entry_keeps (Routed call told) old new h n = absurd h
  entry_keeps (Looked joined call told) old new h n = absurd h
  entry_keeps (Turned after found) old new h n = absurd h
  entry_keeps (Resumed last) old new h n = absurd h
  entry_keeps (Held hold) old new h n =
      elim h.sent [
        | inl all ↦
            sent_keeps h.told (outs_of hold.before (entries_in hold)) all.taken new.port all.sent n ∙ ap (λ (x : Router). is_open x n) (heard_same old.port hold.readings h.told h.heard)
        | inr first ↦ absurd first.is_worn
      ]
  entry_keeps (Stirred there before after failed) old new h n = ap (λ (x : Router). is_open x n) h.port
  entry_keeps (Halted there state) old new h n = ap (λ (o : OnPlace Router). is_open o.port n) h.same
  entry_keeps (Missed there kept) old new h n = ap (λ (o : OnPlace Router). is_open o.port n) h.same
  entry_keeps (Spent number) old new h n = absurd h

  pub hold_keeps : (entries : List DeskEntry) (old new : OnPlace Router) → Leads (PlaceStep IsRoute never at) old entries new → KeepsOpen old.port new.port
  hold_keeps [] old new h n = ap (λ (o : OnPlace Router). is_open o.port n) (sym h)
  hold_keeps (entry ∷ entries) old new h n = hold_keeps entries h.0 new h.2 n ∙ entry_keeps entry old h.0 h.1 n

-- the same sessions are open, and there are as many places
pub held_setting : {V : Type 0} (r router : Router) (c : Catalog) (places after : List PlaceIn) (vols vols_after : List V) (ticked : ℕ) (last later : Option PlaceAt) (turn turn_after : Turn) → KeepsOpen r router
    → length after ≡ length places → setting_of (standing router c after vols_after ticked later turn_after).scene ≡ setting_of (standing r c places vols ticked last turn).scene
held_setting r router c places after vols vols_after ticked last later turn turn_after h many =
    ap (opening_as (length after)) (λ j n. h n j) ∙ ap (λ (k : ℕ). opening_as k (is_open r)) many
