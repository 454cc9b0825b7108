-- Laws of the end of a turn.
use Rattle.std.proofs.Common.{◌≡◌, ℕ, List, [], ◌∷◌, ◌++◌, Option, Err, refl, sym, ap, subst, ◌∙◌, append_assoc, inl, inr}
use Rattle.std.proofs.lemmas.List.{append-nil}
use Rattle.js_base.specs.Bytes.{Bytes}
use Rattle.link_edge.specs.Told.{grown}
use Rattle.link_edge.proofs.Told.{grown-nil}
use Rattle.js_api.specs.Entries.{DeskEntry}
use Rattle.session.specs.Peer.{Act, Ticks, Peer}
use Rattle.session.specs.Stopping.{cause_of}
use Rattle.session.specs.Talk.{EndsBy, IsCutOff, IsFrontOf, IsWritten, heard_bytes, last_line, spoken_bytes, entries_of_all, entries_of_spoken}
use Rattle.session.specs.Carrying.{Carries, IsCarried}
use Rattle.session.specs.Giving.{GivesPart, end_of}
use Rattle.session.specs.Parting.{Parts, PartsAt}
use Rattle.session.specs.Ticking.{IsTicked, IsTickCut, Within, Between}
use Rattle.session.proofs.Behind.{front_of}
use Rattle.session.specs.declared.ending.Ended.{Ended}
use Rattle.session.specs.declared.ending.Ended.TheVariants as ends
use Rattle.session.specs.declared.giving.GiveFault.{GiveFault}
use Rattle.session.specs.declared.giving.GiveFault.TheVariants as faults
use Rattle.session.specs.declared.stop.Stop.{Stop}
use Rattle.session.specs.declared.stop.Stop.TheVariants as stops

module _ {D : Type 0} (made : D → List DeskEntry → D → Type 0) (peer : Peer) (now : ℕ) (old new : D) (waiting more : Bytes) (a b : Option Bytes) where
  -- all was given
  pub ticked_whole : IsCarried made peer now Ticks old new waiting more → b ≡ grown a more → IsTicked made peer now old new waiting a b
  ticked_whole k g = record {
    spoken = k.spoken;
    act_is = k.act_is;
    is_spoken = k.is_spoken;
    led = k.led;
    given = g ∙ ap (grown a) k.written;
  }

  -- the session ended within the tick
  cut_in : (stop : Stop) (ended : Ended) (out : Bytes) → (k : Carries made peer now Ticks old new waiting more (Err stop))
      → EndsBy (cause_of stop) ended out (waiting ++ (k.said ++ last_line (cause_of stop))) → b ≡ grown a out → IsTickCut ended made peer now old new waiting a b
  cut_in stop ended out k e g = record {
    spoken = [];
    begun = Ticks ∷ [];
    calls = k.calls;
    cause = cause_of stop;
    said = k.said;
    out = out;
    acts = refl;
    are_spoken = tt;
    stops = Within Ticks refl k.are;
    led = k.led;
    ends_by = e;
    given = g;
  }

  -- and parted
  cut_parted : (stop : Stop) (ended : Ended) → (k : Carries made peer now Ticks old new waiting more (Err stop)) → more ≡ waiting ++ k.said → Parts (cause_of stop) ended a b more
      → IsTickCut ended made peer now old new waiting a b
  cut_parted stop ended k e p =
      let line = last_line (cause_of stop) in
      let whole : more ++ line ≡ waiting ++ (k.said ++ line) = ap (λ (bytes : Bytes). bytes ++ line) e ∙ append_assoc waiting k.said line in
      cut_in stop ended p.out k (subst (EndsBy (cause_of stop) ended p.out) whole p.ends_by) p.given

  pub tick_parted : (stop : Stop) (ended : Ended) → Carries made peer now Ticks old new waiting more (Err stop) → PartsAt stop ended a b more
      → IsTickCut ended made peer now old new waiting a b
  tick_parted (stops.Refused refusal) ended k p = cut_parted (stops.Refused refusal) ended k (k.added refl) p
  tick_parted (stops.Slow size) ended k p = cut_parted (stops.Slow size) ended k (k.added refl) p
  tick_parted stops.NoMemory ended k p =
      let whole : Bytes = waiting ++ (k.said ++ []) in
      let front : IsFrontOf [] whole = (whole, refl) in
      cut_in stops.NoMemory ended [] k (inl (p.0, subst (λ (x : Ended). IsWritten x [] whole) (sym p.0) front)) (p.1 ∙ sym (grown-nil a))

  -- the tick was carried out, and not all could be given
  pub tick_given : (fault : GiveFault) (ended : Ended) → IsCarried made peer now Ticks old new waiting more → GivesPart a b more → ended ≡ end_of fault
      → IsTickCut ended made peer now old new waiting a b
  tick_given fault ended k g e =
      subst (λ (x : Ended). IsTickCut x made peer now old new waiting a b) (sym e) (go fault)
    where
      whole : more ≡ waiting ++ (heard_bytes peer now (k.spoken ∷ []) ++ ([] ++ []))
      whole = k.written ∙ ap (λ (bytes : Bytes). waiting ++ bytes) (sym (append-nil (spoken_bytes peer now k.spoken)) ∙ sym (append-nil (spoken_bytes peer now k.spoken ++ [])))

      cut : IsCutOff g.0 (waiting ++ (heard_bytes peer now (k.spoken ∷ []) ++ ([] ++ [])))
      cut = subst (IsCutOff g.0) whole g.1

      led : made old (entries_of_all (k.spoken ∷ []) ++ []) new
      led = subst (λ (es : List DeskEntry). made old es new) (sym (append-nil (entries_of_spoken k.spoken)) ∙ sym (append-nil (entries_of_spoken k.spoken ++ []))) k.led

      acts : k.spoken.act ∷ [] ≡ Ticks ∷ []
      acts = ap (λ (act : Act). act ∷ []) k.act_is

      go : (fault : GiveFault) → IsTickCut (end_of fault) made peer now old new waiting a b
      go faults.LinkFault = record {
        spoken = k.spoken ∷ [];
        begun = [];
        calls = [];
        cause = ends.LinkFault;
        said = [];
        out = g.0;
        acts = acts;
        are_spoken = (k.is_spoken, tt);
        stops = Between refl refl refl (inl refl);
        led = led;
        ends_by = inl (refl, cut);
        given = g.2;
      }
      go faults.NoMemory = record {
        spoken = k.spoken ∷ [];
        begun = [];
        calls = [];
        cause = ends.NoMemory;
        said = [];
        out = g.0;
        acts = acts;
        are_spoken = (k.is_spoken, tt);
        stops = Between refl refl refl (inr refl);
        led = led;
        ends_by = inl (refl, front_of g.0 (waiting ++ (heard_bytes peer now (k.spoken ∷ []) ++ ([] ++ []))) cut);
        given = g.2;
      }
