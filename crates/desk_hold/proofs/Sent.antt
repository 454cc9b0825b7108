-- Outputs that are sent one after another, and what became of them.
use Rattle.std.proofs.Common.{◌≡◌, ℕ, zero, suc, ◌+◌, ◌<◌, ◌≤◌, length, drop, get_or, add-one, arith, Bool, true, false, List, [], ◌∷◌, ◌++◌, None, Ok, Err, refl, sym, ap, subst, ◌∙◌, append_assoc, inl, inr}
use Rattle.std.specs.Prelude.{Result}
use Rattle.std.proofs.lemmas.List.{append-nil}
use Rattle.std.proofs.Math.Seq.{drop-cons}
use Rattle.js_base.specs.declared.out.Out.{Out}
use Rattle.js_model.specs.Router.{RouteCall, RouteTold, Publish, Taken, NoMemory}
use Rattle.js_api.specs.Entries.{Short, Unsent}
use Rattle.js_api.specs.Worlds.{IsTried, WasTaken, WasShort, sending_of}
use Rattle.desk_hold.specs.declared.port.PortFault.{PortFault}
use Rattle.desk_hold.specs.declared.port.PortFault.TheVariants as faults
use Rattle.desk_hold.specs.Ports.{AreSent, Sends, SendsBy, sending_by}

-- what is left begins with the next one
next_left : (outs : List Out) (i : ℕ) (out : Out) → i < length outs → out ≡ get_or outs i out → drop i outs ≡ out ∷ drop (i + 1) outs
next_left outs i out within is = drop-cons outs i out within ∙ ap (λ (o : Out). o ∷ drop (suc i) outs) (sym is) ∙ ap (λ (n : ℕ). out ∷ drop n outs) (sym (add-one i))

pub none_left : (outs : List Out) (i : ℕ) → length outs ≤ i → drop i outs ≡ []
none_left [] zero h = refl
none_left [] (suc i) h = refl
none_left (out ∷ outs) zero h = absurd (omega (arith, h))
none_left (out ∷ outs) (suc i) h = none_left outs i (omega (arith, h))

taken_more : (taken : List Bool) → sending_of (taken ++ true ∷ []) ≡ sending_of taken
taken_more [] = refl
taken_more (true ∷ taken) = taken_more taken
taken_more (false ∷ taken) = refl

short_more : (taken : List Bool) → sending_of (taken ++ false ∷ []) ≡ Short
short_more [] = refl
short_more (true ∷ taken) = short_more taken
short_more (false ∷ taken) = refl

module _ {R : Type 0} (routes : R → RouteCall → RouteTold → R → Type 0) (worn : R → ℕ → R → Type 0) where
  one_more : (first : List Out) (out : Out) (taken : List Bool) (last : Bool) (told : RouteTold) (old mid new : R) → AreSent routes worn old first taken mid
      → IsTried told last → routes mid (Publish out None) told new → AreSent routes worn old (first ++ out ∷ []) (taken ++ last ∷ []) new
  one_more [] out [] last told old mid new h tried k = (told, new, tried, subst (λ (r : R). routes r (Publish out None) told new) (sym h) k, refl)
  one_more [] out (t ∷ taken) last told old mid new h tried k = absurd h
  one_more (o ∷ first) out [] last told old mid new h tried k = absurd h
  one_more (o ∷ first) out (t ∷ taken) last told old mid new h tried k = (h.0, h.1, h.2, h.3, one_more first out taken last told h.1 mid new h.4 tried k)

  -- a prefix of the outputs was tried
  pub record Tried (outs rest : List Out) (sent : Result (Unit {0}) PortFault) (old new : R) : Type 0 where
    pub first : List Out
    pub taken : List Bool
    pub whole : outs ≡ first ++ rest
    pub are : AreSent routes worn old first taken new
    pub is : sending_by sent ≡ sending_of taken

  pub none_tried : (outs rest : List Out) (r : R) → rest ≡ outs → Tried outs rest (Ok tt) r r
  none_tried outs rest r e = record { first = []; taken = []; whole = sym e; are = refl; is = refl }

  one_taken : (outs : List Out) (out : Out) (rest : List Out) (sent : Result (Unit {0}) PortFault) (u : Unit {0}) (old mid new : R) → Tried outs (out ∷ rest) sent old mid
      → SendsBy routes worn mid out (Ok u) new → Tried outs rest sent old new
  one_taken outs out rest sent u old mid new h k = record {
    first = h.first ++ out ∷ [];
    taken = h.taken ++ true ∷ [];
    whole = h.whole ∙ sym (append_assoc h.first (out ∷ []) rest);
    are = one_more h.first out h.taken true (Taken k.0) old mid new h.are (WasTaken k.0) k.1;
    is = h.is ∙ sym (taken_more h.taken);
  }

  one_short : (outs : List Out) (out : Out) (rest : List Out) (sent : Result (Unit {0}) PortFault) (old mid new : R) → Tried outs (out ∷ rest) sent old mid
      → SendsBy routes worn mid out (Err faults.NoMemory) new → Tried outs rest (Err faults.NoMemory) old new
  one_short outs out rest sent old mid new h k = record {
    first = h.first ++ out ∷ [];
    taken = h.taken ++ false ∷ [];
    whole = h.whole ∙ sym (append_assoc h.first (out ∷ []) rest);
    are = one_more h.first out h.taken false NoMemory old mid new h.are WasShort k;
    is = sym (short_more h.taken);
  }

  pub all_tried : (outs rest : List Out) (sent : Result (Unit {0}) PortFault) (old new : R) → Tried outs rest sent old new → rest ≡ [] → Sends routes worn old outs (sending_by sent) new
  all_tried outs rest sent old new h e = inl (record {
    taken = h.taken;
    sent = subst (λ (os : List Out). AreSent routes worn old os h.taken new) (sym (h.whole ∙ ap (λ (os : List Out). h.first ++ os) e ∙ append-nil h.first)) h.are;
    sending_is = h.is;
  })

  worn_out : (outs : List Out) (out : Out) (rest : List Out) (sent : Result (Unit {0}) PortFault) (number : ℕ) (old mid new : R) → Tried outs (out ∷ rest) sent old mid
      → SendsBy routes worn mid out (Err (faults.Worn number)) new → Sends routes worn old outs (sending_by (Err (faults.Worn number))) new
  worn_out outs out rest sent number old mid new h k = inr (record {
    first = h.first;
    more = out ∷ rest;
    outs_are = h.whole;
    taken = h.taken;
    mid = mid;
    sent = h.are;
    number = number;
    is_worn = k;
    sending_is = refl;
  })

  -- the next output was taken
  pub next_taken : (outs : List Out) (i : ℕ) (out : Out) (sent after result : Result (Unit {0}) PortFault) (u : Unit {0}) (old mid new : R) → Tried outs (drop i outs) sent old mid → i < length outs
      → out ≡ get_or outs i out → SendsBy routes worn mid out result new → result ≡ Ok u → after ≡ sent → Tried outs (drop (i + 1) outs) after old new
  next_taken outs i out sent after result u old mid new h within is sends was same =
      subst (λ (s : Result (Unit {0}) PortFault). Tried outs (drop (i + 1) outs) s old new) (sym same)
      (one_taken outs out (drop (i + 1) outs) sent u old mid new (subst (λ (os : List Out). Tried outs os sent old mid) (next_left outs i out within is) h)
      (subst (λ (r : Result (Unit {0}) PortFault). SendsBy routes worn mid out r new) was sends))

  -- it found no memory
  pub next_short : (outs : List Out) (i : ℕ) (out : Out) (sent after result : Result (Unit {0}) PortFault) (fault : PortFault) (old mid new : R) → Tried outs (drop i outs) sent old mid → i < length outs
      → out ≡ get_or outs i out → SendsBy routes worn mid out result new → result ≡ Err fault → fault ≡ faults.NoMemory → after ≡ Err faults.NoMemory
      → Tried outs (drop (i + 1) outs) after old new
  next_short outs i out sent after result fault old mid new h within is sends was why same =
      subst (λ (s : Result (Unit {0}) PortFault). Tried outs (drop (i + 1) outs) s old new) (sym same)
      (one_short outs out (drop (i + 1) outs) sent old mid new (subst (λ (os : List Out). Tried outs os sent old mid) (next_left outs i out within is) h)
      (subst (λ (r : Result (Unit {0}) PortFault). SendsBy routes worn mid out r new) (was ∙ ap (λ (f : PortFault). Err f) why) sends))

  -- no turn was left for it
  pub next_worn : (outs : List Out) (i : ℕ) (out : Out) (sent result : Result (Unit {0}) PortFault) (fault : PortFault) (number told : ℕ) (old mid new : R) → Tried outs (drop i outs) sent old mid → i < length outs
      → out ≡ get_or outs i out → SendsBy routes worn mid out result new → result ≡ Err fault → fault ≡ faults.Worn number → told ≡ number → Sends routes worn old outs (Unsent told) new
  next_worn outs i out sent result fault number told old mid new h within is sends was why same =
      subst (λ (n : ℕ). Sends routes worn old outs (Unsent n) new) (sym same)
      (worn_out outs out (drop (i + 1) outs) sent number old mid new (subst (λ (os : List Out). Tried outs os sent old mid) (next_left outs i out within is) h)
      (subst (λ (r : Result (Unit {0}) PortFault). SendsBy routes worn mid out r new) (was ∙ ap (λ (f : PortFault). Err f) why) sends))
