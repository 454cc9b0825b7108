-- Consumers hold and need the same as time passes, but for what overflows.
use Rattle.std.proofs.Common.{◌≡◌, ℕ, ◌<◌, ◌==◌, ◌||◌, ◌&&◌, Bool, true, false, cond, not, List, [], ◌∷◌, Some, None, length, map, refl, sym, ap, subst, ◌∙◌, arith}
use Rattle.std.specs.Prelude.{All, filter, fold, nat_le, nat_lt}
use Rattle.std.proofs.lemmas.List.Elements.{All-cons, All-head, All-tail, All-map, All-filter, All-drop}
use Rattle.js_base.specs.Bytes.{has}
use Rattle.js_model.specs.declared.stream.Message.{Message}
use Rattle.js_model.specs.declared.stream.Stream.{Stream}
use Rattle.js_model.specs.declared.consumer.Pending.{Pending}
use Rattle.js_model.specs.declared.consumer.Consumer.{Consumer}
use Rattle.js_model.specs.Advance.{consumer_at, is_spent, placed}
use Rattle.js_model.specs.Retention.{needs}
use Rattle.js_model.specs.Streams.{pending_seqs, seqs, takes}
use Rattle.js_model.proofs.Named.{none_some, some_is}
use Rattle.consumer_progress.specs.GivingUp.{rest_of}
use Rattle.consumer_progress.specs.Progresses.{first_of}
use Rattle.consumer_need.specs.Stored.{HoldsStored}
use Rattle.consumer_state.specs.Passing.{has_overflow, overflow_of, passed, without_overflow, within_overflow, LawOverflow, LawPassed}
use Rattle.followed_stream.specs.Delivering.{IsCurrentAt}
use Rattle.followed_stream.specs.Spans.{joined, spans}
use Rattle.followed_stream.specs.declared.span.Span.{Span}
use Rattle.followed_stream.proofs.Spanning.{other_than, outside_first, outside_second}

-- ---- either of several

swap : (a b c : Bool) → (a || (b || c)) ≡ (b || (a || c))
swap true true c = refl
swap true false c = refl
swap false b c = refl

regroup : (p s g : Bool) → (p || (g || s)) ≡ ((p || s) || g)
regroup true s g = refl
regroup false true true = refl
regroup false true false = refl
regroup false false true = refl
regroup false false false = refl

-- ---- numbers at their places

has_placed : (xs : List ℕ) (n k : ℕ) → has (placed xs n) k ≡ (n == k || has xs k)
has_placed [] n k = refl
has_placed (x ∷ xs) n k = go (nat_lt x n) (has_placed xs n k)
  where
    go : (b : Bool) → has (placed xs n) k ≡ (n == k || has xs k) → has (cond b (x ∷ placed xs n) (n ∷ x ∷ xs)) k ≡ (n == k || (x == k || has xs k))
    go true h = ap (λ b. x == k || b) h ∙ swap (x == k) (n == k) (has xs k)
    go false h = refl

has_all_placed : (xs ns : List ℕ) (k : ℕ) → has (fold placed xs ns) k ≡ (has xs k || has ns k)
has_all_placed xs [] k = or_false (has xs k)
  where
    or_false : (b : Bool) → b ≡ (b || false)
    or_false true = refl
    or_false false = refl
has_all_placed xs (n ∷ ns) k = has_all_placed (placed xs n) ns k ∙ ap (λ b. b || has ns k) (has_placed xs n k) ∙ shift (n == k) (has xs k) (has ns k)
  where
    shift : (a b c : Bool) → ((a || b) || c) ≡ (b || (a || c))
    shift true true c = refl
    shift true false c = refl
    shift false b c = refl

all_placed : (P : ℕ → Type 0) (xs : List ℕ) (n : ℕ) → All P xs → P n → All P (placed xs n)
all_placed P [] n h k = All-cons P n [] k h
all_placed P (x ∷ xs) n h k = go (nat_lt x n) (all_placed P xs n (All-tail P x xs h) k)
  where
    go : (b : Bool) → All P (placed xs n) → All P (cond b (x ∷ placed xs n) (n ∷ x ∷ xs))
    go true r = All-cons P x (placed xs n) (All-head P x xs h) r
    go false r = All-cons P n (x ∷ xs) k h

all_all_placed : (P : ℕ → Type 0) (xs ns : List ℕ) → All P xs → All P ns → All P (fold placed xs ns)
all_all_placed P xs [] h k = h
all_all_placed P xs (n ∷ ns) h k = all_all_placed P (placed xs n) ns (all_placed P xs n h (All-head P n ns k)) (All-tail P n ns k)

-- ---- what is given up is still needed

-- each delivery that waits is spent or is not
has_either : (t : Pending → Bool) (ps : List Pending) (k : ℕ) → (has (map (λ p. p.seq) (filter (λ p. not (t p)) ps)) k || has (map (λ p. p.seq) (filter t ps)) k) ≡ has (map (λ p. p.seq) ps) k
has_either t [] k = refl
has_either t (p ∷ ps) k = go (t p) (has_either t ps k)
  where
    others : Bool
    others = has (map (λ p. p.seq) (filter (λ p. not (t p)) ps)) k

    passing : Bool
    passing = has (map (λ p. p.seq) (filter t ps)) k

    assoc : (a b c : Bool) → ((a || b) || c) ≡ (a || (b || c))
    assoc true b c = refl
    assoc false b c = refl

    go : (b : Bool) → (others || passing) ≡ has (map (λ p. p.seq) ps) k
        → (has (map (λ p. p.seq) (cond (not b) (p ∷ filter (λ p. not (t p)) ps) (filter (λ p. not (t p)) ps))) k || has (map (λ p. p.seq) (cond b (p ∷ filter t ps) (filter t ps))) k) ≡ (p.seq == k || has (map (λ p. p.seq) ps) k)
    go true h = swap others (p.seq == k) passing ∙ ap (λ b. p.seq == k || b) h
    go false h = assoc (p.seq == k) others passing ∙ ap (λ b. p.seq == k || b) h

pub passed_needs : (now : ℕ) (c : Consumer) (m : Message) → needs (passed now c) m ≡ needs c m
passed_needs now c m = ap (λ b. takes c m && (has c.picks m.seq || (nat_le c.cursor m.seq || b))) alike
  where
    waits : Bool
    waits = has (map (λ p. p.seq) (filter (λ p. not (is_spent now c p)) c.pending)) m.seq

    spent : Bool
    spent = has (map (λ p. p.seq) (filter (is_spent now c) c.pending)) m.seq

    alike : (waits || has (fold placed c.given_up (map (λ p. p.seq) (filter (is_spent now c) c.pending))) m.seq) ≡ (has (pending_seqs c) m.seq || has c.given_up m.seq)
    alike =
        ap (λ b. waits || b) (has_all_placed c.given_up (map (λ p. p.seq) (filter (is_spent now c) c.pending)) m.seq)
        ∙ regroup waits spent (has c.given_up m.seq)
        ∙ ap (λ b. b || has c.given_up m.seq) (has_either (is_spent now c) c.pending m.seq)

-- what overflows alone may no longer be needed
pub overflow_needs : (c : Consumer) (seq : ℕ) (m : Message) → Some seq ≡ overflow_of c → (seq == m.seq) ≡ false → needs (without_overflow c) m ≡ needs c m
overflow_needs c seq m e other = ap (λ b. takes c m && (has c.picks m.seq || (nat_le c.cursor m.seq || (has (pending_seqs c) m.seq || b)))) (go (has_overflow c) c.given_up e)
  where
    go : (b : Bool) (ns : List ℕ) → Some seq ≡ cond b (first_of ns) None → has (cond b (rest_of ns) ns) m.seq ≡ has ns m.seq
    go true [] k = absurd (none_some (sym k))
    go true (n ∷ ns) k = sym (ap (λ b. b || has ns m.seq) (ap (λ j. j == m.seq) (some_is (sym k)) ∙ other))
    go false ns k = refl

pub overflow_fewer : (c : Consumer) (seq : ℕ) → Some seq ≡ overflow_of c → length (without_overflow c).given_up < length c.given_up
overflow_fewer c seq e = go (has_overflow c) c.given_up e
  where
    go : (b : Bool) (ns : List ℕ) → Some seq ≡ cond b (first_of ns) None → length (cond b (rest_of ns) ns) < length ns
    go true [] k = absurd (none_some (sym k))
    go true (n ∷ ns) k = omega arith
    go false ns k = absurd (none_some (sym k))

-- ---- what a consumer holds goes on being stored

abbrev is_stored : Stream → ℕ → Type 0
is_stored s n = has (seqs s.messages) n ≡ true

pub holds_at : (now : ℕ) (s : Stream) (c : Consumer) → HoldsStored s c → HoldsStored s (consumer_at now c)
holds_at now s c h = record {
  picks = h.picks;
  pending = All-filter (λ p. not (is_spent now c p)) (λ p. is_stored s p.seq) c.pending h.pending;
  given_up =
      All-drop (is_stored s) _ (fold placed c.given_up (map (λ p. p.seq) (filter (is_spent now c) c.pending)))
      (all_all_placed (is_stored s) c.given_up (map (λ p. p.seq) (filter (is_spent now c) c.pending)) h.given_up
      (All-map (is_stored s) (λ p. p.seq) (filter (is_spent now c) c.pending) (All-filter (is_spent now c) (λ p. is_stored s p.seq) c.pending h.pending)));
}

-- ---- the overflow, one by one

abbrev needs_it : Consumer → Message → Bool
needs_it c m = needs c m

pub none_overflows : (c : Consumer) → None ≡ overflow_of c → without_overflow c ≡ c
none_overflows c e = ap (λ (ns : List ℕ). record c { given_up = ns }) (go (has_overflow c) c.given_up e)
  where
    go : (b : Bool) (ns : List ℕ) → None ≡ cond b (first_of ns) None → cond b (rest_of ns) ns ≡ ns
    go true [] k = refl
    go true (n ∷ ns) k = absurd (none_some k)
    go false ns k = refl

-- time has passed, and some of what overflows has gone
pub record Overflows (now : ℕ) (old mid : Consumer) (loose : Span) : Type 0 where
  pub same : within_overflow mid ≡ consumer_at now old
  pub needs : (m : Message) → spans loose m.seq ≡ false → needs mid m ≡ needs old m
  pub current : IsCurrentAt now mid

pub overflows_none : LawPassed → (now : ℕ) (old mid : Consumer) (loose : Span) → mid ≡ passed now old → IsCurrentAt now mid → Overflows now old mid loose
overflows_none law now old mid loose is current = record {
  same = ap within_overflow is ∙ sym (law now old);
  needs = λ m e. ap (λ (c : Consumer). needs_it c m) is ∙ passed_needs now old m;
  current = current;
}

pub overflows_more : LawOverflow → (now seq : ℕ) (old mid new : Consumer) (loose one : Span) → Overflows now old mid loose → Some seq ≡ overflow_of mid → new ≡ without_overflow mid → one ≡ record { first = seq; last = seq } → Overflows now old new (joined loose one)
overflows_more law now seq old mid new loose one h e is own = record {
  same = ap within_overflow is ∙ (law mid).0 ∙ h.same;
  needs = λ m out. ap (λ (c : Consumer). needs_it c m) is
      ∙ overflow_needs mid seq m e (other_than seq m.seq (ap (λ (span : Span). spans span m.seq) (sym own) ∙ outside_second loose one m.seq out))
      ∙ h.needs m (outside_first loose one m.seq out);
  current = subst (IsCurrentAt now) (sym is) h.current;
}

pub overflows_all : LawOverflow → (now : ℕ) (old mid new : Consumer) (loose : Span) → Overflows now old mid loose → None ≡ overflow_of mid → new ≡ without_overflow mid → (new ≡ consumer_at now old) × ((m : Message) → spans loose m.seq ≡ false → needs new m ≡ needs old m)
overflows_all law now old mid new loose h e is =
    let stays = is ∙ none_overflows mid e in
    (stays ∙ sym ((law mid).1 (sym e)) ∙ h.same, λ m out. ap (λ (c : Consumer). needs c m) stays ∙ h.needs m out)

pub overflows_current : (now : ℕ) (old mid new : Consumer) (loose : Span) → Overflows now old mid loose → new ≡ without_overflow mid → IsCurrentAt now new
overflows_current now old mid new loose h is = subst (IsCurrentAt now) (sym is) h.current
