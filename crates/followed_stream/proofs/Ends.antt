-- Deliveries that an acknowledgement ends, one by one.
use Rattle.std.proofs.Common.{◌≡◌, ℕ, ◌==◌, ◌<◌, Bool, true, false, ◌||◌, not, List, length, map, refl, sym, ap, subst, ◌∙◌, arith}
use Rattle.std.specs.Prelude.{filter}
use Rattle.std.specs.List.{list_any}
use Rattle.std.proofs.Math.Bool.{or-true}
use Rattle.std.proofs.lemmas.Bool.{eqb-true, true≢false}
use Rattle.js_base.specs.Bytes.{has}
use Rattle.js_model.specs.declared.ack.AckKind.{AckKind}
use Rattle.js_model.specs.declared.stream.Message.{Message}
use Rattle.js_model.specs.declared.consumer.Pending.{Pending}
use Rattle.js_model.specs.declared.consumer.Consumer.{Consumer}
use Rattle.js_model.specs.Acknowledge.{without}
use Rattle.js_model.specs.Retention.{needs}
use Rattle.js_model.specs.Streams.{pending_seqs}
use Rattle.js_model.proofs.Members.{any_in, in_any}
use Rattle.consumer_state.specs.Ending.{ack_ends, is_delivered, EndsNone, EndsOne, LawEndsOne}
use Rattle.consumer_state.proofs.Filters.{any_map, fewer}
use Rattle.stored_stream.proofs.Lists.{eq_flip, filter-map}
use Rattle.followed_stream.specs.Asked.{ends_some}
use Rattle.followed_stream.specs.Spans.{joined, spans}
use Rattle.followed_stream.specs.declared.span.Span.{Span}
use Rattle.followed_stream.proofs.Holding.{has_filtered}
use Rattle.followed_stream.proofs.Spanning.{other_than, outside_first, outside_second}

-- the messages of other sequences are needed as before
pub others_needed : (c : Consumer) (k : ℕ) (m : Message) → (k == m.seq) ≡ false → needs (without (λ j. j == k) c) m ≡ needs c m
others_needed c k m e = rw (pending, has_filtered (λ n. not (n == k)) c.given_up m.seq other) refl
  where
    other : not (m.seq == k) ≡ true
    other = ap not (eq_flip m.seq k ∙ e)

    pending : has (map (λ p. p.seq) (filter (λ p. not (p.seq == k)) c.pending)) m.seq ≡ has (pending_seqs c) m.seq
    pending =
        ap (λ (ns : List ℕ). has ns m.seq) (sym (filter-map (λ (p : Pending). p.seq) (λ n. not (n == k)) c.pending))
        ∙ has_filtered (λ n. not (n == k)) (pending_seqs c) m.seq other

-- ---- whether some delivery ends

has_ends : (t : ℕ → Bool) (ns : List ℕ) (k : ℕ) → t k ≡ true → has ns k ≡ true → list_any t ns ≡ true
has_ends t ns k e h =
    let w = in_any (λ n. n == k) ns h in
    any_in t w.0 ns w.1 (ap t (eqb-true w.0 k w.2) ∙ e)

one_ends : (t : ℕ → Bool) (c : Consumer) (k : ℕ) → t k ≡ true → is_delivered c k ≡ true → ends_some t c ≡ true
one_ends t c k e h = go (has (pending_seqs c) k) refl h
  where
    go : (b : Bool) → has (pending_seqs c) k ≡ b → (b || has c.given_up k) ≡ true → ends_some t c ≡ true
    go true w z = ap (λ b. b || list_any t c.given_up) (has_ends t (pending_seqs c) k e w)
    go false w z = ap (λ b. list_any t (pending_seqs c) || b) (has_ends t c.given_up k e z) ∙ or-true (list_any t (pending_seqs c))

none_leaves : {X : Type 0} (t : X → Bool) (xs : List X) → filter (λ x. not (t x)) xs ≡ xs → list_any t xs ≡ false
none_leaves t xs same = go (list_any t xs) refl
  where
    go : (b : Bool) → list_any t xs ≡ b → b ≡ false
    go true e = let l : length (filter (λ x. not (t x)) xs) < length xs = fewer t xs e in let m : length (filter (λ x. not (t x)) xs) ≡ length xs = ap length same in absurd (omega arith)
    go false e = refl

none_ends : (t : ℕ → Bool) (c : Consumer) → without t c ≡ c → ends_some t c ≡ false
none_ends t c e =
    rw (any_map t (λ (p : Pending). p.seq) c.pending ∙ none_leaves (λ (p : Pending). t p.seq) c.pending (ap (λ (x : Consumer). x.pending) e), none_leaves t c.given_up (ap (λ (x : Consumer). x.given_up) e)) refl

-- ---- one by one

-- some of the deliveries that end have ended
pub record Ends (n : ℕ) (kind : AckKind) (old mid : Consumer) (some : Bool) (loose : Span) : Type 0 where
  pub same : without (ack_ends mid n kind) mid ≡ without (ack_ends old n kind) old
  pub needed : (m : Message) → spans loose m.seq ≡ false → needs mid m ≡ needs old m
  pub begun : some ≡ true → ends_some (ack_ends old n kind) old ≡ true
  pub still : some ≡ false → mid ≡ old

pub ends_none : (n : ℕ) (kind : AckKind) (c : Consumer) (loose : Span) → Ends n kind c c false loose
ends_none n kind c loose = record { same = refl; needed = λ m e. refl; begun = λ e. absurd (true≢false (sym e)); still = λ e. refl }

pub ends_more : LawEndsOne → (n : ℕ) (kind : AckKind) (k : ℕ) (old mid new : Consumer) (some : Bool) (loose one : Span) → Ends n kind old mid some loose → EndsOne (ack_ends mid n kind) mid k new → one ≡ record { first = k; last = k }
    → Ends n kind old new true (joined loose one)
ends_more law n kind k old mid new some loose one h e is = record {
  same = law n kind mid new k e ∙ h.same;
  needed = λ m out. ap (λ (c : Consumer). needs c m) e.left
      ∙ others_needed mid k m (other_than k m.seq (ap (λ (span : Span). spans span m.seq) (sym is) ∙ outside_second loose one m.seq out))
      ∙ h.needed m (outside_first loose one m.seq out);
  begun = λ w. first some refl;
  still = λ w. absurd (true≢false w);
}
  where
    first : (b : Bool) → some ≡ b → ends_some (ack_ends old n kind) old ≡ true
    first true w = h.begun w
    first false w = subst (λ (c : Consumer). ends_some (ack_ends c n kind) c ≡ true) (h.still w) (one_ends (ack_ends mid n kind) mid k e.is e.was)

-- what has come of it once all have ended
pub record EndsAll (n : ℕ) (kind : AckKind) (old new : Consumer) (some : Bool) (loose : Span) : Type 0 where
  pub value : new ≡ without (ack_ends old n kind) old
  pub some_is : some ≡ ends_some (ack_ends old n kind) old
  pub needed : (m : Message) → spans loose m.seq ≡ false → needs new m ≡ needs old m

pub ends_all : (n : ℕ) (kind : AckKind) (old mid new : Consumer) (some : Bool) (loose : Span) → Ends n kind old mid some loose → EndsNone (ack_ends mid n kind) mid new → EndsAll n kind old new some loose
ends_all n kind old mid new some loose h e = record {
  value = e.same ∙ sym e.none ∙ h.same;
  some_is = told some refl;
  needed = λ m out. ap (λ (c : Consumer). needs c m) e.same ∙ h.needed m out;
}
  where
    told : (b : Bool) → some ≡ b → b ≡ ends_some (ack_ends old n kind) old
    told true w = sym (h.begun w)
    told false w = sym (subst (λ (c : Consumer). ends_some (ack_ends c n kind) c ≡ false) (h.still w) (none_ends (ack_ends mid n kind) mid e.none))
