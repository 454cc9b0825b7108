-- Messages of several subjects, taken in the order of their sequences from the next one of each.
use Rattle.std.proofs.Common.{◌≡◌, ℕ, ◌+◌, ◌≤◌, ◌==◌, ◌&&◌, Bool, true, false, cond, List, [], ◌∷◌, Option, Some, None, refl, sym, ap, subst, ◌∙◌, arith}
use Rattle.std.specs.Prelude.{find, nat_le, option_map}
use Rattle.std.specs.Ordering.{is_gt, nat_cmp}
use Rattle.std.specs.BTreeMap.{is_at}
use Rattle.std.specs.BTreeSet.{BTreeSet, contains, IsLowerBound}
use Rattle.std.proofs.lemmas.Bool.{and_from, and_parts, eqb-true, eq-eqb, eqb-false, le-leb, leb-true, true≢false}
use Rattle.std.proofs.lemmas.Bool.Decides.{nat_tests}
use Rattle.js_base.specs.Bytes.{Bytes, same}
use Rattle.js_base.proofs.Meeting.{same_is, same_self}
use Rattle.js_model.specs.declared.stream.Message.{Message}
use Rattle.js_model.specs.Lists.{Between}
use Rattle.js_model.proofs.Members.{IsIn, here, there, in_bounds, found_in}
use Rattle.js_model.proofs.Named.{some_is}
use Rattle.stored_stream.specs.Heads.{next_after, AreHeads, IsAt, IsWith, TakesHead}
use Rattle.stored_stream.specs.Selecting.{next_passing}
use Rattle.stored_stream.proofs.Finding.{member_found}

abbrev Ascending : ℕ → ℕ → List Message → Type 0
Ascending low high ms = Between (λ m. m.seq) low high ms

pub at_number : (k q : ℕ) → is_at (nat_cmp k) q ≡ (q == k)
at_number k q = grind (arith, nat_tests)

not_below : (n q : ℕ) → is_gt (nat_cmp n q) ≡ false → n ≤ q
not_below n q h = grind (arith, nat_tests, h)

-- ---- what is at a sequence

at_is : (ms : List Message) (n : ℕ) (m : Message) → IsAt ms n m → (IsIn m ms) × (m.seq ≡ n)
at_is ms n m h = let f = found_in (λ x. x.seq == n) m ms h in (f.0, eqb-true m.seq n f.1)

-- the first that passes does not stand behind one that passes
first_least : (p : Message → Bool) (low high : ℕ) (m : Message) (ms : List Message) → Ascending low high ms → IsIn m ms → p m ≡ true → (y : Message) × (find p ms ≡ Some y) × (y.seq ≤ m.seq)
first_least p low high m [] h k pass = elim k [ ]
first_least p low high m (x ∷ ms) h here pass = (m, ap (λ b. cond b (Some m) (find p ms)) pass, omega arith)
first_least p low high m (x ∷ ms) h (there k) pass = go (p x) (first_least p (x.seq + 1) high m ms h.1 k pass)
  where
    go : (b : Bool) → (y : Message) × (find p ms ≡ Some y) × (y.seq ≤ m.seq) → (y : Message) × (cond b (Some x) (find p ms) ≡ Some y) × (y.seq ≤ m.seq)
    go true w = let later : x.seq + 1 ≤ m.seq = (in_bounds (λ (y : Message). y.seq) (x.seq + 1) high m ms h.1 k).0 in (x, refl, omega arith)
    go false w = w

-- ---- one head is taken

abbrev IsWithout : BTreeSet ℕ → ℕ → BTreeSet ℕ → Type 0
IsWithout old n new = (q : ℕ) → contains nat_cmp new q ≡ cond (is_at (nat_cmp n) q) false (contains nat_cmp old q)

module _ (test : Bytes → Bool) (ms : List Message) (low high from : ℕ) (ascends : Ascending low high ms) (old : BTreeSet ℕ) (heads : AreHeads test ms from old) where
  abbrev passes : ℕ → Message → Bool
  passes n m = nat_le n m.seq && test m.subject

  -- of no heads there is no message
  pub none_taken : ((q : ℕ) → contains nat_cmp old q ≡ false) → (new : BTreeSet ℕ) → TakesHead test ms from None new
  none_taken bare new = record { first = go (find (passes from) ms) refl; rest = tt }
    where
      go : (o : Option Message) → find (passes from) ms ≡ o → None ≡ option_map (λ m. m.seq) o
      go None e = refl
      go (Some y) e =
          let f = found_in (passes from) y ms e in
          let parts = and_parts (nat_le from y.seq) (test y.subject) f.1 in
          let w = heads.all y (member_found low high y ms ascends f.0) parts.1 (leb-true from y.seq parts.0) in
          absurd (true≢false (sym w.4 ∙ bare w.0.seq))

  module _ (n : ℕ) (there' : contains nat_cmp old n ≡ true) (least : IsLowerBound nat_cmp old n) where
    taken : (m : Message) × (IsAt ms n m) × (test m.subject ≡ true) × (from ≤ n)
    taken = heads.each n there'

    abbrev m0 : Message
    m0 = taken.0

    is_n : m0.seq ≡ n
    is_n = (at_is ms n m0 taken.1).1

    at_least : (q : ℕ) → contains nat_cmp old q ≡ true → n ≤ q
    at_least q h = not_below n q (least q h)

    pub first_taken : Some n ≡ next_passing (λ m. test m.subject) ms from
    first_taken =
        let from_n : from ≤ n = taken.3 in
        let is : m0.seq ≡ n = is_n in
        let w = first_least (passes from) low high m0 ms ascends (at_is ms n m0 taken.1).0 (and_from (nat_le from m0.seq) (test m0.subject) (le-leb from m0.seq (omega arith)) taken.2) in
        let f = found_in (passes from) w.0 ms w.1 in
        let parts = and_parts (nat_le from w.0.seq) (test w.0.subject) f.1 in
        let head = heads.all w.0 (member_found low high w.0 ms ascends f.0) parts.1 (leb-true from w.0.seq parts.0) in
        let low_head : n ≤ head.0.seq = at_least head.0.seq head.4 in
        let up_head : head.0.seq ≤ w.0.seq = head.3 in
        let up_first : w.0.seq ≤ m0.seq = w.2 in
        let same_seq : n ≡ w.0.seq = omega arith in
        ap Some same_seq ∙ sym (ap (option_map (λ (x : Message). x.seq)) w.1)

    module _ (mid new : BTreeSet ℕ) (popped : IsWithout old n mid) (put : IsWith mid (next_after ms (find (λ x. x.seq == n) ms)) new) where
      abbrev behind : Message → Bool
      behind x = nat_le (m0.seq + 1) x.seq && same x.subject m0.subject

      put_at : IsWith mid (option_map (λ x. x.seq) (find behind ms)) new
      put_at = subst (λ (o : Option Message). IsWith mid (next_after ms o) new) taken.1 put

      -- those that stay stand behind the one that was taken
      stays : (q : ℕ) → contains nat_cmp mid q ≡ true → (x : Message) × (IsAt ms q x) × (test x.subject ≡ true) × (n + 1 ≤ q)
      stays q h = go (q == n) refl (sym (popped q ∙ ap (λ b. cond b false (contains nat_cmp old q)) (at_number n q)) ∙ h)
        where
          go : (b : Bool) → (q == n) ≡ b → cond b false (contains nat_cmp old q) ≡ true → (x : Message) × (IsAt ms q x) × (test x.subject ≡ true) × (n + 1 ≤ q)
          go true e k = absurd (true≢false (sym k))
          go false e k =
              let w = heads.each q k in
              let up : n ≤ q = at_least q k in
              (w.0, w.1, w.2, omega (arith, up, eqb-false q n e))

      each_new : (o : Option Message) → find behind ms ≡ o → IsWith mid (option_map (λ x. x.seq) o) new → (q : ℕ) → contains nat_cmp new q ≡ true → (x : Message) × (IsAt ms q x) × (test x.subject ≡ true) × (n + 1 ≤ q)
      each_new None e w q h = stays q (sym (w q) ∙ h)
      each_new (Some y) e w q h = go (q == y.seq) refl (sym (w q ∙ ap (λ b. cond b true (contains nat_cmp mid q)) (at_number y.seq q)) ∙ h)
        where
          go : (b : Bool) → (q == y.seq) ≡ b → cond b true (contains nat_cmp mid q) ≡ true → (x : Message) × (IsAt ms q x) × (test x.subject ≡ true) × (n + 1 ≤ q)
          go false f k = stays q k
          go true f k =
              let found = found_in behind y ms e in
              let parts = and_parts (nat_le (m0.seq + 1) y.seq) (same y.subject m0.subject) found.1 in
              let after : m0.seq + 1 ≤ y.seq = leb-true (m0.seq + 1) y.seq parts.0 in
              let is : q ≡ y.seq = eqb-true q y.seq f in
              let own : m0.seq ≡ n = is_n in (
                y,
                ap (λ k'. find (λ x. x.seq == k') ms) is ∙ member_found low high y ms ascends found.0,
                ap test (same_is y.subject m0.subject parts.1) ∙ taken.2,
                omega arith,
              )

      -- what is put does not take others away
      kept : (o : Option Message) → IsWith mid (option_map (λ x. x.seq) o) new → (q : ℕ) → contains nat_cmp mid q ≡ true → contains nat_cmp new q ≡ true
      kept None w q h = w q ∙ h
      kept (Some y) w q h = w q ∙ go (is_at (nat_cmp y.seq) q)
        where
          go : (b : Bool) → cond b true (contains nat_cmp mid q) ≡ true
          go true = refl
          go false = h

      abbrev HasHead : Message → Type 0
      HasHead x = (head : Message) × (IsAt ms head.seq head) × (head.subject ≡ x.subject) × (head.seq ≤ x.seq) × (contains nat_cmp new head.seq ≡ true)

      -- the message that was put stands for those behind the one that was taken
      put_head : (o : Option Message) → find behind ms ≡ o → IsWith mid (option_map (λ x. x.seq) o) new → (x y : Message) → m0.subject ≡ x.subject → o ≡ Some y → y.seq ≤ x.seq → HasHead x
      put_head None e w x y subject is up = absurd cc
      put_head (Some z) e w x y subject is up =
          let one : z ≡ y = some_is is in
          let found = found_in behind z ms e in
          let parts = and_parts (nat_le (m0.seq + 1) z.seq) (same z.subject m0.subject) found.1 in
          let seq : z.seq ≡ y.seq = ap (λ (t : Message). t.seq) one in (
            z,
            member_found low high z ms ascends found.0,
            same_is z.subject m0.subject parts.1 ∙ subject,
            omega arith,
            w z.seq ∙ ap (λ b. cond b true (contains nat_cmp mid z.seq)) (at_number z.seq z.seq ∙ eq-eqb z.seq z.seq refl),
          )

      all_new : (x : Message) → IsAt ms x.seq x → test x.subject ≡ true → n + 1 ≤ x.seq → HasHead x
      all_new x is pass after =
          let from_n : from ≤ n = taken.3 in
          let head = heads.all x is pass (omega arith) in
          go (head.0.seq == n) head refl
        where
          go : (b : Bool) → (head : (y : Message) × (IsAt ms y.seq y) × (y.subject ≡ x.subject) × (y.seq ≤ x.seq) × (contains nat_cmp old y.seq ≡ true)) → (head.0.seq == n) ≡ b → HasHead x
          go false head e =
              let stays' : contains nat_cmp mid head.0.seq ≡ true = popped head.0.seq ∙ ap (λ b. cond b false (contains nat_cmp old head.0.seq)) (at_number n head.0.seq ∙ e) ∙ head.4 in
              (head.0, head.1, head.2, head.3, kept (find behind ms) put_at head.0.seq stays')
          go true head e =
              let seq : head.0.seq ≡ n = eqb-true head.0.seq n e in
              let one : m0 ≡ head.0 = some_is (sym taken.1 ∙ ap (λ k. find (λ y. y.seq == k) ms) (sym seq) ∙ head.1) in
              let subject : m0.subject ≡ x.subject = ap (λ (y : Message). y.subject) one ∙ head.2 in
              let own : m0.seq ≡ n = is_n in
              let passes' : behind x ≡ true = and_from (nat_le (m0.seq + 1) x.seq) (same x.subject m0.subject) (le-leb (m0.seq + 1) x.seq (omega (arith, own, after))) (ap (same x.subject) subject ∙ same_self x.subject) in
              let w = first_least behind low high x ms ascends (at_is ms x.seq x is).0 passes' in
              put_head (find behind ms) refl put_at x w.0 subject w.1 w.2

      pub rest_taken : AreHeads test ms (n + 1) new
      rest_taken = record { each = each_new (find behind ms) refl put_at; all = all_new }

      pub one_taken : TakesHead test ms from (Some n) new
      one_taken = record { first = first_taken; rest = rest_taken }
