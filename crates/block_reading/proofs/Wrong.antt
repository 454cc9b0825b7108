-- Where the bytes of a block are wrong, there they are and nowhere else.
use Rattle.std.proofs.Common.{◌≡◌, ◌≤◌, ◌<◌, ◌⊎◌, inl, inr, ℕ, ◌+◌, true≢false, List, [], ◌∷◌, ◌++◌, Ok, Err, is_ok, refl, sym, ap, subst, ◌∙◌, arith}
use Rattle.js_base.specs.Bytes.{Bytes}
use Rattle.js_model.specs.Lists.{Between}
use Rattle.js_model.specs.declared.stream.Message.{Message}
use Rattle.js_model.proofs.Parts.{between_bounds}
use Rattle.op_records.specs.Blocks.{message_at, Follow}
use Rattle.op_records.specs.declared.fault.RecordFault.{RecordFault}
use Rattle.op_records.proofs.Steps.{value_is, place_is}
use Rattle.block_reading.specs.Standing.{StandIn, AreMessages}
use Rattle.block_reading.specs.Damage.{AreWrongAt}
use Rattle.block_reading.proofs.Follows.{follow_last, follow_on, next_seq, between_last}

-- with no message more do these stand from here on
abbrev pub NoneMore : Bytes → ℕ → ℕ → ℕ → List Message → Type 0
NoneMore bytes high here low ms = (m : Message) (behind : ℕ) → Follow bytes here (ms ++ m ∷ []) behind → Between (λ m. m.seq) low high (ms ++ m ∷ []) → ⊥

module _ (bytes : Bytes) (high : ℕ) where
  pub one_end : (xs ys : List Message) (here low a c : ℕ) → Follow bytes here xs a → Follow bytes here ys c → Between (λ m. m.seq) low high xs →
      Between (λ m. m.seq) low high ys → NoneMore bytes high here low xs → NoneMore bytes high here low ys → a ≡ c
  one_end [] [] here low a c f g b d n o = sym f ∙ g
  one_end [] (y ∷ ys) here low a c f g b d n o = absurd (n y g.0 (g.0, g.1, refl) (d.0, between_bounds (λ (m : Message). m.seq) (y.seq + 1) high ys d.1))
  one_end (x ∷ xs) [] here low a c f g b d n o = absurd (o x f.0 (f.0, f.1, refl) (b.0, between_bounds (λ (m : Message). m.seq) (x.seq + 1) high xs b.1))
  one_end (x ∷ xs) (y ∷ ys) here low a c f g b d n o =
      let is = value_is y g.0 x f.0 (sym g.1 ∙ f.1) in
      let ends = place_is y g.0 x f.0 (sym g.1 ∙ f.1) in
      one_end xs ys f.0 (x.seq + 1) a c f.2 (subst (λ (k : ℕ). Follow bytes k ys c) ends g.2) b.1
      (subst (λ (m : Message). Between (λ m. m.seq) (m.seq + 1) high ys) is d.1)
      (λ m behind more rises. n m behind (f.0, f.1, more) (b.0, rises))
      (λ m behind more rises. o m behind (g.0, g.1, subst (λ (k : ℕ). Follow bytes k (ys ++ m ∷ []) behind) (sym ends) more)
      (d.0, subst (λ (z : Message). Between (λ m. m.seq) (z.seq + 1) high (ys ++ m ∷ [])) (sym is) rises))

  pub not_before : (xs ys : List Message) (here low a c : ℕ) → Follow bytes here xs a → Follow bytes here ys c →
      Between (λ m. m.seq) low high ys → NoneMore bytes high here low xs → c ≤ a
  not_before [] [] here low a c f g d n = omega (arith, f, g)
  not_before [] (y ∷ ys) here low a c f g d n = absurd (n y g.0 (g.0, g.1, refl) (d.0, between_bounds (λ (m : Message). m.seq) (y.seq + 1) high ys d.1))
  not_before (x ∷ xs) [] here low a c f g d n = let on = follow_on bytes (x ∷ xs) here a f in omega (arith, g, on)
  not_before (x ∷ xs) (y ∷ ys) here low a c f g d n =
      let is = value_is y g.0 x f.0 (sym g.1 ∙ f.1) in
      let ends = place_is y g.0 x f.0 (sym g.1 ∙ f.1) in
      not_before xs ys f.0 (x.seq + 1) a c f.2 (subst (λ (k : ℕ). Follow bytes k ys c) ends g.2)
      (subst (λ (m : Message). Between (λ m. m.seq) (m.seq + 1) high ys) is d.1)
      (λ m behind more rises. n m behind (f.0, f.1, more) (low_of x y is d, rises))
    where
      low_of : (x y : Message) → y ≡ x → (low ≤ y.seq) × Between (λ m. m.seq) (y.seq + 1) high ys → low ≤ x.seq
      low_of x y is d = subst (λ (m : Message). low ≤ m.seq) is d.0

none_of : (bytes : Bytes) (last end at : ℕ) (w : AreWrongAt bytes last end at) → NoneMore bytes (last + 1) 0 0 w.before
none_of bytes last end at w m behind f b = w.none m behind (record { follow = f; rising = b })

pub one_wrong : (bytes : Bytes) (last end at other : ℕ) → AreWrongAt bytes last end at → AreWrongAt bytes last end other → at ≡ other
one_wrong bytes last end at other v w =
    one_end bytes (last + 1) v.before w.before 0 0 at other v.stand.follow w.stand.follow v.stand.rising w.stand.rising (none_of bytes last end at v) (none_of bytes last end other w)

pub none_wrong : (bytes : Bytes) (last end at : ℕ) → AreMessages bytes last end → ¬ AreWrongAt bytes last end at
none_wrong bytes last end at h w =
    let past = not_before bytes (last + 1) w.before h.messages 0 0 at end w.stand.follow h.stand.follow h.stand.rising (none_of bytes last end at w) in
    omega (arith, past, w.more)

-- ---- as they are found

no_ok : (bytes : Bytes) (at behind : ℕ) (m : Message) (fault : RecordFault) → message_at bytes at ≡ Err fault → message_at bytes at ≡ Ok (m, behind) → ⊥
no_ok bytes at behind m fault e is = true≢false (ap is_ok (sym is ∙ e))

pub wrong_message : (bytes : Bytes) (last end at : ℕ) (before : List Message) (fault : RecordFault) → StandIn bytes last before at → at < end →
    message_at bytes at ≡ Err fault → AreWrongAt bytes last end at
wrong_message bytes last end at before fault s more e = record {
  before = before;
  stand = s;
  more = more;
  none = λ m behind stands. no_ok bytes at behind m fault e (follow_last bytes before 0 at behind m s.follow stands.follow);
}

pub wrong_seq : (bytes : Bytes) (last end at behind : ℕ) (before : List Message) (m : Message) → StandIn bytes last before at → at < end →
    message_at bytes at ≡ Ok (m, behind) → (m.seq < next_seq 0 before) ⊎ (last < m.seq) → AreWrongAt bytes last end at
wrong_seq bytes last end at behind before m s more is bad = record { before = before; stand = s; more = more; none = none }
  where
    none : (n : Message) (past : ℕ) → ¬ StandIn bytes last (before ++ n ∷ []) past
    none n past stands =
        let same = value_is m behind n past (sym is ∙ follow_last bytes before 0 at past n s.follow stands.follow) in
        let bounds = subst (λ (x : Message). (next_seq 0 before ≤ x.seq) × (x.seq + 1 ≤ last + 1)) (sym same) (between_last 0 (last + 1) before n stands.rising) in
        go bounds bad
      where
        go : (next_seq 0 before ≤ m.seq) × (m.seq + 1 ≤ last + 1) → (m.seq < next_seq 0 before) ⊎ (last < m.seq) → ⊥
        go bounds (inl low) = omega (arith, bounds.0, low)
        go bounds (inr high) = omega (arith, bounds.1, high)
