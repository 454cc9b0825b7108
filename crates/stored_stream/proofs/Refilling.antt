-- What was kept of a stream, put back one by one.
use Rattle.std.proofs.Common.{◌≡◌, ℕ, suc, zero, ◌+◌, ◌<◌, ◌≤◌, Bool, true, false, cond, List, [], ◌∷◌, Some, None, get_or, length, take, refl, sym, ap, ◌∙◌, arith}
use Rattle.std.specs.Prelude.{All, find}
use Rattle.std.proofs.lemmas.List.Elements.{All-cons, All-nil}
use Rattle.js_base.specs.Bytes.{same}
use Rattle.js_model.specs.declared.stream.Id.{Id}
use Rattle.js_model.specs.declared.stream.Message.{Message}
use Rattle.js_model.specs.Lists.{Ascends, Between}
use Rattle.js_model.specs.Streams.{seqs}
use Rattle.js_model.proofs.Named.{none_some}
use Rattle.dedup_window.specs.Mirrors.{AreApart}
use Rattle.dedup_window.specs.Window.{id_of, IsLatest}
use Rattle.stored_stream.specs.Stored.{Rises}
use Rattle.stored_stream.proofs.Lists.{same_flip}

-- ---- messages

ascends_at : (low : ℕ) (ms : List Message) (i : ℕ) (d : Message) → Ascends low (seqs ms) → i < length ms → low ≤ (get_or ms i d).seq
ascends_at low [] i d h l = absurd (omega arith)
ascends_at low (m ∷ ms) zero d h l = h.0
ascends_at low (m ∷ ms) (suc i) d h l = let later : m.seq + 1 ≤ (get_or ms i d).seq = ascends_at (m.seq + 1) ms i d h.1 (omega arith) in let first : low ≤ m.seq = h.0 in omega arith

pub above_earlier : (low : ℕ) (ms : List Message) (i : ℕ) (d : Message) → Ascends low (seqs ms) → i < length ms → All (λ m. m.seq < (get_or ms i d).seq) (take i ms)
above_earlier low ms zero d h l = All-nil (λ m. m.seq < (get_or ms zero d).seq)
above_earlier low [] (suc i) d h l = absurd (omega arith)
above_earlier low (m ∷ ms) (suc i) d h l =
    let later : m.seq + 1 ≤ (get_or ms i d).seq = ascends_at (m.seq + 1) ms i d h.1 (omega arith) in
    All-cons (λ x. x.seq < (get_or ms i d).seq) m (take i ms) (omega arith) (above_earlier (m.seq + 1) ms i d h.1 (omega arith))

pub between_ascends : (low high : ℕ) (ms : List Message) → Between (λ m. m.seq) low high ms → Ascends low (seqs ms)
between_ascends low high [] h = tt
between_ascends low high (m ∷ ms) h = (h.0, between_ascends (m.seq + 1) high ms h.1)

pub ascends_lower : (low : ℕ) (ms : List Message) → Ascends low (seqs ms) → Ascends 0 (seqs ms)
ascends_lower low [] h = tt
ascends_lower low (m ∷ ms) h = (omega arith, h.1)

-- ---- ids

found_none : {X : Type 0} (t : X → Bool) (xs : List X) (i : ℕ) (d : X) → find t xs ≡ None → i < length xs → t (get_or xs i d) ≡ false
found_none t [] i d h l = absurd (omega arith)
found_none t (x ∷ xs) i d h l = go (t x) refl h (λ k e m. found_none t xs k d e m)
  where
    at : (i : ℕ) → i < length (x ∷ xs) → t x ≡ false → ((k : ℕ) → k < length xs → t (get_or xs k d) ≡ false) → t (get_or (x ∷ xs) i d) ≡ false
    at zero l e rest = e
    at (suc k) l e rest = rest k (omega arith)

    go : (b : Bool) → t x ≡ b → cond b (Some x) (find t xs) ≡ None → ((k : ℕ) → find t xs ≡ None → k < length xs → t (get_or xs k d) ≡ false) → t (get_or (x ∷ xs) i d) ≡ false
    go true e k rest = absurd (none_some (sym k))
    go false e k rest = at i l e (λ j m. rest j k m)

pub absent_earlier : (ids : List Id) (i : ℕ) (d : Id) → AreApart ids → i < length ids → id_of (take i ids) (get_or ids i d).id ≡ None
absent_earlier ids zero d h l = refl
absent_earlier [] (suc i) d h l = absurd (omega arith)
absent_earlier (j ∷ ids) (suc i) d h l =
    ap (λ b. cond b (Some j) (id_of (take i ids) (get_or ids i d).id)) (same_flip j.id (get_or ids i d).id ∙ found_none (λ k. same k.id j.id) ids i d h.0 (omega arith))
    ∙ absent_earlier ids i d h.1 (omega arith)

rises_at : (low high : ℕ) (ids : List Id) (i : ℕ) (d : Id) → Rises (λ k. k.at) low high ids → i < length ids → low ≤ (get_or ids i d).at
rises_at low high [] i d h l = absurd (omega arith)
rises_at low high (j ∷ ids) zero d h l = h.0
rises_at low high (j ∷ ids) (suc i) d h l = let later : j.at ≤ (get_or ids i d).at = rises_at j.at high ids i d h.1 (omega arith) in let first : low ≤ j.at = h.0 in omega arith

pub latest_earlier : (low high : ℕ) (ids : List Id) (i : ℕ) (d : Id) → Rises (λ k. k.at) low high ids → i < length ids → IsLatest (get_or ids i d).at (take i ids)
latest_earlier low high ids zero d h l = All-nil (λ k. k.at ≤ (get_or ids zero d).at)
latest_earlier low high [] (suc i) d h l = absurd (omega arith)
latest_earlier low high (j ∷ ids) (suc i) d h l =
    All-cons (λ k. k.at ≤ (get_or ids i d).at) j (take i ids) (rises_at j.at high ids i d h.1 (omega arith)) (latest_earlier j.at high ids i d h.1 (omega arith))
