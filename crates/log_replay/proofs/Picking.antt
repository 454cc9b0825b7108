-- Where a consumer begins, as it is asked.
use Rattle.std.proofs.Common.{◌≡◌, ℕ, ◌+◌, ◌<◌, ◌≤◌, ◌==◌, ◌&&◌, ◌||◌, Bool, true, false, cond, List, [], ◌∷◌, length, Option, None, Some, Bor, refl, sym, ap, subst, ◌∙◌}
use Rattle.std.specs.Prelude.{find, nat_le, is_some}
use Rattle.std.specs.Option.{option_copied}
use Rattle.std.specs.List.{list_all, position}
use Rattle.std.proofs.lemmas.Bool.{and_parts, eqb-true, leb-true, true≢false}
use Rattle.js_base.specs.Bytes.{Bytes, has}
use Rattle.js_model.specs.declared.stream.Message.{Message}
use Rattle.js_model.specs.Lists.{Between}
use Rattle.js_model.specs.Streams.{seqs}
use Rattle.model_laws.specs.Sound.{AreStored}
use Rattle.model_laws.specs.SoundTests.{are_between, are_stored}
use Rattle.effects.specs.declared.durable.Body.{Body}
use Rattle.record_fold.proofs.Replacing.{has_name, none_found}
use Rattle.log_replay.specs.Taken.{IsStart}

between_true : (low high : ℕ) (ns : List ℕ) → are_between (λ n. n) low high ns ≡ true → Between (λ n. n) low high ns
between_true low high [] h = leb-true low high h
between_true low high (n ∷ ns) h = let parts = and_parts (nat_le low n) (are_between (λ m. m) (n + 1) high ns) h in (leb-true low n parts.0, between_true (n + 1) high ns parts.1)

all_has : (t : ℕ → Bool) (ns : List ℕ) (n : ℕ) → list_all t ns ≡ true → has ns n ≡ true → t n ≡ true
all_has t [] n all h = absurd (true≢false (sym h))
all_has t (m ∷ ns) n all h = let parts = and_parts (t m) (list_all t ns) all in go (m == n) refl h parts.0 (all_has t ns n parts.1)
  where
    go : (b : Bool) → (m == n) ≡ b → (b || has ns n) ≡ true → t m ≡ true → (has ns n ≡ true → t n ≡ true) → t n ≡ true
    go true e k first rest = subst (λ (x : ℕ). t x ≡ true) (eqb-true m n e) first
    go false e k first rest = rest k

stored_true : (messages : List Message) (ns : List ℕ) → are_stored messages ns ≡ true → AreStored messages ns
stored_true messages ns h = record { stored = λ n k. all_has (has (seqs messages)) ns n h k }

pub starts : (b : Body) (name : Bytes) (cursor : ℕ) (picks : List ℕ) (place : Option ℕ) → place ≡ position (has_name name) b.consumers → is_some place ≡ false → length b.consumers < 256 → nat_le cursor (b.last + 1) ≡ true
    → are_between (λ n. n) 1 cursor picks ≡ true → length picks ≤ 65536 → are_stored b.messages picks ≡ true → IsStart b name cursor picks
starts b name cursor picks place at none room reached ascend few stored = record {
  absent = none_found name b.consumers place at none;
  room = room;
  reached = leb-true cursor (b.last + 1) reached;
  ascend = between_true 1 cursor picks ascend;
  few = few;
  stored = stored_true b.messages picks stored;
}

-- ---- a sequence that is looked up

found_has : (messages : List Message) (n : ℕ) → is_some (find (λ m. m.seq == n) messages) ≡ has (seqs messages) n
found_has [] n = refl
found_has (m ∷ messages) n = go (m.seq == n) (found_has messages n)
  where
    go : (b : Bool) → is_some (find (λ m. m.seq == n) messages) ≡ has (seqs messages) n → is_some (cond b (Some m) (find (λ m. m.seq == n) messages)) ≡ (b || has (seqs messages) n)
    go true h = refl
    go false h = h

copied_some : (o : Option (Bor Message)) → is_some o ≡ is_some (option_copied o)
copied_some None = refl
copied_some (Some m) = refl

pub stored_is : (o : Option (Bor Message)) (messages : List Message) (n : ℕ) → option_copied o ≡ find (λ m. m.seq == n) messages → is_some o ≡ has (seqs messages) n
stored_is o messages n h = copied_some o ∙ ap is_some h ∙ found_has messages n
