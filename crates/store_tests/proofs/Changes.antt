-- Which changes the tests may commit: their records are allowed, and a message has its place where there is one for it.
use Rattle.std.proofs.Common.{◌≡◌, ◌+◌, ◌<◌, ◌≤◌, ◌^◌, ℕ, Option, Bool, not, true, false, List, [], ◌∷◌, IsTrue, length, refl, sym, ap, ◌∙◌, subst, arith}
use Rattle.std.specs.Prelude.{codes, is_some}
use Rattle.std.specs.Str.{is_utf8, chars}
use Rattle.std.proofs.lemmas.Bool.{and_from, lt-ltb, le-leb}
use lib.Utf8.{encode}
use Rattle.js_base.specs.Bytes.{Bytes}
use Rattle.js_base.specs.declared.spot.Spot.{Spot}
use Rattle.js_base.specs.Subjects.{is_subject_text}
use Rattle.js_model.specs.declared.stream.Message.{Message}
use Rattle.effects.specs.declared.effect.Effect.{Effect}
use Rattle.op_records.specs.Allowed.{is_record, is_put}
use Rattle.op_records.specs.Blocks.{spelled_message}
use Rattle.op_records.proofs.BlockSizes.{spelled_len}
use Rattle.block_table.specs.Blocks.{Blocks}
use Rattle.stream_store.specs.Laws.{LawPlacing}
use Rattle.stream_store.specs.Placing.{can_place, has_room, spot_behind}
use Rattle.store_tests.specs.Puts.{put_of}

subject_is : is_subject_text (codes "orders.a") ≡ true
unfolding is_utf8 chars encode
subject_is = refl

pub put_allowed : (change : Effect) (seq : ℕ) (payload : Bytes) → change ≡ put_of seq payload → seq < 2 ^ 62 → length payload ≤ 1048576 → IsTrue (is_record change)
put_allowed change seq payload is low fits =
    subst (λ (e : Effect). IsTrue (is_record e)) (sym is)
    (and_from _ _ (and_from _ _ (and_from _ _ (and_from _ _ (and_from _ _ (lt-ltb seq (2 ^ 62) low) refl) refl) subject_is) refl) (le-leb (0 + length payload) 1048576 (omega (arith, fits))))

-- where there is a place
module _ (law : LawPlacing) (old new : Blocks) (change : Effect) (seq : ℕ) (payload : Bytes) (len : ℕ) (spot : Option Spot) where
  pub put_placed : new ≡ old → change ≡ put_of seq payload → len ≡ 38 + length payload → spot ≡ spot_behind old [] len → is_some spot ≡ true → IsTrue (can_place new (change ∷ []))
  put_placed same is long told there_is =
      let m : Message = record { seq = seq; at = 1000; subject = codes "orders.a"; headers = []; payload = payload } in
      let size : length (spelled_message m) ≡ len = omega (arith, long, spelled_len m) in
      let placed : can_place old (put_of seq payload ∷ []) ≡ true = law.message old [] seq 1000 [] (codes "orders.a") [] payload (ap (has_room old []) size ∙ ap is_some (sym told) ∙ there_is) in
      subst (λ (b : Blocks). IsTrue (can_place b (change ∷ []))) (sym same) (subst (λ (e : Effect). IsTrue (can_place old (e ∷ []))) (sym is) placed)

-- a change that stores no message
pub other_placed : LawPlacing → (b : Blocks) (change : Effect) → is_put change ≡ false → IsTrue (can_place b (change ∷ []))
other_placed law b change other = law.change b [] change other (law.none b)

-- it is there, so it was told
pub is_some_of : (spot : Option Spot) (none : Bool) → is_some spot ≡ not none → none ≡ false → is_some spot ≡ true
is_some_of spot none is there = is ∙ ap not there
