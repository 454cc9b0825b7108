-- Laws of counting operations piece by piece.
use Rattle.std.proofs.Common.{◌≡◌, ℕ, ◌+◌, ◌*◌, ◌≤◌, ◌<◌, ◌^◌, List, [], ◌∷◌, ◌++◌, length, take, drop, refl, sym, ap, subst, ◌∙◌, append_assoc, length-append, arith}
use Rattle.std.proofs.lemmas.List.{append-nil, take-append-drop}
use Rattle.js_base.specs.Bytes.{Bytes}
use Rattle.nats_frames.specs.declared.op.Op.{Op}
use Rattle.nats_frames.specs.Decoding.{Held, IsFront, total}
use Rattle.nats_frames.specs.Grammar.{Fronts}
use Rattle.nats_frames.specs.Reading.{op_at, Partial}
use Rattle.nats_frames.proofs.Runs.{join, partial}
use Rattle.bench_program.specs.Counting.{Takes, Counts}

-- ---- operation by operation

-- so many operations were taken off
pub record Taking (count : ℕ) (bytes rest : Bytes) : Type 0 where
  pub ops : List Op
  pub fronts : Fronts bytes ops rest
  pub count_is : count ≡ length ops

pub taking_first : (bytes : Bytes) → Taking 0 bytes bytes
taking_first bytes = record { ops = []; fronts = refl; count_is = refl }

fronts_on : (ops more : List Op) (a b c : Bytes) → Fronts a ops b → Fronts b more c → Fronts a (ops ++ more) c
fronts_on [] more a b c h k = subst (λ (bytes : Bytes). Fronts bytes more c) (sym h) k
fronts_on (op ∷ ops) more a b c h k = (h.0, h.1, h.2, h.3, fronts_on ops more h.1 b c h.4 k)

pub taking_more : (count : ℕ) (op : Op) (a b c : Bytes) → Taking count a b → IsFront op b c → Taking (count + 1) a c
taking_more count op a b c h k = record {
  ops = h.ops ++ op ∷ [];
  fronts = fronts_on h.ops (op ∷ []) a b c h.fronts (k.front, c, k.spelled, k.whole, refl);
  count_is = omega (arith, h.count_is, length-append h.ops (op ∷ []));
}

pub takes : (count : ℕ) (bytes held rest : Bytes) → Taking count bytes held → op_at held ≡ Partial → rest ≡ held → Takes count bytes rest
takes count bytes held rest h e same =
    subst (λ (r : Bytes). Takes count bytes r) (sym same) (record { ops = h.ops; are = (h.fronts, ((partial held).0 e).0); count_is = h.count_is })

-- ---- piece by piece

-- a prefix of the input was fed, and so many operations were taken off it
pub record Fed (count : ℕ) (input rest : Bytes) (held : Held) : Type 0 where
  pub fed : Bytes
  pub whole : fed ++ rest ≡ input
  pub takes : Takes count fed held.bytes
  pub total : total held ≡ length fed
  pub few : count ≤ 2 ^ 64 * length fed

none_partial : op_at [] ≡ Partial
unfolding op_at
none_partial = refl

pub fed_first : (input : Bytes) (held : Held) → held ≡ record { before = 0; bytes = [] } → Fed 0 input input held
fed_first input held e =
    subst (λ (h : Held). Fed 0 input input h) (sym e)
    (record {
      fed = [];
      whole = refl;
      takes = record { ops = []; are = (refl, ((partial []).0 none_partial).0); count_is = refl };
      total = refl;
      few = omega arith;
    })

-- a piece more, and the operations that were whole by then
pub fed_more : (count more added n : ℕ) (input rest piece left : Bytes) (held mid new : Held) → Fed count input rest held → piece ≡ take n rest → left ≡ drop n rest → 0 < length piece
    → mid ≡ record { before = held.before; bytes = held.bytes ++ piece } → Takes more mid.bytes new.bytes → total new ≡ total mid → added ≡ more → more < 2 ^ 64
    → Fed (count + added) input left new
fed_more count more added n input rest piece left held mid new h front back some fed k same is few =
    let split : rest ≡ piece ++ left = sym (take-append-drop n rest) ∙ ap (λ (bytes : Bytes). bytes ++ drop n rest) (sym front) ∙ ap (λ (bytes : Bytes). piece ++ bytes) (sym back) in
    let k1 : Takes more (held.bytes ++ piece) new.bytes = subst (λ (m : Held). Takes more m.bytes new.bytes) fed k in
    let all = ap (λ (m : Held). total m) fed in
    record {
      fed = h.fed ++ piece;
      whole = append_assoc h.fed piece left ∙ ap (λ (bytes : Bytes). h.fed ++ bytes) (sym split) ∙ h.whole;
      takes = record {
        ops = h.takes.ops ++ k1.ops;
        are = join h.fed h.takes.ops held.bytes piece k1.ops new.bytes h.takes.are.0 k1.are;
        count_is = omega (arith, is, h.takes.count_is, k1.count_is, length-append h.takes.ops k1.ops);
      };
      total = omega (arith, same, all, h.total, length-append held.bytes piece, length-append h.fed piece);
      few = omega (arith, is, h.few, few, some, length-append h.fed piece);
    }

pub counts : (count : ℕ) (input : Bytes) (held : Held) → Fed count input [] held → Counts count input
counts count input held h = (held.bytes, subst (λ (bytes : Bytes). Takes count bytes held.bytes) (sym (append-nil h.fed) ∙ h.whole) h.takes)
