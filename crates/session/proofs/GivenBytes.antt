-- Laws of what a link was given.
use Rattle.std.proofs.Common.{◌≡◌, ◌+◌, ◌<◌, ℕ, suc, [], ◌++◌, length, Option, ap, sym, ◌∙◌, take, drop, get_or}
use Rattle.std.proofs.Math.Seq.{take-add, drop-cons}
use Rattle.std.proofs.lemmas.List.{take-append-drop}
use Rattle.js_base.specs.Bytes.{Bytes}
use Rattle.link_edge.specs.Told.{grown}
use Rattle.link_edge.proofs.Told.{grown_on, grown-nil}
use Rattle.session.specs.Talk.{IsCutOff}
use Rattle.session.specs.Giving.{GivesPart}

-- a part of the bytes, and a part more
pub given_more : (a b c : Option Bytes) (bytes : Bytes) (at n : ℕ) → b ≡ grown a (take at bytes) → c ≡ grown b (take n (drop at bytes)) → c ≡ grown a (take (at + n) bytes)
given_more a b c bytes at n e f = grown_on a b c (take at bytes) (take n (drop at bytes)) e f ∙ ap (grown a) (sym (take-add at n bytes))

-- a part of the bytes with a byte behind it lacks something
pub cut_at : (bytes : Bytes) (at : ℕ) → at < length bytes → IsCutOff (take at bytes) bytes
cut_at bytes at h = (
  get_or bytes at 0,
  drop (suc at) bytes,
  ap (λ (more : Bytes). take at bytes ++ more) (sym (drop-cons bytes at 0 h)) ∙ take-append-drop at bytes,
)

-- what was given so far is a part of the bytes, and nothing more was given
pub given_part : (a b c : Option Bytes) (bytes : Bytes) (at : ℕ) → b ≡ grown a (take at bytes) → c ≡ grown b [] → at < length bytes → GivesPart a c bytes
given_part a b c bytes at e f h = (take at bytes, cut_at bytes at h, f ∙ grown-nil b ∙ e)
