-- Laws of bytes that are written behind others.
use Rattle.std.proofs.Common.{◌≡◌, ◌∷◌, ◌++◌, ap, ◌∙◌, append_assoc, inl, inr}
use Rattle.js_base.specs.Bytes.{Bytes}
use Rattle.session.specs.Talk.{EndsBy, IsWritten, IsFrontOf, IsCutOff}
use Rattle.session.specs.declared.ending.Ended.{Ended}
use Rattle.session.specs.declared.ending.Ended.TheVariants as ends

front_behind : (front bytes whole : Bytes) → IsFrontOf bytes whole → IsFrontOf (front ++ bytes) (front ++ whole)
front_behind front bytes whole h = (h.0, append_assoc front bytes h.0 ∙ ap (λ (more : Bytes). front ++ more) h.1)

pub front_of : (front whole : Bytes) → IsCutOff front whole → IsFrontOf front whole
front_of front whole h = (h.0 ∷ h.1, h.2)

pub cut_behind : (front bytes whole : Bytes) → IsCutOff bytes whole → IsCutOff (front ++ bytes) (front ++ whole)
cut_behind front bytes whole h = (h.0, h.1, append_assoc front bytes (h.0 ∷ h.1) ∙ ap (λ (more : Bytes). front ++ more) h.2)

whole_behind : (front bytes whole : Bytes) → bytes ≡ whole → front ++ bytes ≡ front ++ whole
whole_behind front bytes whole h = ap (λ (more : Bytes). front ++ more) h

written_behind : (ended : Ended) (front bytes whole : Bytes) → IsWritten ended bytes whole → IsWritten ended (front ++ bytes) (front ++ whole)
written_behind ends.Closed front bytes whole h = whole_behind front bytes whole h
written_behind (ends.Refused refusal) front bytes whole h = whole_behind front bytes whole h
written_behind (ends.Slow size) front bytes whole h = whole_behind front bytes whole h
written_behind ends.Stale front bytes whole h = whole_behind front bytes whole h
written_behind ends.LinkFault front bytes whole h = cut_behind front bytes whole h
written_behind ends.InputLimit front bytes whole h = whole_behind front bytes whole h
written_behind ends.NoMemory front bytes whole h = front_behind front bytes whole h

pub ends_behind : (cause ended : Ended) (front bytes whole : Bytes) → EndsBy cause ended bytes whole → EndsBy cause ended (front ++ bytes) (front ++ whole)
ends_behind cause ended front bytes whole (inl h) = inl (h.0, written_behind ended front bytes whole h.1)
ends_behind cause ended front bytes whole (inr h) = inr (h.0, h.1, cut_behind front bytes whole h.2)
