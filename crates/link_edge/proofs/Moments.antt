-- Laws of moments that were read.
use Rattle.std.proofs.Common.{ℕ, List, [], ◌∷◌, ◌++◌, Option, option_map, subst, ◌∙◌, ap}
use Rattle.link_edge.specs.Moments.{IsFirst, ReadsMoment, ReadsMoments, moments_after}

-- one moment more was read
pub reads_push : (a b c : Option (List ℕ)) (moments : List ℕ) (moment : ℕ) → ReadsMoments a moments b →
    ReadsMoment b moment c → ReadsMoments a (moments ++ moment ∷ []) c
reads_push a b c [] moment h read =
    let first = subst (λ (o : Option (List ℕ)). IsFirst o moment) h read.first in
    (first, read.rest ∙ ap (option_map moments_after) h)
reads_push a b c (m ∷ ms) moment h read = (h.0, reads_push (option_map moments_after a) b c ms moment h.1 read)

-- more moments were read
pub reads_on : (a b c : Option (List ℕ)) (ms ns : List ℕ) → ReadsMoments a ms b → ReadsMoments b ns c →
    ReadsMoments a (ms ++ ns) c
reads_on a b c [] ns h k = subst (λ (o : Option (List ℕ)). ReadsMoments o ns c) h k
reads_on a b c (m ∷ ms) ns h k = (h.0, reads_on (option_map moments_after a) b c ms ns h.1 k)
