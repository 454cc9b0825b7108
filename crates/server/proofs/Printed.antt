-- Laws of lines that are printed.
use Rattle.std.proofs.Common.{◌≡◌, ◌≤◌, ◌<◌, ◌+◌, ℕ, min, List, [], ◌∷◌, ◌++◌, length, map, take, drop, get_or, Option, inl, inr, arith, refl, sym, ◌∙◌, ap, subst, append_assoc}
use Rattle.std.specs.List.{concat}
use Rattle.std.proofs.Math.Seq.{take-append-add, take-length}
use Rattle.std.proofs.lemmas.List.{append-nil, map-append, take-append-le, take_min, take_all, take_more, take-append-drop}
use Rattle.std.proofs.lemmas.List.Folds.{concat-append}
use Rattle.js_base.specs.Bytes.{Bytes}
use Rattle.link_edge.specs.Told.{grown}
use Rattle.js_base.specs.Causes.{HasCause, Rose}
use Rattle.link_edge.specs.Puts.{Writes}
use Rattle.link_edge.specs.declared.answers.Put.{Put}
use Rattle.link_edge.specs.declared.answers.Put.TheVariants as puts
use Rattle.js_base.proofs.Causes.{rose_before}
use Rattle.link_edge.proofs.Told.{grown_on}
use Rattle.server.specs.declared.printing.Part.{Part}
use Rattle.server.specs.Lines.{part_bytes, line_of}
use Rattle.server.specs.Outside.{Prints}

-- the first part of a line was put, and then the rest
pub printed_both : (first rest : Bytes) (put : Put) (w0 w1 w2 : Option Bytes) (f0 f1 f2 : ℕ) → w1 ≡ grown w0 first → f0 ≤ f1 → Writes w1 w2 put rest → HasCause f1 f2 (put ≡ puts.Failed)
    → Prints (first ++ rest) (record { written = w0; faults = f0 }) (record { written = w2; faults = f2 })
printed_both first rest puts.Done w0 w1 w2 f0 f1 f2 e le h cause = inl (grown_on w0 w1 w2 first rest e h)
printed_both first rest puts.Failed w0 w1 w2 f0 f1 f2 e le h cause = inr (
  rose_before f0 f1 f2 le (cause.failed refl),
  (
    length first + h.0,
    grown_on w0 w1 w2 first (take h.0 rest) e h.1 ∙ ap (λ (bytes : Bytes). grown w0 bytes) (sym (take-append-add first rest h.0)),
  ),
)

-- as many bytes of its first part as are printed if that failed
front : (first rest : Bytes) (n : ℕ) → take (min n (length first)) (first ++ rest) ≡ take n first
front first rest n = take-append-le (min n (length first)) first rest (omega arith) ∙ take_min n first

-- more was to follow a line that was printed in part
pub printed_front : (first rest : Bytes) (w0 w1 : Option Bytes) (f0 f1 : ℕ) → Rose f0 f1 → Prints first (record { written = w0; faults = f0 }) (record { written = w1; faults = f1 })
    → Prints (first ++ rest) (record { written = w0; faults = f0 }) (record { written = w1; faults = f1 })
printed_front first rest w0 w1 f0 f1 rose h = inr (rose, by h)
  where
    by : Prints first (record { written = w0; faults = f0 }) (record { written = w1; faults = f1 }) → (n : ℕ) × (w1 ≡ grown w0 (take n (first ++ rest)))
    by (inl e) = (length first, e ∙ ap (λ (bytes : Bytes). grown w0 bytes) (sym (take-append-le (length first) first rest (omega arith) ∙ take-length first)))
    by (inr e) = let n = e.1.0 in (min n (length first), e.1.1 ∙ ap (λ (bytes : Bytes). grown w0 bytes) (sym (front first rest n)))

-- ---- the parts of a line

abbrev pub bytes_of : List Part → Bytes
bytes_of parts = concat (map part_bytes parts)

bytes-append : (parts more : List Part) → bytes_of (parts ++ more) ≡ bytes_of parts ++ bytes_of more
bytes-append parts more = ap concat (map-append part_bytes parts more) ∙ concat-append (map part_bytes parts) (map part_bytes more)

-- with one more part
bytes_more : (parts : List Part) (i : ℕ) (d : Part) → i < length parts → bytes_of (take (i + 1) parts) ≡ bytes_of (take i parts) ++ part_bytes (get_or parts i d)
bytes_more parts i d lt =
    ap bytes_of (take_more parts i d lt) ∙ bytes-append (take i parts) (get_or parts i d ∷ []) ∙ ap (λ (b : Bytes). bytes_of (take i parts) ++ b) (append-nil (part_bytes (get_or parts i d)))

pub part_printed : (parts : List Part) (i : ℕ) (d : Part) (w0 w1 w2 : Option Bytes) → i < length parts → w1 ≡ grown w0 (bytes_of (take i parts)) → w2 ≡ grown w1 (part_bytes (get_or parts i d))
    → w2 ≡ grown w0 (bytes_of (take (i + 1) parts))
part_printed parts i d w0 w1 w2 lt e f =
    grown_on w0 w1 w2 (bytes_of (take i parts)) (part_bytes (get_or parts i d)) e f ∙ ap (λ (b : Bytes). grown w0 b) (sym (bytes_more parts i d lt))

-- the line is its parts up to one, and what follows them
parted : (parts : List Part) (i : ℕ) (d : Part) → i < length parts
    → (bytes_of (take i parts) ++ part_bytes (get_or parts i d)) ++ (bytes_of (drop (i + 1) parts) ++ 10 ∷ []) ≡ line_of (map part_bytes parts)
parted parts i d lt =
    ap (λ (b : Bytes). b ++ (bytes_of (drop (i + 1) parts) ++ 10 ∷ [])) (sym (bytes_more parts i d lt))
    ∙ sym (append_assoc (bytes_of (take (i + 1) parts)) (bytes_of (drop (i + 1) parts)) (10 ∷ []))
    ∙ ap (λ (b : Bytes). b ++ 10 ∷ []) (sym (bytes-append (take (i + 1) parts) (drop (i + 1) parts)) ∙ ap bytes_of (take-append-drop (i + 1) parts))

-- one of the parts failed
pub part_failed : (parts : List Part) (i : ℕ) (d : Part) (w0 w1 w2 : Option Bytes) (f0 f1 f2 : ℕ) → i < length parts → w1 ≡ grown w0 (bytes_of (take i parts)) → f0 ≤ f1
    → Writes w1 w2 puts.Failed (part_bytes (get_or parts i d)) → HasCause f1 f2 (puts.Failed ≡ puts.Failed)
    → Prints (line_of (map part_bytes parts)) (record { written = w0; faults = f0 }) (record { written = w2; faults = f2 })
part_failed parts i d w0 w1 w2 f0 f1 f2 lt e le h cause =
    subst (λ (line : Bytes). Prints line (record { written = w0; faults = f0 }) (record { written = w2; faults = f2 })) (parted parts i d lt)
    (printed_front (bytes_of (take i parts) ++ part_bytes (get_or parts i d)) (bytes_of (drop (i + 1) parts) ++ 10 ∷ []) w0 w2 f0 f2 (rose_before f0 f1 f2 le (cause.failed refl))
    (printed_both (bytes_of (take i parts)) (part_bytes (get_or parts i d)) puts.Failed w0 w1 w2 f0 f1 f2 e le h cause))

-- all of them were printed, and then the end of the line
pub line_printed : (parts : List Part) (i : ℕ) (put : Put) (w0 w1 w2 : Option Bytes) (f0 f1 f2 : ℕ) → length parts ≤ i → w1 ≡ grown w0 (bytes_of (take i parts)) → f0 ≤ f1
    → Writes w1 w2 put (10 ∷ []) → HasCause f1 f2 (put ≡ puts.Failed)
    → Prints (line_of (map part_bytes parts)) (record { written = w0; faults = f0 }) (record { written = w2; faults = f2 })
line_printed parts i put w0 w1 w2 f0 f1 f2 le e later h cause =
    printed_both (bytes_of parts) (10 ∷ []) put w0 w1 w2 f0 f1 f2 (e ∙ ap (λ (ps : List Part). grown w0 (bytes_of ps)) (take_all i parts le)) later h cause
