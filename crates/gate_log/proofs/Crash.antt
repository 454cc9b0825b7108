-- What a crash leaves of a log in each of the two writes of an append.
use Rattle.std.proofs.Common.{◌≡◌, inl, inr, ℕ, ◌+◌, ◌<◌, ◌^◌, List, [], ◌∷◌, ◌++◌, length, take, drop, get_or, sym, ◌∙◌, ap, subst, arith, append_assoc, take-append-drop}
use Rattle.std.proofs.lemmas.Bool.{cases_eq}
use Rattle.std.proofs.lemmas.List.{drop_more}
use Rattle.vol_disk.specs.Steps.{written, Torn}
use Rattle.js_base.specs.Bytes.{Bytes}
use Rattle.checksum.specs.Checked.{checked}
use Rattle.gate_log.specs.Head.{head}
use Rattle.gate_log.specs.Batches.{open_batches, end_of}
use Rattle.gate_log.specs.LogFile.{Spells, IsLog}
use Rattle.gate_log.specs.Staging.{behind_gate}
use Rattle.gate_log.specs.Appending.{IsWithOrWithout}
use Rattle.gate_log.proofs.Spelling.{front, size, front_is, gate_is, rest_is, open_batches-push, lengths-push}

-- with the gate open, what stands behind it is one batch more
opened : (bytes : Bytes) (g : ℕ) (batches : List Bytes) (records tail : Bytes) → length records < 2 ^ 32 → Spells bytes g batches 1 (behind_gate records ++ tail) →
    Spells bytes g (batches ++ records ∷ []) 0 tail
opened bytes g batches records tail one s = record {
  bytes_are = s.bytes_are ∙ ap (λ (l : Bytes). head g ++ l) (ap (λ (l : Bytes). open_batches batches ++ 1 ∷ l) (append_assoc (checked records) (0 ∷ []) tail) ∙ sym (open_batches-push batches records (0 ∷ tail)));
  below = s.below;
  lengths = lengths-push batches records s.lengths one;
}

module _ (bytes : Bytes) (g : ℕ) (batches : List Bytes) (gate : ℕ) (rest : Bytes) (s : Spells bytes g batches gate rest) where
  -- with other bytes behind the gate
  with_rest : (other new : Bytes) → new ≡ (front bytes g batches gate rest s ++ gate ∷ []) ++ other → Spells new g batches gate other
  with_rest other new is = record {
    bytes_are = is ∙ append_assoc (head g ++ open_batches batches) (gate ∷ []) other ∙ append_assoc (head g) (open_batches batches) (gate ∷ other);
    below = s.below;
    lengths = s.lengths;
  }

  -- with another gate
  with_gate : (other : ℕ) (new : Bytes) → new ≡ front bytes g batches gate rest s ++ other ∷ rest → Spells new g batches other rest
  with_gate other new is = record {
    bytes_are = is ∙ append_assoc (head g) (open_batches batches) (other ∷ rest);
    below = s.below;
    lengths = s.lengths;
  }

  -- the gate stands where all is the same up to behind it
  pub same_front : (c : Bytes) → take (end_of batches + 1) c ≡ take (end_of batches + 1) bytes → Spells c g batches gate (drop (end_of batches + 1) c)
  same_front c same =
      with_rest (drop (end_of batches + 1) c) c (sym (take-append-drop (end_of batches + 1) c) ∙ ap (λ (l : Bytes). l ++ drop (end_of batches + 1) c) (same ∙ gate_is bytes g batches gate rest s))

  -- so it is in each outcome of a write behind it
  pub torn_behind : (n : ℕ) (c : Bytes) → Torn (end_of batches + 1) n bytes c → Spells c g batches gate (drop (end_of batches + 1) c)
  torn_behind n c torn = same_front c torn.before

  pub written_behind : (w c : Bytes) → c ≡ written (end_of batches + 1) w bytes → Spells c g batches gate (w ++ drop (end_of batches + 1 + length w) bytes)
  written_behind w c is =
      with_rest (w ++ drop (end_of batches + 1 + length w) bytes) c (is ∙ ap (λ (l : Bytes). l ++ w ++ drop (end_of batches + 1 + length w) bytes) (gate_is bytes g batches gate rest s) ∙ append_assoc (front bytes g batches gate rest s ++ gate ∷ []) w (drop (end_of batches + 1 + length w) bytes))

  -- each outcome of a write of the gate has some gate there, and the rest
  torn_at_gate : (c : Bytes) → Torn (end_of batches) 1 bytes c → Spells c g batches (get_or c (end_of batches) 0) rest
  torn_at_gate c torn =
      let long : end_of batches < length c = omega (arith, torn.no_shorter, size bytes g batches gate rest s) in
      let back : drop (end_of batches) c ≡ get_or c (end_of batches) 0 ∷ rest = drop_more c (end_of batches) 0 long ∙ ap (λ (l : Bytes). get_or c (end_of batches) 0 ∷ l) (torn.after ∙ rest_is bytes g batches gate rest s) in
      with_gate (get_or c (end_of batches) 0) c (sym (take-append-drop (end_of batches) c) ∙ ap (λ (l : Bytes). l ++ drop (end_of batches) c) (torn.before ∙ front_is bytes g batches gate rest s) ∙ ap (λ (l : Bytes). front bytes g batches gate rest s ++ l) back)

  pub torn_gate : (records tail c : Bytes) → length records < 2 ^ 32 → rest ≡ behind_gate records ++ tail → Torn (end_of batches) 1 bytes c → IsWithOrWithout g batches records c
  torn_gate records tail c one is torn =
      let spells = torn_at_gate c torn in
      elim (cases_eq (get_or c (end_of batches) 0) 1) [
        | inl open_ ↦ inr (record {
          gate = 0;
          rest = tail;
          spells = opened c g batches records tail one (subst (λ (n : ℕ). Spells c g batches n (behind_gate records ++ tail)) open_ (subst (λ (l : Bytes). Spells c g batches (get_or c (end_of batches) 0) l) is spells));
          closed = omega arith;
        })
        | inr shut ↦ inl (record { gate = get_or c (end_of batches) 0; rest = rest; spells = spells; closed = shut })
      ]

  pub written_gate : (records tail c : Bytes) → length records < 2 ^ 32 → rest ≡ behind_gate records ++ tail → c ≡ written (end_of batches) (1 ∷ []) bytes → IsLog g (batches ++ records ∷ []) c
  written_gate records tail c one is holds =
      let there : c ≡ front bytes g batches gate rest s ++ 1 ∷ rest = holds ∙ ap (λ (l : Bytes). l ++ (1 ∷ []) ++ drop (end_of batches + 1) bytes) (front_is bytes g batches gate rest s) ∙ ap (λ (l : Bytes). front bytes g batches gate rest s ++ (1 ∷ []) ++ l) (rest_is bytes g batches gate rest s) ∙ append_assoc (front bytes g batches gate rest s) (1 ∷ []) rest in
      record {
        gate = 0;
        rest = tail;
        spells = opened c g batches records tail one (subst (λ (l : Bytes). Spells c g batches 1 l) is (with_gate 1 c there));
        closed = omega arith;
      }
