-- The streams of a catalog stay apart.
use Rattle.std.proofs.Common.{◌≡◌, ◌≢◌, ℕ, zero, suc, ◌+◌, ◌<◌, ◌≤◌, ◌==◌, ◌&&◌, ◌⊎◌, Bool, true, false, not, cond, if◌then◌else◌, List, [], ◌∷◌, ◌++◌, length, Option, None, Some, refl, sym, ap, subst, ◌∙◌, inl, inr, arith, eq-eqb}
use Rattle.std.proofs.lemmas.Bool.{ne_eqb, true≢false}
use Rattle.std.proofs.lemmas.Bool.Decides.{eqb_tells}
use Rattle.js_base.specs.Bytes.{Bytes, same}
use Rattle.js_base.specs.declared.out.ApiError.{ApiError}
use Rattle.js_model.specs.declared.desk.PlaceAt.{PlaceAt}
use Rattle.js_model.specs.Refusals.{first_refusal}
use Rattle.js_model.specs.Catalog.{Catalog, Place, Used, all_subjects, list_or_none, if_used, is_there, first_place, place_named, overlaps_at, meets_used, with_place, edited, edited_used, on_used, taken_by, changing, keeping, kept_list, freed, stopping}
use Rattle.catalog.specs.Apart.{used_at, AreApart, IsApart}
use Rattle.catalog.proofs.Meetings.{same_sym, or_parts, or_from, apart_sym, meets_lists, lists_append, lists_none}

-- ---- the stream at a number

-- the edit makes this of the stream
pub record Makes (edit : Place → Place) (g : Option Used → Option Used) : Type 0 where
  pub at : (p : Place) → (edit p).used ≡ g p.used

used_same_from : (edit : Place → Place) (g : Option Used → Option Used) (c : Catalog) (i n k : ℕ) → Makes edit g → k ≡ n + i → i < length c → used_at (with_place edit k n c) i ≡ g (used_at c i)
used_same_from edit g [] i n k makes e within = absurd (omega (arith, within))
used_same_from edit g (p ∷ ps) zero n k makes e within =
    ap (λ (b : Bool). used_at (cond b (edit p ∷ ps) (p ∷ with_place edit k (n + 1) ps)) zero) (eq-eqb n k (omega arith)) ∙ makes.at p
used_same_from edit g (p ∷ ps) (suc i) n k makes e within =
    ap (λ (b : Bool). used_at (cond b (edit p ∷ ps) (p ∷ with_place edit k (n + 1) ps)) (suc i)) (ne_eqb n k (λ (same : n ≡ k). omega arith))
    ∙ used_same_from edit g ps i (n + 1) k makes (omega arith) (omega (arith, within))

used_other_from : (edit : Place → Place) (c : Catalog) (m i n k : ℕ) → k ≡ n + i → m ≢ i → used_at (with_place edit k n c) m ≡ used_at c m
used_other_from edit [] m i n k e ne = refl
used_other_from edit (p ∷ ps) zero zero n k e ne = absurd (ne refl)
used_other_from edit (p ∷ ps) (suc m) zero n k e ne =
    ap (λ (b : Bool). used_at (cond b (edit p ∷ ps) (p ∷ with_place edit k (n + 1) ps)) (suc m)) (eq-eqb n k (omega arith))
used_other_from edit (p ∷ ps) zero (suc i) n k e ne =
    ap (λ (b : Bool). used_at (cond b (edit p ∷ ps) (p ∷ with_place edit k (n + 1) ps)) zero) (ne_eqb n k (λ (same : n ≡ k). omega arith))
used_other_from edit (p ∷ ps) (suc m) (suc i) n k e ne =
    ap (λ (b : Bool). used_at (cond b (edit p ∷ ps) (p ∷ with_place edit k (n + 1) ps)) (suc m)) (ne_eqb n k (λ (same : n ≡ k). omega arith))
    ∙ used_other_from edit ps m i (n + 1) k (omega arith) (λ same. ne (ap suc same))

pub used_same : (edit : Place → Place) (g : Option Used → Option Used) (c : Catalog) (k : ℕ) → Makes edit g → k < length c → used_at (edited edit k c) k ≡ g (used_at c k)
used_same edit g c k makes within = used_same_from edit g c k 0 k makes (omega arith) within

pub used_other : (edit : Place → Place) (c : Catalog) (m k : ℕ) → m ≢ k → used_at (edited edit k c) m ≡ used_at c m
used_other edit c m k ne = used_other_from edit c m k 0 k (omega arith) ne

-- ---- one place is another

-- the catalog differs at most at one place
pub record DiffersAt (c c' : Catalog) (k : ℕ) : Type 0 where
  pub others : (m : ℕ) → m ≢ k → used_at c' m ≡ used_at c m

-- what is there is apart from the others
pub record IsApartThere (c c' : Catalog) (k : ℕ) : Type 0 where
  pub at : (n : ℕ) (u b : Used) → n ≢ k → used_at c' k ≡ Some u → used_at c n ≡ Some b → AreApart u b

pub apart_changed : (c c' : Catalog) (k : ℕ) → IsApart c → DiffersAt c c' k → IsApartThere c c' k → IsApart c'
apart_changed c c' k apart differs there = record { at = λ m n a b ne ha hb. go m n a b ne ha hb (eqb_tells m k) (eqb_tells n k) }
  where
    go : (m n : ℕ) (a b : Used) → m ≢ n → used_at c' m ≡ Some a → used_at c' n ≡ Some b → (((m == k) ≡ true) × (m ≡ k)) ⊎ (((m == k) ≡ false) × (m ≢ k))
        → (((n == k) ≡ true) × (n ≡ k)) ⊎ (((n == k) ≡ false) × (n ≢ k)) → AreApart a b
    go m n a b ne ha hb (inl e) (inl f) = absurd (ne (e.1 ∙ sym f.1))
    go m n a b ne ha hb (inl e) (inr f) = there.at n a b f.1 (ap (used_at c') (sym e.1) ∙ ha) (sym (differs.others n f.1) ∙ hb)
    go m n a b ne ha hb (inr e) (inl f) = apart_sym b a (there.at m b a e.1 (ap (used_at c') (sym f.1) ∙ hb) (sym (differs.others m e.1) ∙ ha))
    go m n a b ne ha hb (inr e) (inr f) = apart.at m n a b ne (sym (differs.others m e.1) ∙ ha) (sym (differs.others n f.1) ∙ hb)

-- ---- a new stream

named_none_in : (name : Bytes) (p : Place) (ps : Catalog) (k n : ℕ) (b : Used) (t : Bool) → if_used (λ u. same u.name name) p.used ≡ t
    → cond t (Some (record { place = k; incarnation = p.incarnation })) (first_place (λ n p. if_used (λ u. same u.name name) p.used) (k + 1) ps) ≡ None → used_at (p ∷ ps) n ≡ Some b
    → ((m : ℕ) → first_place (λ n p. if_used (λ u. same u.name name) p.used) (k + 1) ps ≡ None → used_at ps m ≡ Some b → same b.name name ≡ false) → same b.name name ≡ false
named_none_in name p ps k n b true f h e more = absurd (cc (h))
named_none_in name p ps k zero b false f h e more = sym (ap (if_used (λ u. same u.name name)) e) ∙ f
named_none_in name p ps k (suc n) b false f h e more = more n h e

-- no stream has a name that is not found
named_none : (name : Bytes) (c : Catalog) (k n : ℕ) (b : Used) → first_place (λ n p. if_used (λ u. same u.name name) p.used) k c ≡ None → used_at c n ≡ Some b → same b.name name ≡ false
named_none name [] k n b h e = absurd (cc (e))
named_none name (p ∷ ps) k n b h e = named_none_in name p ps k n b (if_used (λ u. same u.name name) p.used) refl h e (λ m f g. named_none name ps (k + 1) m b f g)

-- subjects that meet none
overlap_none : (test : ℕ → Bool) (subjects : List Bytes) (c : Catalog) (k n i : ℕ) (b : Used) → overlaps_at test subjects k c ≡ false → i ≡ k + n → test i ≡ true → used_at c n ≡ Some b → meets_used subjects b ≡ false
overlap_none test subjects [] k n i b h at t e = absurd (cc (e))
overlap_none test subjects (p ∷ ps) k zero i b h at t e =
    let here : i ≡ k = omega arith in
    sym (ap (if_used (meets_used subjects)) e) ∙ sym (ap (λ x. x && if_used (meets_used subjects) p.used) (ap test (sym here) ∙ t)) ∙ (or_parts _ _ h).0
overlap_none test subjects (p ∷ ps) k (suc n) i b h at t e = overlap_none test subjects ps (k + 1) n i b (or_parts _ _ h).1 (omega arith) t e

pub checks_pass : (a b c : Bool) (x y z : ApiError) → first_refusal ((a, x) ∷ (b, y) ∷ (c, z) ∷ []) ≡ None → (a ≡ false) × (b ≡ false)
checks_pass true b c x y z h = absurd (cc (h))
checks_pass false true c x y z h = absurd (cc (h))
checks_pass false false c x y z h = (refl, refl)

pub not_there : (o : Option PlaceAt) → is_there o ≡ false → o ≡ None
not_there None h = refl
not_there (Some found) h = absurd (true≢false h)

-- what a stream is at first
abbrev pub first_used : Bytes → List Bytes → Used
first_used name subjects = record { name = name; subjects = subjects; new_subjects = None; stopped = false }

taking : Bytes → List Bytes → Option Used → Option Used
taking name subjects o = Some (first_used name subjects)

pub taken_there : (name : Bytes) (subjects : List Bytes) (c : Catalog) (k : ℕ) → k < length c → used_at (edited (taken_by name subjects) k c) k ≡ Some (first_used name subjects)
unfolding taking
taken_there name subjects c k within = used_same (taken_by name subjects) (taking name subjects) c k (record { at = λ p. refl }) within

first_apart : (name : Bytes) (subjects : List Bytes) (u b : Used) → Some u ≡ Some (first_used name subjects) → same b.name name ≡ false → meets_used subjects b ≡ false → AreApart u b
first_apart name subjects u b e h k =
    let is : u ≡ first_used name subjects = cc (e) in
    let P : Used → Type 0 = λ x. AreApart x b in
    subst P (sym is) (record { names = same_sym name b.name ∙ h; subjects = lists_none subjects (all_subjects b) k })

pub add_apart : (name : Bytes) (subjects : List Bytes) (c : Catalog) (k : ℕ) → IsApart c → k < length c → place_named name c ≡ None → overlaps_at (λ n. true) subjects 0 c ≡ false
    → IsApart (edited (taken_by name subjects) k c)
add_apart name subjects c k apart within named overlap =
    apart_changed c (edited (taken_by name subjects) k c) k apart (record { others = λ m ne. used_other (taken_by name subjects) c m k ne })
    (record {
      at = λ n u b ne hu hb. first_apart name subjects u b (sym hu ∙ taken_there name subjects c k within) (named_none name c 0 n b named hb)
          (overlap_none (λ n. true) subjects c 0 n n b overlap (omega arith) refl hb);
    })

-- ---- a stream that changes

-- the change keeps the stream apart from those at other places
pub record KeepsApart (f : Used → Used) (c : Catalog) (k : ℕ) : Type 0 where
  pub at : (n : ℕ) (u b : Used) → n ≢ k → used_at c n ≡ Some b → AreApart u b → AreApart (f u) b

on_used_makes : (f : Used → Used) → Makes (on_used f) (edited_used f)
on_used_makes f = record { at = λ p. refl }

pub on_used_there : (f : Used → Used) (c : Catalog) (k : ℕ) → k < length c → used_at (edited (on_used f) k c) k ≡ edited_used f (used_at c k)
on_used_there f c k within = used_same (on_used f) (edited_used f) c k (on_used_makes f) within

pub on_used_apart : (f : Used → Used) (c : Catalog) (k : ℕ) → IsApart c → k < length c → KeepsApart f c k → IsApart (edited (on_used f) k c)
on_used_apart f c k apart within keeps =
    apart_changed c (edited (on_used f) k c) k apart (record { others = λ m ne. used_other (on_used f) c m k ne })
    (record { at = λ n u b ne hu hb. go n u b ne (used_at c k) refl (sym (on_used_there f c k within) ∙ hu) hb })
  where
    go : (n : ℕ) (u b : Used) → n ≢ k → (o : Option Used) → used_at c k ≡ o → edited_used f o ≡ Some u → used_at c n ≡ Some b → AreApart u b
    go n u b ne None was hu hb = absurd (cc (hu))
    go n u b ne (Some own) was hu hb =
        let is : f own ≡ u = cc (hu) in
        let P : Used → Type 0 = λ x. AreApart x b in
        subst P is (keeps.at n own b ne hb (apart.at k n own b (λ same. ne (sym same)) was hb))

changed_apart : (subjects : List Bytes) (u b : Used) → AreApart u b → meets_used subjects b ≡ false → AreApart (changing subjects u) b
changed_apart subjects u b h k = go u.stopped
  where
    first : meets_lists u.subjects (all_subjects b) ≡ false
    first = (or_parts _ _ (sym (lists_append u.subjects (list_or_none u.new_subjects) (all_subjects b)) ∙ h.subjects)).0

    go : (s : Bool) → AreApart (if s then u else record u { new_subjects = Some subjects }) b
    go true = h
    go false = record { names = h.names; subjects = lists_append u.subjects subjects (all_subjects b) ∙ or_from _ _ first k }

-- another place than the one of this number
other_number : (n k : ℕ) → n ≢ k → not (n == k) ≡ true
other_number n k ne = ap not (ne_eqb n k ne)

pub change_apart : (subjects : List Bytes) (c : Catalog) (k : ℕ) → IsApart c → k < length c → overlaps_at (λ n. not (n == k)) subjects 0 c ≡ false → IsApart (edited (on_used (changing subjects)) k c)
change_apart subjects c k apart within overlap =
    on_used_apart (changing subjects) c k apart within
    (record { at = λ n u b ne hb h. changed_apart subjects u b h (overlap_none (λ n. not (n == k)) subjects c 0 n n b overlap (omega arith) (other_number n k ne) hb) })

kept_apart : (new : Bool) (u b : Used) → AreApart u b → AreApart (keeping new u) b
kept_apart new u b h = go u.stopped
  where
    inner : (o : Option (List Bytes)) → u.new_subjects ≡ o → AreApart (kept_list new u o) b
    inner None e = h
    inner (Some subjects) e = record { names = h.names; subjects = pick new }
      where
        parts : (meets_lists u.subjects (all_subjects b) ≡ false) × (meets_lists subjects (all_subjects b) ≡ false)
        parts = or_parts _ _ (sym (lists_append u.subjects subjects (all_subjects b)) ∙ ap (λ o. meets_lists (u.subjects ++ list_or_none o) (all_subjects b)) (sym e) ∙ h.subjects)

        pick : (new : Bool) → meets_lists ((if new then subjects else u.subjects) ++ []) (all_subjects b) ≡ false
        pick true = lists_none subjects (all_subjects b) parts.1
        pick false = lists_none u.subjects (all_subjects b) parts.0

    go : (s : Bool) → AreApart (if s then u else kept_list new u u.new_subjects) b
    go true = h
    go false = inner u.new_subjects refl

pub keep_apart : (new : Bool) (c : Catalog) (k : ℕ) → IsApart c → k < length c → IsApart (edited (on_used (keeping new)) k c)
keep_apart new c k apart within = on_used_apart (keeping new) c k apart within (record { at = λ n u b ne hb h. kept_apart new u b h })

pub stop_apart : (c : Catalog) (k : ℕ) → IsApart c → k < length c → IsApart (edited (on_used stopping) k c)
stop_apart c k apart within = on_used_apart stopping c k apart within (record { at = λ n u b ne hb h. record { names = h.names; subjects = h.subjects } })

-- ---- a stream that goes

going : Option Used → Option Used
going o = None

pub freed_there : (dropped : Bool) (c : Catalog) (k : ℕ) → k < length c → used_at (edited (freed dropped) k c) k ≡ None
unfolding going
freed_there dropped c k within = used_same (freed dropped) going c k (record { at = λ p. refl }) within

pub remove_apart : (dropped : Bool) (c : Catalog) (k : ℕ) → IsApart c → k < length c → IsApart (edited (freed dropped) k c)
remove_apart dropped c k apart within =
    apart_changed c (edited (freed dropped) k c) k apart (record { others = λ m ne. used_other (freed dropped) c m k ne })
    (record { at = λ n u b ne hu hb. absurd (none u (sym (freed_there dropped c k within) ∙ hu)) })
  where
    none : (u : Used) → None ≡ Some u → ⊥
    none u h = cc (h)

-- ---- places at the end

pub used_end : (c : Catalog) (p : Place) (n : ℕ) → p.used ≡ None → used_at (c ++ p ∷ []) n ≡ used_at c n
used_end [] p zero e = e
used_end [] p (suc n) e = refl
used_end (q ∷ c) p zero e = refl
used_end (q ∷ c) p (suc n) e = used_end c p n e

pub vacant_apart : (c : Catalog) (p : Place) → p.used ≡ None → IsApart c → IsApart (c ++ p ∷ [])
vacant_apart c p e apart = record { at = λ m n a b ne ha hb. apart.at m n a b ne (sym (used_end c p m e) ∙ ha) (sym (used_end c p n e) ∙ hb) }

pub none_past : (c : Catalog) (n : ℕ) → length c ≤ n → used_at c n ≡ None
none_past [] n h = refl
none_past (p ∷ c) zero h = absurd (omega (arith, h))
none_past (p ∷ c) (suc n) h = none_past c n (omega (arith, h))

edited_end_from : (edit : Place → Place) (c : Catalog) (p : Place) (n k : ℕ) → k ≡ n + length c → with_place edit k n (c ++ p ∷ []) ≡ c ++ edit p ∷ []
edited_end_from edit [] p n k e = ap (λ (b : Bool). if b then edit p ∷ [] else p ∷ []) (eq-eqb n k (omega (arith, e)))
edited_end_from edit (q ∷ c) p n k e =
    ap (λ (b : Bool). if b then edit q ∷ (c ++ p ∷ []) else q ∷ with_place edit k (n + 1) (c ++ p ∷ [])) (ne_eqb n k (λ (same : n ≡ k). omega (arith, e)))
    ∙ ap (λ more. q ∷ more) (edited_end_from edit c p (n + 1) k (omega (arith, e)))

pub edited_end : (edit : Place → Place) (c : Catalog) (p : Place) (k : ℕ) → k ≡ length c → edited edit k (c ++ p ∷ []) ≡ c ++ edit p ∷ []
edited_end edit c p k e = edited_end_from edit c p 0 k (omega (arith, e))

-- what is at a front of a list is in the whole
in_front : (c more : Catalog) (n : ℕ) (a : Used) → used_at c n ≡ Some a → used_at (c ++ more) n ≡ Some a
in_front [] more n a h = absurd (cc (h))
in_front (p ∷ c) more zero a h = h
in_front (p ∷ c) more (suc n) a h = in_front c more n a h

pub front_apart : (c more : Catalog) → IsApart (c ++ more) → IsApart c
front_apart c more apart = record { at = λ m n a b ne ha hb. apart.at m n a b ne (in_front c more m a ha) (in_front c more n b hb) }
