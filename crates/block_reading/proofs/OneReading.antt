-- The blocks of a volume are read in one way.
use Rattle.std.proofs.Common.{◌≡◌, inl, inr, ℕ, List, [], ◌∷◌, ◌++◌, All, get_or, drop, length, refl, sym, ap, subst, ◌∙◌, arith}
use Rattle.std.specs.List.{AllZip}
use Rattle.std.proofs.lemmas.List.Elements.{All-head, All-tail}
use Rattle.js_model.specs.declared.stream.Message.{Message}
use Rattle.op_records.proofs.Steps.{value_is}
use Rattle.vol_disk.specs.Disk.{Files}
use Rattle.block_table.specs.declared.block.Block.{Block}
use Rattle.block_table.specs.declared.placed.Placed.{Placed}
use Rattle.block_table.specs.Blocks.{Blocks, blocks}
use Rattle.block_reading.specs.Standing.{IsWhole, IsThere, AreStoredIn, written_in}
use Rattle.block_reading.specs.Damage.{AreDamaged, AreWrongAt, HasBadBlock, HasLost, IsHere, IsToldBy}
use Rattle.block_reading.specs.Laws.{LawStored}
use Rattle.block_reading.proofs.Wrong.{one_wrong, none_wrong}

-- ---- the first that is not good

head_is : {X : Type 0} (x y : X) (xs ys : List X) → x ∷ xs ≡ y ∷ ys → x ≡ y
head_is x y xs ys e = ap (λ l. get_or l 0 x) e

tail_is : {X : Type 0} (x y : X) (xs ys : List X) → x ∷ xs ≡ y ∷ ys → xs ≡ ys
tail_is x y xs ys e = ap (drop 1) e

module _ {X : Type 0} (Good : X → Type 0) where
  one_first : (xs ys : List X) (x y : X) (us vs : List X) → xs ++ x ∷ us ≡ ys ++ y ∷ vs → All Good xs → All Good ys → ¬ Good x → ¬ Good y → x ≡ y
  one_first [] [] x y us vs e g h bad wrong = head_is x y us vs e
  one_first [] (z ∷ zs) x y us vs e g h bad wrong = absurd (bad (subst Good (sym (head_is x z us (zs ++ y ∷ vs) e)) (All-head Good z zs h)))
  one_first (z ∷ zs) [] x y us vs e g h bad wrong = absurd (wrong (subst Good (head_is z y (zs ++ x ∷ us) vs e) (All-head Good z zs g)))
  one_first (z ∷ zs) (w ∷ ws) x y us vs e g h bad wrong =
      one_first zs ws x y us vs (tail_is z w (zs ++ x ∷ us) (ws ++ y ∷ vs) e) (All-tail Good z zs g) (All-tail Good w ws h) bad wrong

  good_there : (xs : List X) (x : X) (us zs : List X) → zs ≡ xs ++ x ∷ us → All Good zs → Good x
  good_there [] x us zs e all = All-head Good x us (subst (All Good) e all)
  good_there (w ∷ ws) x us zs e all = good_there ws x us (ws ++ x ∷ us) refl (All-tail Good w (ws ++ x ∷ us) (subst (All Good) e all))

-- ---- the first of pairs

module _ {X Y : Type 0} (Good : X → Y → Type 0) where
  one_pair : (ps qs : List X) (x v : X) (us vs : List X) (rs ss : List Y) (y w : Y) (ks ls : List Y) →
      ps ++ x ∷ us ≡ qs ++ v ∷ vs → rs ++ y ∷ ks ≡ ss ++ w ∷ ls → AllZip Good ps rs → AllZip Good qs ss → ¬ Good x y → ¬ Good v w → x ≡ v
  one_pair [] [] x v us vs rs ss y w ks ls e f g h bad wrong = head_is x v us vs e
  one_pair [] (q ∷ qs) x v us vs [] (s ∷ ss) y w ks ls e f g h bad wrong =
      absurd (bad (subst (λ (a : X). Good a y) (sym (head_is x q us (qs ++ v ∷ vs) e)) (subst (Good q) (sym (head_is y s ks (ss ++ w ∷ ls) f)) h.0)))
  one_pair [] (q ∷ qs) x v us vs [] [] y w ks ls e f g h bad wrong = absurd h
  one_pair [] (q ∷ qs) x v us vs (r ∷ rs) ss y w ks ls e f g h bad wrong = absurd g
  one_pair (p ∷ ps) [] x v us vs (r ∷ rs) [] y w ks ls e f g h bad wrong =
      absurd (wrong (subst (λ (a : X). Good a w) (head_is p v (ps ++ x ∷ us) vs e) (subst (Good p) (head_is r w (rs ++ y ∷ ks) ls f) g.0)))
  one_pair (p ∷ ps) [] x v us vs [] ss y w ks ls e f g h bad wrong = absurd g
  one_pair (p ∷ ps) [] x v us vs (r ∷ rs) (s ∷ ss) y w ks ls e f g h bad wrong = absurd h
  one_pair (p ∷ ps) (q ∷ qs) x v us vs (r ∷ rs) (s ∷ ss) y w ks ls e f g h bad wrong =
      one_pair ps qs x v us vs rs ss y w ks ls (tail_is p q (ps ++ x ∷ us) (qs ++ v ∷ vs) e) (tail_is r s (rs ++ y ∷ ks) (ss ++ w ∷ ls) f) g.1 h.1 bad wrong
  one_pair (p ∷ ps) (q ∷ qs) x v us vs [] ss y w ks ls e f g h bad wrong = absurd g
  one_pair (p ∷ ps) (q ∷ qs) x v us vs (r ∷ rs) [] y w ks ls e f g h bad wrong = absurd h

  good_pair : (ps : List X) (x : X) (us zs : List X) (rs : List Y) (y : Y) (ks ws : List Y) → zs ≡ ps ++ x ∷ us → ws ≡ rs ++ y ∷ ks →
      length ps ≡ length rs → AllZip Good zs ws → Good x y
  good_pair [] x us zs [] y ks ws e f long all = (subst (AllZip Good (x ∷ us)) f (subst (λ (l : List X). AllZip Good l ws) e all)).0
  good_pair (p ∷ ps) x us zs (r ∷ rs) y ks ws e f long all =
      good_pair ps x us (ps ++ x ∷ us) rs y ks (rs ++ y ∷ ks) refl refl (omega (arith, long))
      (subst (AllZip Good (p ∷ (ps ++ x ∷ us))) f (subst (λ (l : List X). AllZip Good l ws) e all)).1
  good_pair [] x us zs (r ∷ rs) y ks ws e f long all = absurd (omega (arith, long))
  good_pair (p ∷ ps) x us zs [] y ks ws e f long all = absurd (omega (arith, long))

  zip_long : (xs : List X) (ys : List Y) → AllZip Good xs ys → length xs ≡ length ys
  zip_long [] [] all = refl
  zip_long (x ∷ xs) (y ∷ ys) all = let more = zip_long xs ys all.1 in omega (arith, more)
  zip_long [] (y ∷ ys) all = absurd all
  zip_long (x ∷ xs) [] all = absurd all

-- ---- what is stored

one_found : (image : Files) (ps : List Placed) (ms ns : List Message) → AllZip (IsThere image) ps ms → AllZip (IsThere image) ps ns → ms ≡ ns
one_found image [] [] [] f g = refl
one_found image [] (m ∷ ms) ns f g = absurd f
one_found image [] [] (n ∷ ns) f g = absurd g
one_found image (p ∷ ps) [] ns f g = absurd f
one_found image (p ∷ ps) (m ∷ ms) [] f g = absurd g
one_found image (p ∷ ps) (m ∷ ms) (n ∷ ns) f g =
    let head = value_is m p.spot.len n p.spot.len (sym f.0.stands.reads ∙ g.0.stands.reads) in
    let tail = one_found image ps ms ns f.1 g.1 in
    ap (λ (x : Message). x ∷ ms) head ∙ ap (λ (l : List Message). n ∷ l) tail

-- what is there and has the sequence and moment that are told is here
pub here_of : (image : Files) (ps : List Placed) (told ms : List Message) → AllZip (IsThere image) ps ms → AllZip IsToldBy told ms → AllZip (IsHere image) ps told
here_of image [] [] [] f t = f
here_of image (p ∷ ps) (u ∷ us) (m ∷ ms) f t = ((m, f.0, t.0), here_of image ps us ms f.1 t.1)
here_of image [] [] (m ∷ ms) f t = absurd f
here_of image [] (u ∷ us) [] f t = absurd t
here_of image [] (u ∷ us) (m ∷ ms) f t = absurd f
here_of image (p ∷ ps) us [] f t = absurd f
here_of image (p ∷ ps) [] (m ∷ ms) f t = absurd t

-- ---- damage

module _ (image : Files) (last : ℕ) (ks : List Block) where
  bad_whole : (file at : ℕ) → HasBadBlock image ks last file at → All (IsWhole image last) ks → ⊥
  bad_whole file at h all = none_wrong (written_in image h.block) last h.block.end at (good_there (IsWhole image last) h.before h.block h.after ks h.blocks_are all) h.wrong

  one_block : (file other at place : ℕ) (g : HasBadBlock image ks last file at) (h : HasBadBlock image ks last other place) → g.block ≡ h.block
  one_block file other at place g h =
      one_first (IsWhole image last) g.before h.before g.block h.block g.after h.after (sym g.blocks_are ∙ h.blocks_are) g.whole h.whole
      (λ whole. none_wrong (written_in image g.block) last g.block.end at whole g.wrong) (λ whole. none_wrong (written_in image h.block) last h.block.end place whole h.wrong)

  one_bad_file : (file other at place : ℕ) → HasBadBlock image ks last file at → HasBadBlock image ks last other place → file ≡ other
  one_bad_file file other at place g h = g.file_is ∙ ap (λ (k : Block). k.file) (one_block file other at place g h) ∙ sym h.file_is

  one_bad_offset : (file other at place : ℕ) → HasBadBlock image ks last file at → HasBadBlock image ks last other place → at ≡ place
  one_bad_offset file other at place g h =
      one_wrong (written_in image h.block) last h.block.end at place
      (subst (λ (k : Block). AreWrongAt (written_in image k) last k.end at) (one_block file other at place g h) g.wrong) h.wrong

module _ (image : Files) (ps : List Placed) (told : List Message) where
  one_lost : (file other at place : ℕ) (g : HasLost image ps told file at) (h : HasLost image ps told other place) → g.p ≡ h.p
  one_lost file other at place g h =
      one_pair (IsHere image) g.placed_before h.placed_before g.p h.p g.placed_after h.placed_after g.told_before h.told_before g.one h.one g.told_after h.told_after
      (sym g.placed_are ∙ h.placed_are) (sym g.told_are ∙ h.told_are) g.here h.here g.lost h.lost

  none_lost : (file at : ℕ) → HasLost image ps told file at → AllZip (IsHere image) ps told → ⊥
  none_lost file at g all =
      g.lost (good_pair (IsHere image) g.placed_before g.p g.placed_after ps g.told_before g.one g.told_after told g.placed_are g.told_are (zip_long (IsHere image) g.placed_before g.told_before g.here) all)

-- ---- the law

whole : (image : Files) (b : Blocks) (last : ℕ) (told ms : List Message) (file at : ℕ) → AreStoredIn image b last ms → AllZip IsToldBy told ms → ¬ AreDamaged image b last told file at
whole image b last told ms file at stored is (inl bad) = bad_whole image last (blocks b) file at bad stored.whole
whole image b last told ms file at stored is (inr (all, lost)) = none_lost image b.placed told file at lost (here_of image b.placed told ms stored.found is)

one_file : (image : Files) (b : Blocks) (last : ℕ) (told : List Message) (file other at place : ℕ) → AreDamaged image b last told file at → AreDamaged image b last told other place → file ≡ other
one_file image b last told file other at place (inl g) (inl h) = one_bad_file image last (blocks b) file other at place g h
one_file image b last told file other at place (inl g) (inr h) = absurd (bad_whole image last (blocks b) file at g h.0)
one_file image b last told file other at place (inr g) (inl h) = absurd (bad_whole image last (blocks b) other place h g.0)
one_file image b last told file other at place (inr g) (inr h) =
    g.1.file_is ∙ ap (λ (p : Placed). p.spot.file) (one_lost image b.placed told file other at place g.1 h.1) ∙ sym h.1.file_is

one_offset : (image : Files) (b : Blocks) (last : ℕ) (told : List Message) (file other at place : ℕ) → AreDamaged image b last told file at → AreDamaged image b last told other place → at ≡ place
one_offset image b last told file other at place (inl g) (inl h) = one_bad_offset image last (blocks b) file other at place g h
one_offset image b last told file other at place (inl g) (inr h) = absurd (bad_whole image last (blocks b) file at g h.0)
one_offset image b last told file other at place (inr g) (inl h) = absurd (bad_whole image last (blocks b) other place h g.0)
one_offset image b last told file other at place (inr g) (inr h) =
    g.1.at_is ∙ ap (λ (p : Placed). p.spot.at) (one_lost image b.placed told file other at place g.1 h.1) ∙ sym h.1.at_is

pub law_stored : LawStored
law_stored = record {
  one = λ image b last ms ns f g. one_found image b.placed ms ns f.found g.found;
  whole = whole;
  one_file = one_file;
  one_offset = one_offset;
}
