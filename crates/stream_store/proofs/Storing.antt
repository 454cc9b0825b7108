-- What is stored in the blocks of an image, change by change.
use Rattle.std.proofs.Common.{◌≡◌, ◌⊎◌, inl, inr, ◌≤◌, ◌<◌, ◌^◌, ℕ, ◌+◌, ◌-◌, ◌==◌, ◌&&◌, ◌||◌, Bool, true, false, cond, not, List, [], ◌∷◌, ◌++◌, Option, Some, None, All, Ok, length, take, drop, refl, sym, ap, subst, ◌∙◌, arith, length-take, length-append}
use Rattle.std.specs.Prelude.{filter, nat_le}
use Rattle.std.specs.List.{AllZip}
use Rattle.std.specs.Option.{option_to_list}
use Rattle.std.proofs.Math.Seq.{take-add}
use Rattle.std.proofs.lemmas.Bool.{true≢false, and_parts, eqb-true}
use Rattle.std.proofs.lemmas.List.{drop-take, take-take}
use Rattle.std.proofs.lemmas.List.Elements.{All-nil, All-cons, All-head, All-tail, All-append, All-push, All-weaker}
use Rattle.js_base.specs.Bytes.{Bytes}
use Rattle.js_base.specs.declared.spot.Spot.{Spot}
use Rattle.js_model.specs.Lists.{Between}
use Rattle.js_model.specs.declared.stream.Message.{Message}
use Rattle.op_records.specs.BlockLaws.{SpellsMessage}
use Rattle.op_records.specs.Blocks.{message_at, Follow, spelled_message}
use Rattle.op_records.specs.Laws.{IsBatch}
use Rattle.op_records.proofs.BlocksLaws.{law_message}
use Rattle.vol_disk.specs.Disk.{Files}
use Rattle.block_table.specs.declared.block.Block.{Block}
use Rattle.block_table.specs.declared.placed.Placed.{Placed}
use Rattle.block_table.specs.Blocks.{Blocks, blocks, is_used, no_blocks}
use Rattle.block_table.specs.Puts.{begins, end_of, fits, goes_on, is_above, is_within, left_by, put_at, removed, with_placed, without}
use Rattle.block_table.proofs.Tables.{fits_end}
use Rattle.block_reading.specs.Standing.{AreMessages, AreStoredIn, IsThere, IsWhole, StandsAt, bytes_at}
use Rattle.block_reading.proofs.Follows.{between_push, follow_push, next_seq}
use Rattle.block_reading.proofs.Within.{follow_within}
use Rattle.stream_store.proofs.Blocks.{IsSame}

-- ---- lists

all_kept : {X : Type 0} (P : X → Type 0) (t : X → Bool) (xs more : List X) → All P (xs ++ more) → All P (filter t xs ++ more)
all_kept P t [] more h = h
all_kept P t (x ∷ xs) more h = go (t x) (all_kept P t xs more (All-tail P x (xs ++ more) h))
  where
    go : (b : Bool) → All P (filter t xs ++ more) → All P (cond b (x ∷ filter t xs) (filter t xs) ++ more)
    go true rest = All-cons P x (filter t xs ++ more) (All-head P x (xs ++ more) h) rest
    go false rest = rest

all_first : {X : Type 0} (P : X → Type 0) (xs more : List X) → All P (xs ++ more) → All P xs
all_first P [] more h = All-nil P
all_first P (x ∷ xs) more h = All-cons P x xs (All-head P x (xs ++ more) h) (all_first P xs more (All-tail P x (xs ++ more) h))

all_second : {X : Type 0} (P : X → Type 0) (xs more : List X) → All P (xs ++ more) → All P more
all_second P [] more h = h
all_second P (x ∷ xs) more h = all_second P xs more (All-tail P x (xs ++ more) h)

zip_push : {X Y : Type 0} (R : X → Y → Type 0) (xs : List X) (ys : List Y) (x : X) (y : Y) → AllZip R xs ys → R x y → AllZip R (xs ++ x ∷ []) (ys ++ y ∷ [])
zip_push R [] [] x y h r = (r, tt)
zip_push R (a ∷ xs) (b ∷ ys) x y h r = (h.0, zip_push R xs ys x y h.1 r)
zip_push R [] (b ∷ ys) x y h r = absurd h
zip_push R (a ∷ xs) [] x y h r = absurd h

-- ---- messages that go

module _ (image : Files) (passes : ℕ → Bool) where
  pub there_kept : (ps : List Placed) (ms : List Message) → AllZip (IsThere image) ps ms → AllZip (IsThere image) (filter (λ p. passes p.seq) ps) (filter (λ m. passes m.seq) ms)
  there_kept [] [] h = tt
  there_kept (p ∷ ps) (m ∷ ms) h = go (passes p.seq) (passes m.seq) (ap passes (sym h.0.seq)) (there_kept ps ms h.1)
    where
      go : (s t : Bool) → s ≡ t → AllZip (IsThere image) (filter (λ p. passes p.seq) ps) (filter (λ m. passes m.seq) ms)
          → AllZip (IsThere image) (cond s (p ∷ filter (λ p. passes p.seq) ps) (filter (λ p. passes p.seq) ps)) (cond t (m ∷ filter (λ m. passes m.seq) ms) (filter (λ m. passes m.seq) ms))
      go true true e rest = (h.0, rest)
      go false false e rest = rest
      go true false e rest = absurd (true≢false e)
      go false true e rest = absurd (true≢false (sym e))
  there_kept [] (m ∷ ms) h = absurd h
  there_kept (p ∷ ps) [] h = absurd h

-- a table keeps what all of its blocks have once messages go
pub blocks_removed : (P : Block → Type 0) (low high : ℕ) (b : Blocks) → All P (blocks b) → All P (blocks (removed low high b))
blocks_removed P low high b h = all_kept P (λ (k : Block). is_used (without low high b.placed) k.file) b.older (option_to_list b.writing) h

pub stored_removed : (image : Files) (last low high : ℕ) (b : Blocks) (ms : List Message) → AreStoredIn image b last ms
    → AreStoredIn image (removed low high b) last (filter (λ m. not (is_within low high m.seq)) ms)
stored_removed image last low high b ms h = record {
  whole = blocks_removed (IsWhole image last) low high b h.whole;
  found = there_kept image (λ n. not (is_within low high n)) b.placed ms h.found;
}

pub stored_none : (image : Files) (last : ℕ) → AreStoredIn image no_blocks last []
stored_none image last = record { whole = All-nil (IsWhole image last); found = tt }

-- ---- a sequence more

between_more : (low high : ℕ) (ms : List Message) → Between (λ m. m.seq) low high ms → Between (λ m. m.seq) low (high + 1) ms
between_more low high [] h = omega (arith, h)
between_more low high (m ∷ ms) h = (h.0, between_more (m.seq + 1) high ms h.1)

whole_more : (image : Files) (last : ℕ) (k : Block) → IsWhole image last k → IsWhole image (last + 1) k
whole_more image last k h = record { few = h.few; messages = h.messages; stand = record { follow = h.stand.follow; rising = between_more 0 (last + 1) h.messages h.stand.rising } }

pub stored_more : (image : Files) (last : ℕ) (b : Blocks) (ms : List Message) → AreStoredIn image b last ms → AreStoredIn image b (last + 1) ms
stored_more image last b ms h = record { whole = All-weaker (IsWhole image last) (IsWhole image (last + 1)) (whole_more image last) (blocks b) h.whole; found = h.found }

-- ---- a message more

-- the next sequence is at most the end of the last
next_bound : (low high : ℕ) (ms : List Message) → Between (λ m. m.seq) low high ms → next_seq low ms ≤ high
next_bound low high [] h = h
next_bound low high (m ∷ ms) h = next_bound (m.seq + 1) high ms h.1

-- what stands in the front of bytes stands in them
module _ (bytes : Bytes) (n : ℕ) (few : IsBatch bytes) (front : IsBatch (take n bytes)) where
  at_front : (at : ℕ) (m : Message) (end : ℕ) → message_at (take n bytes) at ≡ Ok (m, end) → message_at bytes at ≡ Ok (m, end)
  at_front at m end is =
      let s = (law_message (take n bytes) at m end front).0 is in
      let within : end ≤ n = omega (arith, s.lies.within, length-take n bytes) in
      let all : at + (n - at) ≡ n = omega (arith, within, s.lies.order) in
      let span : take (end - at) (drop at (take n bytes)) ≡ take (end - at) (drop at bytes) =
      ap (λ (k : ℕ). take (end - at) (drop at (take k bytes))) (sym all) ∙ ap (take (end - at)) (drop-take at (n - at) bytes)
      ∙ take-take (end - at) (n - at) (drop at bytes) (omega (arith, within)) in
      (law_message bytes at m end few).1 (record {
        allowed = s.allowed;
        lies = record { order = s.lies.order; within = omega (arith, s.lies.within, length-take n bytes); bytes_are = sym span ∙ s.lies.bytes_are };
      })

  pub follow_front : (ms : List Message) (here end : ℕ) → Follow (take n bytes) here ms end → Follow bytes here ms end
  follow_front [] here end h = h
  follow_front (m ∷ ms) here end h = (h.0, at_front here m h.0 h.1, follow_front ms h.0 end h.2)

module _ (image : Files) (spot : Spot) (m : Message) (stands : StandsAt image spot m) where
  spelled : SpellsMessage (bytes_at image spot) 0 m spot.len
  spelled = (law_message (bytes_at image spot) 0 m spot.len stands.few).0 stands.reads

  spelled_whole : take spot.len (bytes_at image spot) ≡ spelled_message m
  spelled_whole =
      let all : spot.len ≡ spot.len - 0 = omega arith in
      ap (λ (n : ℕ). take n (bytes_at image spot)) all ∙ spelled.lies.bytes_are

  -- the message behind bytes of its file
  pub behind : (end : ℕ) → end ≡ spot.at → end ≤ length (image spot.file) → IsBatch (take (end + spot.len) (image spot.file)) → message_at (take (end + spot.len) (image spot.file)) end ≡ Ok (m, end + spot.len)
  behind end is long few =
      let xs = image spot.file in
      let s = spelled in
      let there : drop end (take (end + spot.len) xs) ≡ bytes_at image spot = drop-take end spot.len xs ∙ ap (λ (k : ℕ). take spot.len (drop k xs)) is in
      let size : length (take (end + spot.len) xs) ≡ end + length (bytes_at image spot) =
      ap length (take-add end spot.len xs) ∙ length-append (take end xs) (take spot.len (drop end xs))
      ∙ ap (λ (k : ℕ). k + length (take spot.len (drop end xs))) (length_take_all end xs long) ∙ ap (λ (k : ℕ). end + length (take spot.len (drop k xs))) is in
      let span : (end + spot.len) - end ≡ spot.len = omega arith in
      (law_message (take (end + spot.len) xs) end m (end + spot.len) few).1 (record {
        allowed = s.allowed;
        lies = record {
          order = omega arith;
          within = omega (arith, size, s.lies.within);
          bytes_are = ap (λ (k : ℕ). take k (drop end (take (end + spot.len) xs))) span ∙ ap (take spot.len) there ∙ spelled_whole;
        };
      })
    where
      length_take_all : (n : ℕ) (xs : Bytes) → n ≤ length xs → length (take n xs) ≡ n
      length_take_all n xs h = omega (arith, h, length-take n xs)

  -- the bytes up to the end of the message
  pub few_behind : (end : ℕ) → end ≡ spot.at → IsBatch (take end (image spot.file)) → end + spot.len < 2 ^ 32 → IsBatch (take (end + spot.len) (image spot.file))
  few_behind end is few short =
      let xs = image spot.file in
      let more : IsBatch (take spot.len (drop end xs)) = subst (λ (k : ℕ). IsBatch (take spot.len (drop k xs))) (sym is) stands.few in
      record {
        are_bytes = subst (All (λ byte. byte < 256)) (sym (take-add end spot.len xs)) (All-append (λ byte. byte < 256) (take end xs) (take spot.len (drop end xs)) few.are_bytes more.are_bytes);
        short = omega (arith, short, length-take (end + spot.len) xs);
      }

-- what is written of the file of a spot in which a message is the last one
abbrev pub grown : Spot → Block
grown spot = record { file = spot.file; end = end_of spot }

module _ (image : Files) (last : ℕ) (spot : Spot) (m : Message) (stands : StandsAt image spot m) (seq : m.seq ≡ last + 1) (short : end_of spot < 2 ^ 32) where
  -- it goes on in a block
  grown_on : (k : Block) → k.file ≡ spot.file → k.end ≡ spot.at → IsWhole image last k → IsWhole image (last + 1) (grown spot)
  grown_on k file at h =
      let end = k.end in
      let xs = image spot.file in
      let whole : AreMessages (take end xs) last end = subst (λ (f : ℕ). AreMessages (take end (image f)) last end) file h in
      let within = follow_within (take end xs) whole.messages 0 end whole.few (omega arith) whole.stand.follow in
      let long : end ≤ length xs = omega (arith, within, length-take end xs) in
      let few = few_behind image spot m stands end at whole.few (omega (arith, short, at)) in
      let front : take end (take (end + spot.len) xs) ≡ take end xs = take-take end (end + spot.len) xs (omega arith) in
      let follows : Follow (take (end + spot.len) xs) 0 whole.messages end =
      follow_front (take (end + spot.len) xs) end few (subst IsBatch (sym front) whole.few) whole.messages 0 end (subst (λ (l : Bytes). Follow l 0 whole.messages end) (sym front) whole.stand.follow) in
      let all : AreMessages (take (end + spot.len) xs) (last + 1) (end + spot.len) = record {
        few = few;
        messages = whole.messages ++ m ∷ [];
        stand = record {
          follow = follow_push (take (end + spot.len) xs) whole.messages 0 end (end + spot.len) m follows (behind image spot m stands end at long few);
          rising = between_push 0 (last + 1) (last + 1 + 1) whole.messages m whole.stand.rising (let bound = next_bound 0 (last + 1) whole.messages whole.stand.rising in omega (arith, bound, seq)) (omega (arith, seq));
        };
      } in
      subst (λ (n : ℕ). AreMessages (take n xs) (last + 1) n) (ap (λ (n : ℕ). n + spot.len) at) all

  -- it begins one
  grown_first : spot.at ≡ 0 → IsWhole image (last + 1) (grown spot)
  grown_first at =
      let xs = image spot.file in
      let few = few_behind image spot m stands 0 (sym at) (record { are_bytes = All-nil (λ byte. byte < 256); short = omega arith }) (omega (arith, short, at)) in
      let all : AreMessages (take (0 + spot.len) xs) (last + 1) (0 + spot.len) = record {
        few = few;
        messages = m ∷ [];
        stand = record { follow = (0 + spot.len, behind image spot m stands 0 (sym at) (omega arith) few, refl); rising = (omega arith, omega (arith, seq)) };
      } in
      subst (λ (n : ℕ). AreMessages (take n xs) (last + 1) n) (ap (λ (n : ℕ). n + spot.len) (sym at)) all

-- where a spot that fits goes on or begins
abbrev GoesOnOrBegins : Spot → Blocks → Type 0
GoesOnOrBegins spot b = ((k : Block) × (b.writing ≡ Some k) × (k.file ≡ spot.file) × (k.end ≡ spot.at)) ⊎ (spot.at ≡ 0)

on_or_begins : (seq : ℕ) (spot : Spot) (b : Blocks) → fits seq spot b ≡ true → GoesOnOrBegins spot b
on_or_begins seq spot b f = go b.writing refl (and_parts (is_above seq b.placed && nat_le (end_of spot) (2 ^ 32 - 1)) (goes_on spot b.writing || begins spot b) f).1
  where
    at_begin : begins spot b ≡ true → spot.at ≡ 0
    at_begin e =
        let free = and_parts (spot.at == 0 && nat_le 2 spot.file && nat_le spot.file 65535) _ e in
        let high = and_parts (spot.at == 0 && nat_le 2 spot.file) (nat_le spot.file 65535) free.0 in
        eqb-true spot.at 0 (and_parts (spot.at == 0) (nat_le 2 spot.file) high.0).0

    go : (o : Option Block) → b.writing ≡ o → (goes_on spot o || begins spot b) ≡ true → GoesOnOrBegins spot b
    go None is e = inr (at_begin e)
    go (Some k) is e = on (spot.file == k.file && spot.at == k.end) refl e
      where
        on : (t : Bool) → (spot.file == k.file && spot.at == k.end) ≡ t → (t || begins spot b) ≡ true → GoesOnOrBegins spot b
        on true h e = let parts = and_parts (spot.file == k.file) (spot.at == k.end) h in inl (k, is, sym (eqb-true spot.file k.file parts.0), sym (eqb-true spot.at k.end parts.1))
        on false h e = inr (at_begin e)

-- the block being written is one of all
writing_has : (P : Block → Type 0) (b : Blocks) (k : Block) → b.writing ≡ Some k → All P (blocks b) → P k
writing_has P b k is h = All-head P k [] (all_second P b.older (k ∷ []) (subst (λ (o : Option Block). All P (b.older ++ option_to_list o)) is h))

-- what the blocks have that are left, and the one with the message, all blocks have
pub blocks_put : (P : Block → Type 0) (seq : ℕ) (spot : Spot) (b : Blocks) → All P (blocks b) → P (grown spot) → All P (blocks (put_at seq spot b))
blocks_put P seq spot b h last = all_kept P (λ (k : Block). is_used (with_placed seq spot b.placed) k.file) (left_by spot b) (grown spot ∷ []) (All-push P (left_by spot b) (grown spot) left last)
  where
    left : All P (left_by spot b)
    left = go (goes_on spot b.writing)
      where
        go : (g : Bool) → All P (cond g b.older (blocks b))
        go true = all_first P b.older (option_to_list b.writing) h
        go false = h

pub stored_put : (image : Files) (last seq : ℕ) (spot : Spot) (b : Blocks) (ms : List Message) (m : Message) → fits seq spot b ≡ true → m.seq ≡ seq → seq ≡ last + 1 → StandsAt image spot m → AreStoredIn image b last ms
    → AreStoredIn image (put_at seq spot b) (last + 1) (ms ++ m ∷ [])
stored_put image last seq spot b ms m f is next stands h = record {
  whole = blocks_put (IsWhole image (last + 1)) seq spot b (All-weaker (IsWhole image last) (IsWhole image (last + 1)) (whole_more image last) (blocks b) h.whole) (written (on_or_begins seq spot b f));
  found = zip_push (IsThere image) b.placed ms (record { seq = seq; spot = spot }) m h.found (record { seq = is; stands = stands });
}
  where
    written : GoesOnOrBegins spot b → IsWhole image (last + 1) (grown spot)
    written (inl (k, w, file, at)) = grown_on image last spot m stands (is ∙ next) (fits_end seq spot b f) k file at (writing_has (IsWhole image last) b k w h.whole)
    written (inr at) = grown_first image last spot m stands (is ∙ next) (fits_end seq spot b f) at

-- ---- two images that hold the same

-- a message is the same bytes wherever it stands
stands_same : (x y : Files) (spot : Spot) (m : Message) → StandsAt x spot m → StandsAt y spot m → bytes_at x spot ≡ bytes_at y spot
stands_same x y spot m h k = whole x h ∙ sym (whole y k)
  where
    whole : (z : Files) → StandsAt z spot m → bytes_at z spot ≡ spelled_message m
    whole z s =
        sym (take-take spot.len spot.len (drop spot.at (z spot.file)) (omega arith)) ∙ spelled_whole z spot m s

pub same_put : (x y : Files) (seq : ℕ) (spot : Spot) (b : Blocks) (m : Message) → fits seq spot b ≡ true → StandsAt x spot m → StandsAt y spot m → All (IsSame y x) (blocks b) → All (IsSame y x) (blocks (put_at seq spot b))
same_put x y seq spot b m f h k same = blocks_put (IsSame y x) seq spot b same (go (on_or_begins seq spot b f))
  where
    joined : take spot.at (x spot.file) ≡ take spot.at (y spot.file) → IsSame y x (grown spot)
    joined front =
        take-add spot.at spot.len (x spot.file) ∙ ap (λ (l : Bytes). l ++ bytes_at x spot) front ∙ ap (λ (l : Bytes). take spot.at (y spot.file) ++ l) (stands_same x y spot m h k)
        ∙ sym (take-add spot.at spot.len (y spot.file))

    go : GoesOnOrBegins spot b → IsSame y x (grown spot)
    go (inl (w, is, file, at)) =
        let front : take w.end (x w.file) ≡ take w.end (y w.file) = writing_has (IsSame y x) b w is same in
        joined (subst (λ (n : ℕ). take n (x spot.file) ≡ take n (y spot.file)) at (subst (λ (f : ℕ). take w.end (x f) ≡ take w.end (y f)) file front))
    go (inr at) = joined (ap (λ (n : ℕ). take n (x spot.file)) at ∙ ap (λ (n : ℕ). take n (y spot.file)) (sym at))
