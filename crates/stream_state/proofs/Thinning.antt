-- What the limits keep of a stream whose messages go one by one, limit by limit.
use Rattle.std.proofs.Common.{◌≡◌, ℕ, ◌+◌, ◌<◌, ◌≤◌, ◌==◌, not, Bool, true, false, cond, Option, Some, None, List, [], ◌∷◌, length, refl, sym, ap, ◌∙◌, arith, subst, ◌⊎◌, inl, inr}
use Rattle.std.specs.Prelude.{find, is_some, nat_lt, option_map, sum_by, unwrap_or}
use Rattle.std.specs.List.{AllByRecursion}
use Rattle.std.proofs.lemmas.Bool.{true≢false, cases_lt, ltb-true, ltb-false}
use Rattle.js_base.specs.Bytes.{last_of}
use Rattle.js_model.specs.Counts.{first_message}
use Rattle.js_model.specs.Events.{message_at, without_messages}
use Rattle.js_model.specs.Lists.{Between}
use Rattle.js_model.specs.Streams.{over_limit, size}
use Rattle.js_model.specs.Trim.{fitting_at, max_messages, newest_at}
use Rattle.js_model.specs.declared.stream.Message.{Message}
use Rattle.js_model.specs.declared.stream.Stream.{Stream}
use Rattle.js_model.proofs.Members.{IsIn, found_in, in_part}
use Rattle.js_model.proofs.Named.{some_is}
use Rattle.js_model.proofs.Parts.{filter_part}
use Rattle.retention.specs.Over.{is_over_on, over_subject}
use Rattle.retention.proofs.Keeping.{is_crowded, fitting_at-without, fitting_at_few, last_of-without, last_of_few, newest_at-without, newest_at_few}
use Rattle.retention.proofs.Splitting.{split_at_found, without_it, IsSplit}
use Rattle.stored_stream.specs.Selecting.{next_passing}
use Rattle.stored_stream.proofs.Finding.{fails_before, find_from, member_found}
use Rattle.stored_stream.proofs.Limiting.{over_on_less}
use Rattle.followed_stream.specs.Attended.{without_seq, IsAttended}
use Rattle.followed_stream.proofs.Going.{without_is}
use Rattle.removals.specs.Removed.{Removed}
use Rattle.removals.proofs.Steps.{IsAbove}
use Rattle.stream_state.proofs.Drops.{from_last, pops, AllAbove, Drops, Pops}

-- ---- the limit of each subject

-- the limit keeps the same, and before the last that left none passes it
pub record Thins (last : Option ℕ) (old now : Stream) : Type 0 where
  pub same : newest_at old.config.max_msgs_per_subject now.messages ≡ newest_at old.config.max_msgs_per_subject old.messages
  pub before : (m : Message) → IsIn m now.messages → m.seq < unwrap_or last 0 → is_over_on now m.subject ≡ false

pub thins_none : (s : Stream) → Thins None s s
thins_none s = record { same = refl; before = λ m i l. absurd (omega arith) }

module _ (start : Removed) (last : Option ℕ) (old mid : Stream) (gone : Removed) (drops : Drops start last old mid gone) (h : Thins last old mid) where
  attended : IsAttended mid
  attended = drops.leaves.attended

  limit_same : mid.config.max_msgs_per_subject ≡ old.config.max_msgs_per_subject
  limit_same = ap (λ (s : Stream). s.config.max_msgs_per_subject) drops.leaves.rest

  -- the message that goes next
  pub record IsNext (n : ℕ) (m : Message) : Type 0 where
    pub found : over_subject mid ≡ Some m
    pub seq : m.seq ≡ n
    pub member : IsIn m mid.messages
    pub over : is_over_on mid m.subject ≡ true

  pub next : (n : ℕ) → Some n ≡ option_map (λ m. m.seq) (over_subject mid) → (m : Message) × IsNext n m
  next n e = go (over_subject mid) refl e
    where
      go : (o : Option Message) → over_subject mid ≡ o → Some n ≡ option_map (λ m. m.seq) o → (m : Message) × IsNext n m
      go None f k = absurd cc
      go (Some m) f k = let w = found_in (λ x. is_over_on mid x.subject) m mid.messages f in (m, record { found = f; seq = sym (some_is k); member = w.0; over = w.1 })

  pub thin_there : (n : ℕ) → Some n ≡ option_map (λ m. m.seq) (over_subject mid) → is_some (message_at mid n) ≡ true
  thin_there n e = let w = next n e in ap is_some (ap (λ k. find (λ x. x.seq == k) mid.messages) (sym w.1.seq) ∙ member_found 1 (mid.last + 1) w.0 mid.messages attended.sound.ascends w.1.member)

  pub thin_above : (n : ℕ) → Some n ≡ option_map (λ m. m.seq) (over_subject mid) → IsAbove last n
  thin_above n e = let w = next n e in subst (IsAbove last) w.1.seq (from_last start last 0 old mid gone w.0 drops w.1.member (at_least w.0 w.1 (cases_lt w.0.seq (unwrap_or last 0))))
    where
      at_least : (m : Message) → IsNext n m → (m.seq < unwrap_or last 0) ⊎ (unwrap_or last 0 ≤ m.seq) → unwrap_or last 0 ≤ m.seq
      at_least m w (inl l) = absurd (true≢false (sym w.over ∙ h.before m w.member l))
      at_least m w (inr l) = l

  pub thin_more : (n : ℕ) (new : Stream) → Some n ≡ option_map (λ m. m.seq) (over_subject mid) → new ≡ without_seq n mid → Thins (Some n) old new
  thin_more n new e is = record {
    same = ap (λ (s : Stream). newest_at old.config.max_msgs_per_subject s.messages) is ∙ kept_same ∙ h.same;
    before = λ m i l. ap (λ (s : Stream). is_over_on s m.subject) is ∙ fails m (in_part (filter_part (λ x. not (x.seq == n)) mid.messages) (subst (λ (s : Stream). IsIn m s.messages) is i)) l;
  }
    where
      first : Message
      first = (next n e).0

      own : IsNext n first
      own = (next n e).1

      fails : (m : Message) → IsIn m mid.messages → m.seq < n → is_over_on (without_seq n mid) m.subject ≡ false
      fails m i l =
          over_on_less mid (filter_part (λ x. not (x.seq == n)) mid.messages) m.subject
          (fails_before (λ x. is_over_on mid x.subject) 1 (mid.last + 1) first m mid.messages attended.sound.ascends own.found i (let q : first.seq ≡ n = own.seq in omega (arith, l)))

      goes : (front back : List Message) → IsSplit (is_crowded mid.config.max_msgs_per_subject mid.messages) mid.messages front first back
          → newest_at mid.config.max_msgs_per_subject (without_seq n mid).messages ≡ newest_at mid.config.max_msgs_per_subject mid.messages
      goes front back w =
          ap (newest_at mid.config.max_msgs_per_subject)
          (ap (λ (s : Stream). s.messages) (sym (without_is mid n first (ap (λ k. find (λ x. x.seq == k) mid.messages) (sym own.seq) ∙ member_found 1 (mid.last + 1) first mid.messages attended.sound.ascends own.member)))
          ∙ ap (λ (ms : List Message). (without_messages (record mid { messages = ms }) (first ∷ [])).messages) w.whole
          ∙ without_it 1 (mid.last + 1) front back first (subst (λ ms. Between (λ m. m.seq) 1 (mid.last + 1) ms) w.whole attended.sound.ascends))
          ∙ newest_at-without mid.config.max_msgs_per_subject front back first
          (subst (λ all. AllByRecursion (λ y. is_crowded mid.config.max_msgs_per_subject all y ≡ false) front) w.whole w.before)
          (subst (λ all. is_crowded mid.config.max_msgs_per_subject all first ≡ true) w.whole w.passes)
          ∙ ap (newest_at mid.config.max_msgs_per_subject) (sym w.whole)

      kept_same : newest_at old.config.max_msgs_per_subject (without_seq n mid).messages ≡ newest_at old.config.max_msgs_per_subject mid.messages
      kept_same =
          let w = split_at_found (is_crowded mid.config.max_msgs_per_subject mid.messages) first mid.messages own.found in
          subst (λ limit. newest_at limit (without_seq n mid).messages ≡ newest_at limit mid.messages) limit_same (goes w.0 w.1 w.2)

  pub thin_all : over_subject mid ≡ None → mid.messages ≡ newest_at old.config.max_msgs_per_subject old.messages
  thin_all e = sym (newest_at_few mid.config.max_msgs_per_subject mid.messages e) ∙ ap (λ limit. newest_at limit mid.messages) limit_same ∙ h.same

  -- the next one from the last on is the first of all
  pub from_next : option_map (λ m. m.seq) (over_subject mid) ≡ next_passing (λ m. is_over_on mid m.subject) mid.messages (unwrap_or last 0)
  from_next = ap (option_map (λ (m : Message). m.seq)) (sym (find_from (λ m. is_over_on mid m.subject) (unwrap_or last 0) mid.messages h.before))

none_mapped : (o : Option Message) → None ≡ option_map (λ m. m.seq) o → o ≡ None
none_mapped None k = refl
none_mapped (Some m) k = absurd cc

pub thin_none : (s : Stream) → None ≡ option_map (λ m. m.seq) (over_subject s) → over_subject s ≡ None
thin_none s e = none_mapped (over_subject s) e

-- ---- limits of which the first message goes

-- if a test says so, it is the first
pub first_if : (b : Bool) (n : ℕ) (ms : List Message) → Some n ≡ cond b (option_map (λ m. m.seq) (first_message ms)) None → (b ≡ true) × (option_map (λ m. m.seq) (first_message ms) ≡ Some n)
first_if true n ms e = (refl, sym e)
first_if false n ms e = absurd cc

-- none is over, or there is none
no_first : (ms : List Message) → None ≡ option_map (λ m. m.seq) (first_message ms) → ms ≡ []
no_first [] e = refl
no_first (m ∷ ms) e = absurd cc

pub count_more : (most : ℕ) (first : Message) (rest : List Message) → nat_lt most (length (first ∷ rest)) ≡ true → last_of most rest ≡ last_of most (first ∷ rest)
count_more most first rest e = last_of-without most first rest (ltb-true most (length (first ∷ rest)) e)

pub count_all : (most : ℕ) (ms : List Message) → None ≡ cond (nat_lt most (length ms)) (option_map (λ m. m.seq) (first_message ms)) None → ms ≡ last_of most ms
count_all most ms e = go (nat_lt most (length ms)) refl e
  where
    go : (b : Bool) → nat_lt most (length ms) ≡ b → None ≡ cond b (option_map (λ m. m.seq) (first_message ms)) None → ms ≡ last_of most ms
    go true q k = no_first ms k ∙ sym (last_of_few most [] (omega arith)) ∙ ap (last_of most) (sym (no_first ms k))
    go false q k = sym (last_of_few most ms (ltb-false most (length ms) q))

pub bytes_all : (limit : Option ℕ) (ms : List Message) → None ≡ cond (over_limit (sum_by size ms) limit) (option_map (λ m. m.seq) (first_message ms)) None → ms ≡ fitting_at limit ms
bytes_all limit ms e = go (over_limit (sum_by size ms) limit) refl e
  where
    none : (limit : Option ℕ) → [] ≡ fitting_at limit []
    none None = refl
    none (Some n) = refl

    go : (b : Bool) → over_limit (sum_by size ms) limit ≡ b → None ≡ cond b (option_map (λ m. m.seq) (first_message ms)) None → ms ≡ fitting_at limit ms
    go true q k = no_first ms k ∙ none limit ∙ ap (fitting_at limit) (sym (no_first ms k))
    go false q k = sym (fitting_at_few limit ms q)

module _ (start : Removed) (last : Option ℕ) (old mid : Stream) (gone : Removed) (drops : Drops start last old mid gone) (above : AllAbove last mid.messages) (n : ℕ) where
  -- the first one goes, if a test says so
  pub pops_if : (b : Bool) → Some n ≡ cond b (option_map (λ m. m.seq) (first_message mid.messages)) None → Pops last n mid (without_seq n mid)
  pops_if b e = pops last n mid drops.leaves.attended above (first_if b n mid.messages e).1

  pub count_step : Some n ≡ cond (nat_lt (max_messages mid) (length mid.messages)) (option_map (λ m. m.seq) (first_message mid.messages)) None
      → last_of (max_messages old) mid.messages ≡ last_of (max_messages old) old.messages → last_of (max_messages old) (without_seq n mid).messages ≡ last_of (max_messages old) old.messages
  count_step e same =
      let p = pops_if (nat_lt (max_messages mid) (length mid.messages)) e in
      let over : nat_lt (max_messages old) (length mid.messages) ≡ true
      = ap (λ (s : Stream). nat_lt (max_messages s) (length mid.messages)) (sym drops.leaves.rest) ∙ (first_if (nat_lt (max_messages mid) (length mid.messages)) n mid.messages e).0 in
      ap (last_of (max_messages old)) p.left
      ∙ count_more (max_messages old) p.first p.rest (subst (λ (ms : List Message). nat_lt (max_messages old) (length ms) ≡ true) p.whole over)
      ∙ ap (last_of (max_messages old)) (sym p.whole)
      ∙ same

  pub bytes_step : Some n ≡ cond (over_limit (sum_by size mid.messages) mid.config.max_bytes) (option_map (λ m. m.seq) (first_message mid.messages)) None
      → fitting_at old.config.max_bytes mid.messages ≡ fitting_at old.config.max_bytes old.messages → fitting_at old.config.max_bytes (without_seq n mid).messages ≡ fitting_at old.config.max_bytes old.messages
  bytes_step e same =
      let p = pops_if (over_limit (sum_by size mid.messages) mid.config.max_bytes) e in
      let over : over_limit (sum_by size mid.messages) old.config.max_bytes ≡ true
      = ap (λ (s : Stream). over_limit (sum_by size mid.messages) s.config.max_bytes) (sym drops.leaves.rest) ∙ (first_if (over_limit (sum_by size mid.messages) mid.config.max_bytes) n mid.messages e).0 in
      ap (fitting_at old.config.max_bytes) p.left
      ∙ fitting_at-without old.config.max_bytes p.first p.rest (subst (λ (ms : List Message). over_limit (sum_by size ms) old.config.max_bytes ≡ true) p.whole over)
      ∙ ap (fitting_at old.config.max_bytes) (sym p.whole)
      ∙ same

-- none goes any more
module _ (start : Removed) (last : Option ℕ) (old now : Stream) (gone : Removed) (drops : Drops start last old now gone) where
  pub counted_all : None ≡ cond (nat_lt (max_messages now) (length now.messages)) (option_map (λ m. m.seq) (first_message now.messages)) None
      → last_of (max_messages old) now.messages ≡ last_of (max_messages old) old.messages → now.messages ≡ last_of (max_messages old) old.messages
  counted_all e same =
      count_all (max_messages old) now.messages
      (e ∙ ap (λ (s : Stream). cond (nat_lt (max_messages s) (length now.messages)) (option_map (λ (m : Message). m.seq) (first_message now.messages)) None) drops.leaves.rest)
      ∙ same

  pub sized_all : None ≡ cond (over_limit (sum_by size now.messages) now.config.max_bytes) (option_map (λ m. m.seq) (first_message now.messages)) None
      → fitting_at old.config.max_bytes now.messages ≡ fitting_at old.config.max_bytes old.messages → now.messages ≡ fitting_at old.config.max_bytes old.messages
  sized_all e same =
      bytes_all old.config.max_bytes now.messages
      (e ∙ ap (λ (s : Stream). cond (over_limit (sum_by size now.messages) s.config.max_bytes) (option_map (λ (m : Message). m.seq) (first_message now.messages)) None) drops.leaves.rest)
      ∙ same

-- where there is no limit, all are kept
pub no_limit : (limit : Option ℕ) (ms : List Message) → is_some limit ≡ false → newest_at limit ms ≡ ms
no_limit None ms e = refl
no_limit (Some n) ms e = absurd (true≢false e)
