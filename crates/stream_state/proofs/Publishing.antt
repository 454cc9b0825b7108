-- What a publish, a purge and a delete note of what leaves.
use Rattle.std.proofs.Common.{◌≡◌, ℕ, ◌+◌, true, Option, Some, None, List, length, refl, ap, ◌∙◌, arith, subst}
use Rattle.std.specs.Prelude.{All, is_some}
use Rattle.std.proofs.lemmas.List.{length_push}
use Rattle.js_base.specs.Bytes.{Bytes, has}
use Rattle.js_model.specs.Events.{message_at, purge_list, with_message}
use Rattle.js_model.specs.Lists.{Between, IsPart}
use Rattle.js_model.specs.Streams.{seqs}
use Rattle.js_model.specs.Verdict.{message_of}
use Rattle.js_model.specs.declared.event.Publish.{Publish}
use Rattle.js_model.specs.declared.stream.Message.{Message}
use Rattle.js_model.specs.declared.stream.Stream.{Stream}
use Rattle.js_model.proofs.Members.{in_part}
use Rattle.js_model.proofs.Parts.{between_map, filter_part, part_between, part_map, part_trans, take_part}
use Rattle.effects.proofs.Removing.{in_has}
use Rattle.stored_stream.proofs.Sounding.{with_message_is}
use Rattle.followed_stream.specs.Attended.{without_seq, IsAttended}
use Rattle.followed_stream.proofs.Holding.{all_from_in}
use Rattle.removals.specs.Leaving.{follows, leaving, trim_ranges}
use Rattle.removals.specs.Removed.{Notes, NotesOne, Removed}
use Rattle.stream_state.specs.Removing.{HasRoom, HasRoomForOne}
use Rattle.stream_state.proofs.Drops.{drops_more, drops_none, drops_noted}

-- ---- a publish

pub last_of_new : (s t : Stream) (p : Publish) (n : ℕ) → t ≡ with_message s p → n ≡ t.last → n ≡ s.last + 1
last_of_new s t p n e k = k ∙ ap (λ (x : Stream). x.last) (e ∙ with_message_is s p)

pub published_room : (s t : Stream) (p : Publish) (gone skipping : Removed) (below : Option ℕ) → t ≡ with_message s p → skipping ≡ record gone { below = below } → HasRoomForOne s gone → HasRoom t skipping
published_room s t p gone skipping below e k room =
    let more : length t.messages ≡ length s.messages + 1 = ap (λ (x : Stream). length x.messages) (e ∙ with_message_is s p) ∙ length_push s.messages (message_of s p) in
    let spare : skipping.spare ≡ gone.spare = ap (λ (r : Removed). r.spare) k in
    omega (arith, room, more, spare)

pub published_noted : (s t : Stream) (p : Publish) (gone skipping after : Removed) (n : ℕ) → t ≡ with_message s p → n ≡ s.last + 1 → skipping ≡ record gone { below = Some n } → Notes skipping (trim_ranges skipping.below t) after
    → Notes (record gone { below = Some (s.last + 1) }) (trim_ranges (Some (s.last + 1)) (with_message s p)) after
published_noted s t p gone skipping after n e own k h =
    subst (λ (x : Stream). Notes (record gone { below = Some (s.last + 1) }) (trim_ranges (Some (s.last + 1)) x) after) e
    (subst (λ m. Notes (record gone { below = Some m }) (trim_ranges (Some m) t) after) own
    (subst (λ (r : Removed). Notes r (trim_ranges r.below t) after) k h))

-- ---- a purge

pub purge_part : (s : Stream) (pattern : Bytes) (below keep : Option ℕ) → IsPart (purge_list s pattern below keep) s.messages
purge_part s pattern below None = filter_part _ s.messages
purge_part s pattern below (Some keep) = part_trans (take_part _ _) (filter_part _ s.messages)

pub purge_ascends : (s : Stream) (list : List Message) → IsAttended s → IsPart list s.messages → Between (λ n. n) 1 (s.last + 1) (seqs list)
purge_ascends s list h p = between_map (λ n. n) (λ m. m.seq) 1 (s.last + 1) list (part_between (λ m. m.seq) 1 (s.last + 1) p h.sound.ascends)

pub purge_there : (s : Stream) (list : List Message) → IsPart list s.messages → All (λ n. has (seqs s.messages) n ≡ true) (seqs list)
purge_there s list p = all_from_in (λ n. has (seqs s.messages) n ≡ true) (seqs list) (λ n i. in_has n (seqs s.messages) (in_part (part_map (λ m. m.seq) p) i))

-- ---- a delete

pub deleted_noted : (s t : Stream) (n : ℕ) (gone after : Removed) → IsAttended s → is_some (message_at s n) ≡ true → t ≡ without_seq n s → IsAttended t → NotesOne n (follows None s.messages n) gone after
    → Notes gone (leaving gone.below s.messages t.messages) after
deleted_noted s t n gone after h there_is is attended one =
    drops_noted gone (Some n) s t after t.messages (drops_more gone None s s t gone after n h (drops_none gone s h) there_is tt is attended one) refl
