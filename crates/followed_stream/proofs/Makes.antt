-- A stream with one consumer more, and with one less.
use Rattle.std.proofs.Common.{◌≡◌, ℕ, zero, suc, ◌+◌, ◌<◌, Bool, true, false, cond, not, List, [], ◌∷◌, Some, None, get_or, drop, length, take, refl, sym, ap, subst, ◌∙◌, arith}
use Rattle.std.specs.Prelude.{All, filter}
use Rattle.std.specs.List.{insert, prefix_len, remove}
use Rattle.std.proofs.lemmas.List.Elements.{All-append, All-cons, All-drop, All-filter, All-take, All-weaker}
use Rattle.js_base.specs.Bytes.{Bytes, same}
use Rattle.js_model.specs.declared.stream.Stream.{Stream}
use Rattle.js_model.specs.declared.consumer.Consumer.{Consumer}
use Rattle.js_model.specs.Consumers.{is_before, with_new}
use Rattle.js_model.specs.Streams.{by_name}
use Rattle.js_model.proofs.Named.{none_some, same_is, same_self}
use Rattle.model_laws.proofs.NameOrder.{ordered_filter, ordered_with_new, All-with_new}
use Rattle.consumer_need.specs.Stored.{HoldsStored}
use Rattle.followed_stream.specs.Attended.{AreNamedApart, IsAttended}
use Rattle.followed_stream.specs.Followers.{attended, AreFollowed, Following, IsCounted}
use Rattle.followed_stream.proofs.Attending.{named, sound_with}
use Rattle.followed_stream.proofs.Changing.{consumers_of, found_at}

one_more : (n : ℕ) → 1 + n ≡ suc n
one_more n = omega arith

-- ---- one more

-- how many come before a name
abbrev pub before_name : Bytes → List Following → ℕ
before_name name fs = prefix_len (λ f. is_before f.consumer.name name) fs

inserted : (fs : List Following) (new : Following) → consumers_of (insert fs (before_name new.consumer.name fs) new) ≡ with_new (consumers_of fs) new.consumer
inserted [] new = refl
inserted (f ∷ fs) new = go (is_before f.consumer.name new.consumer.name) (inserted fs new)
  where
    k : ℕ
    k = before_name new.consumer.name fs

    go : (b : Bool) → consumers_of (insert fs k new) ≡ with_new (consumers_of fs) new.consumer
        → consumers_of (insert (f ∷ fs) (cond b (1 + k) 0) new) ≡ cond b (f.consumer ∷ with_new (consumers_of fs) new.consumer) (new.consumer ∷ f.consumer ∷ consumers_of fs)
    go true h = rw one_more (ap (λ (cs : List Consumer). f.consumer ∷ cs) h)
    go false h = refl

holds_with : (s : Stream) (cs : List Consumer) (c : Consumer) → HoldsStored s c → HoldsStored (record s { consumers = cs }) c
holds_with s cs c h = record { picks = h.picks; pending = h.pending; given_up = h.given_up }

all_held : (s : Stream) (cs ds : List Consumer) → All (HoldsStored s) ds → All (HoldsStored (record s { consumers = cs })) ds
all_held s cs ds h = All-weaker (HoldsStored s) (HoldsStored (record s { consumers = cs })) (holds_with s cs) ds h

module _ (s : Stream) (fs : List Following) (h : AreFollowed s fs) (new : Following) where
  pub made : attended s (insert fs (before_name new.consumer.name fs) new) ≡ record (attended s fs) { consumers = with_new (attended s fs).consumers new.consumer }
  made = ap (λ (cs : List Consumer). record s { consumers = cs }) (inserted fs new)

  pub followed_made : HoldsStored (attended s fs) new.consumer → by_name (attended s fs).consumers new.consumer.name ≡ None → IsCounted s.messages new → AreFollowed s (insert fs (before_name new.consumer.name fs) new)
  followed_made holds absent counted = record {
    attended = subst IsAttended (sym made) (record {
      sound = sound_with (attended s fs) (with_new (consumers_of fs) new.consumer) h.attended.sound;
      held = all_held (attended s fs) (with_new (consumers_of fs) new.consumer) (with_new (consumers_of fs) new.consumer) (All-with_new (HoldsStored (attended s fs)) (consumers_of fs) new.consumer holds h.attended.held);
      ordered = ordered_with_new (consumers_of fs) new.consumer absent h.attended.ordered;
    });
    counted = All-append (IsCounted s.messages) (take k fs) (new ∷ drop k fs) (All-take (IsCounted s.messages) k fs h.counted)
        (All-cons (IsCounted s.messages) new (drop k fs) counted (All-drop (IsCounted s.messages) k fs h.counted));
  }
    where
      k : ℕ
      k = before_name new.consumer.name fs

-- ---- one less

-- where no other has the name, none goes
none_goes : (cs : List Consumer) (name : Bytes) → by_name cs name ≡ None → filter (λ d. not (same d.name name)) cs ≡ cs
none_goes [] name h = refl
none_goes (c ∷ cs) name h = go (same c.name name) h (none_goes cs name)
  where
    go : (b : Bool) → cond b (Some c) (by_name cs name) ≡ None → (by_name cs name ≡ None → filter (λ d. not (same d.name name)) cs ≡ cs)
        → cond (not b) (c ∷ filter (λ d. not (same d.name name)) cs) (filter (λ d. not (same d.name name)) cs) ≡ c ∷ cs
    go true k r = absurd (none_some (sym k))
    go false k r = ap (λ (ds : List Consumer). c ∷ ds) (r k)

removed : (fs : List Following) (i : ℕ) (d : Following) → AreNamedApart (consumers_of fs) → i < length fs → consumers_of (remove fs i) ≡ filter (λ e. not (same e.name (get_or fs i d).consumer.name)) (consumers_of fs)
removed [] i d a l = absurd (omega arith)
removed (g ∷ gs) zero d a l =
    sym (ap (λ (b : Bool). cond (not b) (g.consumer ∷ rest) rest) (same_self g.consumer.name) ∙ none_goes (consumers_of gs) g.consumer.name a.0)
  where
    rest : List Consumer
    rest = filter (λ e. not (same e.name g.consumer.name)) (consumers_of gs)
removed (g ∷ gs) (suc i) d a l =
    ap (λ (cs : List Consumer). g.consumer ∷ cs) (removed gs i d a.1 (omega arith))
    ∙ sym (ap (λ (b : Bool). cond (not b) (g.consumer ∷ rest) rest) (other (same g.consumer.name name) refl))
  where
    name : Bytes
    name = (get_or gs i d).consumer.name

    rest : List Consumer
    rest = filter (λ e. not (same e.name name)) (consumers_of gs)

    other : (b : Bool) → same g.consumer.name name ≡ b → same g.consumer.name name ≡ false
    other true q = absurd (none_some (sym a.0 ∙ ap (by_name (consumers_of gs)) (same_is g.consumer.name name q) ∙ found_at gs i d a.1 (omega arith)))
    other false q = q

module _ (s : Stream) (fs : List Following) (h : AreFollowed s fs) (i : ℕ) (d : Following) (within : i < length fs) where
  abbrev name : Bytes
  name = (get_or fs i d).consumer.name

  abbrev left : List Consumer
  left = filter (λ e. not (same e.name name)) (consumers_of fs)

  pub dropped : attended s (remove fs i) ≡ record (attended s fs) { consumers = filter (λ e. not (same e.name (get_or fs i d).consumer.name)) (attended s fs).consumers }
  dropped = ap (λ (cs : List Consumer). record s { consumers = cs }) (removed fs i d (named (attended s fs) h.attended) within)

  pub followed_dropped : AreFollowed s (remove fs i)
  followed_dropped = record {
    attended = subst IsAttended (sym dropped) (record {
      sound = sound_with (attended s fs) left h.attended.sound;
      held = all_held (attended s fs) left left (All-filter (λ e. not (same e.name name)) (HoldsStored (attended s fs)) (consumers_of fs) h.attended.held);
      ordered = ordered_filter (λ e. not (same e.name name)) (consumers_of fs) h.attended.ordered;
    });
    counted = All-append (IsCounted s.messages) (take i fs) (drop (suc i) fs) (All-take (IsCounted s.messages) i fs h.counted) (All-drop (IsCounted s.messages) (suc i) fs h.counted);
  }
