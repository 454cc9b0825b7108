-- A stream with another consumer at a place.
use Rattle.std.proofs.Common.{◌≡◌, ℕ, zero, suc, ◌||◌, ◌<◌, Bool, true, false, cond, List, [], ◌∷◌, Option, Some, None, get_or, set, length, map, refl, sym, ap, subst, ◌∙◌, arith}
use Rattle.std.specs.Prelude.{All, option_map, slice_get}
use Rattle.std.specs.List.{list_any}
use Rattle.std.proofs.lemmas.List.{length-map}
use Rattle.std.proofs.lemmas.List.Elements.{All-nil, All-cons, All-get_or, All-head, All-set, All-tail, All-weaker}
use Rattle.std.proofs.lemmas.Option.{slice_get-get_or, slice_get-map}
use Rattle.js_base.specs.Bytes.{Bytes, same}
use Rattle.js_model.specs.declared.stream.Message.{Message}
use Rattle.js_model.specs.declared.stream.Stream.{Stream}
use Rattle.js_model.specs.declared.consumer.Consumer.{Consumer}
use Rattle.js_model.specs.Retention.{needs}
use Rattle.js_model.specs.Streams.{by_name, in_place_of, takes, with_consumer}
use Rattle.js_model.proofs.Named.{in_place_of-names, none_some, placed_other, placed_same, same_is, same_self, some_is}
use Rattle.model_laws.proofs.SoundParts.{ordered_map}
use Rattle.consumer_need.specs.Stored.{HoldsStored}
use Rattle.followed_stream.specs.Attended.{AreNamedApart, IsAttended}
use Rattle.followed_stream.specs.Followers.{attended, AreFollowed, Following, IsCounted}
use Rattle.followed_stream.specs.Needing.{NeedSame}
use Rattle.followed_stream.proofs.Attending.{named, sound_with}

-- the consumers of a stream's followers
abbrev pub consumers_of : List Following → List Consumer
consumers_of fs = map (λ f. f.consumer) fs

-- ---- what stands at a place

-- another one has not its name
named_there : (gs : List Following) (i : ℕ) (d : Following) → i < length gs → by_name (consumers_of gs) (get_or gs i d).consumer.name ≡ None → ⊥
named_there [] i d l e = absurd (omega arith)
named_there (g ∷ gs) zero d l e = none_some (sym e ∙ ap (λ (b : Bool). cond b (Some g.consumer) (by_name (consumers_of gs) g.consumer.name)) (same_self g.consumer.name))
named_there (g ∷ gs) (suc i) d l e = go (same g.consumer.name (get_or gs i d).consumer.name) e (named_there gs i d (omega arith))
  where
    go : (b : Bool) → cond b (Some g.consumer) (by_name (consumers_of gs) (get_or gs i d).consumer.name) ≡ None → (by_name (consumers_of gs) (get_or gs i d).consumer.name ≡ None → ⊥) → ⊥
    go true k r = none_some (sym k)
    go false k r = r k

first_other : (g : Following) (gs : List Following) (i : ℕ) (d : Following) (name : Bytes) → by_name (consumers_of gs) g.consumer.name ≡ None → i < length gs → name ≡ (get_or gs i d).consumer.name → same g.consumer.name name ≡ false
first_other g gs i d name none l e = go (same g.consumer.name name) refl
  where
    go : (b : Bool) → same g.consumer.name name ≡ b → same g.consumer.name name ≡ false
    go true q = absurd (named_there gs i d l (ap (by_name (consumers_of gs)) (sym (same_is g.consumer.name name q ∙ e)) ∙ none))
    go false q = q

-- it is the one of its name
pub found_at : (fs : List Following) (i : ℕ) (d : Following) → AreNamedApart (consumers_of fs) → i < length fs → by_name (consumers_of fs) (get_or fs i d).consumer.name ≡ Some (get_or fs i d).consumer
found_at [] i d a l = absurd (omega arith)
found_at (g ∷ gs) zero d a l = ap (λ (b : Bool). cond b (Some g.consumer) (by_name (consumers_of gs) g.consumer.name)) (same_self g.consumer.name)
found_at (g ∷ gs) (suc i) d a l =
    ap (λ (b : Bool). cond b (Some g.consumer) (by_name (consumers_of gs) (get_or gs i d).consumer.name)) (first_other g gs i d (get_or gs i d).consumer.name a.0 (omega arith) refl) ∙ found_at gs i d a.1 (omega arith)

pub there : (fs : List Following) (i : ℕ) (d : Following) → i < length fs → slice_get (consumers_of fs) i ≡ Some (get_or fs i d).consumer
there fs i d l = slice_get-map (λ (f : Following). f.consumer) fs i ∙ ap (option_map (λ (f : Following). f.consumer)) (slice_get-get_or fs i d l)

-- what stands there, if there is one
pub got : (fs : List Following) (i : ℕ) (o : Option Following) → o ≡ slice_get fs i → slice_get (consumers_of fs) i ≡ option_map (λ f. f.consumer) o
got fs i o e = slice_get-map (λ (f : Following). f.consumer) fs i ∙ ap (option_map (λ (f : Following). f.consumer)) (sym e)

-- a place of a consumer is one of a follower
pub place_there : (s t : Stream) (fs : List Following) (i : ℕ) → attended s fs ≡ t → i < length t.consumers → i < length fs
place_there s t fs i e l = subst (λ n. i < n) (ap (λ (x : Stream). length x.consumers) (sym e) ∙ length-map fs (λ (f : Following). f.consumer)) l

-- what holds of each consumer holds of it
pub all_there : (P : Consumer → Type 0) (fs : List Following) (i : ℕ) (d : Following) → i < length fs → All P (consumers_of fs) → P (get_or fs i d).consumer
all_there P [] i d l a = absurd (omega arith)
all_there P (g ∷ gs) zero d l a = All-head P g.consumer (consumers_of gs) a
all_there P (g ∷ gs) (suc i) d l a = all_there P gs i d (omega arith) (All-tail P g.consumer (consumers_of gs) a)

-- ---- another one there

-- it may be the same
pub set_own : (fs : List Following) (i : ℕ) (d : Following) → set fs i (get_or fs i d) ≡ fs
set_own [] i d = refl
set_own (g ∷ gs) zero d = refl
set_own (g ∷ gs) (suc i) d = ap (λ (fs : List Following). g ∷ fs) (set_own gs i d)

-- where no other has the name, none is replaced
pub none_placed : (cs : List Consumer) (new : Consumer) → by_name cs new.name ≡ None → map (in_place_of new) cs ≡ cs
none_placed [] new h = refl
none_placed (c ∷ cs) new h = go (same c.name new.name) h (none_placed cs new)
  where
    go : (b : Bool) → cond b (Some c) (by_name cs new.name) ≡ None → (by_name cs new.name ≡ None → map (in_place_of new) cs ≡ cs) → cond b new c ∷ map (in_place_of new) cs ≡ c ∷ cs
    go true k r = absurd (none_some (sym k))
    go false k r = ap (λ (l : List Consumer). c ∷ l) (r k)

set_placed : (fs : List Following) (i : ℕ) (d new : Following) → AreNamedApart (consumers_of fs) → i < length fs → new.consumer.name ≡ (get_or fs i d).consumer.name
    → consumers_of (set fs i new) ≡ map (in_place_of new.consumer) (consumers_of fs)
set_placed [] i d new a l e = absurd (omega arith)
set_placed (g ∷ gs) zero d new a l e =
    ap (λ (cs : List Consumer). new.consumer ∷ cs) (sym (none_placed (consumers_of gs) new.consumer (ap (by_name (consumers_of gs)) e ∙ a.0)))
    ∙ ap (λ (c : Consumer). c ∷ map (in_place_of new.consumer) (consumers_of gs)) (sym (placed_same new.consumer g.consumer (sym e)))
set_placed (g ∷ gs) (suc i) d new a l e =
    ap (λ (c : Consumer). c ∷ consumers_of (set gs i new)) (sym (placed_other new.consumer g.consumer (first_other g gs i d new.consumer.name a.0 (omega arith) e)))
    ∙ ap (λ (cs : List Consumer). in_place_of new.consumer g.consumer ∷ cs) (set_placed gs i d new a.1 (omega arith) e)

-- ---- what the consumers need

module _ (new old : Consumer) (test : Consumer → Bool) (alike : test new ≡ test old) where
  none_tested : (ds : List Consumer) → by_name ds new.name ≡ None → list_any test (map (in_place_of new) ds) ≡ list_any test ds
  none_tested [] e = refl
  none_tested (c ∷ ds) e = go (same c.name new.name) e (none_tested ds)
    where
      go : (b : Bool) → cond b (Some c) (by_name ds new.name) ≡ None → (by_name ds new.name ≡ None → list_any test (map (in_place_of new) ds) ≡ list_any test ds)
          → (test (cond b new c) || list_any test (map (in_place_of new) ds)) ≡ (test c || list_any test ds)
      go true k r = absurd (none_some (sym k))
      go false k r = ap (λ (b : Bool). test c || b) (r k)

  any_placed : (ds : List Consumer) → AreNamedApart ds → by_name ds new.name ≡ Some old → list_any test (map (in_place_of new) ds) ≡ list_any test ds
  any_placed [] a e = refl
  any_placed (c ∷ ds) a e = go (same c.name new.name) refl e (none_tested ds) (any_placed ds a.1)
    where
      go : (b : Bool) → same c.name new.name ≡ b → cond b (Some c) (by_name ds new.name) ≡ Some old
          → (by_name ds new.name ≡ None → list_any test (map (in_place_of new) ds) ≡ list_any test ds) → (by_name ds new.name ≡ Some old → list_any test (map (in_place_of new) ds) ≡ list_any test ds)
          → (test (cond b new c) || list_any test (map (in_place_of new) ds)) ≡ (test c || list_any test ds)
      go true q k none more =
          let is : c ≡ old = some_is k in
          ap (λ (b : Bool). b || list_any test (map (in_place_of new) ds)) (alike ∙ ap test (sym is))
          ∙ ap (λ (b : Bool). test c || b) (none (ap (by_name ds) (sym (same_is c.name new.name q)) ∙ a.0))
      go false q k none more = ap (λ (b : Bool). test c || b) (more k)

-- consumers of which one has changed need and take the same of a message of which it needs and takes the same
pub need_same_placed : (m : Message) (new old : Consumer) (cs : List Consumer) → AreNamedApart cs → by_name cs new.name ≡ Some old → needs new m ≡ needs old m → takes new m ≡ takes old m → NeedSame m (map (in_place_of new) cs) cs
need_same_placed m new old cs named found n t = record { needed = any_placed new old (λ c. needs c m) n cs named found; taken = any_placed new old (λ c. takes c m) t cs named found }

-- ---- a follower at its place

-- what becomes of one consumer: its name, what is stored, and how many messages are still to be delivered
pub record Turns (s : Stream) (old new : Following) : Type 0 where
  pub name : new.consumer.name ≡ old.consumer.name
  pub held : HoldsStored s old.consumer → HoldsStored s new.consumer
  pub counted : IsCounted s.messages old → IsCounted s.messages new

module _ (s : Stream) (fs : List Following) (h : AreFollowed s fs) (i : ℕ) (d : Following) (within : i < length fs) (new : Following) (turns : Turns (attended s fs) (get_or fs i d) new) where
  -- the stream with it
  pub changed : attended s (set fs i new) ≡ with_consumer (attended s fs) new.consumer
  changed = ap (λ (cs : List Consumer). record s { consumers = cs }) (set_placed fs i d new (named (attended s fs) h.attended) within turns.name)

  held_new : (cs : List Consumer) → All (HoldsStored (attended s fs)) cs → All (HoldsStored (attended s fs)) (map (in_place_of new.consumer) cs)
  held_new [] a = All-nil (HoldsStored (attended s fs))
  held_new (c ∷ cs) a =
      All-cons (HoldsStored (attended s fs)) (in_place_of new.consumer c) (map (in_place_of new.consumer) cs) (one (same c.name new.consumer.name) (All-head (HoldsStored (attended s fs)) c cs a))
      (held_new cs (All-tail (HoldsStored (attended s fs)) c cs a))
    where
      one : (b : Bool) → HoldsStored (attended s fs) c → HoldsStored (attended s fs) (cond b new.consumer c)
      one true k = turns.held (all_there (HoldsStored (attended s fs)) fs i d within h.attended.held)
      one false k = k

  pub attended_changed : IsAttended (with_consumer (attended s fs) new.consumer)
  attended_changed = record {
    sound = sound_with (attended s fs) (map (in_place_of new.consumer) (attended s fs).consumers) h.attended.sound;
    held = All-weaker (HoldsStored (attended s fs)) (HoldsStored (with_consumer (attended s fs) new.consumer)) (λ c k. record { picks = k.picks; pending = k.pending; given_up = k.given_up }) (map (in_place_of new.consumer) (attended s fs).consumers)
        (held_new (attended s fs).consumers h.attended.held);
    ordered = ordered_map (in_place_of new.consumer) (λ c. (in_place_of-names new.consumer).name c) (attended s fs).consumers h.attended.ordered;
  }

  pub followed_changed : AreFollowed s (set fs i new)
  followed_changed = record {
    attended = subst IsAttended (sym changed) attended_changed;
    counted = All-set (IsCounted s.messages) fs i new (turns.counted (All-get_or (IsCounted s.messages) fs i d within h.counted)) h.counted;
  }

  -- messages of which it needs and takes the same are needed as before
  pub need_same_there : (m : Message) → needs new.consumer m ≡ needs (get_or fs i d).consumer m → takes new.consumer m ≡ takes (get_or fs i d).consumer m → NeedSame m (with_consumer (attended s fs) new.consumer).consumers (attended s fs).consumers
  need_same_there m n t =
      need_same_placed m new.consumer (get_or fs i d).consumer (consumers_of fs) (named (attended s fs) h.attended) (ap (by_name (consumers_of fs)) turns.name ∙ found_at fs i d (named (attended s fs) h.attended) within) n t
