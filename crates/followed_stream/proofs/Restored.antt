-- A stream with its consumers as it was kept.
use Rattle.std.proofs.Common.{◌≡◌, ℕ, ◌+◌, ◌<◌, List, [], ◌∷◌, ◌++◌, get_or, length, take, sym, ap, subst, ◌∙◌}
use Rattle.std.specs.Prelude.{All}
use Rattle.std.proofs.lemmas.List.{map-append, take_more}
use Rattle.js_model.specs.declared.stream.Stream.{Stream}
use Rattle.js_model.specs.declared.consumer.Consumer.{Consumer}
use Rattle.followed_stream.specs.Attended.{IsAttended}
use Rattle.followed_stream.specs.Followers.{attended, AreFollowed, Following, IsCounted}
use Rattle.followed_stream.specs.Restoring.{IsRestorable}
use Rattle.followed_stream.proofs.Changing.{consumers_of}

-- ---- put together

module _ (kept stored : Stream) (fs : List Following) (h : IsRestorable kept) (is : stored ≡ record kept { consumers = [] }) (consumers : consumers_of fs ≡ kept.consumers) where
  pub restored : attended stored fs ≡ kept
  restored = ap (λ (s : Stream). attended s fs) is ∙ ap (λ (cs : List Consumer). record kept { consumers = cs }) consumers

  pub restored_attended : IsAttended (attended stored fs)
  restored_attended = subst IsAttended (sym restored) (record { sound = h.stored.sound; held = h.held; ordered = h.ordered })

  pub restored_followed : All (IsCounted stored.messages) fs → AreFollowed stored fs
  restored_followed counted = record { attended = restored_attended; counted = counted }

-- ---- one consumer after the other

pub one_more : (kept : List Consumer) (fs : List Following) (i : ℕ) (c : Consumer) (f : Following) → i < length kept → c ≡ get_or kept i c → consumers_of fs ≡ take i kept → f.consumer ≡ c → consumers_of (fs ++ f ∷ []) ≡ take (i + 1) kept
one_more kept fs i c f l here so_far is =
    map-append (λ (g : Following). g.consumer) fs (f ∷ [])
    ∙ ap (λ (cs : List Consumer). cs ++ f.consumer ∷ []) so_far
    ∙ ap (λ (d : Consumer). take i kept ++ d ∷ []) (is ∙ here)
    ∙ sym (take_more kept i c l)
