-- Consumers in the order of their names have different ones.
use Rattle.std.proofs.Common.{◌≡◌, true, false, cond, List, [], ◌∷◌, Some, None, refl, sym, ap, ◌∙◌}
use Rattle.std.specs.Prelude.{All}
use Rattle.std.specs.declared.cmp.Ordering.{Ordering}
use Rattle.std.specs.declared.cmp.Ordering.TheVariants.{Less, Equal, Greater}
use Rattle.std.specs.Ordering.{is_eq, is_lt, nat_cmp}
use Rattle.std.specs.Cmp.Lexicographic.{slice_cmp}
use Rattle.std.proofs.lemmas.Bool.{true≢false}
use Rattle.std.proofs.lemmas.List.Elements.{All-head, All-tail}
use Rattle.std.proofs.lemmas.Map.Text.{is_eq-slice_cmp}
use Rattle.js_base.specs.Bytes.{Bytes, same}
use Rattle.js_model.specs.declared.consumer.Consumer.{Consumer}
use Rattle.js_model.specs.Consumers.{is_before}
use Rattle.js_model.specs.Streams.{by_name}
use Rattle.model_laws.specs.Sound.{AreOrdered}
use Rattle.stored_stream.proofs.Lists.{same_flip}
use Rattle.followed_stream.specs.Attended.{AreNamedApart}

less_apart : (o : Ordering) → is_lt o ≡ true → is_eq o ≡ false
less_apart Less h = refl
less_apart Equal h = absurd (true≢false (sym h))
less_apart Greater h = refl

pub before_apart : (a b : Bytes) → is_before a b ≡ true → same b a ≡ false
before_apart a b h = same_flip b a ∙ sym (is_eq-slice_cmp a b) ∙ less_apart (slice_cmp nat_cmp a b) h

none_named : (name : Bytes) (cs : List Consumer) → All (λ d. is_before name d.name ≡ true) cs → by_name cs name ≡ None
none_named name [] h = refl
none_named name (d ∷ ds) h =
    ap (λ b. cond b (Some d) (by_name ds name)) (before_apart name d.name (All-head (λ (c : Consumer). is_before name c.name ≡ true) d ds h))
    ∙ none_named name ds (All-tail (λ (c : Consumer). is_before name c.name ≡ true) d ds h)

pub ordered_apart : (cs : List Consumer) → AreOrdered cs → AreNamedApart cs
ordered_apart [] h = tt
ordered_apart (c ∷ cs) h = (none_named c.name cs h.0, ordered_apart cs h.1)
