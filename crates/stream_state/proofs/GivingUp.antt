-- Which consumers give something up once messages are gone that are too old.
use Rattle.std.proofs.Common.{◌≡◌, ℕ, Bool, true, false, cond, List, [], ◌∷◌, map, Some, None, refl, sym, ap, ◌∙◌}
use Rattle.std.specs.Prelude.{filter, option_map}
use Rattle.std.specs.List.{list_any}
use Rattle.std.proofs.lemmas.Bool.{true≢false}
use Rattle.js_base.specs.Bytes.{Bytes, has, same}
use Rattle.js_model.specs.Advance.{is_spent}
use Rattle.js_model.specs.Streams.{by_name, confined, only, seqs}
use Rattle.js_model.specs.declared.consumer.Consumer.{Consumer}
use Rattle.js_model.specs.declared.stream.Message.{Message}
use Rattle.js_model.specs.declared.stream.Stream.{Stream}
use Rattle.js_model.proofs.Members.{IsIn, here, there}
use Rattle.js_model.proofs.Named.{by_name-map, same_is, same_self}
use Rattle.js_model.proofs.Parts.{filter_part, part_any}
use Rattle.followed_stream.specs.Asked.{gives_up}
use Rattle.followed_stream.specs.Attended.{AreNamedApart, IsAttended}
use Rattle.followed_stream.proofs.Ordered.{ordered_apart}
use Rattle.stream_state.specs.GivingUp.{giving_up}

-- a delivery of the consumer is given up
abbrev spends : ℕ → Consumer → Bool
spends now c = list_any (is_spent now c) c.pending

-- each is found by its name
found_itself : (cs : List Consumer) → AreNamedApart cs → (c : Consumer) → IsIn c cs → by_name cs c.name ≡ Some c
found_itself [] h c i = elim i [ ]
found_itself (d ∷ ds) h c here = ap (λ b. cond b (Some d) (by_name ds d.name)) (same_self d.name)
found_itself (d ∷ ds) h c (there i) = go (same d.name c.name) refl (found_itself ds h.1 c i)
  where
    go : (b : Bool) → same d.name c.name ≡ b → by_name ds c.name ≡ Some c → cond b (Some d) (by_name ds c.name) ≡ Some c
    go true e k = absurd (none_some (sym h.0 ∙ ap (by_name ds) (same_is d.name c.name e) ∙ k))
      where
        none_some : None ≡ Some c → ⊥
        none_some q = cc
    go false e k = k

module _ (now : ℕ) (kept : List ℕ) where
  -- what gives something up with fewer messages does with all
  spends_less : (c : Consumer) → spends now (confined kept c) ≡ true → spends now c ≡ true
  spends_less c e = part_any (is_spent now c) (filter_part (λ p. has kept p.seq) c.pending) e

  those_left : (all ds : List Consumer) → ((d : Consumer) → IsIn d ds → by_name all d.name ≡ Some (confined kept d))
      → filter (λ name. gives_up now (by_name all name)) (giving_up now ds) ≡ giving_up now (map (confined kept) ds)
  those_left all [] h = refl
  those_left all (d ∷ ds) h = go (spends now d) refl (spends now (confined kept d)) refl (those_left all ds (λ c i. h c (there i)))
    where
      test : Bytes → Bool
      test name = gives_up now (by_name all name)

      left : List Consumer
      left = filter (spends now) ds

      after : List Consumer
      after = filter (spends now) (map (confined kept) ds)

      go : (a : Bool) → spends now d ≡ a → (b : Bool) → spends now (confined kept d) ≡ b → filter test (map (λ c. c.name) left) ≡ map (λ c. c.name) after
          → filter test (map (λ c. c.name) (cond a (d ∷ left) left)) ≡ map (λ c. c.name) (cond b (confined kept d ∷ after) after)
      go true e b f k =
          ap (λ (o : Bool). cond o (d.name ∷ filter test (map (λ c. c.name) left)) (filter test (map (λ c. c.name) left))) (ap (gives_up now) (h d here) ∙ f)
          ∙ own b
        where
          own : (b : Bool) → cond b (d.name ∷ filter test (map (λ c. c.name) left)) (filter test (map (λ c. c.name) left)) ≡ map (λ c. c.name) (cond b (confined kept d ∷ after) after)
          own true = ap (λ l. d.name ∷ l) k
          own false = k
      go false e true f k = absurd (true≢false (sym (spends_less d f) ∙ e))
      go false e false f k = k

-- of the names of those that do, those stay that still do
pub giving_up_left : (now : ℕ) (s : Stream) (ms : List Message) → IsAttended s → filter (λ name. gives_up now (by_name (only s ms).consumers name)) (giving_up now s.consumers) ≡ giving_up now (only s ms).consumers
giving_up_left now s ms h =
    those_left now (seqs ms) (map (confined (seqs ms)) s.consumers) s.consumers
    (λ d i. by_name-map (confined (seqs ms)) (record { name = λ c. refl }) s.consumers d.name ∙ ap (option_map (confined (seqs ms))) (found_itself s.consumers (ordered_apart s.consumers h.ordered) d i))
