-- What is asked of a stream, part by part.
use Rattle.std.proofs.Common.{◌≡◌, ℕ, ◌+◌, ◌&&◌, Bool, true, false, List, [], ◌∷◌, refl, sym, ap, ◌∙◌}
use Rattle.std.specs.Prelude.{All}
use Rattle.std.specs.List.{list_all}
use Rattle.std.proofs.lemmas.Bool.{and_parts, and_from}
use Rattle.std.proofs.lemmas.List.Elements.{All-head, All-tail}
use Rattle.js_base.specs.Bytes.{same}
use Rattle.js_model.specs.declared.stream.Message.{Message}
use Rattle.js_model.specs.declared.stream.State.TheVariants.{Live}
use Rattle.js_model.specs.declared.consumer.Consumer.{Consumer}
use Rattle.js_model.specs.Configs.{is_stream_config, is_consumer_config}
use Rattle.js_model.specs.Consumers.{is_before}
use Rattle.js_model.specs.Streams.{seqs}
use Rattle.model_laws.specs.Sound.{AreOrdered}
use Rattle.model_laws.specs.SoundTests.{are_between, is_well_stored, is_well_stored_consumer, are_ascending, are_placed, are_allowed, are_different, are_ordered}
use Rattle.model_laws.specs.BoundTests.{is_bounded}
use Rattle.model_laws.proofs.SoundTests.{stored_test, all_decide, true_decides}
use Rattle.model_laws.proofs.BoundTests.{bounded_test}
use Rattle.effects.specs.declared.durable.Body.{Body}
use Rattle.effects.specs.Durables.{stream_of}
use Rattle.effects.specs.Folding.{live}
use Rattle.durable_checks.specs.Storable.{IsConfigured, IsFormedBody, IsStorable}
use Rattle.durable_checks.specs.Parts.{is_sound_in}

-- ---- consumers

sound_same : (a b x y z : Bool) → a ≡ true → b ≡ true → (a && b && x && y && z) ≡ (x && y && z)
sound_same a b x y z e f = ap (λ (c : Bool). c && b && x && y && z) e ∙ ap (λ (c : Bool). c && x && y && z) f

-- whose configurations are as they should be
consumers_same : (messages : List Message) (last : ℕ) (cs : List Consumer) → All IsConfigured cs → list_all (is_well_stored_consumer messages last) cs ≡ list_all (is_sound_in (seqs messages) last) cs
consumers_same messages last [] h = refl
consumers_same messages last (c ∷ cs) h =
    let k = All-head IsConfigured c cs h in
    ap (λ (b : Bool). b && list_all (is_well_stored_consumer messages last) cs) (sound_same (is_consumer_config c.config) (same c.config.name c.name) (are_ascending last c) (are_placed messages c) (are_allowed c) k.config k.named)
    ∙ ap (λ (b : Bool). is_sound_in (seqs messages) last c && b) (consumers_same messages last cs (All-tail IsConfigured c cs h))

ordered_true : (cs : List Consumer) → AreOrdered cs → are_ordered cs ≡ true
ordered_true [] h = refl
ordered_true (c ∷ cs) h =
    and_from (list_all (λ d. is_before c.name d.name) cs) (are_ordered cs)
    ((all_decide (λ d. is_before c.name d.name ≡ true) (λ d. is_before c.name d.name) (λ d. true_decides (is_before c.name d.name)) cs).1 h.0) (ordered_true cs h.1)

-- ---- all of them

shuffled : (a x y b z : Bool) → a ≡ true → b ≡ true → (a && x && y && b && z) ≡ (x && (z && y))
shuffled a x y b z e f = ap (λ (c : Bool). c && x && y && b && z) e ∙ ap (λ (c : Bool). x && y && c && z) f ∙ go x y z
  where
    go : (x y z : Bool) → (x && y && true && z) ≡ (x && (z && y))
    go true true true = refl
    go true true false = refl
    go true false true = refl
    go true false false = refl
    go false true true = refl
    go false true false = refl
    go false false true = refl
    go false false false = refl

module _ (i : ℕ) (b : Body) (f : IsFormedBody b) where
  abbrev between : Bool
  between = are_between (λ m. m.seq) 1 (b.last + 1) b.messages

  abbrev sound : Bool
  sound = list_all (is_sound_in (seqs b.messages) b.last) b.consumers

  whole : is_well_stored (Live (stream_of i b)) ≡ (between && (are_different b.ids && sound))
  whole =
      shuffled (is_stream_config b.config) between (list_all (is_well_stored_consumer b.messages b.last) b.consumers) (are_ordered b.consumers) (are_different b.ids) f.config (ordered_true b.consumers f.ordered)
      ∙ ap (λ (t : Bool). between && (are_different b.ids && t)) (consumers_same b.messages b.last b.consumers f.consumers)

  pub storable_from : is_bounded (Live (stream_of i b)) ≡ true → between ≡ true → are_different b.ids ≡ true → sound ≡ true → IsStorable (live i b)
  storable_from bounded ascends different all = record {
    stored = (stored_test (Live (stream_of i b))).0 (whole ∙ and_from between (are_different b.ids && sound) ascends (and_from (are_different b.ids) sound different all));
    bounded = (bounded_test (Live (stream_of i b))).0 bounded;
  }

  pub storable_bounded : IsStorable (live i b) → is_bounded (Live (stream_of i b)) ≡ true
  storable_bounded h = (bounded_test (Live (stream_of i b))).1 h.bounded

  parts : IsStorable (live i b) → (between ≡ true) × ((are_different b.ids && sound) ≡ true)
  parts h = and_parts between (are_different b.ids && sound) (sym whole ∙ (stored_test (Live (stream_of i b))).1 h.stored)

  pub storable_between : IsStorable (live i b) → between ≡ true
  storable_between h = (parts h).0

  pub storable_different : IsStorable (live i b) → are_different b.ids ≡ true
  storable_different h = (and_parts (are_different b.ids) sound (parts h).1).0

  pub storable_sound : IsStorable (live i b) → sound ≡ true
  storable_sound h = (and_parts (are_different b.ids) sound (parts h).1).1
