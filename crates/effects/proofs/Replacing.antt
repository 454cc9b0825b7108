-- What a record of one consumer makes of what a volume holds.
use Rattle.std.proofs.Common.{◌≡◌, Bool, true, false, cond, List, [], ◌∷◌, ◌++◌, map, refl, sym, ap, ◌∙◌, subst, ◌⊎◌, inl, inr}
use Rattle.std.specs.Prelude.{Option, Some, option_map}
use Rattle.std.proofs.lemmas.Bool.{true≢false}
use Rattle.js_base.specs.Bytes.{Bytes, same}
use Rattle.js_model.specs.declared.stream.Stream.{Stream}
use Rattle.js_model.specs.declared.stream.State.{State}
use Rattle.js_model.specs.declared.stream.State.TheVariants.{Live}
use Rattle.js_model.specs.declared.consumer.Consumer.{Consumer}
use Rattle.js_model.specs.Streams.{by_name, in_place_of, with_consumer}
use Rattle.js_model.specs.Consumers.{is_before}
use Rattle.js_model.specs.Lasting.{lasting_consumer}
use Rattle.js_model.specs.Events.{settled, settled_state}
use Rattle.js_model.specs.declared.reply.Answer.{Answer}
use Rattle.js_model.proofs.Members.{IsIn, all_in, in_cons}
use Rattle.js_model.proofs.Named.{KeepsNames, by_name-map, found_named, same_is, some_is, none_some}
use Rattle.model_laws.specs.Sound.{AreOrdered}
use Rattle.model_laws.proofs.Whole.{IsSoundStream}
use Rattle.effects.specs.declared.effect.Effect.{Effect}
use Rattle.effects.specs.Durables.{body_of, durable_of}
use Rattle.effects.specs.Folding.{live, live_if, replaced}
use Rattle.effects.specs.Effects.{settle_effects}
use Rattle.effects.specs.Laws.{Leads}
use Rattle.effects.proofs.Agreeing.{map_agree, map_twice}
use Rattle.effects.proofs.Removing.{leads_settled, leads_both}
use Rattle.effects.proofs.Passing.{differ_back}

-- ---- a stream that stays

pub stays : (a : Stream) (s : State) → IsSoundStream a → s ≡ Live a → Leads (Live a) (settle_effects [] s) (settled_state s)
stays a s h e = subst (λ (s : State). Leads (Live a) (settle_effects [] s) (settled_state s)) (sym e) (leads_settled a h)

pub same_state : (s : State) (b : Bool) (x y : Answer) → x.state ≡ s → y.state ≡ s → (cond b x y).state ≡ s
same_state s true x y e f = e
same_state s false x y e f = f

-- some records, and then what limits and retention drop
pub then_settled : (a s : Stream) (own : List Effect) → IsSoundStream s → Leads (Live a) own (Live s) → Leads (Live a) (own ++ settle_effects [] (Live s)) (Live (settled s))
then_settled a s own h k = leads_both (Live a) (Live s) (Live (settled s)) own (settle_effects [] (Live s)) k (leads_settled s h)

-- ---- one consumer

pub lasting_names : KeepsNames lasting_consumer
lasting_names = record { name = λ c. refl }

pub found_lasting : (a : Stream) (name : Bytes) (c : Consumer) → by_name a.consumers name ≡ Some c → by_name (body_of a).consumers c.name ≡ Some (lasting_consumer c)
found_lasting a name c e =
    by_name-map lasting_consumer lasting_names a.consumers c.name
    ∙ ap (option_map lasting_consumer) (subst (λ (n : Bytes). by_name a.consumers n ≡ Some c) (sym (found_named a.consumers name c e)) e)

in_place_lasting : (new c : Consumer) → in_place_of (lasting_consumer new) (lasting_consumer c) ≡ lasting_consumer (in_place_of new c)
in_place_lasting new c = go (same c.name new.name)
  where
    go : (b : Bool) → cond b (lasting_consumer new) (lasting_consumer c) ≡ lasting_consumer (cond b new c)
    go true = refl
    go false = refl

replaced_lasting : (new : Consumer) (cs : List Consumer) → map (in_place_of (lasting_consumer new)) (map lasting_consumer cs) ≡ map lasting_consumer (map (in_place_of new) cs)
replaced_lasting new cs =
    map_twice lasting_consumer (in_place_of (lasting_consumer new)) cs
    ∙ map_agree (λ c. in_place_of (lasting_consumer new) (lasting_consumer c)) (λ c. lasting_consumer (in_place_of new c)) cs (λ c i. in_place_lasting new c)
    ∙ sym (map_twice (in_place_of new) lasting_consumer cs)

-- a step of the consumer that is found
pub leads_step : (a : Stream) (name : Bytes) (c new : Consumer) (step : Option Consumer → Option Consumer) → by_name a.consumers name ≡ Some c
    → step (Some (lasting_consumer c)) ≡ Some (lasting_consumer new)
    → live_if a.incarnation (replaced (body_of a) (step (by_name (body_of a).consumers c.name))) ≡ Some (durable_of (Live (with_consumer a new)))
leads_step a name c new step e f =
    ap (λ (o : Option Consumer). live_if a.incarnation (replaced (body_of a) (step o))) (found_lasting a name c e)
    ∙ ap (λ (o : Option Consumer). live_if a.incarnation (replaced (body_of a) o)) f
    ∙ ap (λ (cs : List Consumer). Some (live a.incarnation (record (body_of a) { consumers = cs }))) (replaced_lasting new a.consumers)

-- in order, a name has one consumer
pub one_named : (cs : List Consumer) (name : Bytes) (c d : Consumer) → AreOrdered cs → by_name cs name ≡ Some c → IsIn d cs → same d.name name ≡ true → d ≡ c
one_named [] name c d o e i s = absurd (none_some e)
one_named (x ∷ xs) name c d o e i s = go (same x.name name) refl e (in_cons i) (λ k j. one_named xs name c d o.1 k j s)
  where
    later : same x.name name ≡ true → IsIn d xs → same d.name name ≡ false
    later q j = subst (λ (n : Bytes). same d.name n ≡ false) (same_is x.name name q) (differ_back x.name d.name (all_in (λ d. is_before x.name d.name ≡ true) xs o.0 j))

    go : (b : Bool) → same x.name name ≡ b → cond b (Some x) (by_name xs name) ≡ Some c → (x ≡ d) ⊎ IsIn d xs → (by_name xs name ≡ Some c → IsIn d xs → d ≡ c) → d ≡ c
    go true q k (inl w) f = sym w ∙ some_is k
    go true q k (inr j) f = absurd (true≢false (sym s ∙ later q j))
    go false q k (inl w) f = absurd (true≢false (sym s ∙ subst (λ (y : Consumer). same y.name name ≡ false) w q))
    go false q k (inr j) f = f k j

-- a consumer in whose place one stands that outlives a crash as it does
pub same_lasting : (a : Stream) (name : Bytes) (c new : Consumer) → AreOrdered a.consumers → by_name a.consumers name ≡ Some c → new.name ≡ c.name → lasting_consumer new ≡ lasting_consumer c → Leads (Live a) [] (Live (with_consumer a new))
same_lasting a name c new o e n f =
    ap (λ (cs : List Consumer). Some (live a.incarnation (record (body_of a) { consumers = cs })))
    (sym (map_twice (in_place_of new) lasting_consumer a.consumers ∙ map_agree (λ d. lasting_consumer (in_place_of new d)) lasting_consumer a.consumers each))
  where
    each : (d : Consumer) → IsIn d a.consumers → lasting_consumer (in_place_of new d) ≡ lasting_consumer d
    each d i = go (same d.name new.name) refl
      where
        named : new.name ≡ name
        named = n ∙ found_named a.consumers name c e

        go : (b : Bool) → same d.name new.name ≡ b → lasting_consumer (cond b new d) ≡ lasting_consumer d
        go true q = f ∙ ap lasting_consumer (sym (one_named a.consumers name c d o e i (subst (λ (x : Bytes). same d.name x ≡ true) named q)))
        go false q = refl
