-- What is made of a stream and of its consumers, so that it is storable if it was, by a rule of this server's own.
use Rattle.std.specs.Prelude.{◌≡◌, ℕ, List, map, Some}
use Rattle.js_base.specs.Bytes.{Bytes}
use Rattle.js_model.specs.declared.consumer.Consumer.{Consumer}
use Rattle.js_model.specs.Streams.{by_name, in_place_of}
use Rattle.effects.specs.declared.durable.Body.{Body}
use Rattle.effects.specs.declared.effect.Effect.{Effect}
use Rattle.effects.specs.Folding.{live, fold_live}
use Rattle.durable_checks.specs.Storable.{IsStorable}

pub record KeepsStorable (old new : Body) : Type 0 where
  pub kept : (i : ℕ) → IsStorable (live i old) → IsStorable (live i new)

-- the record makes it, whatever the incarnation
pub record Makes (old : Body) (e : Effect) (new : Body) : Type 0 where
  pub made : (i : ℕ) → fold_live i old e ≡ Some (live i new)
  pub keeps : KeepsStorable old new

-- the consumer of the name is another one, to which it became
pub record Replaces (name : Bytes) (Became : Consumer → Consumer → Type 0) (old new : List Consumer) : Type 0 where
  pub one : Consumer
  pub other : Consumer
  pub found : by_name old name ≡ Some one
  pub became : Became one other
  pub replaced : new ≡ map (in_place_of other) old
