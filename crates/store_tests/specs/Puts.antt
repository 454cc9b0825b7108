-- The record of a message that the tests store: one for `orders.a` without an id and headers, at 1,000 nanoseconds.
use Rattle.std.specs.Prelude.{ℕ, [], codes}
use Rattle.js_base.specs.Bytes.{Bytes}
use Rattle.effects.specs.declared.effect.Effect.{Effect}
use Rattle.effects.specs.declared.effect.Effect.TheVariants.{PutHere}

abbrev pub put_of : ℕ → Bytes → Effect
put_of seq payload = PutHere seq 1000 [] (codes "orders.a") [] payload
