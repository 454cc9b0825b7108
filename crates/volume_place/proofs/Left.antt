-- When a log is left, and what it comes to, where the records or the store are told in another way.
use Rattle.std.proofs.Common.{◌≡◌, ℕ, List, subst, sym}
use Rattle.effects.specs.declared.durable.Durable.{Durable}
use Rattle.effects.specs.declared.effect.Effect.{Effect}
use Rattle.gate_log.specs.LogState.{LogState}
use Rattle.stream_store.specs.StoreState.{StoreState}
use Rattle.volume_place.specs.Leaving.{GoesTo, IsLeft}

pub left_as : (store after : StoreState) (effects waiting : List Effect) (bound : ℕ) → after ≡ store → waiting ≡ effects → IsLeft store effects bound → IsLeft after waiting bound
left_as store after effects waiting bound same are left =
    subst (λ (s : StoreState). IsLeft s waiting bound) (sym same) (subst (λ (l : List Effect). IsLeft store l bound) (sym are) left)

pub goes_as : (store : StoreState) (effects waiting : List Effect) (bound : ℕ) (next : Durable) (log : LogState) → effects ≡ waiting → GoesTo store effects bound next log
    → GoesTo store waiting bound next log
goes_as store effects waiting bound next log are goes = subst (λ (l : List Effect). GoesTo store l bound next log) are goes
