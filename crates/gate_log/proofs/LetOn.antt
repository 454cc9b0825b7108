-- Faults that are handed on.
use Rattle.std.proofs.Common.{◌≡◌, sym, subst, Result, Ok, Err, IfErr, IsErrAnd, OnOk}
use Rattle.gate_log.specs.declared.fault.LogFault.{LogFault}

-- what a `?` hands on is the fault
pub handed_on : {T : Type 0} (P : LogFault → Type 0) (cause : LogFault) (result : Result T LogFault) → IsErrAnd result (λ e. e ≡ cause) → P cause → IfErr result P
handed_on P cause (Ok value) is h = absurd is
handed_on P cause (Err e) is h = subst P (sym is) h

-- what is known at `Ok` leads on
pub at_ok : {T E P Q : Type 0} (result : Result T E) → (P → Q) → OnOk result P → OnOk result Q
at_ok (Ok value) f h = f h
at_ok (Err e) f h = h

pub at_both : {T E P Q R : Type 0} (result : Result T E) → (P → Q → R) → OnOk result P → OnOk result Q → OnOk result R
at_both (Ok value) f p q = f p q
at_both (Err e) f p q = p

-- what holds anyway holds at `Ok`
pub always : {T E P : Type 0} (result : Result T E) → P → OnOk result P
always (Ok value) p = p
always (Err e) p = tt
