use Rattle.std.proofs.Common.{Bool, true, false}
use Rattle.std.specs.Bool.{OnTrue, OnFalse}

-- what follows from a fact holds where the fact does
pub on_true : {P Q : Type 0} (b : Bool) → (P → Q) → OnTrue b P → OnTrue b Q
on_true true then h = then h
on_true false then h = h

pub on_false : {P Q : Type 0} (b : Bool) → (P → Q) → OnFalse b P → OnFalse b Q
on_false true then h = h
on_false false then h = then h
