-- Events and entries in order.
use Rattle.std.proofs.Common.{List, ◌++◌, Result, Ok, Err}
use Rattle.ti_script.specs.declared.located.LocatedFault.{LocatedFault}

-- these, and then those that are given
abbrev pub after : {A : Type 0} → List A → Result (List A) LocatedFault → Result (List A) LocatedFault
after xs (Ok more) = Ok (xs ++ more)
after xs (Err e) = Err e
