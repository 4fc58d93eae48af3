use Rattle.std.proofs.Common.{refl}
use Rattle.ti_debugger.proofs.MethodLaws.{known_is}
use Rattle.ti_debugger.proofs.desk.Desk.known_method.Goals as goal

pub returns-clause-told : goal.returns-clause-told
returns-clause-told c = known_is _ _ _ _ _ _ c.in_ok-native.ensures.rest.grows c.in_ok-named.ensures.told c.in_ok-native.ensures.told refl
