use Rattle.ti_http.proofs.Texts.{none_stand, pprof_stands, allow_stands}
use Rattle.ti_http.proofs.answers.write_fields.Goals as goal

pub put-requires-clause-own : goal.put-requires-clause-own
put-requires-clause-own c = none_stand

pub put-requires-in-MethodNotAllowed-clause-own : goal.put-requires-in-MethodNotAllowed-clause-own
put-requires-in-MethodNotAllowed-clause-own c = allow_stands

pub put-requires-in_default : goal.put-requires-in_default
put-requires-in_default c = record { fields = c.requires; own = pprof_stands }
