use Rattle.std.proofs.Common.{subst}
use Rattle.ti_script.specs.Faults.{Reads}
use Rattle.ti_script.specs.Head.{names_fault, texts}
use Rattle.ti_script.proofs.walk_document.names_at.Goals as goal

pub returns-clause-read : goal.returns-clause-read
returns-clause-read c =
    subst (λ d. Reads (λ names. names) c.names_in.result (names_fault c.args.which c.args.limit c.args.low c.args.high c.args.earlier.now d) (texts d)) c.in_ok-names.ensures c.names_in.ensures.read
