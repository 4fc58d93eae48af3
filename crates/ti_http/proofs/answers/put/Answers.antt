use Rattle.std.proofs.Common.{◌≡◌, rules}
use Rattle.http1.specs.declared.error.WriteError.TheVariants.{OutOfMemory}
use Rattle.http1.specs.Head.{pairs}
use Rattle.ti_http.proofs.Texts.{only_memory}
use Rattle.ti_http.proofs.answers.put.Goals as goal

pub prove-unreachable-requires : goal.prove-unreachable-requires
prove-unreachable-requires c =
    let memory : c.in-Err.error ≡ OutOfMemory = only_memory c.args.status (pairs c.args.fields.now) (pairs c.args.own.now) _ _ _ _ _ _ c.code.ensures c.reason.ensures c.requires.fields c.requires.own c.write_response.ensures.outcome c.in-Err.is in
    search rules
