use Rattle.std.proofs.Common.{List, ℕ, refl, sym, subst}
use Rattle.ti_jdwp.specs.Notes.{prepares}
use Rattle.ti_jdwp.specs.SessionRuns.{Happened}
use Rattle.ti_methods.specs.Classes.{IsSignature}
use Rattle.ti_debugger.proofs.TellLaws.{tells_one}
use Rattle.ti_debugger.proofs.seat.Seat.tell_class.Goals as goal

pub returns-clause-told : goal.returns-clause-told
returns-clause-told c = λ log is.
    let class = c.args.prepared.now.class in
    let signature = subst (λ (text : List ℕ). IsSignature log (record { 0 = class }) text) (sym c.as_bytes.ensures.value) is in
    tells_one log class _ (Happened _ (prepares c.args.thread class c.as_bytes.result) c.class_prepared.result) _ _ (refl, signature, refl) c.class_prepared.ensures refl
