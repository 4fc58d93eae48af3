use Rattle.std.proofs.Common.{sym}
use Rattle.ti_capi.proofs.Calling.{called}
use Rattle.ti_capi.proofs.ClassTelling.{text_told}
use Rattle.ti_capi.proofs.class_reads.cq_get_class_signature.Goals as goal

pub returns : goal.returns
returns c =
    let e = c.get_class_signature.ensures in
    let w = c.tell_text.ensures in
    called _ _ _ _ _ _ _ (sym c.in-Some.ensures.value) c.in-Some-agent.is (text_told _ _ _ _ _ _ _ _ _ c.get_class_signature.result e.rest e.told e.refused w.written w.refused)
