use Rattle.std.proofs.Common.{◌≡◌, ◌++◌, ◌-◌, length, take, drop, ap, sym, ◌∙◌, arith, length-drop}
use Rattle.std.proofs.lemmas.List.{take-append-drop}
use Rattle.std.proofs.lemmas.List.{take_all}
use Rattle.ti_report.proofs.packed_reply.ends_with.Goals as goal

pub returns : goal.returns
returns c h =
    let frames = c.args.frames.now in
    let k = length frames - length c.args.these.now in
    let all : take (length frames - k) (drop k frames) ≡ drop k frames = take_all (length frames - k) (drop k frames) (omega (arith, length-drop k frames)) in
    (take k frames, sym (take-append-drop k frames) ∙ ap (λ l. take k frames ++ l) (sym all ∙ c.same_frames.ensures.0 h))
