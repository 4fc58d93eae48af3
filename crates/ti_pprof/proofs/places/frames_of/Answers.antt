use Rattle.std.proofs.Common.{◌∙◌, get_or, take, arith, ap, sym}
use Rattle.std.proofs.lemmas.List.{take_more}
use Rattle.indexmap.specs.IndexSet.{insert_key}
use Rattle.ti_pprof.specs.Profile.{frames_of}
use Rattle.ti_pprof.specs.Stacks.{is_same_frame}
use Rattle.ti_pprof.specs.declared.stacks.Node.{Node}
use Rattle.ti_pprof.proofs.FrameLaws.{frames_of-push}
use Rattle.ti_pprof.proofs.places.frames_of.Goals as goal

pub loop-node-preserved : goal.loop-node-preserved
loop-node-preserved c =
    let d : Node = record { rest = 0; frame = record { function = 0; line = 0 } } in
    let nodes = c.args.nodes.now in
    let i = c.loop-node.node-index in
    c.in_ok-insert_full.ensures.keys
    ∙ ap (λ f. insert_key is_same_frame f (get_or nodes i d).frame) c.loop-node.invariant
    ∙ sym (frames_of-push (take i nodes) (get_or nodes i d))
    ∙ sym (ap frames_of (take_more nodes i d (omega arith)))
