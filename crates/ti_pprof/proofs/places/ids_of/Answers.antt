use Rattle.std.proofs.Common.{◌∙◌, [], ◌∷◌, ◌++◌, get_or, map, take, arith, ap, sym}
use Rattle.std.proofs.lemmas.List.{map-append, take_more}
use Rattle.ti_pprof.specs.Profile.{node_location}
use Rattle.ti_pprof.specs.declared.stacks.Node.{Node}
use Rattle.ti_pprof.proofs.places.ids_of.Goals as goal

pub loop-node-preserved : goal.loop-node-preserved
loop-node-preserved c =
    let d : Node = record { rest = 0; frame = record { function = 0; line = 0 } } in
    let nodes = c.args.nodes.now in
    let i = c.loop-node.node-index in
    let at = node_location c.args.frames.now.keys in
    c.in_ok-push.ensures.items
    ∙ ap (λ n. c.loop-node.ids.items ++ n ∷ []) c.location_of.ensures
    ∙ ap (λ ids. ids ++ at (get_or nodes i d) ∷ []) c.loop-node.invariant
    ∙ sym (map-append at (take i nodes) (get_or nodes i d ∷ []))
    ∙ sym (ap (map at) (take_more nodes i d (omega arith)))
