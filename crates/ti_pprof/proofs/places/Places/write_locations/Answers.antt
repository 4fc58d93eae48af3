use Rattle.std.proofs.Common.{◌≡◌, ◌<◌, ◌∙◌, [], ◌∷◌, ◌++◌, arith, ap, sym}
use Rattle.ti_pprof.specs.Profile.{locations_of_stack}
use Rattle.ti_pprof.specs.Stacks.{stack_at, stacks_of}
use Rattle.ti_pprof.specs.declared.stacks.Node.{Node}
use Rattle.ti_pprof.proofs.TrieLaws.{stack_at-zero}
use Rattle.ti_pprof.proofs.FrameLaws.{locations_of_stack-cons}
use Rattle.ti_pprof.proofs.places.Places.write_locations.Goals as goal

pub returns-then-stack-eq0 : goal.returns-then-stack-eq0
returns-then-stack-eq0 c =
    let nodes = c.args.self.now.nodes.now in
    let frames = c.args.self.now.frames.keys in
    let told : c.push.new.self.items ≡ 1 ∷ [] = c.in_ok-push.ensures.items ∙ ap (λ xs. xs ++ 1 ∷ []) c.clear.ensures.items in
    let bottom = ap (stack_at (stacks_of nodes)) c.if-stack-eq0.true ∙ stack_at-zero nodes in
    told ∙ sym (ap (locations_of_stack frames) bottom)

pub returns : goal.returns
returns c =
    let d : Node = record { rest = 0; frame = record { function = 0; line = 0 } } in
    let self = c.args.self.now in
    let some : 0 < c.args.stack = omega arith in
    c.in_ok-write_locations_of_frames.ensures ∙ sym (locations_of_stack-cons self.frames.keys self.nodes.now c.args.stack d self.earlier some c.requires.there)
