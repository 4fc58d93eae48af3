use Rattle.std.proofs.Common.{◌≡◌, ℕ, ◌+◌, ◌-◌, ◌<◌, ◌≤◌, List, [], ◌∷◌, ◌++◌, fold, get_or, length, map, arith, refl, ap, sym, subst, ◌∙◌}
use Rattle.std.proofs.lemmas.List.{append-nil, append_assoc, get_or_default, map-append}
use Rattle.std.proofs.lemmas.List.Sums.{fold_push}
use Rattle.indexmap.specs.IndexSet.{insert_key}
use Rattle.ti_pprof.specs.declared.stacks.Frame.{Frame}
use Rattle.ti_pprof.specs.declared.stacks.Node.{Node}
use Rattle.ti_pprof.specs.Profile.{frames_of, location_of, locations_of_stack}
use Rattle.ti_pprof.specs.Stacks.{is_same_frame, stack_at, stacks_of, AreOnEarlier}
use Rattle.ti_pprof.proofs.TrieLaws.{map-stack_at, stack_at-node, stack_at-zero}

-- the frames of one more node
pub frames_of-push : (nodes : List Node) (node : Node) → frames_of (nodes ++ node ∷ []) ≡ insert_key is_same_frame (frames_of nodes) node.frame
frames_of-push nodes node =
    ap (fold (insert_key is_same_frame) []) (map-append (λ (n : Node). n.frame) nodes (node ∷ []))
    ∙ fold_push (insert_key is_same_frame) [] (map (λ (n : Node). n.frame) nodes) node.frame

-- the locations of a stack that is not empty
pub locations_of_stack-cons : (frames : List Frame) (nodes : List Node) (number : ℕ) (d : Node) → AreOnEarlier nodes → 0 < number → number ≤ length nodes
    → locations_of_stack frames (stack_at (stacks_of nodes) number) ≡ map (location_of frames) (stack_at (stacks_of nodes) number)
locations_of_stack-cons frames nodes number d earlier some within =
    let node = get_or nodes (number - 1) d in
    let back : number - 1 + 1 ≡ number = omega arith in
    let at : stack_at (stacks_of nodes) number ≡ node.frame ∷ stack_at (stacks_of nodes) node.rest =
    ap (stack_at (stacks_of nodes)) (sym back) ∙ stack_at-node nodes (number - 1) node earlier (omega arith) (get_or_default nodes (number - 1) node d (omega arith)) in
    subst (λ s. locations_of_stack frames s ≡ map (location_of frames) s) (sym at) refl

-- one more location behind those that were there
pub locations-step : (frames : List Frame) (nodes : List Node) (ids ids' all : List ℕ) (number id : ℕ) (d : Node) → AreOnEarlier nodes → 0 < number → number ≤ length nodes
    → ids' ≡ ids ++ id ∷ [] → id ≡ location_of frames (get_or nodes (number - 1) d).frame
    → ids ++ map (location_of frames) (stack_at (stacks_of nodes) number) ≡ all
    → ids' ++ map (location_of frames) (stack_at (stacks_of nodes) (get_or nodes (number - 1) d).rest) ≡ all
locations-step frames nodes ids ids' all number id d earlier some within pushed is rest =
    let node = get_or nodes (number - 1) d in
    let tail = map (location_of frames) (stack_at (stacks_of nodes) node.rest) in
    let step = map-stack_at (location_of frames) nodes number node earlier some within (get_or_default nodes (number - 1) node d (omega arith)) in
    ap (λ xs. xs ++ tail) pushed ∙ append_assoc ids (id ∷ []) tail ∙ ap (λ n. ids ++ n ∷ tail) is ∙ ap (λ xs. ids ++ xs) (sym step) ∙ rest

-- the end of it
pub locations-end : (frames : List Frame) (nodes : List Node) (ids all : List ℕ) (number : ℕ) → number ≡ 0
    → ids ++ map (location_of frames) (stack_at (stacks_of nodes) number) ≡ all → ids ≡ all
locations-end frames nodes ids all number zero rest =
    sym (append-nil ids) ∙ sym (ap (λ s. ids ++ map (location_of frames) s) (ap (stack_at (stacks_of nodes)) zero ∙ stack_at-zero nodes)) ∙ rest
