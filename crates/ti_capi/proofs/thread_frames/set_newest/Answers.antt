use Rattle.std.proofs.Common.{rules, ◌≡◌, ℕ, length, take, min, ap, ◌∙◌, subst}
use Rattle.ti_types.specs.declared.limits.Limits.{Limits}
use Rattle.ti_capi.specs.Frames.{SetsIn, most_of}
use Rattle.ti_capi.proofs.thread_frames.set_newest.Goals as goal
use Rattle.ti_capi.proofs.thread_frames.set_newest.Goals.{After-set_frames-code}

-- as many are set as the thread may have
most_is : (c : After-set_frames-code) → c.smaller-most.result ≡ most_of c.args.held.now c.args.frames.now
most_is c = c.smaller-most.ensures ∙ ap (λ (l : Limits). min (length c.args.frames.now) l.depth) c.limits.ensures

sets : (c : After-set_frames-code) → SetsIn (take (most_of c.args.held.now c.args.frames.now) c.args.frames.now) c.args.held.now c.set_frames-code.new.held c.set_frames-code.result
sets c = subst (λ (n : ℕ). SetsIn (take n c.args.frames.now) c.args.held.now c.set_frames-code.new.held c.set_frames-code.result) (most_is c) c.set_frames-code.ensures

-- src/thread_frames.rt:65:1
pub returns-then-code-eq-CQ_OK : goal.returns-then-code-eq-CQ_OK
returns-then-code-eq-CQ_OK c =
    let k = (goal.at.returns-then-code-eq-CQ_OK c).After-set_frames-code in
    let m = most_is k in
    (sets k, search rules)

-- src/thread_frames.rt:65:1
pub returns-else-code-eq-CQ_OK : goal.returns-else-code-eq-CQ_OK
returns-else-code-eq-CQ_OK c =
    let k = (goal.at.returns-else-code-eq-CQ_OK c).After-set_frames-code in
    (sets k, search rules)
