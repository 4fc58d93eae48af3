use Rattle.std.proofs.Common.{◌≡◌, ◌<◌, ◌≤◌, ◌+◌, ◌-◌, subst, sym, Some, None, arith, length}
use Rattle.ti_types.specs.declared.error.TiError.TheVariants.{Overflow, OwnSpent}
use Rattle.ti_frames.specs.Changes.{steps_keeping}
use Rattle.ti_handshake.specs.Thread.{Runner, frames_refusal, logged}
use Rattle.ti_handshake.proofs.Steps.{put_over, put_too_many, put_spent, put_free}
use Rattle.ti_handshake.proofs.running.Running.put_over.Goals as goal

pub overflow_sub-room : goal.overflow_sub-room
overflow_sub-room c =
    let i = c.self.inside in
    let n = c.args.keep in
    let h : n ≤ length i.frames.frames = subst (λ (r : Runner). n ≤ length r.frames) (sym c.self.view_is) c.requires in
    omega (arith, h, c.len-count.ensures.len, c.len-count.ensures.fits, c.depth.ensures)

pub returns-then-room-newest-clause-when : goal.returns-then-room-newest-clause-when
returns-then-room-newest-clause-when c =
    let i = c.self.inside in
    let n = c.args.keep in
    let new = c.args.newest.now in
    let deep : i.frames.depth < n + length new = omega (arith, c.if-room-newest.true, c.depth.ensures) in
    subst (λ (r : Runner). frames_refusal r.view.subject.limits (logged r.view.seen r.steps) (n + length new) (steps_keeping n r.frames new) ≡ Some Overflow) c.self.view_is
    (put_too_many _ i.seat i.frames i.log i.left (n + length new) (steps_keeping n i.frames.frames new) c.self.invariant deep)

pub returns-then-left-steps_over-clause-when : goal.returns-then-left-steps_over-clause-when
returns-then-left-steps_over-clause-when c =
    let i = c.self.inside in
    let n = c.args.keep in
    let new = c.args.newest.now in
    let h : n ≤ length i.frames.frames = subst (λ (r : Runner). n ≤ length r.frames) (sym c.self.view_is) c.requires in
    let deep : n + length new ≤ i.frames.depth = omega (arith, c.if-room-newest.false, c.depth.ensures, h, c.len-count.ensures.len, c.len-count.ensures.fits) in
    let few : i.left - length i.log.steps < length (steps_keeping n i.frames.frames new) = omega (arith, c.if-left-steps_over.true, c.steps_over.ensures, c.saturating_sub-left.ensures, c.len.ensures.len) in
    subst (λ (r : Runner). frames_refusal r.view.subject.limits (logged r.view.seen r.steps) (n + length new) (steps_keeping n r.frames new) ≡ Some OwnSpent) c.self.view_is
    (put_spent _ i.seat i.frames i.log i.left (n + length new) (steps_keeping n i.frames.frames new) c.self.invariant deep few)

pub invariant_of-self : goal.invariant_of-self
invariant_of-self c =
    let i = c.self.inside in
    let n = c.args.keep in
    let new = c.args.newest.now in
    let h : n ≤ length i.frames.frames = subst (λ (r : Runner). n ≤ length r.frames) (sym c.self.view_is) c.requires in
    let deep : n + length new ≤ i.frames.depth = omega (arith, c.if-room-newest.false, c.depth.ensures, h, c.len-count.ensures.len, c.len-count.ensures.fits) in
    let few : length (steps_keeping n i.frames.frames new) ≤ i.left - length i.log.steps = omega (arith, c.if-left-steps_over.false, c.steps_over.ensures, c.saturating_sub-left.ensures, c.len.ensures.len) in
    put_over _ i.seat i.frames _ i.log _ i.left n new c.self.invariant h deep few c.put_over.ensures c.log_over.ensures

pub returns-clause-when : goal.returns-clause-when
returns-clause-when c =
    let i = c.self.inside in
    let n = c.args.keep in
    let new = c.args.newest.now in
    let h : n ≤ length i.frames.frames = subst (λ (r : Runner). n ≤ length r.frames) (sym c.self.view_is) c.requires in
    let deep : n + length new ≤ i.frames.depth = omega (arith, c.if-room-newest.false, c.depth.ensures, h, c.len-count.ensures.len, c.len-count.ensures.fits) in
    let few : length (steps_keeping n i.frames.frames new) ≤ i.left - length i.log.steps = omega (arith, c.if-left-steps_over.false, c.steps_over.ensures, c.saturating_sub-left.ensures, c.len.ensures.len) in
    subst (λ (r : Runner). frames_refusal r.view.subject.limits (logged r.view.seen r.steps) (n + length new) (steps_keeping n r.frames new) ≡ None) c.self.view_is
    (put_free _ i.seat i.frames i.log i.left (n + length new) (steps_keeping n i.frames.frames new) c.self.invariant deep few)
