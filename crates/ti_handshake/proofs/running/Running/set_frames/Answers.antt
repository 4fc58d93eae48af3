use Rattle.std.proofs.Common.{◌≡◌, ℕ, ◌-◌, ◌++◌, ap, subst, ◌∙◌, List, length, take}
use Rattle.std.specs.Prelude.{MatchResult}
use Rattle.ti_types.specs.declared.place.Frame.{Frame}
use Rattle.ti_frames.specs.Changes.{shared, steps_between}
use Rattle.ti_frames.proofs.ChangeLaws.{between}
use Rattle.ti_handshake.specs.Thread.{Runner, with_newest, with_all}
use Rattle.ti_handshake.proofs.running.Running.set_frames.Goals as goal

put_between : (r : Runner) (keep : ℕ) (frames : List Frame) → keep ≡ shared r.frames frames → with_newest r keep (take (length frames - keep) frames) ≡ with_all r frames
put_between r keep frames e =
    ap (λ k. with_newest r k (take (length frames - k) frames)) e
    ∙ ap (λ (z : List Frame). (let s : Runner = record { cell = r.cell; view = r.view; frames = z; steps = r.steps ++ steps_between r.frames frames } in s)) (between r.frames frames)

pub returns-clause-thread : goal.returns-clause-thread
returns-clause-thread c =
    let a = c.args.self.now in
    let e = put_between a c.shared-keep.result c.args.frames.now c.shared-keep.ensures.shared in
    subst (λ (z : Runner). MatchResult c.put_over.result (λ _. c.put_over.new.self ≡ z) (λ _. c.put_over.new.self ≡ a)) e c.put_over.ensures.thread
