use Rattle.std.proofs.Common.{ap, ◌∙◌, take, length, ◌-◌}
use Rattle.ti_frames.specs.Frames.{with_frames}
use Rattle.ti_frames.specs.Changes.{frames_keeping}
use Rattle.ti_frames.proofs.ChangeLaws.{between}
use Rattle.ti_frames.proofs.frames.Frames.replace.Goals as goal

pub returns-clause-frames : goal.returns-clause-frames
returns-clause-frames c =
    let a = c.args.self.now in
    let f = c.args.frames.now in
    c.put_over.ensures ∙ ap (λ k. with_frames a (frames_keeping k a.frames (take (length f - k) f))) c.shared-keep.ensures.shared ∙ ap (λ z. with_frames a z) (between a.frames f)
