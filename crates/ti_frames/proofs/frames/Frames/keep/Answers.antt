use Rattle.std.proofs.Common.{ap, ◌-◌, ◌≡◌, ◌≤◌, ◌∙◌, sym, subst, arith, length, reverse, drop}
use Rattle.std.proofs.lemmas.List.{length-reverse}
use Rattle.ti_types.specs.declared.place.Frame.{Frame}
use Rattle.std.proofs.Common.{List}
use Rattle.ti_frames.specs.Frames.{Stack, with_frames}
use Rattle.ti_frames.proofs.ChangeLaws.{kept_oldest}
use Rattle.ti_frames.proofs.frames.Frames.keep.Goals as goal

pub returns : goal.returns
returns c =
    let i = c.self.inside in
    let n = c.args.keep in
    let made = λ (z : List Frame). (let s : Stack = record { frames = z; depth = i.depth } in s) in
    let few : n ≤ length (reverse i.items.items) = subst (λ (s : Stack). n ≤ length s.frames) (sym c.self.view_is) c.requires in
    let h : n ≤ length i.items.items = omega (arith, few, length-reverse i.items.items) in
    subst (λ (s : Stack). made (reverse c.truncate.new.self.items) ≡ with_frames s (drop (length s.frames - n) s.frames)) c.self.view_is
    (ap (λ z. made (reverse z)) c.truncate.ensures.items ∙ ap made (kept_oldest i.items.items n h))
