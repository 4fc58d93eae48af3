use Rattle.std.proofs.Common.{◌∙◌, ◌+◌, ap, sym}
use Rattle.ti_pprof.specs.Stacks.{is_same_frame}
use Rattle.ti_pprof.proofs.PlaceLaws.{position_or_len-Some, position_or_len-None}
use Rattle.ti_pprof.proofs.places.location_of.Goals as goal

pub returns-in-Some : goal.returns-in-Some
returns-in-Some c = sym (ap (λ n. n + 3) (position_or_len-Some (is_same_frame c.args.frame) c.args.frames.now.keys c.in-Some.place (sym c.in-Some.ensures.index)))

pub returns-in-None : goal.returns-in-None
returns-in-None c = ap (λ n. n + 3) (c.len-count.ensures.len ∙ sym (position_or_len-None (is_same_frame c.args.frame) c.args.frames.now.keys (sym c.in-None.ensures.index)))
