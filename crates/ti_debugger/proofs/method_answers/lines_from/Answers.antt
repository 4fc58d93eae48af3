use Rattle.std.proofs.Common.{◌≡◌, ◌+◌, ◌-◌, ◌^◌, ◌∷◌, ◌++◌, [], ℕ, min, max, ap, ◌∙◌, rules}
use Rattle.ti_debugger.specs.LineReplies.{lines_for}
use Rattle.ti_debugger.proofs.LineLaws.{lines_all, lines_more}
use Rattle.ti_debugger.proofs.method_answers.lines_from.Goals as goal

pub loop-more-preserved : goal.loop-more-preserved
loop-more-preserved c =
    let added : c.push_reserved.new.self.items ≡ c.loop-more.lines.items ++ min (c.max-from.result + c.loop-more.more) (2 ^ 32 - 1) ∷ [] = search rules in
    lines_more c.max-from.result 4096 c.loop-more.more c.loop-more.lines.items c.push_reserved.new.self.items _ c.loop-more-test.true added c.loop-more.invariant

pub returns : goal.returns
returns c =
    let from : c.max-from.result ≡ max c.args.first 1 = search rules in
    lines_all c.max-from.result 4096 c.loop-more.more c.loop-more.lines.items _ c.loop-more-test.false c.loop-more.invariant ∙ ap (λ (n : ℕ). lines_for n 4096) from
