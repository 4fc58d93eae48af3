use Rattle.std.proofs.Common.{◌≡◌, ◌+◌, ◌∷◌, ◌++◌, [], rules}
use Rattle.ti_debugger.proofs.VariableLaws.{number_all, number_more}
use Rattle.ti_debugger.proofs.object_answers.numbers_from.Goals as goal

pub loop-more-preserved : goal.loop-more-preserved
loop-more-preserved c =
    let added : c.push_reserved.new.self.items ≡ c.loop-more.numbers.items ++ (c.args.first + c.loop-more.more) ∷ [] = search rules in
    number_more c.args.first c.args.count c.loop-more.more c.loop-more.numbers.items c.push_reserved.new.self.items _ c.loop-more-test.true added c.loop-more.invariant

pub returns : goal.returns
returns c = number_all c.args.first c.args.count c.loop-more.more c.loop-more.numbers.items _ c.loop-more-test.false c.loop-more.invariant
