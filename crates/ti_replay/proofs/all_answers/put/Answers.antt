use Rattle.std.proofs.Common.{arith}
use Rattle.ti_replay.proofs.TellingLaws.{told_put, told_kept}
use Rattle.ti_replay.proofs.all_answers.put.Goals as goal

pub returns-then-is_none-clause-told : goal.returns-then-is_none-clause-told
returns-then-is_none-clause-told c place =
    rw c.replace-none.ensures.after (told_put c.args.told.now c.args.at place c.args.answer c.index-told-at.result c.requires.there (grind (arith, c.if-is_none.ensures, c.index-told-at.is)))

pub returns-else-is_none-clause-told : goal.returns-else-is_none-clause-told
returns-else-is_none-clause-told c place =
    told_kept c.args.told.now c.args.at place c.args.answer c.index-told-at.result c.requires.there (grind (arith, c.if-is_none.ensures, c.index-told-at.is))
