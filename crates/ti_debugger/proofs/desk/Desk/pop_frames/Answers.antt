use Rattle.std.proofs.Common.{rules, inr}
use Rattle.std.specs.Prelude.{IsErrOf}
use Rattle.ti_debugger.specs.declared.refusal.Refusal.TheVariants.{Later}
use Rattle.ti_debugger.proofs.PopLaws.{pops_all}
use Rattle.ti_debugger.proofs.desk.Desk.pop_frames.Goals as goal

pub returns-in_err-pop_all-clause-later : goal.returns-in_err-pop_all-clause-later
returns-in_err-pop_all-clause-later c = λ waits.
    let told = c.in_ok-popping.ensures.told in
    let late : IsErrOf c.pop_all.result Later = search rules in
    inr (c.popping_of.new.self, c.in_ok-popping.popping, told.0, told.1, told.2, c.pop_all.ensures.later late)

pub returns-clause-told : goal.returns-clause-told
returns-clause-told c =
    let told = c.in_ok-popping.ensures.told in
    (pops_all c.args.self.now c.popping_of.new.self c.pop_all.new.self c.args.thread c.args.frame c.in_ok-popping.popping told.0 told.1 told.2 c.in_ok-pop_all.ensures.all, c.new.ensures.items)
