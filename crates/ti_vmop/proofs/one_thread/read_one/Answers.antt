use Rattle.std.proofs.Common.{refl, arith, w32}
use Rattle.std.proofs.lemmas.Int.{to_z-of_z}
use Rattle.ti_types.specs.Answer.{said}
use Rattle.ti_types.specs.declared.entry.Entry.TheVariants.{Read}
use Rattle.ti_vmop.proofs.AtOne.{finds, recount, read_holds, read_replies, read_tells, read_stands}
use Rattle.ti_vmop.proofs.one_thread.read_one.Goals as goal

pub returns-clause-hold : goal.returns-clause-hold
returns-clause-hold g c =
    let f = c.facts.ensures in
    let hold = recount c.args.desk.now c.read.new.self.view _ _ c.args.max_count (to_z-of_z w32 c.args.max_count c.ranges.max_count) c.read.ensures.hold.waits in
    let at = finds c.args.desk.now _ (Read c.args.desk.now.env c.args.max_count) _ (omega arith) f.number f.mine hold c.requires.stands in
    record { waits = read_holds c.args.desk.now _ c.args.max_count _ _ refl at hold; looked = c.read.ensures.hold.looked; once = c.read.ensures.hold.once }

pub returns-clause-reply : goal.returns-clause-reply
returns-clause-reply g c =
    let f = c.facts.ensures in
    let hold = recount c.args.desk.now c.read.new.self.view _ _ c.args.max_count (to_z-of_z w32 c.args.max_count c.ranges.max_count) c.read.ensures.hold.waits in
    let at = finds c.args.desk.now _ (Read c.args.desk.now.env c.args.max_count) _ (omega arith) f.number f.mine hold c.requires.stands in
    read_replies c.args.desk.now _ c.args.max_count _ (said c.read.result) _ refl at c.read.ensures.answer

pub returns-clause-answer : goal.returns-clause-answer
returns-clause-answer g c =
    let f = c.facts.ensures in
    let hold = recount c.args.desk.now c.read.new.self.view _ _ c.args.max_count (to_z-of_z w32 c.args.max_count c.ranges.max_count) c.read.ensures.hold.waits in
    let at = finds c.args.desk.now _ (Read c.args.desk.now.env c.args.max_count) _ (omega arith) f.number f.mine hold c.requires.stands in
    (hold.here, read_tells c.args.desk.now _ c.args.max_count (said c.read.result) _ at (read_holds c.args.desk.now _ c.args.max_count _ _ refl at hold) (read_replies c.args.desk.now _ c.args.max_count _ (said c.read.result) _ refl at c.read.ensures.answer))

pub returns-clause-stands : goal.returns-clause-stands
returns-clause-stands g c =
    let f = c.facts.ensures in
    let hold = recount c.args.desk.now c.read.new.self.view _ _ c.args.max_count (to_z-of_z w32 c.args.max_count c.ranges.max_count) c.read.ensures.hold.waits in
    let at = finds c.args.desk.now _ (Read c.args.desk.now.env c.args.max_count) _ (omega arith) f.number f.mine hold c.requires.stands in
    read_stands c.args.desk.now _ c.args.max_count _ at (read_holds c.args.desk.now _ c.args.max_count _ _ refl at hold)
