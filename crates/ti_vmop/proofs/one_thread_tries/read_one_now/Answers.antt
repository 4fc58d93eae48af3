use Rattle.std.proofs.Common.{w32}
use Rattle.std.proofs.lemmas.Int.{to_z-of_z}
use Rattle.ti_types.specs.Answer.{said}
use Rattle.ti_vmop.proofs.AtOne.{tries_added, tries_read}
use Rattle.ti_vmop.proofs.one_thread_tries.read_one_now.Goals as goal

pub returns-clause-added : goal.returns-clause-added
returns-clause-added c =
    let f = c.facts.ensures in
    tries_added c.args.desk.now c.read_now.new.self _ c.args.max_count c.read_now.result (to_z-of_z w32 c.args.max_count c.ranges.max_count) c.read_now.ensures.same f.number f.mine c.requires.stands c.read_now.ensures.hold

pub returns-clause-read : goal.returns-clause-read
returns-clause-read c =
    let f = c.facts.ensures in
    tries_read c.args.desk.now c.read_now.new.self _ c.args.max_count c.read_now.result said (to_z-of_z w32 c.args.max_count c.ranges.max_count) f.number f.mine c.requires.stands c.read_now.ensures.hold c.read_now.ensures.answer
