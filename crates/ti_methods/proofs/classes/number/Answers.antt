use Rattle.std.proofs.Common.{rules}
use Rattle.ti_methods.specs.declared.info.Defined.{Defined}
use Rattle.ti_methods.specs.Classes.{HasRoom}
use Rattle.ti_methods.proofs.Lists.{prefix_trans}
use Rattle.ti_methods.proofs.Defining.{defined_last, put_last}
use Rattle.ti_methods.proofs.classes.number.Goals as goal

pub returns-then-not-add-clause-grows : goal.returns-then-not-add-clause-grows
returns-then-not-add-clause-grows c =
    prefix_trans c.args.seen.now.log c.load-number.new.seen.log c.add.new.seen.log c.load-number.ensures.grows c.add.ensures.grows

pub returns-clause-grows : goal.returns-clause-grows
returns-clause-grows c =
    prefix_trans c.args.seen.now.log c.load-number.new.seen.log c.add.new.seen.log c.load-number.ensures.grows c.add.ensures.grows

pub returns-clause-taken : goal.returns-clause-taken
returns-clause-taken c =
    let room : HasRoom c.load-number.new.seen.log c.args.class.now = search rules in
    let added = c.add.ensures.added c.if-not-add.false in
    let d : Defined = record { class = record { 0 = c.load-number.result.0 }; first = record { 0 = c.load-number.result.1 } } in (
      defined_last c.load-number.new.seen.log c.args.class.now d c.load-number.ensures.classes c.load-number.ensures.methods (record { book = c.args.seen.now.book; seen = c.args.seen.now.log }) (record { book = c.add.new.seen.book; seen = c.add.new.seen.log }) c.load-number.ensures.grows added,
      put_last c.load-number.new.seen.log c.args.class.now d c.load-number.ensures.classes c.load-number.ensures.methods c.add.new.seen.log added room,
    )
