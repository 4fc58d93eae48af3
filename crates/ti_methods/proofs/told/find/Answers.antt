use Rattle.ti_methods.proofs.Defining.{found_since}
use Rattle.ti_methods.proofs.told.find.Goals as goal

pub returns-in-Some-clause-found : goal.returns-in-Some-clause-found
returns-in-Some-clause-found c = found_since c.shared.inside.classes c.args.class c.in-Some.entry.now c.learn.new.self.log c.in-Some.ensures c.learn.ensures.3
