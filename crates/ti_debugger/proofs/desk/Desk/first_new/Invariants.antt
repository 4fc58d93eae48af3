use Rattle.ti_debugger.proofs.desk.Desk.first_new.Given as goal

abbrev pub decreases-loop-index : goal.decreases-loop-index
decreases-loop-index l = l.index
