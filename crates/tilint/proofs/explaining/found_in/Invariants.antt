use Rattle.std.proofs.Common.{◌≡◌, ◌+◌, map, take}
use Rattle.serde_json.specs.View.{view}
use Rattle.ti_script.specs.Lives.{count_in_all}
use Rattle.tilint.proofs.explaining.found_in.Given as goal

-- the items of the lists so far, and those that are left to go
abbrev pub invariant-loop-list : goal.invariant-loop-list
invariant-loop-list l = count_in_all (take l.list (map view l.lists)) + l.left ≡ l.fn.number
