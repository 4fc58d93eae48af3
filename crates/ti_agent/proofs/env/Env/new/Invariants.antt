use Rattle.std.proofs.Common.{ℕ, ◌<◌, ◌≤◌, ◌≡◌, Some, length}
use Rattle.std.specs.Prelude.{slice_get}
use Rattle.ti_handshake.specs.Desk.{DeskState}
use Rattle.ti_agent.proofs.env.Env.new.Given as goal

abbrev pub invariant-loop-desk : goal.invariant-loop-desk
invariant-loop-desk l = (j : ℕ) (p : DeskState) → j < l.desk-index → slice_get l.desk-items j ≡ Some p → length p.view.posted ≤ length p.view.mine
