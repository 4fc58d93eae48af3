use Rattle.std.proofs.Common.{ℕ, ◌≡◌, ◌≤◌, ◌+◌, length, take, drop, vec_capacity}
use Rattle.ti_vmop.specs.Turns.{cells_of, with_reads}
use Rattle.ti_agent.specs.Env.{thread_at, threads_at}
use Rattle.ti_agent.specs.Buffers.{AreRoomy}
use Rattle.ti_agent.specs.Traces.{AreStopped, AreLeft, HasRead}
use Rattle.ti_agent.proofs.traces.read_each.Given as goal

-- those so far, and those to come
abbrev pub invariant-loop-i : goal.invariant-loop-i
invariant-loop-i g l = record {
  held : AreStopped (record { env = l.fn.standing.env; state = l.state; desks = l.desks }) l.fn.standing.threads;
  left : AreLeft l.state (drop l.i l.places);
  limits : l.state.limits ≡ l.fn.state.limits;
  reads : HasRead (record { env = l.fn.standing.env; state = l.fn.state; desks = l.fn.desks }) (record { env = l.fn.standing.env; state = l.state; desks = l.desks }) l.fn.max_count (take l.i l.places) (threads_at l.fn.desks (take l.i l.places)) l.infos.items;
  names : (k : ℕ) → thread_at l.desks k ≡ thread_at l.fn.desks k;
  standing : l.standing ≡ with_reads l.fn.standing l.i;
  bufs : length l.bufs.items + l.i ≡ length l.places;
  roomy : AreRoomy l.fn.state.limits l.fn.max_count l.bufs.items;
  few : length l.infos.items ≡ l.i;
  room : length l.places ≤ vec_capacity l.infos;
  cells : cells_of l.fn.standing.threads l.desks ≡ l.fn.standing.cells;
}
