use Rattle.std.proofs.Common.{◌≡◌, length, true}
use Rattle.std.specs.List.{fold, list_all}
use Rattle.ti_replay.specs.Settling.{waits}
use Rattle.ti_replay.specs.View.{after}
use Rattle.ti_slot.specs.Condition.{view_of}
use Rattle.ti_slot.specs.Waiting.{entries_of, AreReady, said_in, answers_of, calls_of, delivered}
use Rattle.ti_slot.specs.Tickets.{AreAwaited, AreApart}
use Rattle.ti_slot.proofs.call_answers.serve.Given as goal

abbrev pub invariant-loop-p : goal.invariant-loop-p
invariant-loop-p l = record {
  ready : AreReady l.limits l.ops.waiting;
  calls : list_all waits (calls_of l.ops.waiting) ≡ true;
  awaited : AreAwaited l.ops.statuses l.ops.waiting;
  apart : AreApart l.ops.waiting;
  depth : l.frames.depth ≡ l.limits.depth;
  view : fold after (view_of l.condition l.frames.frames) (entries_of l.ops.waiting) ≡ fold after (view_of l.fn.condition l.fn.frames.frames) (entries_of l.fn.ops.waiting);
  given : delivered (answers_of (view_of l.condition l.frames.frames) l.ops.waiting) (said_in l.ops.statuses) ≡ delivered (answers_of (view_of l.fn.condition l.fn.frames.frames) l.fn.ops.waiting) (said_in l.fn.ops.statuses);
  window : l.ops.window ≡ l.fn.ops.window;
}

abbrev pub decreases-loop-p : goal.decreases-loop-p
decreases-loop-p l = length l.ops.waiting
