-- How a call of the thread that never waits is refused, if the cell was free.
use Rattle.std.specs.Prelude.{◌≡◌, true, [], Some}
use Rattle.ti_types.specs.declared.entry.Entry.{Entry}
use Rattle.ti_types.specs.declared.error.TiError.{TiError}
use Rattle.ti_types.specs.declared.error.TiError.TheVariants.{Barred}
use Rattle.ti_replay.specs.View.{view, is_barred}
use Rattle.ti_cell.specs.Seats.{Sitting}
use Rattle.ti_handshake.specs.Call.{Holds, found}
use Rattle.ti_handshake.specs.Thread.{Runner, refused_at, logged, with_view}

-- one hold added nothing, since it found the thread barred: it may not start or return by this entry
pub record StaysBarred (x : Entry) (old new : Sitting) (error : TiError) : Type 0 where
  pub hold : Holds old.view new.view []
  pub when : refused_at old.view.subject.limits (found old.view new.view) x ≡ Some error
  pub error_is : error ≡ Barred
  pub barred : is_barred (view old.view.subject.limits new.view.seen) ≡ true

-- one hold added nothing, since it found that this entry is refused. The thread runs on
pub record RunsOn (x : Entry) (old new : Runner) (error : TiError) : Type 0 where
  pub hold : Holds old.view new.view []
  pub when : refused_at old.view.subject.limits (logged (found old.view new.view) old.steps) x ≡ Some error
  pub thread : new ≡ with_view old new.view
