-- How a stack that a thread told is named, and what a reading counts.
use Rattle.std.specs.Prelude.{ℕ, ◌≡◌, ◌+◌, ◌⊎◌, ◌&&◌, Bool, true, false, not, nat_lt, List, ◌∷◌, Some, drop, is_some, slice_get}
use Rattle.std.specs.List.{AllZip}
use mathlib.Core.List.{IsPrefix}
use Rattle.ti_types.specs.declared.place.Frame.{Frame as FrameOf}
use Rattle.ti_types.specs.declared.place.Place.{Place}
use Rattle.ti_pprof.specs.declared.stacks.Frame.{Frame}
use Rattle.ti_monitor.specs.declared.lines.Known.{Known}
use Rattle.ti_monitor.specs.declared.methods.Methods.{Methods}
use Rattle.ti_monitor.specs.declared.running.Running.{Running}
use Rattle.ti_monitor.specs.declared.watched.Watched.{Watched}
use Rattle.ti_monitor.specs.Accounts.{Answers, Loses, TakesBack, owed_at}
use Rattle.ti_monitor.specs.Counting.{frame}
use Rattle.ti_monitor.specs.Lines.{line_at}
use Rattle.ti_monitor.specs.Orders.{labels_in}
use Rattle.ti_monitor.specs.Ticking.{IsReading}
use Rattle.ti_monitor.specs.Watching.{label_at}

-- what is known of methods has grown: each keeps its place, and lines that are known stay
pub record KnowsMore (m n : Methods) : Type 0 where
  pub numbers : IsPrefix m.numbers.keys n.numbers.keys
  pub lines : (place : ℕ) (known : Known) → slice_get m.lines.items place ≡ Some (Some known) → slice_get n.lines.items place ≡ Some (Some known)

-- a line by the lines that are known of the method at a place, or 0
abbrev pub IsLine : Methods → ℕ → Place → ℕ → Type 0
IsLine m place where_at line = (line ≡ 0) ⊎ ((known : Known) × (slice_get m.lines.items place ≡ Some (Some known)) × (line ≡ line_at known.lines where_at))

-- a frame is counted as its method's, whose function is behind the two that are no method's; or, if there is no room, as that of no function
abbrev pub IsNamed : Methods → FrameOf → Frame → Type 0
IsNamed m f g =
    (g ≡ frame 4294967295 0)
    ⊎ ((place : ℕ) × (slice_get m.numbers.keys place ≡ Some f.method.0) × (g.function ≡ place + 2) × IsLine m place f.place g.line)

-- these frames, each named, with `(late)` in front of them
abbrev pub AreNamed : Methods → List FrameOf → List Frame → Type 0
AreNamed m fs gs = (named : List Frame) × (gs ≡ frame 1 0 ∷ named) × AllZip (IsNamed m) fs named

-- all of a reading but its account is as it was
pub record IsStillRunning (r s : Running) : Type 0 where
  pub same : IsReading r s
  pub ended : s.ended ≡ r.ended
  pub schedule : s.schedule ≡ r.schedule

-- a reading that goes on counts this stack as that of the thread at a place, as often as it is owed there. One that has ended stays
abbrev pub CountsStack : ℕ → List Frame → List Watched → Running → Running → Type 0
CountsStack place frames watched r s =
    (is_some r.ended ≡ true → s ≡ r)
    × (is_some r.ended ≡ false
    → IsStillRunning r s × Answers r.account s.account place (drop 1 frames) frames (label_at watched (labels_in r.order) place))

-- or it counts what is owed there under a function that is no method's
abbrev pub CountsLost : ℕ → ℕ → List Watched → Running → Running → Type 0
CountsLost place function watched r s =
    (is_some r.ended ≡ true → s ≡ r)
    × (is_some r.ended ≡ false
    → IsStillRunning r s × Loses r.account s.account place (frame function 0) (label_at watched (labels_in r.order) place))

-- or it takes the ticks at a place back, whose thread is not alive
abbrev pub TakesBackAt : ℕ → Running → Running → Type 0
TakesBackAt place r s =
    (is_some r.ended ≡ true → s ≡ r) × (is_some r.ended ≡ false → IsStillRunning r s × TakesBack r.account s.account place)

-- a reading goes on, and is owed a stack of the thread at a place
abbrev pub waits_for : ℕ → Running → Bool
waits_for place r = not (is_some r.ended) && nat_lt 0 (owed_at r.account place)
