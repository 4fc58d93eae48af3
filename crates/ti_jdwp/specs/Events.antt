-- Kinds of events and policies, by their numbers on the wire.
use Rattle.std.specs.Prelude.{ℕ, Bool, ◌||◌, Result, Ok, Err, ◌==◌, nat_le, ◌&&◌, if◌then◌else◌}
use Rattle.ti_jdwp.specs.declared.error.JdwpError.{JdwpError}
use Rattle.ti_jdwp.specs.declared.error.JdwpError.TheVariants as error
use Rattle.ti_jdwp.specs.declared.request.EventKind.{EventKind}
use Rattle.ti_jdwp.specs.declared.request.EventKind.TheVariants as kind
use Rattle.ti_jdwp.specs.declared.request.Policy.{Policy}
use Rattle.ti_jdwp.specs.declared.request.Policy.TheVariants as policy

-- JDWP's "EventKind" constants that are served
abbrev pub kind_number : EventKind → ℕ
kind_number kind.SingleStep = 1
kind_number kind.Breakpoint = 2
kind_number kind.ThreadStart = 6
kind_number kind.ThreadDeath = 7
kind_number kind.ClassPrepare = 8
kind_number kind.ClassUnload = 9
kind_number kind.VmStart = 90
kind_number kind.VmDeath = 99

abbrev is_between : ℕ → ℕ → ℕ → Bool
is_between low high n = nat_le low n && nat_le n high

-- all kinds that a debugger can ask JDWP for
abbrev pub is_kind : ℕ → Bool
is_kind n = is_between 1 10 n || (is_between 20 21 n || (n == 30 || (is_between 40 46 n || (n == 90 || n == 99))))

abbrev pub kind_of : ℕ → Result EventKind JdwpError
kind_of n =
    if n == 1 then Ok kind.SingleStep
    else (if n == 2 then Ok kind.Breakpoint
    else (if n == 6 then Ok kind.ThreadStart
    else (if n == 7 then Ok kind.ThreadDeath
    else (if n == 8 then Ok kind.ClassPrepare
    else (if n == 9 then Ok kind.ClassUnload
    else (if n == 90 then Ok kind.VmStart
    else (if n == 99 then Ok kind.VmDeath
    else (if is_kind n then Err error.NotImplemented else Err error.InvalidEventType))))))))

-- JDWP's "SuspendPolicy" constants
abbrev pub policy_number : Policy → ℕ
policy_number policy.None = 0
policy_number policy.EventThread = 1
policy_number policy.All = 2

abbrev pub policy_of : ℕ → Result Policy JdwpError
policy_of n =
    if n == 0 then Ok policy.None
    else (if n == 1 then Ok policy.EventThread
    else (if n == 2 then Ok policy.All
    else Err error.IllegalArgument))
