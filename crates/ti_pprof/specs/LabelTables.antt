-- What the samples of a profile refer to.
use Rattle.std.specs.Prelude.{codes}
use Rattle.ti_pprof.specs.declared.samples.Tables.{Tables}
use Rattle.ti_pprof.specs.Labels.{AreLabels}
use Rattle.ti_pprof.specs.Strings.{strings_in}

-- the numbers are those of the names
abbrev pub AreNumbers : Tables → Type 0
AreNumbers t =
    AreLabels (strings_in t.texts.now) (codes "thread") t.names.now.threads.items t.threads.now
    × AreLabels (strings_in t.texts.now) (codes "state") t.names.now.states.items t.states.now
