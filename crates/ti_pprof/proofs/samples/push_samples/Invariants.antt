use Rattle.std.specs.Prelude.{◌≡◌, ◌++◌, drop}
use Rattle.ti_pprof.specs.Profile.{sample_fields}
use Rattle.ti_pprof.specs.Samples.{samples_in}
use Rattle.ti_pprof.specs.Stacks.{stacks_of}
use Rattle.ti_pprof.specs.Strings.{strings_in}
use Rattle.ti_pprof.proofs.samples.push_samples.Given as goal

abbrev pub invariant-loop-place : goal.invariant-loop-place
invariant-loop-place l =
    l.out.items ++ sample_fields (strings_in l.tables.texts.now) l.tables.names.now l.tables.unit l.tables.places.now.frames.keys (samples_in (stacks_of l.tables.places.now.nodes.now) (drop l.place l.rows) (drop l.place l.counts))
    ≡ l.fn.out.items ++ sample_fields (strings_in l.tables.texts.now) l.tables.names.now l.tables.unit l.tables.places.now.frames.keys (samples_in (stacks_of l.tables.places.now.nodes.now) l.rows l.counts)
