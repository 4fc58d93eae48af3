use Rattle.std.specs.Prelude.{◌≡◌, ◌++◌, drop, map}
use Rattle.ti_pprof.specs.Profile.{string_fields}
use Rattle.ti_pprof.proofs.named.push_texts.Given as goal

abbrev pub invariant-loop-text : goal.invariant-loop-text
invariant-loop-text l = l.out.items ++ string_fields (map (λ s. s.now) (drop l.text-index l.texts)) ≡ l.fn.out.items ++ string_fields (map (λ s. s.now) l.texts)
