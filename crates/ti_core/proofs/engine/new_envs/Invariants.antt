use Rattle.std.proofs.Common.{◌≡◌, replicate}
use Rattle.ti_env.specs.Env.{new_env}
use Rattle.ti_core.proofs.engine.new_envs.Given as goal

abbrev pub invariant-loop : goal.invariant-loop
invariant-loop l = l.envs.items ≡ replicate l.counter (new_env l.limits)
