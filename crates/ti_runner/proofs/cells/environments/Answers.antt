use Rattle.std.proofs.Common.{rules, ◌≡◌, ◌+◌, ◌-◌, ◌∷◌, [], ap, sym, arith, length, map, subst}
use Rattle.std.specs.List.{All}
use Rattle.std.proofs.lemmas.List.{length-append, length-map}
use Rattle.std.proofs.lemmas.List.Elements.{All-append, All-cons, All-nil}
use Rattle.ti_agent.specs.Env.{cells_at}
use Rattle.ti_runner.specs.Cells.{AreDesks}
use Rattle.ti_runner.proofs.NewDesks.{restored}
use Rattle.ti_runner.proofs.cells.environments.Goals as goal

pub loop-i-preserved : goal.loop-i-preserved
loop-i-preserved c =
    let at = c.loop-i in
    let cells = c.args.cells.now in
    let env = c.in_ok-environment.field-0 in
    let new = c.environment.new.desks in
    let rest = c.in_ok-environment.ensures.rest in
    let grown = ap length c.push_reserved.ensures.items in
    let same : length new ≡ length at.desks.items = omega (arith, rest.count, at.invariant.2.count, length-map new (λ v. v.items), length-map at.desks.items (λ v. v.items)) in
    let whole = restored at.desks.len at.desks.items new same (search rules) in
    let fewer : c.args.limits.envs - 1 - at.i ≡ c.args.limits.envs - (at.i + 1) = omega arith in (
      omega (arith, at.invariant.0, grown, length-append at.envs.items (env ∷ [])),
      search rules,
      subst (λ l. AreDesks c.args.limits (c.args.limits.envs - (at.i + 1)) cells (map (λ v. v.items) l)) (sym whole) (subst (λ n. AreDesks c.args.limits n cells (map (λ v. v.items) new)) fewer rest),
      (let all = All-append (λ e. cells_at e.env.desks ≡ cells) at.envs.items (env ∷ []) at.invariant.3
          (All-cons (λ e. cells_at e.env.desks ≡ cells) env [] c.in_ok-environment.ensures.here (All-nil (λ e. cells_at e.env.desks ≡ cells))) in
          subst (All (λ e. cells_at e.env.desks ≡ cells)) (sym c.push_reserved.ensures.items) all),
    )
