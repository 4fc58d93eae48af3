use Rattle.std.proofs.Common.{rules, ◌≡◌, ◌∷◌, [], subst, sym, arith, ap, length}
use Rattle.std.specs.List.{All}
use Rattle.std.specs.Vec.Iter.{into_iter_items}
use Rattle.std.proofs.lemmas.List.{length-append}
use Rattle.std.proofs.lemmas.List.Elements.{All-append, All-cons, All-nil, All-tail}
use Rattle.ti_agent.specs.Env.{cells_at}
use Rattle.ti_runner.proofs.activities.start_agents.Goals as goal

pub loop-env-preserved : goal.loop-env-preserved
loop-env-preserved g c =
    let at = c.loop-env in
    let steps : into_iter_items at.env-iterator ≡ c.in-Some.env ∷ into_iter_items c.next.new.self = c.in-Some.ensures.steps.0 in
    let short = ap length steps in
    let one = c.in_ok-start_agent.field-0 in
    let more = ap length c.push_reserved.ensures.items in (
      omega (arith, at.invariant.0, short, more, length-append at.agents.items (one ∷ [])),
      All-tail (λ e. cells_at e.env.desks ≡ c.args.cells.now) c.in-Some.env (into_iter_items c.next.new.self) (subst (All (λ e. cells_at e.env.desks ≡ c.args.cells.now)) steps at.invariant.1),
      (let all = All-append (λ h. h.promise.0.now ≡ c.args.cells.now) at.agents.items (one ∷ []) at.invariant.2 (All-cons (λ h. h.promise.0.now ≡ c.args.cells.now) one [] c.in_ok-start_agent.ensures (All-nil (λ h. h.promise.0.now ≡ c.args.cells.now))) in
          subst (All (λ h. h.promise.0.now ≡ c.args.cells.now)) (sym c.push_reserved.ensures.items) all),
      search rules,
    )
