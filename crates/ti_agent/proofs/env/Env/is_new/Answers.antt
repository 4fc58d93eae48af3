use Rattle.std.proofs.Common.{◌≡◌, ◌-◌, ◌&&◌, suc, nat_le, nat_lt, true, length, ap, ap₂, sym, ◌∙◌, arith, Bool}
use Rattle.std.specs.List.{list_all}
use Rattle.std.proofs.lemmas.Bool.Decides.{nat_tests}
use Rattle.ti_types.specs.declared.numbers.ThreadNo.{ThreadNo}
use Rattle.ti_agent.specs.Env.{Environment}
use Rattle.ti_agent.specs.Desks.{is_new}
use Rattle.ti_agent.proofs.Places.{name_of, last_tells}
use Rattle.ti_agent.proofs.AtHome.{same_env}
use Rattle.ti_agent.proofs.env.Env.is_new.Goals as goal

pub returns-else-count-eq0 : goal.returns-else-count-eq0
returns-else-count-eq0 g c =
    let l = c.self.inside.desks in
    let s : Environment = record { env = c.self.inside.env; state = c.self.inside.state; desks = l } in
    let t : ThreadNo = c.args.thread in
    let n = c.threads-count.result in
    let long : length l ≡ suc (n - 1) = omega (arith, c.self.invariant.0.count, c.threads-count.ensures.counted, c.if-count-eq0.false) in
    let name = name_of l (n - 1) c.index.result.now c.thread.result (omega (arith, long)) c.index.ensures c.thread.ensures in
    let known : nat_le s.state.known t.0 ≡ true = grind (arith, nat_tests, c.from.ensures, c.known.ensures, c.if-from-known.false) in
    let last : list_all (λ p. nat_lt p.view.subject.thread.0 t.0) l ≡ nat_lt c.thread.result.0 t.0 = last_tells l t.0 (n - 1) c.self.invariant.0.in_order long ∙ ap (λ (x : ThreadNo). nat_lt x.0 t.0) name in
    let both : is_new s t ≡ nat_lt c.thread.result.0 t.0 = ap₂ (λ (a b : Bool). a && b) known last in
    sym (ap (λ (x : Environment). is_new x t) (sym (same_env c.self.view_is)) ∙ both)
