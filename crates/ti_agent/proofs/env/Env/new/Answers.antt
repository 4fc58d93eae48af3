use Rattle.std.proofs.Common.{◌≡◌, ◌≤◌, ℕ, List, Some, length, ap, sym, subst, arith}
use Rattle.std.specs.Prelude.{slice_get}
use Rattle.std.proofs.lemmas.Option.{slice_get_within}
use Rattle.ti_types.specs.declared.numbers.EnvNo.{EnvNo}
use Rattle.ti_env.specs.Env.{EnvValue}
use Rattle.ti_replay.specs.Fronts.{stops_by}
use Rattle.ti_replay.specs.Legal.{calls_spent}
use Rattle.ti_handshake.specs.Desk.{DeskState}
use Rattle.ti_agent.specs.Env.{AreNewDesks, IsWhole}
use Rattle.ti_agent.proofs.env.Env.new.Goals as goal

-- new desks make a whole environment
new_whole : (env : EnvNo) (state : EnvValue) (desks : List DeskState) → length state.spent ≡ length desks → AreNewDesks env state desks
    → ((i : ℕ) (p : DeskState) → slice_get desks i ≡ Some p → length p.view.posted ≤ length p.view.mine) → IsWhole (record { env = env; state = state; desks = desks })
new_whole env state desks count new few = record {
  count = count;
  in_order = new.0;
  desks = λ i p at.
      let k = new.1 i p at in
      let out = few i p at in
      let none = ap (λ l. length l) k.2 in
      let paid : calls_spent p.env p.view.mine ≡ 0 = ap (λ l. calls_spent p.env l) k.2 in record {
        env_is = k.0;
        about = k.1;
        free = ap (λ l. stops_by p.env l) k.2;
        paid = omega (arith, paid);
        within = omega (arith, out, none);
      };
}

pub invariant_of-result : goal.invariant_of-result
invariant_of-result c =
    let items = c.deref-desk-items.ensures.value in
    let few : (i : ℕ) (p : DeskState) → slice_get c.args.desks.items i ≡ Some p → length p.view.posted ≤ length p.view.mine = λ i p at.
    let here = subst (λ (l : List DeskState). slice_get l i ≡ Some p) (sym items) at in
    c.loop-desk.invariant i p (omega (arith, slice_get_within _ i p here, c.loop-desk-test.false)) here in
    let whole = new_whole c.args.env c.args.state c.args.desks.items c.requires.count c.requires.desks few in
    (subst (λ (l : List DeskState). IsWhole (record { env = c.args.env; state = c.args.state; desks = l })) (sym c.from_vec.ensures) whole, (tt, λ k s h. tt))
