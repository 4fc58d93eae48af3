use Rattle.std.specs.List.{All}
use Rattle.std.proofs.lemmas.List.Elements.{All-cons, All-nil}
use Rattle.std.proofs.Common.{ap, List, ◌∙◌, rules, ◌≡◌, ◌∷◌, [], ℤ, refl, sym, subst, arith, to_z, of_z, w32}
use Rattle.ti_types.specs.declared.entry.Entry.TheVariants.{Stop}
use Rattle.ti_vmop.proofs.First.{first_none}
use Rattle.ti_agent.specs.Buffers.{AreRoomy}
use Rattle.ti_agent.specs.Env.{Environment}
use Rattle.ti_agent.specs.Gathering.{IsAsked}
use Rattle.ti_agent.specs.Home.{IsAtHome}
use Rattle.ti_agent.specs.HousedTrace.{envs_of}
use Rattle.ti_agent.proofs.AtHome.{same_env}
use Rattle.ti_agent.proofs.env.Env.begin.Goals as goal

pub invariant_of-result : goal.invariant_of-result
invariant_of-result g c =
    let s : Environment = record { env = c.self.inside.env; state = c.self.inside.state; desks = c.self.inside.desks } in
    let P : Environment → Type 0 = IsAtHome g.H.Home.about g.H.Home.holds c.self.inside.home in
    let p = c.args.plan in
    let m : to_z w32 (of_z w32 p.max_count) ≡ p.max_count = search rules in
    let asked : IsAsked s p.stopping.items p.places.items (to_z w32 (of_z w32 p.max_count)) = subst (λ (v : Environment × ℤ). IsAsked v.0 p.stopping.items p.places.items v.1) (λ j. (sym (same_env c.self.view_is) j, sym m j)) c.requires.asked in
    let roomy = subst (λ (v : Environment × ℤ). AreRoomy v.0.state.limits v.1 p.bufs.items) (λ j. (sym (same_env c.self.view_is) j, sym m j)) c.requires.roomy in
    let one : c.and-began.result.items ≡ c.args.self ∷ [] = search rules in
    let began : envs_of c.and-began.result.items ≡ s ∷ [] = ap envs_of one ∙ ap (λ (x : Environment). x ∷ []) (sym (same_env c.self.view_is)) in (
      record {
        start = s;
        began_is = began;
        whole = c.self.invariant.0;
        asked = asked;
        at = record {
          few = omega arith;
          env_is = refl;
          state_is = refl;
          desks = first_none p.stopping.items s.desks (λ e. Stop e ∷ []);
          count = c.requires.count;
          roomy = roomy;
          none_read = c.requires.none_read;
        };
      },
      c.requires.room,
      subst (λ (l : List Environment). All P l) (sym began) (All-cons P s [] c.self.invariant.1 (All-nil P)),
    )
