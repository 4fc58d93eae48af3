use Rattle.std.proofs.Common.{◌≡◌, ◌≢◌, ◌<◌, ◌≤◌, ℕ, List, length, ap, sym, ◌∙◌, arith, subst, rules}
use Rattle.ti_types.specs.declared.numbers.ThreadNo.{ThreadNo}
use Rattle.ti_handshake.specs.Desk.{DeskState}
use Rattle.ti_agent.specs.Env.{Environment, AreInOrder, place_in, place_of, thread_at}
use Rattle.ti_agent.proofs.AtHome.{same_env}
use Rattle.ti_agent.proofs.Places.{place_here, place_missed}
use Rattle.ti_agent.proofs.env.Env.place_of.Goals as goal

-- a place that was found, as an environment has it
as_found : (l k : List DeskState) (thread : ThreadNo) (i : ℕ) → l ≡ k → place_in l thread ≡ i → (record { 0 = i }) ≡ place_of k thread
as_found l k thread i same is = (λ j. record { 0 = sym is j }) ∙ ap (λ (d : List DeskState). place_of d thread) same

-- a desk that is there
at_desk : (l k : List DeskState) (thread : ThreadNo) (i : ℕ) → l ≡ k → AreInOrder l → i < length k → (thread_at k i).0 ≡ thread.0 → (record { 0 = i }) ≡ place_of k thread
at_desk l k thread i same order here is =
    as_found l k thread i same (place_here l thread i order (subst (λ (d : List DeskState). i < length d) (sym same) here) (ap (λ (d : List DeskState). (thread_at d i).0) same ∙ is))

pub returns-then-is_at : goal.returns-then-is_at
returns-then-is_at g c =
    at_desk c.self.inside.desks c.args.self.now.env.desks c.args.thread c.args.thread.0 (ap (λ (x : Environment). x.desks) (same_env c.self.view_is)) c.self.invariant.0.in_order (c.is_at.ensures.there c.if-is_at.true) (c.is_at.ensures.at c.if-is_at.true)

pub overflow_cast-place : goal.overflow_cast-place
overflow_cast-place g c =
    let most : c.partition_point-place.result ≤ 65536 = omega (arith, c.partition_point-place.ensures.within, c.self.invariant.0.count, c.threads-count.ensures.counted, c.threads-count.ensures.most) in
    search rules

pub returns-then-is_at-2 : goal.returns-then-is_at-2
returns-then-is_at-2 g c =
    at_desk c.self.inside.desks c.args.self.now.env.desks c.args.thread c.partition_point-place.result (ap (λ (x : Environment). x.desks) (same_env c.self.view_is)) c.self.invariant.0.in_order (c.is_at-2.ensures.there c.if-is_at-2.true) (c.is_at-2.ensures.at c.if-is_at-2.true)

pub returns : goal.returns
returns g c =
    let l = c.self.inside.desks in
    let k = c.args.self.now.env.desks in
    let i : ℕ = c.partition_point-place.result in
    let same : l ≡ k = ap (λ (x : Environment). x.desks) (same_env c.self.view_is) in
    let count : length l ≡ c.threads-count.result = sym c.self.invariant.0.count ∙ c.threads-count.ensures.counted in
    let other : i < length l → (thread_at l i).0 ≢ c.args.thread.0 = λ h e. c.is_at-2.ensures.other c.if-is_at-2.false (subst (λ (d : List DeskState). i < length d) same h) (ap (λ (d : List DeskState). (thread_at d i).0) (sym same) ∙ e) in
    as_found l k c.args.thread c.threads-count.result same (place_missed l c.args.thread i c.self.invariant.0.in_order c.partition_point-place.ensures.within c.partition_point-place.ensures.below c.partition_point-place.ensures.from other ∙ count)
