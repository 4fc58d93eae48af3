use Rattle.std.proofs.Common.{◌≡◌, ◌+◌, ◌<◌, ℕ, List, length, ap, refl, sym, ◌∙◌, arith, subst}
use Rattle.ti_types.specs.declared.numbers.ThreadNo.{ThreadNo}
use Rattle.ti_handshake.specs.Desk.{DeskState}
use Rattle.ti_agent.specs.Env.{Environment, IsWhole, place_in, place_of, thread_at}
use Rattle.ti_agent.specs.Desks.{IsTaken}
use Rattle.ti_agent.specs.FreeDesk.{IsFree}
use Rattle.ti_agent.proofs.Places.{name_of, place_back, place_here}
use Rattle.ti_agent.proofs.Whole.{desk_there, free_of, left_is, taken, whole_less}
use Rattle.ti_agent.proofs.AtHome.{home_less, same_env}
use Rattle.ti_agent.proofs.env.Env.take_by_index.Goals as goal

-- a thread whose place is an index has this index as its place
as_place : (l : List DeskState) (t : ThreadNo) (i : ℕ) → i ≡ place_in l t → (record { 0 = i }) ≡ place_of l t
as_place l t i is = λ j. record { 0 = is j }

-- it is the thread there
its_number : (l : List DeskState) (t : ThreadNo) (i : ℕ) → i ≡ place_in l t → i < length l → (thread_at l i).0 ≡ t.0
its_number l t i is h = ap (λ (j : ℕ). (thread_at l j).0) is ∙ ap (λ (x : ThreadNo). x.0) (place_back l t (subst (λ (j : ℕ). j < length l) is h))

pub invariant_of-result : goal.invariant_of-result
invariant_of-result g c =
    let s : Environment = record { env = c.self.inside.env; state = c.self.inside.state; desks = c.self.inside.desks } in
    let i = c.args.index in
    let p = c.remove-desk.result in
    let h : i < length s.desks = omega (arith, c.if-index-threads.false, c.threads.ensures.counted, c.self.invariant.0.count) in
    subst (λ (n : ℕ). IsFree (record { desk = p; spent = n })) (sym c.remove_place-spent.ensures.spent)
    (free_of s i p (c.self.invariant.0.desks i p (desk_there s i p h c.remove-desk.ensures.value)))

pub invariant_of-self : goal.invariant_of-self
invariant_of-self g c =
    let s : Environment = record { env = c.self.inside.env; state = c.self.inside.state; desks = c.self.inside.desks } in
    let i = c.args.index in
    let t = thread_at s.desks i in
    let h : i < length s.desks = omega (arith, c.if-index-threads.false, c.threads.ensures.counted, c.self.invariant.0.count) in
    let is : i ≡ place_in s.desks t = sym (place_here s.desks t i c.self.invariant.0.in_order h refl) in
    let number : c.thread.result.0 ≡ t.0 = ap (λ (x : ThreadNo). x.0) (sym (name_of s.desks i c.remove-desk.result c.thread.result h c.remove-desk.ensures.value c.thread.ensures)) in
    let less = left_is s t (record { 0 = i }) c.remove_place-spent.new.self c.know.new.self c.remove-desk.new.self _ (as_place s.desks t i is) c.remove_place-spent.ensures.removed c.know.ensures (ap (λ (n : ℕ). n + 1) (c.from.ensures ∙ number)) c.remove-desk.ensures.items in (
      subst (λ (x : Environment). IsWhole x) (sym less) (whole_less s t c.self.invariant.0 (subst (λ (j : ℕ). j < length s.desks) is h)),
      home_less g.H.Home.about g.H.Home.holds c.self.inside.home s c.know.new.self c.remove-desk.new.self (place_in s.desks t) (ap (λ (x : Environment). x.desks) less) (ap (λ (x : Environment). x.state.limits) less) c.self.invariant.1,
    )

pub returns-clause-taken : goal.returns-clause-taken
returns-clause-taken g c t place =
    let s : Environment = record { env = c.self.inside.env; state = c.self.inside.state; desks = c.self.inside.desks } in
    let i = c.args.index in
    let same = same_env c.self.view_is in
    let h : i < length s.desks = omega (arith, c.if-index-threads.false, c.threads.ensures.counted, c.self.invariant.0.count) in
    let is : i ≡ place_in s.desks t = place ∙ ap (λ (x : Environment). place_in x.desks t) (sym same) in
    let number : c.thread.result.0 ≡ t.0 = ap (λ (x : ThreadNo). x.0) (sym (name_of s.desks i c.remove-desk.result c.thread.result h c.remove-desk.ensures.value c.thread.ensures)) ∙ its_number s.desks t i is h in
    let less = left_is s t (record { 0 = i }) c.remove_place-spent.new.self c.know.new.self c.remove-desk.new.self _ (as_place s.desks t i is) c.remove_place-spent.ensures.removed c.know.ensures (ap (λ (n : ℕ). n + 1) (c.from.ensures ∙ number)) c.remove-desk.ensures.items in
    let new : Environment = record { env = s.env; state = c.know.new.self; desks = c.remove-desk.new.self } in
    subst (λ (x : Environment). IsTaken x new t (record { desk = c.remove-desk.result; spent = c.remove_place-spent.result })) same
    (taken s new t (record { 0 = i }) c.remove-desk.result c.remove_place-spent.result c.self.invariant.0 (as_place s.desks t i is) h c.remove-desk.ensures.value c.remove_place-spent.ensures.spent less)
