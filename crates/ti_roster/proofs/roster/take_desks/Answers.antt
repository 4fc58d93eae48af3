use Rattle.std.proofs.Common.{◌≡◌, ◌+◌, ◌<◌, ℕ, List, [], ◌∷◌, ◌++◌, length, length-append, drop, Option, Some, inl, inr, ap, sym, ◌∙◌, subst, arith}
use Rattle.std.specs.Prelude.{slice_get, slice_set, vec_capacity}
use Rattle.std.proofs.lemmas.Bool.{cases_eq}
use Rattle.std.proofs.lemmas.List.{append_assoc}
use Rattle.ti_agent.specs.FreeDesk.{FreeState}
use Rattle.ti_roster.specs.declared.row.Row.{Row}
use Rattle.ti_roster.specs.Rows.{IsTaken, and_desk, desks_in}
use Rattle.ti_roster.proofs.Places.{get_there, get_within, is_same, length_set, read_at, set_here, set_other}
use Rattle.ti_roster.proofs.Rows.{drop_step}
use Rattle.ti_roster.proofs.roster.take_desks.Goals as goal
use Rattle.ti_roster.proofs.roster.take_desks.Goals.{in-Some, in_default}

pub take-requires : goal.take-requires
take-requires c =
    let at = c.loop-i in
    let old : List Row = c.args.rows.now in
    let d : Row = c.index_mut.result.now in
    let within : at.i < length at.rows = omega (arith, c.loop-i-test.true, c.len-i-end.ensures, at.invariant.0) in
    let there : slice_get at.rows at.i ≡ Some d = read_at at.rows at.i d within c.index_mut.ensures.value in
    let first = get_there old at.i (omega (arith, within, at.invariant.0)) in
    c.requires.places at.i d (first.1 ∙ ap (λ (r : Row). Some r) (sym (at.invariant.2 at.i first.0 d (omega arith) first.1 there)))

-- one row more is behind
pub loop-i-preserved : goal.loop-i-preserved
loop-i-preserved c =
    let at = c.loop-i in
    let i = at.i in
    let e = c.args.env in
    let old : List Row = c.args.rows.now in
    let now : List Row = at.rows in
    let d : Row = c.index_mut.result.now in
    let x : Row = c.take.new.self in
    let within : i < length now = omega (arith, c.loop-i-test.true, c.len-i-end.ensures, at.invariant.0) in
    let there : slice_get now i ≡ Some d = read_at now i d within c.index_mut.ensures.value in
    let first = get_there old i (omega (arith, within, at.invariant.0)) in
    let was : slice_get old i ≡ Some d = first.1 ∙ ap (λ (r : Row). Some r) (sym (at.invariant.2 i first.0 d (omega arith) first.1 there)) in
    let taken : IsTaken e d x = record { newcomer = c.take.ensures.rest.0; stage = c.take.ensures.rest.1; desks = c.take.ensures.taken } in
    let step : drop i old ≡ d ∷ drop (i + 1) old = drop_step old i (i + 1) d (omega arith) was in
    let rest : List FreeState = desks_in e (drop (i + 1) old) in
    let all : List FreeState = c.args.desks.now.items ++ desks_in e (drop c.args.start old) in
    let got : desks_in e (drop i old) ≡ and_desk (Some c.take.result) rest = ap (λ (l : List Row). desks_in e l) step ∙ ap (λ (o : Option (Option FreeState)). and_desk o rest) c.take.ensures.desk in (
      length_set now i x ∙ at.invariant.0,
      λ j r q s h a b. elim (cases_eq j i) [
        | inl same ↦
            let here : x ≡ q = is_same x q (sym (set_here now i x within) ∙ (ap (λ (k : ℕ). slice_get (slice_set now i x) k) (sym same) ∙ b)) in
            let from : d ≡ r = is_same d r (sym was ∙ (ap (λ (k : ℕ). slice_get old k) (sym same) ∙ a)) in
            subst (λ (y : Row × Row). IsTaken e y.0 y.1) (λ k. (from k, here k)) taken
        | inr other ↦ at.invariant.1 j r q s (omega (arith, h, other)) a (sym (set_other now i j x other) ∙ b)
      ],
      λ j r q h a b. at.invariant.2 j r q (omega (arith, h)) a (sym (set_other now i j x (λ same. omega (arith, same, h))) ∙ b),
      elim c.match-take.branch [
        | in-Some w ↦
            let desk : FreeState = w.in-Some.desk in
            let one : desks_in e (drop i old) ≡ desk ∷ rest = got ∙ ap (λ (o : Option FreeState). and_desk (Some o) rest) w.in-Some.is in
            ap (λ v. v.items ++ rest) w.desks-is
            ∙ (ap (λ (l : List FreeState). l ++ rest) w.push_reserved.ensures.items
            ∙ (append_assoc at.desks.items (desk ∷ []) rest ∙ (ap (λ (l : List FreeState). at.desks.items ++ l) (sym one) ∙ at.invariant.3)))
        | in_default w ↦
            let same : desks_in e (drop i old) ≡ rest = got ∙ ap (λ (o : Option FreeState). and_desk (Some o) rest) w.in_default.is in
            ap (λ v. v.items ++ rest) w.desks-is ∙ (ap (λ (l : List FreeState). at.desks.items ++ l) (sym same) ∙ at.invariant.3)
      ],
      elim c.match-take.branch [
        | in-Some w ↦ omega (arith, at.invariant.4, w.push_reserved.ensures.capacity, ap (λ v. vec_capacity v) w.desks-is)
        | in_default w ↦ omega (arith, at.invariant.4, ap (λ v. vec_capacity v) w.desks-is)
      ],
      elim c.match-take.branch [
        | in-Some w ↦
            let longer = ap (λ (l : List FreeState). length l) w.push_reserved.ensures.items ∙ length-append at.desks.items (w.in-Some.desk ∷ []) in
            omega (arith, at.invariant.5, longer, ap (λ v. length v.items) w.desks-is)
        | in_default w ↦ omega (arith, at.invariant.5, ap (λ v. length v.items) w.desks-is)
      ],
      λ j r q h a b. at.invariant.6 j r q h a (sym (set_other now i j x (λ same. omega (arith, same, h, at.invariant.7))) ∙ b),
      omega (arith, at.invariant.7),
    )

pub returns-clause-each : goal.returns-clause-each
returns-clause-each c =
    λ j r q s a b. c.loop-i.invariant.1 j r q s (omega (arith, get_within c.args.rows.now j r a, c.loop-i-test.false, c.len-i-end.ensures)) a b
