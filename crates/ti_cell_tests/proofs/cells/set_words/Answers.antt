use Rattle.std.proofs.Common.{◌≡◌, ℕ, zero, suc, ◌+◌, ◌-◌, ◌++◌, Bool, cond, [], ◌∷◌, arith, refl, ap, ◌∙◌, subst, eq-eqb}
use Rattle.std.proofs.lemmas.List.Sums.{sum_by-append}
use Rattle.ti_types.specs.declared.entry.Entry.TheVariants.{Asked}
use Rattle.ti_types.specs.declared.call.Call.TheVariants.{SetWord}
use Rattle.ti_types.specs.declared.numbers.EnvNo.{EnvNo}
use Rattle.ti_replay.specs.Legal.{asked_by, ask_count}
use Rattle.ti_cell_tests.specs.Cells.{IsReady, sets}
use Rattle.ti_cell_tests.proofs.cells.set_words.Goals as goal

asked_sets : (env : EnvNo) (first n : ℕ) → asked_by env (sets env first n) ≡ n
asked_sets env first zero = refl
asked_sets env first (suc n) =
    let more : asked_by env (sets env first n ++ Asked env n (SetWord (first + n)) ∷ []) ≡ asked_by env (sets env first n) + 1 =
    sum_by-append (ask_count env) (sets env first n) (Asked env n (SetWord (first + n)) ∷ []) ∙ ap (λ (b : Bool). asked_by env (sets env first n) + (0 + cond b 1 0)) (eq-eqb env.0 env.0 refl) in
    let before = asked_sets env first n in
    more ∙ omega (arith, before)

pub loop-i-preserved : goal.loop-i-preserved
loop-i-preserved g c =
    let within = c.loop-i-test.true in
    let one_less : 100 - c.loop-i.i ≡ 100 - (c.loop-i.i + 1) + 1 = omega (arith, within, c.loop-i.auto.i-end) in
    let before = c.loop-i.invariant.1 in
    let one_more : suc c.loop-i.i ≡ c.loop-i.i + 1 = omega arith in
    let word : c.from.result ≡ c.loop-i.i = c.from.ensures in
    let number : asked_by c.args.env c.loop-i.seat.view.mine ≡ c.loop-i.i = ap (asked_by c.args.env) before ∙ asked_sets c.args.env c.args.first c.loop-i.i in (
      c.set_word-seat.ensures.ready (100 - (c.loop-i.i + 1)) (subst (λ (k : ℕ). IsReady c.args.cell.now c.args.env k c.loop-i.seat) one_less c.loop-i.invariant.0),
      c.set_word-seat.ensures.told ∙ ((λ i. before i ++ Asked c.args.env (number i) (SetWord (c.args.first + word i)) ∷ []) ∙ ap (sets c.args.env c.args.first) one_more),
    )
