use Rattle.std.proofs.Common.{rules, ◌≡◌, ◌++◌, ◌∷◌, [], ap, sym, ◌∙◌, arith, length, map, subst}
use Rattle.std.proofs.lemmas.List.{length-append, length-map, map-append}
use Rattle.ti_cell.specs.View.{subject_of}
use Rattle.ti_handshake.specs.NewDesks.{new_desks}
use Rattle.ti_runner.specs.Cells.{AreDesks, seats_at}
use Rattle.ti_runner.proofs.Owners.{seats_push}
use Rattle.ti_runner.proofs.NewDesks.{desks_push}
use Rattle.ti_runner.proofs.cells.make_cells.Goals as goal

pub loop-number-preserved : goal.loop-number-preserved
loop-number-preserved c =
    let at = c.loop-number in
    let made = c.in_ok-cell in
    let was = at.invariant in
    let limits = c.args.limits in
    let cells = c.push_reserved.ensures.items in
    let threads = c.push_reserved-in-loop-number.ensures.items in
    let desks = c.push_reserved-in-loop-number-2.ensures.items in
    let at_place : length (map (λ v. v.items) at.desks.items) ≡ at.number = length-map at.desks.items (λ v. v.items) ∙ was.2 in
    let theirs : made.others.items ≡ new_desks made.cell (subject_of limits (record { 0 = length (map (λ v. v.items) at.desks.items) })) limits.envs =
    made.ensures.desks ∙ ap (λ n. new_desks made.cell (subject_of limits (record { 0 = n })) limits.envs) (sym at_place) in
    let own = seats_push at.cells.items at.threads.items made.cell made.fresh was.6 made.ensures.fresh.0 in
    let all = desks_push limits limits.envs at.cells.items (map (λ v. v.items) at.desks.items) made.cell made.others.items was.7 theirs in (
      omega (arith, was.0, ap length cells, length-append at.cells.items (made.cell ∷ [])),
      omega (arith, was.1, ap length threads, length-append at.threads.items (made.fresh ∷ [])),
      omega (arith, was.2, ap length desks, length-append at.desks.items (made.others ∷ [])),
      search rules,
      search rules,
      search rules,
      ap seats_at threads ∙ (own ∙ sym cells),
      subst (λ l. AreDesks limits limits.envs l (map (λ v. v.items) c.push_reserved-in-loop-number-2.new.self.items)) (sym cells)
          (subst (AreDesks limits limits.envs (at.cells.items ++ made.cell ∷ [])) (sym (ap (map (λ v. v.items)) desks ∙ map-append (λ v. v.items) at.desks.items (made.others ∷ []))) all),
    )
