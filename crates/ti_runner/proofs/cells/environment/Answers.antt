use Rattle.std.proofs.Common.{rules, ℕ, ◌≡◌, ◌+◌, ◌<◌, ◌++◌, ◌∷◌, [], suc, List, Some, refl, ap, sym, ◌∙◌, arith, length, map, subst, take, slice_index_or}
use Rattle.std.specs.Prelude.{slice_get}
use Rattle.std.proofs.Math.Seq.{take-suc}
use Rattle.std.proofs.lemmas.List.{length-map, map-set, length-set, take_all}
use Rattle.std.proofs.lemmas.Option.{get_or_from_slice_get, slice_get_read}
use Rattle.atomic_table.specs.Seated.{TableId}
use Rattle.ti_cell.specs.View.{subject_of}
use Rattle.ti_handshake.specs.Desk.{DeskState}
use Rattle.ti_handshake.specs.NewDesks.{new_desks}
use Rattle.ti_runner.proofs.NewDesks.{AreHalf, half_here, half_more, half_all, mapped_get}
use Rattle.ti_runner.proofs.cells.environment.Goals as goal

pub take_desk-desk-requires : goal.take_desk-desk-requires
take_desk-desk-requires c =
    let at = c.loop-thread in
    let within : at.thread < length at.desks = omega (arith, at.invariant.2.count, length-map at.desks (λ v. v.items), c.requires.count, c.loop-thread-test.true) in
    record {
      desks = half_here c.args.limits c.args.env.0 at.thread c.args.cells.now (map (λ v. v.items) at.desks) _ c.index-cells-k.result at.invariant.2
          (mapped_get (λ v. v.items) at.desks at.thread c.index-desks-k.result within)
          (slice_get_read c.args.cells.now (length c.args.cells.now) at.thread c.index-cells-k.result refl (omega (arith, c.requires.count, c.loop-thread-test.true)) (search rules));
    }

pub loop-thread-preserved : goal.loop-thread-preserved
loop-thread-preserved c =
    let at = c.loop-thread in
    let cells : List TableId = c.args.cells.now in
    let cell : TableId = c.index-cells-k.result in
    let within : at.thread < length cells = omega (arith, c.requires.count, c.loop-thread-test.true) in
    let here : (other : TableId) → slice_get cells at.thread ≡ Some other → cell ≡ other = λ other there. search (rules, get_or_from_slice_get cells at.thread other cell there) in
    let next : at.thread + 1 ≡ suc at.thread = omega arith in
    let more : take (at.thread + 1) cells ≡ take at.thread cells ++ slice_index_or cells at.thread cell ∷ [] = ap (λ (n : ℕ). take n cells) next ∙ take-suc cells at.thread cell within in
    let read : slice_index_or cells at.thread cell ≡ cell = search rules in
    let half = half_more c.args.limits c.args.env.0 at.thread cells (map (λ v. v.items) at.desks) c.take_desk-desk.new.desks.items at.invariant.2
    (λ other there. c.take_desk-desk.ensures.rest ∙ ap (λ z. new_desks z (subject_of c.args.limits (record { 0 = at.thread })) c.args.env.0) (here other there))
    (length-set (map (λ v. v.items) at.desks) at.thread c.take_desk-desk.new.desks.items) in (
      c.in_ok-add_desk.ensures.limits ∙ at.invariant.0,
      c.in_ok-add_desk.ensures.added
          ∙ (ap (λ (l : List TableId). l ++ c.take_desk-desk.result.cell ∷ []) at.invariant.1
          ∙ (ap (λ (d : DeskState). take at.thread cells ++ d.cell ∷ []) c.take_desk-desk.ensures.desk
          ∙ (ap (λ (z : TableId). take at.thread cells ++ z ∷ []) (sym read) ∙ sym more))),
      subst (AreHalf c.args.limits c.args.env.0 (at.thread + 1) cells) (sym (map-set (λ v. v.items) at.desks at.thread c.take_desk-desk.new.desks)) half,
    )

pub returns-clause-here : goal.returns-clause-here
returns-clause-here c = c.loop-thread.invariant.1 ∙ take_all c.loop-thread.thread c.args.cells.now (search rules)

pub returns-clause-rest : goal.returns-clause-rest
returns-clause-rest c = half_all c.args.limits c.args.env.0 c.loop-thread.thread c.args.cells.now (map (λ v. v.items) c.loop-thread.desks) c.loop-thread.invariant.2 (search rules)
