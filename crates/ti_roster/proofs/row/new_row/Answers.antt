use Rattle.std.proofs.Common.{◌∙◌, List, Some, ap, map, refl, subst, sym}
use Rattle.std.specs.Prelude.{All}
use Rattle.ti_cell.specs.View.{subject_of}
use Rattle.ti_handshake.specs.Desk.{DeskState}
use Rattle.ti_roster.specs.declared.stage.Stage.TheVariants.{New}
use Rattle.ti_roster.specs.Rows.{IsUnused, free_at}
use Rattle.ti_roster.proofs.Rows.{desks_unused, new_row_is}
use Rattle.ti_roster.proofs.row.new_row.Goals as goal

pub free_desks-requires : goal.free_desks-requires
free_desks-requires c =
    subst (λ (l : List DeskState). All IsUnused l) (sym c.in_ok-cell.ensures.desks)
    (desks_unused c.in_ok-cell.cell (subject_of c.args.limits c.args.thread) c.args.limits.envs)

pub returns-clause-row : goal.returns-clause-row
returns-clause-row c = (
  refl,
  refl,
  new_row_is c.args.limits (record { newcomer = record { thread = c.args.thread; info = c.args.info; cell = c.in_ok-cell.cell }; stage = New; desks = c.in_ok-desks.desks }) refl
      (c.in_ok-desks.ensures.desks ∙ ap (λ (l : List DeskState). map (λ (d : DeskState). Some (free_at d)) l) c.in_ok-cell.ensures.desks),
)
