use Rattle.std.proofs.Common.{◌≡◌, List, ap, map, ◌∙◌, subst, sym}
use Rattle.std.specs.Prelude.{All}
use Rattle.atomic_table.specs.Seated.{TableId}
use Rattle.ti_cell.specs.Seats.{Sitting, env_seats}
use Rattle.ti_cell.specs.View.{subject_of}
use Rattle.ti_handshake.specs.NewDesks.{IsSeatAt, desk_at}
use Rattle.ti_handshake.proofs.NewDesks.{desks_are, seats_are}
use Rattle.ti_handshake.proofs.shared_cell.SharedCell.make.Goals as goal

pub desks_of-requires : goal.desks_of-requires
desks_of-requires c =
    let cell : TableId = c.in_ok-cell-2.cell in
    let same : c.in_ok-cell.seats.items ≡ env_seats cell (subject_of c.args.limits c.args.number) c.args.limits.envs = c.in_ok-cell.ensures.others ∙ ap (λ (z : TableId). env_seats z (subject_of c.args.limits c.args.number) c.args.limits.envs) (sym c.in_ok-cell-2.ensures.cell) in
    subst (λ (l : List Sitting). All (IsSeatAt cell) l) (sym same)
    (seats_are cell (subject_of c.args.limits c.args.number) c.args.limits.envs)

pub returns-clause-desks : goal.returns-clause-desks
returns-clause-desks c =
    let cell : TableId = c.in_ok-cell-2.cell in
    let same : c.in_ok-cell.seats.items ≡ env_seats cell (subject_of c.args.limits c.args.number) c.args.limits.envs = c.in_ok-cell.ensures.others ∙ ap (λ (z : TableId). env_seats z (subject_of c.args.limits c.args.number) c.args.limits.envs) (sym c.in_ok-cell-2.ensures.cell) in
    c.in_ok-desks.ensures.desks ∙ (ap (λ (l : List Sitting). map desk_at l) same ∙ desks_are cell (subject_of c.args.limits c.args.number) c.args.limits.envs)
