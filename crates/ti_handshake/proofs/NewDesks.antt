-- The desks at a thread that was just made.
use Rattle.std.proofs.Common.{◌≡◌, ◌-◌, ℕ, zero, suc, List, [], ◌∷◌, ◌++◌, map, refl, ap, ◌∙◌, arith}
use Rattle.std.specs.Prelude.{All}
use Rattle.std.proofs.lemmas.List.{map-append}
use Rattle.std.proofs.lemmas.List.Elements.{All-append, All-cons, All-nil}
use Rattle.atomic_table.specs.Seated.{TableId}
use Rattle.ti_cell.specs.declared.view.Subject.{Subject}
use Rattle.ti_cell.specs.Seats.{env_seats}
use Rattle.ti_cell.specs.View.{newcomer}
use Rattle.ti_handshake.specs.Desk.{DeskState}
use Rattle.ti_handshake.specs.NewDesks.{IsSeatAt, desk_at, new_desk, new_desks}

pub seats_are : (cell : TableId) (s : Subject) (n : ℕ) → All (IsSeatAt cell) (env_seats cell s n)
seats_are cell s zero = All-nil (IsSeatAt cell)
seats_are cell s (suc n) =
    All-append (IsSeatAt cell) (env_seats cell s n) (record { cell = cell; view = newcomer s (suc n) 0 } ∷ []) (seats_are cell s n)
    (All-cons (IsSeatAt cell) (record { cell = cell; view = newcomer s (suc n) 0 }) [] refl (All-nil (IsSeatAt cell)))

back_one : (n : ℕ) → suc n - 1 ≡ n
back_one n = omega arith

last_is : (cell : TableId) (s : Subject) (n : ℕ) → desk_at (record { cell = cell; view = newcomer s (suc n) 0 }) ≡ new_desk cell s (record { 0 = n })
last_is cell s n = ap (λ (k : ℕ). record { cell = cell; env = record { 0 = k }; view = newcomer s (suc n) 0; cancelled = []; former = 0 }) (back_one n)

pub desks_are : (cell : TableId) (s : Subject) (n : ℕ) → map desk_at (env_seats cell s n) ≡ new_desks cell s n
desks_are cell s zero = refl
desks_are cell s (suc n) =
    map-append desk_at (env_seats cell s n) (record { cell = cell; view = newcomer s (suc n) 0 } ∷ [])
    ∙ (ap (λ (l : List DeskState). l ++ desk_at (record { cell = cell; view = newcomer s (suc n) 0 }) ∷ []) (desks_are cell s n)
    ∙ ap (λ (d : DeskState). new_desks cell s n ++ d ∷ []) (last_is cell s n))
