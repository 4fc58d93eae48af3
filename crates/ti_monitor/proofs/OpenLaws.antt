-- A connection that is opened.
use Rattle.std.proofs.Common.{◌≡◌, ℕ, ◌<◌, ◌≤◌, true, false, List, [], ◌∷◌, ◌++◌, length, map, Option, Some, None, Result, Ok, Err, refl, sym, ap, subst, ◌∙◌, arith}
use Rattle.std.specs.Prelude.{IfErr, IfOk, OnErr, count_by, is_some, nat_lt, slice_set, if◌then◌else◌}
use Rattle.std.proofs.lemmas.Bool.Decides.{nat_tests}
use Rattle.std.proofs.lemmas.List.{length-map, map-append}
use Rattle.ti_http.specs.declared.hosts.Hosts.{Hosts}
use Rattle.ti_http.specs.Talks.{Talk, opened}
use Rattle.ti_monitor.specs.declared.door_desk.Desk.{Desk}
use Rattle.ti_monitor.specs.declared.door_seat.Seat.{Seat}
use Rattle.ti_monitor.specs.declared.door_error.DoorError.{DoorError}
use Rattle.ti_monitor.specs.declared.door_error.DoorError.TheVariants.{OutOfMemory}
use Rattle.ti_monitor.specs.declared.door_seats.ConnNo.{ConnNo}
use Rattle.ti_monitor.specs.Doors.{DoorValue, Opens, OpensNone, with_new}
use Rattle.ti_monitor.specs.declared.door_desk.Due.{Due}
use Rattle.ti_monitor.specs.SeatLists.{door_of, due_of, seat_at, talk_of}
use Rattle.ti_monitor.proofs.DoorLaws.{dues_set, map_set, open_count, talk_at_of, with_list}

lt_true : (a b : ℕ) → a < b → nat_lt a b ≡ true
lt_true a b h = grind (arith, nat_tests)

lt_self : (n : ℕ) → nat_lt n n ≡ false
lt_self n = grind (arith, nat_tests)

past : (seats : List (Option Seat)) → seat_at seats (length seats) ≡ None
past [] = refl
past (o ∷ seats) = past seats

seats_length : (seats : List (Option Seat)) → length (map talk_of seats) ≡ length seats
seats_length seats = length-map seats talk_of

dues_length : (seats : List (Option Seat)) → length (map due_of seats) ≡ length seats
dues_length seats = length-map seats due_of

-- a list with one at a place within it
set_here : {X : Type 0} (xs : List (Option X)) (place : ℕ) (x : Option X) → place < length xs → slice_set xs place x ≡ with_new xs place x
set_here xs place x h = sym (ap (λ b. if b then slice_set xs place x else xs ++ x ∷ []) (lt_true place (length xs) h))

-- and with one at its end
set_end : {X : Type 0} (xs : List (Option X)) (place : ℕ) (x : Option X) → place ≡ length xs → xs ++ x ∷ [] ≡ with_new xs place x
set_end xs place x h = sym (ap (λ b. if b then slice_set xs place x else xs ++ x ∷ []) (ap (λ n. nat_lt n (length xs)) h ∙ lt_self (length xs)))

opens_here : (hosts : Hosts) (desk : Desk) (old new : List (Option Seat)) (place now : ℕ) (s : Seat) → place < length old → length old ≤ 16 → seat_at old place ≡ None
    → s.connection ≡ opened hosts now → s.due ≡ None → new ≡ slice_set old place (Some s) → Opens (door_of hosts old desk) (door_of hosts new desk) place now
opens_here hosts desk old new place now s within few free is none put =
    let t = opened hosts now in
    let talks = map talk_of old in (
      omega arith,
      omega (arith, seats_length old),
      talk_at_of hosts desk old place ∙ ap talk_of free,
      ap (λ xs. door_of hosts xs desk) put
          ∙ ap (λ ts. with_list hosts desk ts (map due_of (slice_set old place (Some s)))) (
          map_set old place (Some s) ∙ ap (λ (x : Talk). slice_set talks place (Some x)) is ∙ set_here talks place (Some t) (omega (arith, seats_length old))
          )
          ∙ ap (with_list hosts desk (with_new talks place (Some t))) (
          dues_set old place (Some s) ∙ ap (λ (u : Option Due). slice_set (map due_of old) place u) none ∙ set_here (map due_of old) place None (omega (arith, dues_length old))
          ),
    )

pub opens_at : (hosts : Hosts) (desk : Desk) (old new : List (Option Seat)) (d : DoorValue) (place now : ℕ) (s : Seat) → door_of hosts old desk ≡ d → place < length old
    → length old ≤ 16 → seat_at old place ≡ None → s.connection ≡ opened hosts now → s.due ≡ None → new ≡ slice_set old place (Some s) → Opens d (door_of hosts new desk) place now
opens_at hosts desk old new d place now s door within few free is none put =
    subst (λ (x : DoorValue). Opens x (door_of hosts new desk) place now) door (opens_here hosts desk old new place now s within few free is none put)

opens_end : {E : Type 0} (hosts : Hosts) (desk : Desk) (r : Result ConnNo E) (old new : List (Option Seat)) (now : ℕ) (s : Seat)
    → IfOk r (λ c. (c.0 ≡ length old) × (c.0 < 16) × (new ≡ old ++ Some s ∷ [])) → s.connection ≡ opened hosts now → s.due ≡ None
    → IfOk r (λ c. Opens (door_of hosts old desk) (door_of hosts new desk) c.0 now)
opens_end hosts desk (Err e) old new now s h is none = tt
opens_end hosts desk (Ok c) old new now s h is none =
    let t = opened hosts now in
    let talks = map talk_of old in (
      h.1,
      omega (arith, h.0, seats_length old),
      talk_at_of hosts desk old c.0 ∙ ap talk_of (ap (seat_at old) h.0 ∙ past old),
      ap (λ xs. door_of hosts xs desk) h.2
          ∙ ap (λ ts. with_list hosts desk ts (map due_of (old ++ Some s ∷ []))) (
          map-append talk_of old (Some s ∷ []) ∙ ap (λ (x : Talk). talks ++ Some x ∷ []) is ∙ set_end talks c.0 (Some t) (h.0 ∙ sym (seats_length old))
          )
          ∙ ap (with_list hosts desk (with_new talks c.0 (Some t))) (
          map-append due_of old (Some s ∷ []) ∙ ap (λ (u : Option Due). map due_of old ++ u ∷ []) none ∙ set_end (map due_of old) c.0 None (h.0 ∙ sym (dues_length old))
          ),
    )

pub opens_add : {E : Type 0} (hosts : Hosts) (desk : Desk) (r : Result ConnNo E) (old new : List (Option Seat)) (d : DoorValue) (now : ℕ) (s : Seat) → door_of hosts old desk ≡ d
    → IfOk r (λ c. (c.0 ≡ length old) × (c.0 < 16) × (new ≡ old ++ Some s ∷ [])) → s.connection ≡ opened hosts now → s.due ≡ None
    → IfOk r (λ c. Opens d (door_of hosts new desk) c.0 now)
opens_add hosts desk r old new d now s door h is none = subst (λ (x : DoorValue). IfOk r (λ c. Opens x (door_of hosts new desk) c.0 now)) door (opens_end hosts desk r old new now s h is none)

-- with no number free, as many are open as have a place
pub all_open : (hosts : Hosts) (desk : Desk) (old : List (Option Seat)) (d : DoorValue) → door_of hosts old desk ≡ d → count_by is_some old ≡ length old
    → count_by is_some d.talks ≡ length old
all_open hosts desk old d door all = subst (λ (x : DoorValue). count_by is_some x.talks ≡ length old) door (open_count old ∙ all)

-- without memory for one more, nothing changed
pub none_added : (hosts : Hosts) (desk : Desk) (r : Result ConnNo DoorError) (old new : List (Option Seat)) (d : DoorValue) → door_of hosts old desk ≡ d → count_by is_some old ≡ length old
    → length old < 16 → IfErr r (λ e. e ≡ OutOfMemory) → OnErr r (new ≡ old) → IfErr r (OpensNone d (door_of hosts new desk))
none_added hosts desk (Ok c) old new d door all few is same = tt
none_added hosts desk (Err e) old new d door all few is same =
    subst (OpensNone d (door_of hosts new desk)) (sym is) (subst (λ (n : ℕ). n < 16) (sym (all_open hosts desk old d door all)) few, ap (λ xs. door_of hosts xs desk) same ∙ door)
