-- Where a thread stops, it may stop.
use Rattle.std.proofs.Common.{◌≡◌, ℕ, Bool, true, false, ◌&&◌, ◌||◌, ◌==◌, List, refl, sym, ap, ◌∙◌, arith, eqb-true}
use Rattle.std.specs.List.{list_any}
use Rattle.std.proofs.lemmas.Bool.Decides.{nat_tests}
use Rattle.ti_types.specs.declared.numbers.EnvNo.{EnvNo}
use Rattle.ti_types.specs.declared.numbers.MethodNo.{MethodNo}
use Rattle.ti_types.specs.declared.numbers.ThreadNo.{ThreadNo}
use Rattle.ti_types.specs.declared.place.Frame.{Frame}
use Rattle.ti_stops.specs.declared.lists.Breakpoint.{Breakpoint}
use Rattle.ti_stops.specs.declared.lists.Pop.{Pop}
use Rattle.ti_stops.specs.Lists.{is_among, is_breakpoint, is_breakpoint_in, is_own_pop_at, is_popped, is_same_place}
use Rattle.ti_stops.specs.Shares.{StopsWhereItMay}
use Rattle.ti_stops.specs.Stops.{StopsNow, has_breakpoint, has_popped, hears, is_stop, left_by, may_stop_by, reached_by}
use Rattle.ti_stops.specs.declared.kind.StopKind.TheVariants as kind
use Rattle.ti_stops.proofs.DueLaws.{and_both}
use Rattle.ti_stops.proofs.Filters.{any_more}

among : (e : EnvNo) (at : Frame) (first : MethodNo) (n : ℕ) → is_among first n at.method ≡ true → (b : Breakpoint) → is_breakpoint e at b ≡ true → is_breakpoint_in e first n b ≡ true
among e at first n k b h =
    let here = and_both (b.env.0 == e.0) ((b.at.method.0 == at.method.0) && is_same_place b.at.place at.place) h in
    let same = and_both (b.at.method.0 == at.method.0) (is_same_place b.at.place at.place) here.1 in
    let is : b.at.method ≡ at.method = ap (λ (x : ℕ). record { 0 = x }) (eqb-true _ _ same.0) in
    let in_them : is_among first n b.at.method ≡ true = ap (λ (x : MethodNo). is_among first n x) is ∙ k in
    grind (arith, here.0, in_them)

at_it : (e : EnvNo) (t : ThreadNo) (k : ℕ) (p : Pop) → is_popped e t k p ≡ true → is_own_pop_at e t p ≡ true
at_it e t k p h = grind (arith, nat_tests, h)

reaches : (s : StopsNow) (t : ThreadNo) (first : MethodNo) (n : ℕ) (at : Frame) → is_among first n at.method ≡ true → (e : EnvNo) → is_stop (reached_by s t at e) ≡ true → may_stop_by s t first n e ≡ true
reaches s t first n at k e h =
    let breaks : has_breakpoint s e at ≡ true → list_any (is_breakpoint_in e first n) s.breakpoints ≡ true =
    λ b. any_more (is_breakpoint e at) (is_breakpoint_in e first n) (λ x z. among e at first n k x z) s.breakpoints b in
    grind (arith, breaks, h)

leaves : (s : StopsNow) (t : ThreadNo) (first : MethodNo) (n : ℕ) (at : Frame) (k : ℕ) (e : EnvNo) → is_stop (left_by s t at k e) ≡ true → may_stop_by s t first n e ≡ true
leaves s t first n at k e h =
    let pops : has_popped s e t k ≡ true → list_any (is_own_pop_at e t) s.pops ≡ true =
    λ b. any_more (is_popped e t k) (is_own_pop_at e t) (λ x z. at_it e t k x z) s.pops b in
    grind (arith, pops, h)

pub stops_where_it_may : StopsWhereItMay
stops_where_it_may s t first n at k = (
  λ h. any_more (λ e. is_stop (reached_by s t at e)) (may_stop_by s t first n) (λ e z. reaches s t first n at k e z) s.envs h,
  λ j h. any_more (λ e. is_stop (left_by s t at j e)) (may_stop_by s t first n) (λ e z. leaves s t first n at j e z) s.envs h,
)
