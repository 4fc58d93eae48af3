use Rattle.std.proofs.Common.{rules, ◌≡◌, ◌+◌, ℕ, suc, List, [], ◌∷◌, ◌++◌, length, length-append, map, take, Bool, Some, ap, sym, ◌∙◌, arith}
use Rattle.std.specs.List.{filter}
use Rattle.std.specs.Prelude.{slice_get}
use Rattle.ti_types.specs.declared.numbers.ThreadNo.{ThreadNo}
use Rattle.ti_roster.specs.declared.newcomer.Newcomer.{Newcomer}
use Rattle.ti_roster.specs.declared.row.Row.{Row}
use Rattle.ti_roster.specs.Log.{Log}
use Rattle.ti_roster.specs.Stages.{alive, is_alive, is_alive_in}
use Rattle.ti_roster.proofs.Living.{alive_all, alive_more, alive_row, alive_rows}
use Rattle.ti_roster.proofs.Places.{is_same, read_at, take_past}
use Rattle.ti_roster.proofs.roster.Roster.threads.Goals.{then-is_alive, else-is_alive}
use Rattle.ti_roster.proofs.roster.Roster.threads.Goals as goal

pub loop-i-init : goal.loop-i-init
loop-i-init c = (c.in_ok-threads.ensures.items, omega (arith, ap (λ (l : List ThreadNo). length l) c.in_ok-threads.ensures.items), omega (arith, c.len.ensures, c.in_ok-threads.ensures.capacity))

pub push_reserved-requires : goal.push_reserved-requires
push_reserved-requires c = omega (arith, c.loop-i.invariant.1, c.loop-i.invariant.2, c.loop-i-test.true, c.len-i-end.ensures, c.loop-i.threads.ok)

pub loop-i-preserved : goal.loop-i-preserved
loop-i-preserved c =
    let rows : List Row = c.self.inside.rows in
    let r : Row = c.index.result.now in
    let here : slice_get rows c.loop-i.i ≡ Some r = read_at rows c.loop-i.i r (omega (arith, c.loop-i-test.true, c.len-i-end.ensures)) c.index.ensures in
    let next : c.loop-i.i + 1 ≡ suc c.loop-i.i = omega arith in
    let more : alive_rows (take (c.loop-i.i + 1) rows) ≡ alive_rows (take c.loop-i.i rows) ++ alive_row (is_alive r.stage) r = ap (λ (n : ℕ). alive_rows (take n rows)) next ∙ alive_more rows c.loop-i.i r here in
    elim c.if-is_alive.branch [
      | then-is_alive w ↦
          let yes' = sym c.is_alive.ensures ∙ w.if-is_alive.true in
          let q : Row = w.index-then-is_alive.result.now in
          let again : slice_get rows c.loop-i.i ≡ Some q = read_at rows c.loop-i.i q (omega (arith, c.loop-i-test.true, c.len-i-end.ensures)) w.index-then-is_alive.ensures in
          let same : w.thread.result ≡ r.newcomer.thread = w.thread.ensures ∙ ap (λ (x : Row). x.newcomer.thread) (is_same q r (sym again ∙ here)) in
          let items : c.if-is_alive.threads.items ≡ c.loop-i.threads.items ++ w.thread.result ∷ [] = search rules in (
            items ∙ (ap (λ (l : List ThreadNo). l ++ w.thread.result ∷ []) c.loop-i.invariant.0 ∙ (ap (λ (t : ThreadNo). alive_rows (take c.loop-i.i rows) ++ t ∷ []) same ∙ sym (more ∙ ap (λ (b : Bool). alive_rows (take c.loop-i.i rows) ++ alive_row b r) yes'))),
            omega (arith, ap (λ (l : List ThreadNo). length l) items, length-append c.loop-i.threads.items (w.thread.result ∷ []), c.loop-i.invariant.1),
            search rules,
          )
      | else-is_alive w ↦
          let no' = sym c.is_alive.ensures ∙ w.if-is_alive.false in
          let items : c.if-is_alive.threads.items ≡ c.loop-i.threads.items = ap (λ x. x.items) w.threads-is in (
            items ∙ (c.loop-i.invariant.0 ∙ sym (more ∙ (ap (λ (b : Bool). alive_rows (take c.loop-i.i rows) ++ alive_row b r) no' ∙ search rules))),
            omega (arith, ap (λ (l : List ThreadNo). length l) items, c.loop-i.invariant.1),
            search rules,
          )
    ]

pub returns-clause-threads : goal.returns-clause-threads
returns-clause-threads c =
    let rows : List Row = c.self.inside.rows in
    let log = c.self.inside.log.items in
    c.loop-i.invariant.0
    ∙ (ap alive_rows (take_past rows c.loop-i.i (omega (arith, c.loop-i-test.false, c.len-i-end.ensures)))
    ∙ (alive_all log rows (λ i r at. (c.self.invariant.3.each i r at).stage)
    ∙ (ap (λ (l : List Newcomer). map (λ (n : Newcomer). n.thread) (filter (is_alive_in log) l)) c.self.invariant.3.live_are
    ∙ ap (λ (r : Log). map (λ (n : Newcomer). n.thread) (alive r.items)) c.self.view_is)))
