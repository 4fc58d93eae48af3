use Rattle.std.proofs.Common.{◌+◌, slice_set, arith, sym, ap, refl, inr}
use Rattle.std.proofs.lemmas.List.{get_or_read}
use Rattle.std.proofs.lemmas.List.Quantifiers.{position-Some}
use Rattle.ti_pprof.specs.Rows.{is_same_row}
use Rattle.ti_pprof.proofs.RowLaws.{same_row}
use Rattle.ti_pprof.proofs.table.Table.add.Goals as goal

pub returns-in-Some-clause-counted : goal.returns-in-Some-clause-counted
returns-in-Some-clause-counted c =
    let counts = c.args.self.now.counts.items in
    let at = position-Some (is_same_row c.args.row) c.args.self.now.rows.keys c.in-Some.place c.args.row (sym c.in-Some.ensures.index) in
    inr (c.in-Some.place, at.0, sym (same_row c.args.row _ at.1), refl, ap (λ n. slice_set counts c.in-Some.place (n + c.args.times)) (get_or_read counts c.in-Some.place c.index_mut.result.now (omega (arith, at.0, c.args.self.now.counted)) c.index_mut.ensures.value 0))
