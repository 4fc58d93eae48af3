use Rattle.std.proofs.Common.{◌≡◌, ◌≤◌, ◌-◌, sym, leb, length, rules, arith}
use Rattle.std.proofs.lemmas.List.Sorted.{IsPartitionPoint-from_clause, IsPartitionedBy-leb}
use Rattle.ti_methods.specs.declared.info.LineEntry.{LineEntry}
use Rattle.ti_monitor.specs.Lines.{start_of}
use Rattle.ti_monitor.proofs.LineLaws.{line_before, line_found}
use Rattle.ti_monitor.proofs.lines.line_in.Goals as goal

pub returns-then-behind-eq0 : goal.returns-then-behind-eq0
returns-then-behind-eq0 c =
    let parted = IsPartitionedBy-leb start_of c.args.entries.now c.args.location c.requires.rising in
    let point = IsPartitionPoint-from_clause (λ (e : LineEntry). leb e.start_location c.args.location) c.args.entries.now c.partition_point-behind.result c.partition_point-behind.ensures.partitioned parted (λ a r q k. search rules) in
    sym (line_before 0 c.args.entries.now c.args.location (λ k d low high. point.1 k d (omega arith) high))

pub returns-else-behind-eq0 : goal.returns-else-behind-eq0
returns-else-behind-eq0 c =
    let parted = IsPartitionedBy-leb start_of c.args.entries.now c.args.location c.requires.rising in
    let point = IsPartitionPoint-from_clause (λ (e : LineEntry). leb e.start_location c.args.location) c.args.entries.now c.partition_point-behind.result c.partition_point-behind.ensures.partitioned parted (λ a r q k. search rules) in
    let b = c.partition_point-behind.result in
    let some : b ≡ 0 → ⊥ = c.if-behind-eq0.false in
    let bound : b ≤ length c.args.entries.now = c.partition_point-behind.ensures.bound in
    sym (line_found 0 c.args.entries.now c.args.location (b - 1) (record { start_location = 0; line = 0 }) (omega arith) (λ k d low high. point.0 k d low (omega arith)) (λ k d low high. point.1 k d (omega arith) high))
