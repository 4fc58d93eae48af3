use Rattle.std.proofs.Common.{◌≡◌, take}
use Rattle.std.specs.List.{list_any}
use Rattle.httparse.specs.Spans.{header_bytes}
use Rattle.ti_http.specs.Hosts.{is_foreign}
use Rattle.ti_http.proofs.fields.crosses_sites.Given as goal

abbrev pub invariant-loop-span : goal.invariant-loop-span
invariant-loop-span l = l.crosses ≡ list_any (λ span. is_foreign (header_bytes l.input span)) (take l.span-index l.spans)
