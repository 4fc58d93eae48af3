use Rattle.std.proofs.Common.{◌≡◌, take}
use Rattle.std.specs.List.{list_all}
use Rattle.httparse.specs.Spans.{header_bytes}
use Rattle.ti_http.specs.Hosts.{may_pass}
use Rattle.ti_http.proofs.fields.are_served.Given as goal

abbrev pub invariant-loop-span : goal.invariant-loop-span
invariant-loop-span l = l.served ≡ list_all (λ span. may_pass l.hosts (header_bytes l.input span)) (take l.span-index l.spans)
