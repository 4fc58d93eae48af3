use Rattle.std.proofs.Common.{◌≡◌, ◌↔◌, map, Some, slice_get, drop}
use Rattle.ti_types.specs.declared.event.Event.TheVariants.{Ask}
use Rattle.ti_report.specs.Books.{page_in}
use Rattle.ti_report.specs.Accounts.{codes_now, accounted_all}
use Rattle.ti_report.proofs.list_codes.codes_fit.Given as goal

abbrev pub invariant-loop-i : goal.invariant-loop-i
invariant-loop-i l = record {
  env : l.account.env ≡ l.fn.account.env;
  fits : (map Some (drop l.i l.codes) ≡ codes_now l.fn.limits (λ t. page_in (slice_get l.books t) l.fn.account.env) l.account l.fn.wanting (drop l.i (map (λ t. Ask l.fn.account.env t l.fn.call) l.threads)))
      ↔ (map Some l.codes ≡ codes_now l.fn.limits (λ t. page_in (slice_get l.books t) l.fn.account.env) l.fn.account l.fn.wanting (map (λ t. Ask l.fn.account.env t l.fn.call) l.threads));
  account : accounted_all l.fn.limits l.account l.fn.wanting (drop l.i (map (λ t. Ask l.fn.account.env t l.fn.call) l.threads)) ≡ accounted_all l.fn.limits l.fn.account l.fn.wanting (map (λ t. Ask l.fn.account.env t l.fn.call) l.threads);
}
