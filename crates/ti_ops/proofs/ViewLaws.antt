-- What callers see of an environment, and what is counted.
use Rattle.std.proofs.Common.{◌≡◌, ℕ, ◌<◌, List, length, get_or, ap, sym, ◌∙◌, arith}
use Rattle.std.proofs.lemmas.List.{get_or_read}
use Rattle.ti_types.specs.declared.numbers.EnvNo.{EnvNo}
use Rattle.ti_ops.specs.declared.outbox_entry.OutboxEntry.{OutboxEntry}
use Rattle.ti_ops.specs.declared.outbox_entry.Count.{Count}
use Rattle.ti_ops.specs.Statuses.{statuses_by, open_by}
use Rattle.ti_ops.specs.Ops.{Ops}
use Rattle.ti_ops.specs.OutboxEntry.{count_of, list_of, ops_in, IsKept}
use Rattle.ti_ops.proofs.Listed.{length-listed}
use Rattle.ti_ops.proofs.TableLaws.{length_by}
use Rattle.ti_ops.proofs.StepLaws.{nobody}

module _ (o : Ops) (window first cap : ℕ) (counts : List Count) (kept : List OutboxEntry) (env : EnvNo) (v : ops_in window first counts kept ≡ o) (s : IsKept window first cap counts kept) (h : env.0 < length o.statuses) where
  pub env_here : env.0 < length counts
  env_here = omega (arith, h, ap (λ (p : Ops). length p.statuses) v, length-listed (list_of counts kept) (length counts))

  pub asked_here : (count_of counts env.0).asked ≡ length (statuses_by env o.statuses)
  asked_here = sym (length_by counts kept env env_here) ∙ ap (λ (p : Ops). length (statuses_by env p.statuses)) v

  pub held_here : (count_of counts env.0).held ≡ open_by env o.statuses
  held_here = s.held env env_here ∙ ap (λ (p : Ops). open_by env p.statuses) v

  pub window_here : window ≡ o.window
  window_here = ap (λ (p : Ops). p.window) v

  pub read_here : (c : Count) → c ≡ get_or counts env.0 c → c ≡ count_of counts env.0
  read_here c e = get_or_read counts env.0 c env_here e nobody
