use Rattle.std.proofs.Common.{◌≡◌, ℕ, length, take, ap, sym, subst, ◌∙◌, arith}
use Rattle.std.proofs.Math.Seq.{take-length}
use Rattle.ti_ops.specs.Statuses.{IsFirstFrom, call_at, status_of, is_open}
use Rattle.ti_ops.specs.OutboxEntry.{has, lists_of}
use Rattle.ti_ops.specs.Ops.{Ops}
use Rattle.ti_ops.proofs.NextLaws.{first_same, left_is}
use Rattle.ti_ops.proofs.pending.PendingOps.next_out.Goals as goal

pub returns : goal.returns
returns c =
    let i = c.self.inside in
    let kept = i.kept.items in
    let env = c.args.env in
    let all : take c.loop-at.at kept ≡ kept = ap (λ (n : ℕ). take n kept) (omega (arith, c.loop-at.auto.at-end, c.loop-at-test.false, c.len-at-end.ensures)) ∙ take-length kept in
    subst (λ (o : Ops). IsFirstFrom (λ n. is_open (status_of (call_at env n) o.statuses)) c.args.from c.loop-at.next) c.self.view_is
    (first_same (λ n. has (call_at env n) (take c.loop-at.at kept)) (λ n. is_open (status_of (call_at env n) (lists_of i.counts.items kept))) c.args.from c.loop-at.next
    (λ n. ap (has (call_at env n)) all ∙ left_is i.window i.taken _ i.counts.items kept (call_at env n) c.self.invariant)
    c.loop-at.invariant)
