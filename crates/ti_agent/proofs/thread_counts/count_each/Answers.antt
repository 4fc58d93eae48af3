use Rattle.std.proofs.Common.{rules, ◌≡◌, ◌<◌, ◌≤◌, ◌+◌, ◌-◌, ◌++◌, ◌∷◌, [], Some, Option, cond, length, sym, ap, subst, ◌∙◌, arith, take, drop, take-append-drop, ℕ, List}
use Rattle.std.specs.Prelude.{nat_eq, unwrap_or, slice_index_or}
use Rattle.std.specs.Map.{lookup}
use Rattle.std.proofs.lemmas.Grind.{take_at_read}
use Rattle.ti_types.specs.declared.numbers.ThreadNo.{ThreadNo}
use Rattle.ti_env.specs.Env.{left_at}
use Rattle.ti_agent.specs.Traces.{times, AreCounts}
use Rattle.ti_vmop.proofs.Each.{take_all}
use Rattle.ti_agent.proofs.TimesLaws.{count_found, counts_more, enough_more, too_many}
use Rattle.ti_agent.proofs.Listing.{there_at, paid_once}
use Rattle.ti_agent.proofs.Posting.{drop_more}
use Rattle.ti_agent.proofs.thread_counts.count_each.Goals as goal

pub returns-then-count-reads-clause-paid : goal.returns-then-count-reads-clause-paid
returns-then-count-reads-clause-paid c =
    let s = c.args.state.now in
    let l = c.args.threads.now in
    let i = c.loop-i.i in
    let none : ThreadNo = record { 0 = 0 } in
    let t : ThreadNo = slice_index_or l i none in
    let within : i < length l = c.loop-i-test.true in
    let here : t.0 < length s.spent = there_at (length s.spent) l i none c.requires.there within in
    let rest : l ≡ take i l ++ t ∷ drop (i + 1) l = sym (take-append-drop i l) ∙ ap (λ (v : List ThreadNo). take i l ++ v) (drop_more l i (i + 1) none (omega arith) within) in
    let count : c.unwrap_or-count.result ≡ times t.0 (take i l) =
    c.unwrap_or-count.ensures ∙ (ap (λ (o : Option ℕ). unwrap_or o 0) (c.copied.ensures ∙ (c.get.ensures.value ∙ c.loop-i.invariant.counts t.0)) ∙ count_found t.0 (take i l)) in
    let reads : c.saturating_sub-reads.result ≡ left_at s t - 1 = search rules in
    too_many s l (take i l) (drop (i + 1) l) t rest here (omega (arith, count, reads, c.if-count-reads.true))

pub loop-i-preserved : goal.loop-i-preserved
loop-i-preserved c =
    let s = c.args.state.now in
    let l = c.args.threads.now in
    let i = c.loop-i.i in
    let none : ThreadNo = record { 0 = 0 } in
    let t : ThreadNo = slice_index_or l i none in
    let within : i < length l = c.loop-i-test.true in
    let more : take (i + 1) l ≡ take i l ++ t ∷ [] = (take_at_read l i none within).1 in
    let count : c.unwrap_or-count.result ≡ times t.0 (take i l) =
    c.unwrap_or-count.ensures ∙ (ap (λ (o : Option ℕ). unwrap_or o 0) (c.copied.ensures ∙ (c.get.ensures.value ∙ c.loop-i.invariant.counts t.0)) ∙ count_found t.0 (take i l)) in
    let reads : c.saturating_sub-reads.result ≡ left_at s t - 1 = search rules in
    let less : times t.0 (take i l) < left_at s t - 1 = omega (arith, count, reads, c.if-count-reads.false) in
    let counts : AreCounts (take i l ++ t ∷ []) c.insert.new.self.entries =
    counts_more (take i l) t c.loop-i.counts.entries c.insert.new.self.entries c.loop-i.invariant.counts
    (λ k. c.in-Ok.ensures.updates.0 k ∙ ap (λ (n : ℕ). cond (nat_eq t.0 k) (Some (n + 1)) (lookup (nat_eq k) c.loop-i.counts.entries)) count) in
    record {
      counts = subst (λ (v : List ThreadNo). AreCounts v c.insert.new.self.entries) (sym more) counts;
      enough = λ k. subst (λ (v : List ThreadNo). times k v ≤ left_at s (record { 0 = k }) - 1) (sym more) (enough_more s (take i l) t c.loop-i.invariant.enough less k);
    }

pub returns-clause-counts : goal.returns-clause-counts
returns-clause-counts c =
    subst (λ (v : List ThreadNo). AreCounts v c.loop-i.counts.entries) (take_all c.args.threads.now c.loop-i.i (omega (arith, c.loop-i-test.false))) c.loop-i.invariant.counts

pub returns-clause-paid : goal.returns-clause-paid
returns-clause-paid c =
    let all : take c.loop-i.i c.args.threads.now ≡ c.args.threads.now = take_all c.args.threads.now c.loop-i.i (omega (arith, c.loop-i-test.false)) in
    paid_once c.args.state.now (length c.args.state.now.spent) c.args.threads.now
    (λ i. subst (λ (v : List ThreadNo). times i v ≤ left_at c.args.state.now (record { 0 = i }) - 1) all (c.loop-i.invariant.enough i))
