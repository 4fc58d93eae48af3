use Rattle.std.proofs.Common.{◌≡◌, ◌↔◌, ◌++◌, ◌∷◌, [], List, Option, Some, None, drop, slice_get, IfSome, IfNone, sym, ◌∙◌, subst, rules}
use Rattle.ti_types.specs.declared.answer.Answer.{Answer}
use Rattle.ti_types.specs.Frames.{bare_trace}
use Rattle.ti_types.specs.declared.stack.StackInfo.{StackInfo}
use Rattle.ti_report.specs.Books.{page_in}
use Rattle.ti_report.specs.Fits.{stack_of, stack_told}
use Rattle.ti_report.specs.Accounts.{told_with, kept, said_infos}
use Rattle.ti_types.specs.declared.answer.Answer.TheVariants.{Done}
use Rattle.ti_report.proofs.CheckLaws.{read_told, no_stack, undone_stack}
use Rattle.ti_report.proofs.stacks.next_stack.Goals as goal

pub returns-in-Some-clause-some : goal.returns-in-Some-clause-some
returns-in-Some-clause-some c =
    let told : Option Answer = told_with c.args.limits (λ t. page_in (slice_get c.args.books.now t) c.args.account.now.env) c.args.account.now c.args.why c.args.event in
    let info : StackInfo = record { thread = c.in-Read.thread; state = c.in-Some.state; frames = bare_trace c.in-Some.frames.now } in
    let s : stack_of c.in-Read.thread told ≡ Some info = search (rules, c.stack.ensures.stack c.in-Read.thread, c.in-Some.is) in
    let q : stack_told c.args.event told ≡ Some info ∷ [] = read_told c.args.event told c.in-Read.field-0 c.in-Read.thread c.in-Read.field-2 (Some info) c.in-Read.is s in
    subst (λ l. IfSome c.behind_stack.result (λ n. (rest : List (Option StackInfo)) → (said_infos (drop c.args.next c.args.infos.now) ≡ kept c.args.live (l ++ rest)) ↔ (said_infos (drop n c.args.infos.now) ≡ kept c.args.live rest))) (sym q) c.behind_stack.ensures.some

pub returns-in-Some-clause-none : goal.returns-in-Some-clause-none
returns-in-Some-clause-none c =
    let told : Option Answer = told_with c.args.limits (λ t. page_in (slice_get c.args.books.now t) c.args.account.now.env) c.args.account.now c.args.why c.args.event in
    let info : StackInfo = record { thread = c.in-Read.thread; state = c.in-Some.state; frames = bare_trace c.in-Some.frames.now } in
    let s : stack_of c.in-Read.thread told ≡ Some info = search (rules, c.stack.ensures.stack c.in-Read.thread, c.in-Some.is) in
    let q : stack_told c.args.event told ≡ Some info ∷ [] = read_told c.args.event told c.in-Read.field-0 c.in-Read.thread c.in-Read.field-2 (Some info) c.in-Read.is s in
    subst (λ l. IfNone c.behind_stack.result ((rest : List (Option StackInfo)) → said_infos (drop c.args.next c.args.infos.now) ≡ kept c.args.live (l ++ rest) → ⊥)) (sym q) c.behind_stack.ensures.none

pub returns-in-None-clause-none : goal.returns-in-None-clause-none
returns-in-None-clause-none c rest =
    let told : Option Answer = told_with c.args.limits (λ t. page_in (slice_get c.args.books.now t) c.args.account.now.env) c.args.account.now c.args.why c.args.event in
    let s : stack_of c.in-Read.thread told ≡ None = search (rules, c.stack.ensures.stack c.in-Read.thread, c.in-None.is) in
    let q : stack_told c.args.event told ≡ None ∷ [] = read_told c.args.event told c.in-Read.field-0 c.in-Read.thread c.in-Read.field-2 None c.in-Read.is s in
    subst (λ l. said_infos (drop c.args.next c.args.infos.now) ≡ kept c.args.live (l ++ rest) → ⊥) (sym q) (no_stack c.args.live (drop c.args.next c.args.infos.now) rest)

pub returns-then-not-says-clause-none : goal.returns-then-not-says-clause-none
returns-then-not-says-clause-none c rest =
    let told : Option Answer = told_with c.args.limits (λ t. page_in (slice_get c.args.books.now t) c.args.account.now.env) c.args.account.now c.args.why c.args.event in
    let no' : told ≡ Some Done → ⊥ = λ h. cc (sym (c.says.ensures.says.1 h) ∙ c.if-not-says.true) in
    let q : stack_told c.args.event told ≡ None ∷ [] = undone_stack c.args.event told (c.in_default.not-Read) no' in
    subst (λ l. said_infos (drop c.args.next c.args.infos.now) ≡ kept c.args.live (l ++ rest) → ⊥) (sym q) (no_stack c.args.live (drop c.args.next c.args.infos.now) rest)
