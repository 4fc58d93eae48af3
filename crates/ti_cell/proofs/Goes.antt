-- For callers: what a hold and a store tell together.
use Rattle.std.proofs.Common.{◌≡◌, ℕ, ◌+◌, ◌<◌, Bool, cond, arith, eq-eqb, refl, List, [], ◌∷◌, ◌++◌, length, drop, append_assoc, sym, ap, ◌∙◌, subst}
use Rattle.std.proofs.Math.Seq.{drop-append_seam}
use Rattle.std.proofs.lemmas.List.Sums.{sum_by-append}
use Rattle.ti_types.specs.declared.limits.Limits.{Limits}
use Rattle.ti_types.specs.declared.entry.Entry.TheVariants.{Asked}
use Rattle.ti_replay.specs.Legal.{calls_spent, asked_by, call_cost}
use Rattle.ti_replay.proofs.MakerLaws.{calls_spent_are_its_own, asked_is_its_own}
use Rattle.ti_types.specs.declared.entry.Entry.{Entry}
use Rattle.ti_types.specs.declared.numbers.EnvNo.{EnvNo}
use Rattle.ti_types.specs.declared.call.Call.{Call}
use Rattle.ti_types.specs.declared.event.Ticket.{Ticket}
use Rattle.ti_slot.specs.declared.asked.Asked as asked
use Rattle.ti_slot.specs.declared.asked.Asked.TheVariants.{Answered, Waiting}
use Rattle.ti_slot.specs.Thread.{Thread, IsAsked, next_asked}
use Rattle.ti_cell.specs.declared.view.View.{View}
use Rattle.ti_replay.specs.Makers.{made_by, StartsWith}
use Rattle.ti_cell.specs.View.{holding, stored}
use Rattle.ti_cell.specs.Rule.{IsTaken}

pub starts_then : (a b c : List Entry) → StartsWith b a → StartsWith c b → StartsWith c a
starts_then a b c p q = (p.0 ++ q.0, q.1 ∙ (ap (λ (l : List Entry). l ++ q.0) p.1 ∙ append_assoc a p.0 q.0))

-- v is the seat's view before, h while it holds the slot t, and w after it stored the history
pub mine_grows : (v h w : View) (t : Thread) (history added : List Entry) (tickets : List Ticket) → h ≡ holding v t.history t.uncollected → history ≡ t.history ++ added → w ≡ stored h history tickets → w.mine ≡ v.mine ++ added
mine_grows v h w t history added tickets hold longer store =
    ap (λ (x : View). x.mine) store ∙ ((λ i. (hold i).mine ++ drop (length (hold i).seen) (longer i)) ∙ ap (λ (l : List Entry). v.mine ++ l) (drop-append_seam t.history added))

pub seen_grows : (v h w : View) (t : Thread) (history added : List Entry) (tickets : List Ticket) → history ≡ t.history ++ added → w ≡ stored h history tickets → IsTaken v t → StartsWith w.seen v.seen
seen_grows v h w t history added tickets longer store taken =
    subst (λ (l : List Entry). StartsWith l v.seen) (sym (ap (λ (x : View). x.seen) store)) (starts_then v.seen t.history history taken.begins (added, longer))

pub seen_is : (h w : View) (history : List Entry) (tickets : List Ticket) → w ≡ stored h history tickets → w.seen ≡ history
seen_is h w history tickets store = ap (λ (x : View). x.seen) store

-- what a call adds to the slot's history, whether it is answered at once or waits
pub asked_more : (old new : Thread) (env : EnvNo) (call : Call) (result : asked.Asked) → IsAsked old new env call result
    → (new.history ≡ old.history ++ next_asked old env call ∷ []) × (new.limits ≡ old.limits) × (new.number ≡ old.number)
asked_more old new env call (Answered a) h = (ap (λ (t : Thread). t.history) h.0, ap (λ (t : Thread). t.limits) h.0, ap (λ (t : Thread). t.number) h.0)
asked_more old new env call (Waiting ticket) h = (ap (λ (t : Thread). t.history) h.0, ap (λ (t : Thread). t.limits) h.0, ap (λ (t : Thread). t.number) h.0)

-- what an environment has spent, and the number of its next call, are known from what its seat made
pub spent_is : (v : View) (t : Thread) (env : EnvNo) → IsTaken v t → v.number ≡ env.0 + 1 → calls_spent env t.history ≡ calls_spent env v.mine
spent_is v t env taken number = calls_spent_are_its_own env t.history ∙ (ap (λ (n : ℕ). calls_spent env (made_by n t.history)) (sym number) ∙ ap (calls_spent env) (sym taken.all_mine))

pub asked_is : (v : View) (t : Thread) (env : EnvNo) → IsTaken v t → v.number ≡ env.0 + 1 → asked_by env t.history ≡ asked_by env v.mine
asked_is v t env taken number = asked_is_its_own env t.history ∙ (ap (λ (n : ℕ). asked_by env (made_by n t.history)) (sym number) ∙ ap (asked_by env) (sym taken.all_mine))

-- so is whether it may ask a call
pub may_ask : (v : View) (t : Thread) (env : EnvNo) → IsTaken v t → v.number ≡ env.0 + 1 → calls_spent env v.mine < v.subject.limits.calls → calls_spent env t.history < t.limits.calls
may_ask v t env taken number left = omega (arith, spent_is v t env taken number, ap (λ (l : Limits). l.calls) taken.about.0)

-- a call is one more that is spent
pub spent_more : (env : EnvNo) (mine : List Entry) (number : ℕ) (call : Call) → calls_spent env (mine ++ Asked env number call ∷ []) ≡ calls_spent env mine + 1
spent_more env mine number call = sum_by-append (call_cost env) mine (Asked env number call ∷ []) ∙ ap (λ (b : Bool). calls_spent env mine + (0 + cond b 1 0)) (eq-eqb env.0 env.0 refl)
