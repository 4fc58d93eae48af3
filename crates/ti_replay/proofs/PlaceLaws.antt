-- Which places of a history can have a reply.
use Rattle.std.proofs.Common.{◌≡◌, ℕ, ◌+◌, ◌≤◌, nat_lt, Bool, true, false, ◌&&◌, List, [], ◌∷◌, ◌++◌, length, refl, arith, Some, None}
use Rattle.std.specs.List.{list_all, enumerate_from}
use Rattle.std.proofs.lemmas.Bool.Decides.{nat_tests}
use Rattle.ti_types.specs.declared.limits.Limits.{Limits}
use Rattle.ti_types.specs.declared.numbers.EnvNo.{EnvNo}
use Rattle.ti_types.specs.declared.call.Call.{Call}
use Rattle.ti_types.specs.declared.entry.Entry.{Entry}
use Rattle.ti_types.specs.declared.entry.Entry.TheVariants.{Asked}
use Rattle.ti_types.specs.declared.view.ThreadView.{ThreadView}
use Rattle.ti_replay.specs.Answers.{is_running, answer_of}
use Rattle.ti_replay.specs.Settling.{Placed, placed, settle, settled, put_behind, runs_after, waits}
use Rattle.ti_replay.specs.View.{view, after, new_thread}
use Rattle.ti_replay.specs.Replies.{reply, reply_from}
use Rattle.ti_replay.proofs.AskingLaws.{reply-snoc}

abbrev are_below : ℕ → List Placed → Bool
are_below n s = list_all (λ p. nat_lt p.0 n) s

below_put : (n : ℕ) (c : Placed) (s : List Placed) → nat_lt c.0 n ≡ true → are_below n s ≡ true → are_below n (put_behind c s) ≡ true
below_put n c [] h k = refl
below_put n c (p ∷ s) h k = grind (arith, below_put n c s h)

below_settle : (n : ℕ) (r : Bool) (s : List Placed) → are_below n s ≡ true → are_below n (settle r s) ≡ true
below_settle n r [] k = refl
below_settle n r (p ∷ s) k = grind (arith, below_settle n (runs_after r p.1) s, below_put n p (settle (runs_after r p.1) s))

below_placed : (n a : ℕ) (xs : List Entry) → a + length xs ≤ n → are_below n (enumerate_from a xs) ≡ true
below_placed n a [] h = refl
below_placed n a (x ∷ xs) h = grind (arith, nat_tests, below_placed n (a + 1) xs)

none_past : (v : ThreadView) (n place : ℕ) (s : List Placed) → are_below n s ≡ true → n ≤ place → reply_from v s place ≡ None
none_past v n place [] k h = refl
none_past v n place (p ∷ s) k h = grind (arith, nat_tests, none_past (after v p.1) n place s)

-- no place after a history has a reply
pub reply_past : (limits : Limits) (history : List Entry) (place : ℕ) → length history ≤ place → reply limits history place ≡ None
reply_past limits history place h =
    none_past (new_thread limits) (length history) place (settled history) (below_settle (length history) false (placed history) (below_placed (length history) 0 history (omega arith))) h

-- a call that does not wait, or at a thread that does not run, is answered at once by the view
pub reply_at_once : (limits : Limits) (history : List Entry) (env : EnvNo) (number : ℕ) (call : Call) → (waits call && is_running (view limits history).mode) ≡ false
    → reply limits (history ++ Asked env number call ∷ []) (length history) ≡ Some (answer_of (view limits history) env call)
reply_at_once limits history env number call h =
    grind (arith, nat_tests, reply-snoc limits history (Asked env number call) (length history), reply_past limits history (length history))

-- a call that waits is not answered yet
pub reply_later : (limits : Limits) (history : List Entry) (env : EnvNo) (number : ℕ) (call : Call) → (waits call && is_running (view limits history).mode) ≡ true
    → reply limits (history ++ Asked env number call ∷ []) (length history) ≡ None
reply_later limits history env number call h =
    grind (arith, nat_tests, reply-snoc limits history (Asked env number call) (length history), reply_past limits history (length history))
