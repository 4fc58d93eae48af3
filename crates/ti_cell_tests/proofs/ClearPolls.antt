-- A clear poll, read off the whole history.
use Rattle.std.proofs.Common.{◌≡◌, ℕ, ◌+◌, ◌-◌, ◌≤◌, ◌<◌, Bool, true, Option, Some, None, List, [], ◌∷◌, ◌++◌, length, take, drop, ap, sym, ◌∙◌, subst, arith, append_assoc, length-append}
use Rattle.std.specs.Prelude.{IfSome}
use Rattle.std.proofs.Math.Seq.{take-append-add}
use Rattle.std.proofs.lemmas.List.{take-append-drop}
use Rattle.std.proofs.lemmas.List.Elements.{filter-append}
use Rattle.ti_types.specs.declared.entry.Entry.{Entry}
use Rattle.ti_types.specs.declared.event.Ticket.{Ticket}
use Rattle.ti_types.specs.declared.limits.Limits.{Limits}
use Rattle.ti_replay.specs.Makers.{made_by, StartsWith}
use Rattle.ti_slot.specs.Thread.{Thread}
use Rattle.ti_cell.specs.declared.view.View.{View}
use Rattle.ti_cell.specs.Rule.{Each, IsSo}
use Rattle.ti_cell.specs.View.{as_user, users}
use Rattle.ti_cell.specs.Word.{IsLook}
use Rattle.ti_cell_tests.specs.ClearPolls.{HasPolled, WasCalm}

each_last : {A : Type 0} (P : A → Type 0) (xs : List A) (x : A) → Each P (xs ++ x ∷ []) → P x
each_last P [] x k = k.0
each_last P (y ∷ ys) x k = each_last P ys x k.1

-- more of one's entries stand in a longer history
made_more : (n : ℕ) (seen history : List Entry) → StartsWith history seen → 0 < length (made_by n seen) → 0 < length (made_by n history)
made_more n seen history begins some =
    let all : made_by n history ≡ made_by n seen ++ made_by n begins.0 = ap (made_by n) begins.1 ∙ filter-append _ seen begins.0 in
    let count : length (made_by n history) ≡ length (made_by n seen) + length (made_by n begins.0) = ap (λ l. length l) all ∙ length-append (made_by n seen) (made_by n begins.0) in
    omega (arith, count, some)

-- the first entries of a history begin with all that is no longer
taken_begins : (n : ℕ) (history seen : List Entry) → StartsWith history seen → length seen ≤ n → StartsWith (take n history) seen
taken_begins n history seen begins short =
    let far : length seen + (n - length seen) ≡ n = omega (arith, short) in
    (take (n - length seen) begins.0, ap (take n) begins.1 ∙ subst (λ (k : ℕ). take k (seen ++ begins.0) ≡ seen ++ take (n - length seen) begins.0) far (take-append-add seen begins.0 (n - length seen)))

begins_then : (history middle seen : List Entry) → StartsWith history middle → StartsWith middle seen → StartsWith history seen
begins_then history middle seen a b = (b.0 ++ a.0, a.1 ∙ (ap (λ l. l ++ a.0) b.1 ∙ append_assoc seen b.0 a.0))

pub was_calm : (limits : Limits) (history : List Entry) (tickets : List Ticket) (v : View) → HasPolled true v → IsSo limits history tickets (as_user v) → WasCalm limits history
was_calm limits history tickets v polled so =
    let look : IsLook limits history polled.last = each_last (IsLook limits history) polled.before polled.last (subst (Each (IsLook limits history)) polled.looked so.looks) in
    let known : StartsWith (take polled.last.count history) polled.known = taken_begins polled.last.count history polled.known (begins_then history v.seen polled.known so.begins polled.begins) polled.behind in
    record {
      front = take polled.last.count history;
      begins = (drop polled.last.count history, sym (take-append-drop polled.last.count history));
      started = made_more 0 polled.known (take polled.last.count history) known polled.started;
      calm = look.1 ∙ polled.told;
    }

-- of a cell that was closed
pub calm_then : (r : Option Thread) (v : View) (clear : Bool) → HasPolled clear v → clear ≡ true → IfSome r (λ s. Each (IsSo s.limits s.history s.uncollected) (users v)) → IfSome r (λ s. WasCalm s.limits s.history)
calm_then None v clear polled is_clear all = tt
calm_then (Some s) v clear polled is_clear all = was_calm s.limits s.history s.uncollected v (subst (λ (b : Bool). HasPolled b v) is_clear polled) all.0
