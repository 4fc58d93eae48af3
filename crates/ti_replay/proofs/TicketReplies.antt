-- What one more entry replies.
use Rattle.std.proofs.Common.{◌≡◌, List, [], ◌∷◌, ◌++◌, map, refl, ap, ◌∙◌, arith, Option, Some, None, if◌then◌else◌}
use Rattle.std.proofs.lemmas.List.{map-append}
use Rattle.std.specs.List.{fold}
use Rattle.std.specs.Option.{option_or}
use Rattle.ti_types.specs.declared.limits.Limits.{Limits}
use Rattle.ti_types.specs.declared.event.Ticket.{Ticket}
use Rattle.ti_types.specs.declared.answer.Answer.{Answer}
use Rattle.ti_types.specs.declared.entry.Entry.{Entry}
use Rattle.ti_types.specs.declared.view.ThreadView.{ThreadView}
use Rattle.ti_replay.specs.Settling.{Placed, settled, is_hand_over}
use Rattle.ti_replay.specs.View.{view, new_thread, after, after_all}
use Rattle.ti_replay.specs.PlacedState.{placed_state, settled_by}
use Rattle.ti_replay.specs.HistoryState.{HistoryState, history_state}
use Rattle.ti_replay.specs.Tickets.{reply_in, reply_to}
use Rattle.ti_replay.proofs.NextStates.{is_put_off}
use Rattle.ti_replay.proofs.AskingLaws.{settled-snoc}

pub option_or-assoc : (a b c : Option Answer) → option_or (option_or a b) c ≡ option_or a (option_or b c)
option_or-assoc None b c = refl
option_or-assoc (Some x) b c = refl

pub reply_in-append : (v : ThreadView) (s t : List Entry) (k : Ticket) → reply_in v (s ++ t) k ≡ option_or (reply_in v s k) (reply_in (fold after v s) t k)
reply_in-append v [] t k = refl
reply_in-append v (x ∷ s) t k = grind (arith, reply_in-append (after v x) s t k, option_or-assoc)

pub bare-after : (v : ThreadView) (s : List Placed) → fold after v (map (λ p. p.1) s) ≡ after_all v s
bare-after v [] = refl
bare-after v (p ∷ s) = bare-after (after v p.1) s

-- what takes place when an entry comes
abbrev pub settling : HistoryState → Entry → List Entry
settling s x = if is_hand_over x then x ∷ s.waiting else if is_put_off s x then [] else x ∷ []

pub reply_to-snoc : (limits : Limits) (history : List Entry) (x : Entry) (k : Ticket) → reply_to limits (history ++ x ∷ []) k ≡ option_or (reply_to limits history k) (reply_in (view limits history) (settling (history_state limits history) x) k)
reply_to-snoc limits history x k =
    let front = map (λ (p : Placed). p.1) (settled history) in
    let b : map (λ (p : Placed). p.1) (settled_by (placed_state limits history) x) ≡ settling (history_state limits history) x = grind arith in
    ap (λ s. reply_in (new_thread limits) (map (λ (p : Placed). p.1) s) k) (settled-snoc limits history x)
    ∙ ap (λ s. reply_in (new_thread limits) s k) (map-append (λ (p : Placed). p.1) (settled history) (settled_by (placed_state limits history) x) ∙ ap (λ s. front ++ s) b)
    ∙ reply_in-append (new_thread limits) front (settling (history_state limits history) x) k
    ∙ ap (λ v. option_or (reply_to limits history k) (reply_in v (settling (history_state limits history) x) k)) (bare-after (new_thread limits) (settled history))
