-- Replies as a history grows.
use Rattle.std.proofs.Common.{◌≡◌, ℕ, ◌+◌, false, List, [], ◌∷◌, ◌++◌, length, ap, ◌∙◌, arith, Some}
use Rattle.std.specs.List.{enumerate_from}
use Rattle.ti_types.specs.declared.answer.Answer.{Answer}
use Rattle.ti_types.specs.declared.view.ThreadView.{ThreadView}
use Rattle.ti_replay.specs.Settling.{Placed, placed, settle, settled}
use Rattle.ti_replay.specs.View.{new_thread, after}
use Rattle.ti_replay.specs.Replies.{reply_from}
use Rattle.ti_replay.specs.Laws.{SettledStays, ReplyStays}
use Rattle.ti_replay.proofs.SettlingLaws.{settled_grows}
use Rattle.ti_replay.proofs.HistoryLaws.{enumerate_from-append}

pub settled_stays : SettledStays
settled_stays history more =
    let e : placed (history ++ more) ≡ placed history ++ enumerate_from (0 + length history) more = enumerate_from-append 0 history more in
    let g = settled_grows false (placed history) (enumerate_from (0 + length history) more) in
    (g.0, ap (settle false) e ∙ g.1)

reply_from_stays : (v : ThreadView) (s t : List Placed) (place : ℕ) (a : Answer) → reply_from v s place ≡ Some a → reply_from v (s ++ t) place ≡ Some a
reply_from_stays v [] t place a h = cc
reply_from_stays v (p ∷ s) t place a h = grind (arith, reply_from_stays (after v p.1) s t place a)

pub reply_stays : ReplyStays
reply_stays limits history more place a h =
    let g = settled_stays history more in
    rw g.1 (reply_from_stays (new_thread limits) (settled history) g.0 place a h)
