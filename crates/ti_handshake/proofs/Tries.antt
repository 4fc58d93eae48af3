-- How the calls of the thread that never wait are refused, if the cell was free.
use Rattle.std.proofs.Common.{ℕ, ◌≡◌, ◌++◌, true, false, append-nil, List, [], Some, sym, ◌∙◌, arith}
use Rattle.ti_types.specs.declared.entry.Entry.{Entry}
use Rattle.ti_types.specs.declared.entry.Entry.TheVariants.{Hand}
use Rattle.ti_types.specs.declared.call.Call.{Call}
use Rattle.ti_types.specs.declared.event.Ticket.{Ticket}
use Rattle.ti_types.specs.declared.error.TiError.{TiError}
use Rattle.ti_types.specs.declared.error.TiError.TheVariants.{Barred, Busy}
use Rattle.ti_types.specs.declared.limits.Limits.{Limits}
use Rattle.ti_types.specs.declared.state.Safe.{Safe}
use Rattle.ti_types.specs.declared.state.Safe.TheVariants.{Native, Blocked, AtPoll}
use Rattle.ti_types.specs.declared.view.ThreadView.{ThreadView}
use Rattle.ti_frames.specs.Frames.{Stack}
use Rattle.ti_frames.specs.Log.{Steps}
use Rattle.ti_replay.specs.Legal.{is_legal, own_spent}
use Rattle.ti_replay.specs.LateTickets.{steps_of}
use Rattle.ti_replay.specs.Makers.{made_by}
use Rattle.ti_replay.specs.Refusals.{own_refusal}
use Rattle.ti_replay.specs.View.{view, is_barred}
use Rattle.ti_replay.specs.Settling.{waits}
use Rattle.ti_slot.specs.Thread.{IsLate, Thread}
use Rattle.ti_slot.specs.declared.asked.Asked.{Asked as AskedOf}
use Rattle.ti_slot.specs.declared.asked.Asked.TheVariants.{Answered, Waiting}
use Rattle.ti_handshake.specs.Call.{ticket_told}
use Rattle.ti_cell.specs.View.{stored}
use Rattle.ti_cell.specs.Seats.{Sitting, Holding}
use Rattle.ti_handshake.specs.Thread.{refused_at, runner_in}
use Rattle.ti_handshake.specs.Tries.{StaysBarred, RunsOn}
use Rattle.ti_handshake.proofs.Owners.{Owns, nothing, stores, finds, refused_there}

-- it was barred, and may not start or return
pub stays_barred : (x : Entry) (s w : Sitting) (h : Holding) (n m : Thread) (e : TiError) → Owns s h n → w.view ≡ stored h.view m.history m.uncollected → m ≡ n
    → is_legal w.view.subject.limits w.view.seen ≡ true → w.view.mine ≡ made_by w.view.number w.view.seen → refused_at n.limits n.history x ≡ Some e
    → (e ≡ Barred) × (is_barred (view s.view.subject.limits w.view.seen) ≡ true) → StaysBarred x s w e
stays_barred x s w h n m e k store same legal whole why b =
    let f = finds s h n m w.view [] k store (nothing n m same) in
    record {
      hold = stores s h n m w.view [] k store (nothing n m same) legal whole;
      when = (λ i. refused_at (sym k.taken.about.0 i) (f i) x) ∙ why;
      error_is = b.0;
      barred = b.1;
    }

-- it was refused, and runs on
pub still_runs : (x : Entry) (s w : Sitting) (h : Holding) (n m : Thread) (f g : Stack) (l o : Steps) (e : TiError) → Owns s h n → w.view ≡ stored h.view m.history m.uncollected → m ≡ n
    → is_legal w.view.subject.limits w.view.seen ≡ true → w.view.mine ≡ made_by w.view.number w.view.seen → w.cell ≡ s.cell → refused_at n.limits (n.history ++ steps_of l.steps) x ≡ Some e
    → g ≡ f → o ≡ l → RunsOn x (runner_in s f l) (runner_in w g o) e
still_runs x s w h n m f g l o e k store same legal whole cell why frames log =
    record {
      hold = stores s h n m w.view [] k store (nothing n m same) legal whole;
      when = refused_there s h n m w.view [] l.steps x (Some e) k store (nothing n m same) why;
      thread = λ i. record { cell = cell i; view = w.view; frames = (frames i).frames; steps = (log i).steps };
    }

-- no hand-over is refused because the cell is in use
never_busy : (limits : Limits) (v : ThreadView) (own : ℕ) (safe : Safe) → own_refusal limits v own (Hand safe) ≡ Some Busy → ⊥
never_busy limits v own Native why = absurd (grind (arith, why))
never_busy limits v own (Blocked kind) why = absurd (grind (arith, why))
never_busy limits v own AtPoll why = absurd (grind (arith, why))

pub not_busy : (limits : Limits) (history : List Entry) (safe : Safe) (e : TiError) → refused_at limits history (Hand safe) ≡ Some e → e ≡ Busy → ⊥
not_busy limits history safe e why busy = never_busy limits (view limits history) (own_spent history) safe (why ∙ (λ i. Some (busy i)))

-- a call that does not wait gets no ticket
pub no_ticket : (call : Call) (r : AskedOf) (posted : List Ticket) → waits call ≡ false → IsLate call r → posted ++ ticket_told r ≡ posted
no_ticket call (Answered a) posted never late = append-nil posted
no_ticket call (Waiting k) posted never late = absurd (cc_of (sym never ∙ late))
  where
    cc_of : false ≡ true → ⊥
    cc_of e = cc
