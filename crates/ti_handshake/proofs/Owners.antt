-- The thread's own calls: what was taken, what was stored, and what the thread is then.
use Rattle.std.proofs.Common.{◌≡◌, ℕ, ◌+◌, true, false, List, [], ◌∷◌, ◌++◌, append_assoc, append-nil, refl, sym, ap, ◌∙◌, subst, arith, Option, Some, None}
use Rattle.atomic_table.specs.Seated.{TableId}
use Rattle.ti_types.specs.declared.entry.Entry.{Entry}
use Rattle.ti_types.specs.declared.entry.Entry.TheVariants.{Start, Hand, Back, End}
use Rattle.ti_types.specs.declared.error.TiError.{TiError}
use Rattle.ti_types.specs.declared.event.Ticket.{Ticket}
use Rattle.ti_types.specs.declared.error.TiError.TheVariants.{Barred}
use Rattle.ti_types.specs.declared.limits.Limits.{Limits}
use Rattle.ti_types.specs.declared.state.Safe.{Safe}
use Rattle.ti_types.specs.declared.state.Safe.TheVariants.{AtPoll}
use Rattle.ti_types.specs.declared.step.Step.{Step}
use Rattle.ti_types.specs.declared.view.ThreadView.{ThreadView}
use Rattle.ti_replay.specs.Answers.{is_running}
use Rattle.ti_replay.specs.Legal.{is_legal, is_armed, is_new, is_safe, own_spent, goes_on}
use Rattle.ti_replay.specs.LateTickets.{steps_of}
use Rattle.ti_replay.specs.Makers.{made_by, AllBy, Adds}
use Rattle.ti_replay.specs.Refusals.{own_refusal}
use Rattle.ti_replay.specs.View.{view, is_barred}
use Rattle.ti_replay.proofs.MakerLaws.{mode_is_own}
use Rattle.ti_frames.specs.Frames.{Stack}
use Rattle.ti_frames.specs.Log.{Steps, with_steps}
use Rattle.ti_slot.specs.Thread.{Thread, with_more}
use Rattle.ti_cell.specs.declared.view.View.{View}
use Rattle.ti_cell.specs.View.{holding, stored, tickets_but}
use Rattle.ti_cell.specs.Rule.{IsTaken, Keeps}
use Rattle.ti_cell.specs.Seats.{Sitting, Holding}
use Rattle.ti_handshake.specs.Call.{Holds, SawNews, found}
use Rattle.ti_handshake.specs.Thread.{RunsWith, RestsWith, HasEnded, IsFresh, refused_at, logged}
use Rattle.ti_handshake.proofs.Holding.{held, found_held}
use Rattle.ti_replay.proofs.MakerLaws.{mode-snoc}
use Rattle.ti_replay.proofs.LoggedLaws.{logged_runs, logged_armed}
use Rattle.ti_handshake.specs.Polls.{polled}
use Rattle.ti_replay.specs.Alone.{LeavesIt}
use Rattle.ti_replay.proofs.AloneLaws.{left_alone}

-- s is the seat before, h the hold, and n the slot as the hold lends it
pub record Owns (s : Sitting) (h : Holding) (n : Thread) : Type 0 where
  pub owner : s.view.number ≡ 0
  pub holds : h.view ≡ holding s.view h.slot.history h.slot.uncollected
  pub taken : IsTaken s.view n
  pub lent : n ≡ h.slot

pub owns : (s : Sitting) (h : Holding) (n : Thread) → s.view.number ≡ 0 → h.view ≡ holding s.view h.slot.history h.slot.uncollected → IsTaken s.view h.slot → n ≡ h.slot → Owns s h n
owns s h n owner holds taken lent = record { owner = owner; holds = holds; taken = subst (λ (t : Thread). IsTaken s.view t) (sym lent) taken; lent = lent }

-- the slot stands as the history that the thread saw left it, but for what others did
pub alone : (s : Sitting) (h : Holding) (n : Thread) (steps : List Step) → Owns s h n → s.view.mine ≡ made_by 0 s.view.seen → LeavesIt s.view.subject.limits s.view.seen n.history steps
alone s h n steps k whole =
    left_alone s.view.subject.limits s.view.seen n.history steps k.taken.begins (sym whole ∙ (k.taken.all_mine ∙ ap (λ (i : ℕ). made_by i n.history) k.owner))

-- the slot of a running thread, as its owner finds it
pub record Home (n : Thread) (f : Stack) (l : Steps) : Type 0 where
  pub running : is_running (view n.limits n.history).mode ≡ true
  pub steps : goes_on n.limits n.history (steps_of l.steps) ≡ true
  pub frames : f.frames ≡ (view n.limits (n.history ++ steps_of l.steps)).frames
  pub depth : f.depth ≡ n.limits.depth

pub home : (cell : TableId) (s : Sitting) (h : Holding) (n : Thread) (f : Stack) (l : Steps) (left : ℕ) → RunsWith cell s f l left → Owns s h n → Home n f l
home cell s h n f l left r k =
    let a = alone s h n l.steps k r.thread.whole in
    let limits = sym k.taken.about.0 in
    record {
      running = subst (λ (x : Limits). is_running (view x n.history).mode ≡ true) limits (ap is_running a.mode ∙ r.thread.runs);
      steps = subst (λ (x : Limits). goes_on x n.history (steps_of l.steps) ≡ true) limits (a.goes ∙ r.thread.goes);
      frames = subst (λ (x : Limits). f.frames ≡ (view x (n.history ++ steps_of l.steps)).frames) limits (r.thread.frames ∙ sym (a.frames r.thread.runs));
      depth = r.depth ∙ ap (λ (x : Limits). x.depth) limits;
    }

all_append : (n : ℕ) (xs ys : List Entry) → AllBy n xs → AllBy n ys → AllBy n (xs ++ ys)
all_append n [] ys p q = q
all_append n (x ∷ xs) ys p q = (p.0, all_append n xs ys p.1 q)

all_steps : (steps : List Step) → AllBy 0 (steps_of steps)
all_steps [] = tt
all_steps (x ∷ steps) = (refl, all_steps steps)

pub steps_and : (steps : List Step) (more : List Entry) → AllBy 0 more → AllBy 0 (steps_of steps ++ more)
steps_and steps more all = all_append 0 (steps_of steps) more (all_steps steps) all

-- what the owner adds may be stored
pub may_store : (s : Sitting) (h : Holding) (n m : Thread) (more : List Entry) → Owns s h n → AllBy 0 more → m ≡ with_more n more → Adds h.view.number h.view.seen m.history
may_store s h n m more k all is =
    let seen : h.view.seen ≡ n.history = ap (λ (v : View). v.seen) k.holds ∙ ap (λ (t : Thread). t.history) (sym k.lent) in
    let number : h.view.number ≡ 0 = ap (λ (v : View). v.number) k.holds ∙ k.owner in
    subst (λ (a : ℕ × List Entry). Adds a.0 a.1 m.history) (λ i. (sym number i, sym seen i)) (more, ap (λ (t : Thread). t.history) is, all)

-- and the tickets are those that it found
pub may_keep : (s : Sitting) (h : Holding) (n m : Thread) (more : List Entry) → Owns s h n → m ≡ with_more n more → Keeps h.view.number h.view.found m.uncollected
may_keep s h n m more k is =
    ap (tickets_but h.view.number) (ap (λ (t : Thread). t.uncollected) is ∙ (ap (λ (t : Thread). t.uncollected) k.lent ∙ sym (ap (λ (v : View). v.found) k.holds)))

store_is : (s : Sitting) (h : Holding) (n : Thread) (w : View) (history : List Entry) (left : List Ticket) → Owns s h n → w ≡ stored h.view history left → w ≡ stored (holding s.view n.history n.uncollected) history left
store_is s h n w history left k store = store ∙ (λ i. stored (k.holds i) history left) ∙ sym (λ i. stored (holding s.view (k.lent i).history (k.lent i).uncollected) history left)

pub stores : (s : Sitting) (h : Holding) (n m : Thread) (w : View) (more : List Entry) → Owns s h n
    → w ≡ stored h.view m.history m.uncollected → m ≡ with_more n more → is_legal w.subject.limits w.seen ≡ true → w.mine ≡ made_by w.number w.seen → Holds s.view w more
stores s h n m w more k store is legal whole =
    held s.view w n m.history more m.uncollected k.taken (store_is s h n w m.history m.uncollected k store) (ap (λ (t : Thread). t.history) is) (ap (λ (t : Thread). t.uncollected) is) legal whole

-- the history that it found is the slot's
pub finds : (s : Sitting) (h : Holding) (n m : Thread) (w : View) (more : List Entry) → Owns s h n → w ≡ stored h.view m.history m.uncollected → m ≡ with_more n more → found s.view w ≡ n.history
finds s h n m w more k store is = found_held s.view w n m.history more m.uncollected (store_is s h n w m.history m.uncollected k store) (ap (λ (t : Thread). t.history) is)

-- what is refused of the slot is refused at the history that was found
pub refused_there : (s : Sitting) (h : Holding) (n m : Thread) (w : View) (more : List Entry) (steps : List Step) (x : Entry) (r : Option TiError) → Owns s h n
    → w ≡ stored h.view m.history m.uncollected → m ≡ with_more n more → refused_at n.limits (n.history ++ steps_of steps) x ≡ r → refused_at s.view.subject.limits (logged (found s.view w) steps) x ≡ r
refused_there s h n m w more steps x r k store is e =
    let f = finds s h n m w more k store is in
    let limits = k.taken.about.0 in
    (λ i. refused_at (sym limits i) (f i ++ steps_of steps) x) ∙ e

-- the seat after a store, and the history that it has seen
pub record Left (s w : Sitting) (history : List Entry) : Type 0 where
  pub cell : w.cell ≡ s.cell
  pub owner : w.view.number ≡ 0
  pub subject : w.view.subject ≡ s.view.subject
  pub seen : w.view.seen ≡ history
  pub whole : w.view.mine ≡ made_by 0 w.view.seen

pub leaves : (s w : Sitting) (h : Holding) (n : Thread) (cell : TableId) (history : List Entry) (left : List Ticket) → Owns s h n → s.cell ≡ cell → h.cell ≡ cell → w.cell ≡ h.cell → w.view ≡ stored h.view history left
    → w.view.mine ≡ made_by w.view.number w.view.seen → Left s w history
leaves s w h n cell history left k here there stays store whole =
    let number : w.view.number ≡ 0 = ap (λ (v : View). v.number) store ∙ (ap (λ (v : View). v.number) k.holds ∙ k.owner) in
    record {
      cell = stays ∙ (there ∙ sym here);
      owner = number;
      subject = ap (λ (v : View). v.subject) store ∙ ap (λ (v : View). v.subject) k.holds;
      seen = ap (λ (v : View). v.seen) store;
      whole = whole ∙ ap (λ (i : ℕ). made_by i w.view.seen) number;
    }

-- a thread that runs on after what others did
pub runs_on : (cell : TableId) (s w : Sitting) (h : Holding) (n : Thread) (f g : Stack) (l m : Steps) (left : ℕ) → RunsWith cell s f l left → Owns s h n → Left s w n.history → g ≡ f → m ≡ l → RunsWith cell w g m left
runs_on cell s w h n f g l m left r k at same_frames same_log =
    let a = alone s h n l.steps k r.thread.whole in
    let limits : s.view.subject.limits ≡ w.view.subject.limits = ap (λ x. x.limits) (sym at.subject) in
    let seen : n.history ≡ w.view.seen = sym at.seen in
    subst (λ (x : Stack × Steps). RunsWith cell w x.0 x.1 left) (λ i. (sym same_frames i, sym same_log i)) (record {
      here = at.cell ∙ r.here;
      thread = record {
        owner = at.owner;
        whole = at.whole;
        runs = subst (λ (x : Limits × List Entry). is_running (view x.0 x.1).mode ≡ true) (λ i. (limits i, seen i)) (ap is_running a.mode ∙ r.thread.runs);
        frames = (r.thread.frames ∙ sym (a.frames r.thread.runs)) ∙ (λ i. (view (limits i) (logged (seen i) l.steps)).frames);
        goes = subst (λ (x : Limits × List Entry). goes_on x.0 x.1 (steps_of l.steps) ≡ true) (λ i. (limits i, seen i)) (a.goes ∙ r.thread.goes);
      };
      depth = r.depth ∙ ap (λ (x : Limits). x.depth) limits;
      room = r.room ∙ ap (λ (x : Limits). x.own) limits;
      kept = r.kept ∙ ap (λ (x : Limits). x.kept) limits;
      budget = subst (λ (x : Limits × List Entry). left + own_spent x.1 ≡ x.0.own) (λ i. (limits i, seen i)) (ap (λ (c : ℕ). left + c) a.own ∙ r.budget);
    })

-- a thread that handed over
pub rests : (cell : TableId) (s w : Sitting) (h : Holding) (n m : Thread) (f : Stack) (l l' : Steps) (left : ℕ) (safe : Safe) → RunsWith cell s f l left → Owns s h n → Left s w m.history
    → m ≡ with_more n (steps_of l.steps ++ Hand safe ∷ []) → l' ≡ with_steps l [] → RestsWith cell w l'
rests cell s w h n m f l l' left safe r k at is emptied =
    let limits : m.limits ≡ w.view.subject.limits = ap (λ (t : Thread). t.limits) is ∙ (k.taken.about.0 ∙ ap (λ x. x.limits) (sym at.subject)) in
    let longer : w.view.seen ≡ (n.history ++ steps_of l.steps) ++ Hand safe ∷ [] = at.seen ∙ (ap (λ (t : Thread). t.history) is ∙ sym (append_assoc n.history (steps_of l.steps) (Hand safe ∷ []))) in
    record {
      here = at.cell ∙ r.here;
      owner = at.owner;
      whole = at.whole;
      safe = ap (λ (x : List Entry). is_safe (view w.view.subject.limits x).mode) longer ∙ ap is_safe (mode-snoc w.view.subject.limits (n.history ++ steps_of l.steps) (Hand safe));
      none = ap (λ (z : Steps). z.steps) emptied;
      room = ap (λ (z : Steps). z.room) emptied ∙ (r.room ∙ ap (λ x. x.limits.own) (sym at.subject));
      kept = ap (λ (z : Steps). z.kept) emptied ∙ (r.kept ∙ ap (λ x. x.limits.kept) (sym at.subject));
    }

-- a thread that has ended
pub ended : (cell : TableId) (s w : Sitting) (h : Holding) (n m : Thread) (steps : List Step) → Owns s h n → Left s w m.history → s.cell ≡ cell
    → m ≡ with_more n (steps_of steps ++ End ∷ []) → HasEnded cell w
ended cell s w h n m steps k at here is =
    let longer : w.view.seen ≡ (n.history ++ steps_of steps) ++ End ∷ [] = at.seen ∙ (ap (λ (t : Thread). t.history) is ∙ sym (append_assoc n.history (steps_of steps) (End ∷ []))) in
    record {
      here = at.cell ∙ here;
      owner = at.owner;
      ended = ap (λ (x : List Entry). (view w.view.subject.limits x).mode) longer ∙ mode-snoc w.view.subject.limits (n.history ++ steps_of steps) End;
    }

-- a thread that is still safe
pub still_safe : (cell : TableId) (s w : Sitting) (h : Holding) (n : Thread) (l : Steps) → RestsWith cell s l → Owns s h n → Left s w n.history → RestsWith cell w l
still_safe cell s w h n l r k at =
    let a = alone s h n [] k r.whole in
    let limits : s.view.subject.limits ≡ w.view.subject.limits = ap (λ x. x.limits) (sym at.subject) in
    let seen : n.history ≡ w.view.seen = sym at.seen in
    record {
      here = at.cell ∙ r.here;
      owner = at.owner;
      whole = at.whole;
      safe = subst (λ (x : Limits × List Entry). is_safe (view x.0 x.1).mode ≡ true) (λ i. (limits i, seen i)) (ap is_safe a.mode ∙ r.safe);
      none = r.none;
      room = r.room ∙ ap (λ (x : Limits). x.own) limits;
      kept = r.kept ∙ ap (λ (x : Limits). x.kept) limits;
    }

-- looks change nothing of it
pub looks_safe : (cell : TableId) (s w : Sitting) (l : Steps) → RestsWith cell s l → w.cell ≡ s.cell → SawNews s.view w.view → RestsWith cell w l
looks_safe cell s w l r here n =
    let seen : s.view.seen ≡ w.view.seen = sym (ap (λ (v : View). v.seen) n.2) in
    let limits : s.view.subject.limits ≡ w.view.subject.limits = sym (ap (λ (v : View). v.subject.limits) n.2) in
    record {
      here = here ∙ r.here;
      owner = ap (λ (v : View). v.number) n.2 ∙ r.owner;
      whole = ap (λ (v : View). v.mine) n.2 ∙ (r.whole ∙ ap (made_by 0) seen);
      safe = subst (λ (x : Limits × List Entry). is_safe (view x.0 x.1).mode ≡ true) (λ i. (limits i, seen i)) r.safe;
      none = r.none;
      room = r.room ∙ ap (λ (x : Limits). x.own) limits;
      kept = r.kept ∙ ap (λ (x : Limits). x.kept) limits;
    }

-- a thread in native, blocked or at a poll may not return for one reason
barred_back : (limits : Limits) (v : ThreadView) (own : ℕ) (e : TiError) → is_safe v.mode ≡ true → own_refusal limits v own Back ≡ Some e → (e ≡ Barred) × (is_barred v ≡ true)
barred_back limits v own e safe why = (grind (arith, safe, why), grind (arith, safe, why))

barred_start : (limits : Limits) (v : ThreadView) (own : ℕ) (e : TiError) → is_new v.mode ≡ true → own_refusal limits v own Start ≡ Some e → (e ≡ Barred) × (is_barred v ≡ true)
barred_start limits v own e new why = (grind (arith, new, why), grind (arith, new, why))

pub back_barred : (cell : TableId) (s w : Sitting) (h : Holding) (n : Thread) (l : Steps) (e : TiError) → RestsWith cell s l → Owns s h n → Left s w n.history
    → own_refusal n.limits (view n.limits n.history) (own_spent n.history) Back ≡ Some e → (e ≡ Barred) × (is_barred (view s.view.subject.limits w.view.seen) ≡ true)
back_barred cell s w h n l e r k at why =
    let a = alone s h n [] k r.whole in
    let limits = k.taken.about.0 in
    let safe : is_safe (view n.limits n.history).mode ≡ true = subst (λ (x : Limits). is_safe (view x n.history).mode ≡ true) (sym limits) (ap is_safe a.mode ∙ r.safe) in
    let b = barred_back n.limits (view n.limits n.history) (own_spent n.history) e safe why in
    (b.0, subst (λ (x : Limits × List Entry). is_barred (view x.0 x.1) ≡ true) (λ i. (limits i, sym at.seen i)) b.1)

pub start_barred : (s w : Sitting) (h : Holding) (n : Thread) (e : TiError) → IsFresh s → Owns s h n → Left s w n.history
    → own_refusal n.limits (view n.limits n.history) (own_spent n.history) Start ≡ Some e → (e ≡ Barred) × (is_barred (view s.view.subject.limits w.view.seen) ≡ true)
start_barred s w h n e r k at why =
    let limits = k.taken.about.0 in
    let none : made_by 0 n.history ≡ [] = ap (λ (i : ℕ). made_by i n.history) (sym k.owner) ∙ (sym k.taken.all_mine ∙ r.none) in
    let new : is_new (view n.limits n.history).mode ≡ true = ap is_new (mode_is_own n.limits n.history ∙ ap (λ (x : List Entry). (view n.limits x).mode) none) in
    let b = barred_start n.limits (view n.limits n.history) (own_spent n.history) e new why in
    (b.0, subst (λ (x : Limits × List Entry). is_barred (view x.0 x.1) ≡ true) (λ i. (limits i, sym at.seen i)) b.1)

pub left_at : (s w : Sitting) (a b : List Entry) → a ≡ b → Left s w a → Left s w b
left_at s w a b e at = record { cell = at.cell; owner = at.owner; subject = at.subject; seen = at.seen ∙ e; whole = at.whole }

-- nothing was added
pub nothing : (n m : Thread) → m ≡ n → m ≡ with_more n []
nothing n m e = e ∙ (λ i. record n { history = sym (append-nil n.history) i })

pub same_history : (n m : Thread) → m ≡ n → m.history ≡ n.history
same_history n m e = ap (λ (t : Thread). t.history) e

-- Polls

-- a running thread is never refused a hand-over at a poll
pub no_refusal : (n : Thread) (f : Stack) (l : Steps) (e : TiError) → Home n f l → refused_at n.limits (n.history ++ steps_of l.steps) (Hand AtPoll) ≡ Some e → ⊥
no_refusal n f l e k why =
    let runs : is_running (view n.limits (n.history ++ steps_of l.steps)).mode ≡ true = logged_runs n.limits n.history l.steps ∙ k.running in
    absurd (grind (arith, runs, why))

-- a thread that handed over at a poll and returned
pub gone_thread : (n m b : Thread) (steps : List Step) → m ≡ with_more n (steps_of steps ++ Hand AtPoll ∷ []) → b ≡ with_more m (Back ∷ []) → b ≡ with_more n (steps_of steps ++ Hand AtPoll ∷ Back ∷ [])
gone_thread n m b steps e f =
    let longer : (n.history ++ (steps_of steps ++ Hand AtPoll ∷ [])) ++ Back ∷ [] ≡ n.history ++ (steps_of steps ++ Hand AtPoll ∷ Back ∷ []) =
    append_assoc n.history (steps_of steps ++ Hand AtPoll ∷ []) (Back ∷ [])
    ∙ ap (λ (x : List Entry). n.history ++ x) (append_assoc (steps_of steps) (Hand AtPoll ∷ []) (Back ∷ [])) in
    f ∙ (ap (λ (t : Thread). with_more t (Back ∷ [])) e ∙ (λ i. record n { history = longer i }))

-- a thread that stays at its poll is barred
pub poll_barred : (s w : Sitting) (h : Holding) (n m : Thread) (steps : List Step) (e : TiError) → Owns s h n → Left s w m.history → m ≡ with_more n (steps_of steps ++ Hand AtPoll ∷ [])
    → own_refusal m.limits (view m.limits m.history) (own_spent m.history) Back ≡ Some e → is_barred (view s.view.subject.limits w.view.seen) ≡ true
poll_barred s w h n m steps e k at is why =
    let longer : m.history ≡ (n.history ++ steps_of steps) ++ Hand AtPoll ∷ [] = ap (λ (t : Thread). t.history) is ∙ sym (append_assoc n.history (steps_of steps) (Hand AtPoll ∷ [])) in
    let safe : is_safe (view m.limits m.history).mode ≡ true = ap (λ (x : List Entry). is_safe (view m.limits x).mode) longer ∙ ap is_safe (mode-snoc m.limits (n.history ++ steps_of steps) (Hand AtPoll)) in
    let limits : m.limits ≡ s.view.subject.limits = ap (λ (t : Thread). t.limits) is ∙ k.taken.about.0 in
    subst (λ (x : Limits × List Entry). is_barred (view x.0 x.1) ≡ true) (λ i. (limits i, sym at.seen i)) (barred_back m.limits (view m.limits m.history) (own_spent m.history) e safe why).1

-- What a poll adds is what the definition of events leaves

polled_clear : (limits : Limits) (h : List Entry) (steps : List Step) → is_armed limits h ≡ false → polled limits h steps ≡ []
polled_clear limits h steps calm = grind (arith, calm)

polled_gone : (limits : Limits) (h : List Entry) (steps : List Step) → is_running (view limits h).mode ≡ true → is_armed limits h ≡ true → is_barred (view limits (logged h steps ++ Hand AtPoll ∷ [])) ≡ false
    → polled limits h steps ≡ steps_of steps ++ Hand AtPoll ∷ Back ∷ []
polled_gone limits h steps runs armed free =
    grind (arith, armed, free, logged_runs limits h steps, runs, logged_armed limits h steps)

polled_held : (limits : Limits) (h : List Entry) (steps : List Step) → is_running (view limits h).mode ≡ true → is_armed limits h ≡ true → is_barred (view limits (logged h steps ++ Hand AtPoll ∷ [])) ≡ true
    → polled limits h steps ≡ steps_of steps ++ Hand AtPoll ∷ []
polled_held limits h steps runs armed barred =
    grind (arith, armed, barred, logged_runs limits h steps, runs, logged_armed limits h steps)

at_found : (s : Sitting) (h : Holding) (n m : Thread) (w : View) (more : List Entry) (steps : List Step) → Owns s h n → w ≡ stored h.view m.history m.uncollected → m ≡ with_more n more
    → polled n.limits n.history steps ≡ more → Holds s.view w more → Holds s.view w (polled s.view.subject.limits (found s.view w) steps)
at_found s h n m w more steps k store is left held =
    let f = finds s h n m w more k store is in
    let limits = k.taken.about.0 in
    subst (λ (l : List Entry). Holds s.view w l) (sym left ∙ (λ i. polled (limits i) (sym f i) steps)) held

pub clear_entries : (s : Sitting) (h : Holding) (n : Thread) (w : View) (steps : List Step) → Owns s h n → w ≡ stored h.view n.history n.uncollected → is_armed n.limits n.history ≡ false → Holds s.view w []
    → Holds s.view w (polled s.view.subject.limits (found s.view w) steps)
clear_entries s h n w steps k store calm held = at_found s h n n w [] steps k store (nothing n n refl) (polled_clear n.limits n.history steps calm) held

free_back : (limits : Limits) (v : ThreadView) (own : ℕ) → own_refusal limits v own Back ≡ None → is_barred v ≡ false
free_back limits v own e = grind (arith, e)

handed_at : (n m : Thread) (steps : List Step) → m ≡ with_more n (steps_of steps ++ Hand AtPoll ∷ []) → view m.limits m.history ≡ view n.limits (logged n.history steps ++ Hand AtPoll ∷ [])
handed_at n m steps is =
    let longer : m.history ≡ logged n.history steps ++ Hand AtPoll ∷ [] = ap (λ (t : Thread). t.history) is ∙ sym (append_assoc n.history (steps_of steps) (Hand AtPoll ∷ [])) in
    λ i. view (is i).limits (longer i)

pub gone_entries : (s : Sitting) (h : Holding) (n m b : Thread) (f : Stack) (l : Steps) (w : View) → Owns s h n → Home n f l → w ≡ stored h.view b.history b.uncollected → is_armed n.limits n.history ≡ true
    → m ≡ with_more n (steps_of l.steps ++ Hand AtPoll ∷ []) → b ≡ with_more m (Back ∷ []) → own_refusal m.limits (view m.limits m.history) (own_spent m.history) Back ≡ None
    → Holds s.view w (steps_of l.steps ++ Hand AtPoll ∷ Back ∷ []) → Holds s.view w (polled s.view.subject.limits (found s.view w) l.steps)
gone_entries s h n m b f l w k at store armed is back free held =
    let open_now : is_barred (view n.limits (logged n.history l.steps ++ Hand AtPoll ∷ [])) ≡ false = ap is_barred (sym (handed_at n m l.steps is)) ∙ free_back m.limits (view m.limits m.history) (own_spent m.history) free in
    at_found s h n b w (steps_of l.steps ++ Hand AtPoll ∷ Back ∷ []) l.steps k store (gone_thread n m b l.steps is back) (polled_gone n.limits n.history l.steps at.running armed open_now) held

pub held_entries : (s : Sitting) (h : Holding) (n m b : Thread) (f : Stack) (l : Steps) (e : TiError) (w : View) → Owns s h n → Home n f l → w ≡ stored h.view b.history b.uncollected → is_armed n.limits n.history ≡ true
    → m ≡ with_more n (steps_of l.steps ++ Hand AtPoll ∷ []) → b ≡ m → own_refusal m.limits (view m.limits m.history) (own_spent m.history) Back ≡ Some e
    → Holds s.view w (steps_of l.steps ++ Hand AtPoll ∷ []) → Holds s.view w (polled s.view.subject.limits (found s.view w) l.steps)
held_entries s h n m b f l e w k at store armed is same why held =
    let longer : m.history ≡ logged n.history l.steps ++ Hand AtPoll ∷ [] = ap (λ (t : Thread). t.history) is ∙ sym (append_assoc n.history (steps_of l.steps) (Hand AtPoll ∷ [])) in
    let safe : is_safe (view m.limits m.history).mode ≡ true = ap (λ (x : List Entry). is_safe (view m.limits x).mode) longer ∙ ap is_safe (mode-snoc m.limits (logged n.history l.steps) (Hand AtPoll)) in
    let barred : is_barred (view n.limits (logged n.history l.steps ++ Hand AtPoll ∷ [])) ≡ true = ap is_barred (sym (handed_at n m l.steps is)) ∙ (barred_back m.limits (view m.limits m.history) (own_spent m.history) e safe why).1 in
    at_found s h n b w (steps_of l.steps ++ Hand AtPoll ∷ []) l.steps k store (same ∙ is) (polled_held n.limits n.history l.steps at.running armed barred) held
