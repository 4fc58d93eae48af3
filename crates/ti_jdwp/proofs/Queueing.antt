-- Events that wait: their order, and when they may be told.
use Rattle.std.proofs.Common.{◌≡◌, Bool, true, false, not, ◌&&◌, cond, List, [], ◌∷◌, ◌++◌, drop, fold, Some, None, refl, sym, ap, subst, ◌∙◌, append_assoc, append-nil}
use Rattle.std.specs.Prelude.{unwrap_or}
use Rattle.std.specs.List.{filter_map}
use Rattle.ti_jdwp.specs.declared.notice.Notice.{Notice}
use Rattle.ti_jdwp.specs.Queues.{Queue, no_events, with_event, with_loss, may_tell, first, without_first}
use Rattle.ti_jdwp.specs.QueueRuns.{Call, Noted, Lost, Told, Stopped, Resumed, Held, Released, Step, Runs, stops, holds, noted_by, told_by, AllToldWell}

-- what is known where an event is told
pub record Tells (old : Queue) (e : Notice) (new : Queue) : Type 0 where
  pub stands : old.stopped ≡ false
  pub takes : old.held ≡ false
  pub waiting : old.waiting ≡ e ∷ new.waiting
  pub stopped : new.stopped ≡ old.stopped
  pub held : new.held ≡ old.held

may : (held stopped : Bool) → (not held && not stopped) ≡ true → (held ≡ false) × (stopped ≡ false)
may true stopped h = cc
may false true h = cc
may false false h = (refl, refl)

taken : (l : List Notice) (e : Notice) → first l ≡ Some e → l ≡ e ∷ drop 1 l
taken [] e h = cc
taken (x ∷ l) e h = ap (λ y. y ∷ l) (ap (λ o. unwrap_or o x) h)

tells : (old new : Queue) (e : Notice) (b : Bool) → may_tell old ≡ b → cond b (first old.waiting) None ≡ Some e → new ≡ cond b (without_first old) old → Tells old e new
tells old new e true may_be first_is is = record {
  stands = (may old.held old.stopped may_be).1;
  takes = (may old.held old.stopped may_be).0;
  waiting = taken old.waiting e first_is ∙ ap (λ (q : Queue). e ∷ q.waiting) (sym is);
  stopped = ap (λ (q : Queue). q.stopped) is;
  held = ap (λ (q : Queue). q.held) is;
}
tells old new e false may_be first_is is = cc

told_step : (old new : Queue) (e : Notice) → Step old (Told e) new → Tells old e new
told_step old new e step = tells old new e (may_tell old) refl step.0 step.1

-- what waits and what comes is what is told and what waits at the end
goes : (q end : Queue) (calls : List Call) → Runs q calls end → q.waiting ++ filter_map noted_by calls ≡ filter_map told_by calls ++ end.waiting
goes q end [] run = append-nil q.waiting ∙ ap (λ (x : Queue). x.waiting) run
goes q end (Noted e ∷ calls) run =
    sym (append_assoc q.waiting (e ∷ []) (filter_map noted_by calls))
    ∙ ap (λ (x : Queue). x.waiting ++ filter_map noted_by calls) (sym run.1) ∙ goes run.0 end calls run.2
goes q end (Lost ∷ calls) run = ap (λ (x : Queue). x.waiting ++ filter_map noted_by calls) (sym run.1) ∙ goes run.0 end calls run.2
goes q end (Told e ∷ calls) run =
    let told = told_step q run.0 e run.1 in
    ap (λ l. l ++ filter_map noted_by calls) told.waiting ∙ ap (λ l. e ∷ l) (goes run.0 end calls run.2)
goes q end (Stopped ∷ calls) run = ap (λ (x : Queue). x.waiting ++ filter_map noted_by calls) (sym run.1) ∙ goes run.0 end calls run.2
goes q end (Resumed ∷ calls) run = ap (λ (x : Queue). x.waiting ++ filter_map noted_by calls) (sym run.1) ∙ goes run.0 end calls run.2
goes q end (Held ∷ calls) run = ap (λ (x : Queue). x.waiting ++ filter_map noted_by calls) (sym run.1) ∙ goes run.0 end calls run.2
goes q end (Released ∷ calls) run = ap (λ (x : Queue). x.waiting ++ filter_map noted_by calls) (sym run.1) ∙ goes run.0 end calls run.2

abbrev pub Flags : Queue → Call → Queue → Type 0
Flags old c new = (new.stopped ≡ stops old.stopped c) × (new.held ≡ holds old.held c)

from : (old new to : Queue) (c : Call) → new ≡ to → Flags old c to → Flags old c new
from old new to c is h = subst (Flags old c) (sym is) h

flags : (old new : Queue) (c : Call) → Step old c new → Flags old c new
flags old new (Noted e) step = from old new (with_event old e) (Noted e) step (refl, refl)
flags old new Lost step = from old new (with_loss old) Lost step (refl, refl)
flags old new (Told e) step = let told = told_step old new e step in (told.stopped, told.held)
flags old new Stopped step = from old new (record old { stopped = true }) Stopped step (refl, refl)
flags old new Resumed step = from old new (record old { stopped = false }) Resumed step (refl, refl)
flags old new Held step = from old new (record old { held = true }) Held step (refl, refl)
flags old new Released step = from old new (record old { held = false }) Released step (refl, refl)

told_at : (q end : Queue) (front rest : List Call) (e : Notice) → Runs q (front ++ Told e ∷ rest) end → (fold stops q.stopped front ≡ false) × (fold holds q.held front ≡ false)
told_at q end [] rest e run = let told = told_step q run.0 e run.1 in (told.stands, told.takes)
told_at q end (c ∷ front) rest e run =
    let now = flags q run.0 c run.1 in
    let later = told_at run.0 end front rest e run.2 in
    (ap (λ b. fold stops b front) (sym now.0) ∙ later.0, ap (λ b. fold holds b front) (sym now.1) ∙ later.1)

pub all_told_well : AllToldWell
all_told_well calls end run = record {
  order = goes no_events end calls run;
  stands = λ front rest e is. (told_at no_events end front rest e (subst (λ (l : List Call). Runs no_events l end) is run)).0;
  takes = λ front rest e is. (told_at no_events end front rest e (subst (λ (l : List Call). Runs no_events l end) is run)).1;
}
