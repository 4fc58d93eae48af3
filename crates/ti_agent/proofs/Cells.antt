-- No call of an environment moves a desk to another cell.
use Rattle.std.proofs.Common.{◌≡◌, ℕ, zero, suc, Bool, true, false, List, [], ◌∷◌, length, refl, ap, sym, ◌∙◌, arith, Option, Some, None, slice_set}
use Rattle.std.specs.Prelude.{slice_get, ℤ, Result, Ok, Err, IfOk, IfErr, OnErr}
use Rattle.atomic_table.specs.Seated.{TableId}
use Rattle.ti_types.specs.declared.answer.Answer.{Answer}
use Rattle.ti_types.specs.declared.call.Call.{Call}
use Rattle.ti_types.specs.declared.entry.Entry.{Entry}
use Rattle.ti_types.specs.declared.entry.Entry.TheVariants.{Stop, Read, Go}
use Rattle.ti_types.specs.declared.error.TiError.{TiError}
use Rattle.ti_types.specs.declared.numbers.EnvNo.{EnvNo}
use Rattle.ti_types.specs.declared.numbers.ThreadNo.{ThreadNo}
use Rattle.ti_types.specs.declared.stack.StackInfo.{StackInfo}
use Rattle.ti_agent.specs.Posts.{posting_refusal}
use Rattle.ti_handshake.specs.Desk.{DeskState}
use Rattle.ti_vmop.specs.Turns.{Listed, AtDesk, AtEach, is_listed}
use Rattle.ti_vmop.specs.declared.global_stops.Round.{Round}
use Rattle.ti_agent.specs.Env.{Environment, place_in, cells_at}
use Rattle.ti_agent.specs.Asks.{IsCalled, IsCalledBy, refusal_of}
use Rattle.ti_agent.specs.Lists.{IsPosted, IsPostedBy, PostsEach, IsCollected, CollectsEach, WentEach}
use Rattle.ti_agent.specs.declared.lists.Posted.{Posted}
use Rattle.ti_agent.specs.declared.lists.Posted.TheVariants.{Code, Waits}
use Rattle.ti_agent.specs.Traces.{Telling, ReadsEach, IsTraced, TracesAlive}

-- one desk, in the place of another at the same cell
set_cells : (desks : List DeskState) (i : ℕ) (p q : DeskState) → slice_get desks i ≡ Some p → q.cell ≡ p.cell → cells_at (slice_set desks i q) ≡ cells_at desks
set_cells [] i p q there same = cc
set_cells (x ∷ desks) zero p q there same =
    let first : x ≡ p = cc there in
    ap (λ (c : TableId). c ∷ cells_at desks) (same ∙ ap (λ (y : DeskState). y.cell) (sym first))
set_cells (x ∷ desks) (suc i) p q there same = ap (λ (l : List TableId). x.cell ∷ l) (set_cells desks i p q there same)

-- desks that are at the same cells one by one
each_cell : (old new : List DeskState) → length new ≡ length old → ((i : ℕ) (p q : DeskState) → slice_get old i ≡ Some p → slice_get new i ≡ Some q → q.cell ≡ p.cell) → cells_at new ≡ cells_at old
each_cell [] [] len same = refl
each_cell [] (q ∷ new) len same = cc
each_cell (p ∷ old) [] len same = cc
each_cell (p ∷ old) (q ∷ new) len same =
    let rest = each_cell old new (omega (arith, len)) (λ i a b. same (suc i) a b) in
    ap (λ (c : TableId). c ∷ cells_at new) (same 0 p q refl refl) ∙ ap (λ (l : List TableId). p.cell ∷ l) rest

at_cells : (threads : Listed) (old new : List DeskState) (more : EnvNo → List Entry) → AtEach threads old new more → cells_at new ≡ cells_at old
at_cells threads old new more k = each_cell old new k.0 (λ i p q a b. one (is_listed i threads) p q (k.1 i p q a b))
  where
    one : (b : Bool) (p q : DeskState) → AtDesk b p q (more p.env) → q.cell ≡ p.cell
    one true p q h = h.same.cell
    one false p q h = ap (λ (x : DeskState). x.cell) h

pub called_cells : (old new : Environment) (thread : ThreadNo) (c : Call) (a : Answer) → IsCalled old new thread c a → cells_at new.desks ≡ cells_at old.desks
called_cells old new thread c a k = one (refusal_of old thread c a) k
  where
    one : (r : Option TiError) → IsCalledBy r old new thread c a → cells_at new.desks ≡ cells_at old.desks
    one (Some e) h = ap (λ (s : Environment). cells_at s.desks) h.0
    one None h = ap (λ (s : Environment). cells_at s.desks) h.new_is ∙ set_cells old.desks (place_in old.desks thread) h.before h.after h.there h.asks.same.cell

posted_cells : (old new : Environment) (c : Call) (t : ThreadNo) (x : Posted) → IsPosted old new c t x → cells_at new.desks ≡ cells_at old.desks
posted_cells old new c t x k = one (posting_refusal old t c) x k
  where
    one : (r : Option TiError) (x : Posted) → IsPostedBy r old new c t x → cells_at new.desks ≡ cells_at old.desks
    one (Some e) (Code n) h = ap (λ (s : Environment). cells_at s.desks) h.0
    one (Some e) (Waits k) h = absurd h
    one None (Code n) h = ap (λ (s : Environment). cells_at s.desks) h.1.new_is ∙ set_cells old.desks (place_in old.desks t) h.1.before h.1.after h.1.there h.1.same.cell
    one None (Waits k) h = ap (λ (s : Environment). cells_at s.desks) h.new_is ∙ set_cells old.desks (place_in old.desks t) h.before h.after h.there h.same.cell

posts_cells : (old new : Environment) (c : Call) (ts : List ThreadNo) (xs : List Posted) → PostsEach old new c ts xs → cells_at new.desks ≡ cells_at old.desks
posts_cells old new c [] [] k = ap (λ (s : Environment). cells_at s.desks) k
posts_cells old new c (t ∷ ts) (x ∷ xs) k = posts_cells k.0 new c ts xs k.2 ∙ posted_cells old k.0 c t x k.1
posts_cells old new c [] (x ∷ xs) k = absurd k
posts_cells old new c (t ∷ ts) [] k = absurd k

collected_cells : (old new : Environment) (x : Posted) (code : ℕ) → IsCollected old new x code → cells_at new.desks ≡ cells_at old.desks
collected_cells old new (Code n) code k = ap (λ (s : Environment). cells_at s.desks) k.0
collected_cells old new (Waits t) code k =
    let h = k.1 in
    ap (λ (s : Environment). cells_at s.desks) h.new_is ∙ set_cells old.desks (place_in old.desks t.thread) h.before h.after h.there h.same.cell

collects_cells : (old new : Environment) (xs : List Posted) (codes : List ℕ) → CollectsEach old new xs codes → cells_at new.desks ≡ cells_at old.desks
collects_cells old new [] [] k = ap (λ (s : Environment). cells_at s.desks) k
collects_cells old new (x ∷ xs) (code ∷ codes) k = collects_cells k.0 new xs codes k.2 ∙ collected_cells old k.0 x code k.1
collects_cells old new [] (code ∷ codes) k = absurd k
collects_cells old new (x ∷ xs) [] k = absurd k

pub went_cells : (old new : Environment) (c : Call) (ts : List ThreadNo) (codes : List ℕ) → WentEach old new c ts codes → cells_at new.desks ≡ cells_at old.desks
went_cells old new c ts codes k = collects_cells k.between new k.posted codes k.collects ∙ posts_cells old k.between c ts k.posted k.posts

reads_cells : (old new : Environment) (n : ℤ) (xs : List Telling) → ReadsEach old new n xs → cells_at new.desks ≡ cells_at old.desks
reads_cells old new n [] k = ap (λ (s : Environment). cells_at s.desks) k
reads_cells old new n (x ∷ xs) k = reads_cells k.0 new n xs k.2 ∙ at_cells ((x.place, 0) ∷ []) old.desks k.0.desks (λ e. Read e n ∷ []) k.1.desks

pub traced_cells : (old new : Environment) (n : ℤ) (stopping : Listed) (places threads : List ThreadNo) (infos : List StackInfo) (round : Round) → IsTraced old new n stopping places threads infos round → cells_at new.desks ≡ cells_at old.desks
traced_cells old new n stopping places threads infos round k =
    at_cells stopping k.seen.desks new.desks (λ e. Go e ∷ []) k.goes.desks
    ∙ (reads_cells k.stopped k.seen n k.reads.tellings k.reads.reads ∙ at_cells stopping old.desks k.stopped.desks (λ e. Stop e ∷ []) k.stops.desks)

pub alive_cells : (old new : Environment) (n : ℤ) (infos : List StackInfo) (round : Round) → TracesAlive old new n infos round → cells_at new.desks ≡ cells_at old.desks
alive_cells old new n infos round k = traced_cells old new n _ _ _ k.all round k.traced

-- a call that went on where it is accepted, and changed nothing where it is refused
pub either_way : {A E : Type 0} (r : Result A E) (P : A → Type 0) (Q : E → Type 0) (old new : Environment) → IfOk r P → IfErr r Q → ((a : A) → P a → cells_at new.desks ≡ cells_at old.desks) → ((e : E) → Q e → new ≡ old)
    → cells_at new.desks ≡ cells_at old.desks
either_way (Ok a) P Q old new ok err went kept = went a ok
either_way (Err e) P Q old new ok err went kept = ap (λ (s : Environment). cells_at s.desks) (kept e err)

pub or_unchanged : {A E : Type 0} (r : Result A E) (P : A → Type 0) (old new : Environment) → IfOk r P → OnErr r (new ≡ old) → ((a : A) → P a → cells_at new.desks ≡ cells_at old.desks) → cells_at new.desks ≡ cells_at old.desks
or_unchanged (Ok a) P old new ok err went = went a ok
or_unchanged (Err e) P old new ok err went = ap (λ (s : Environment). cells_at s.desks) err
