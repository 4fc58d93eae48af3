-- One more pop, what is looked at before the first, and frames that are gone.
use Rattle.std.proofs.Common.{◌≡◌, ◌+◌, ◌-◌, ◌≤◌, ◌<◌, ℕ, ℤ, pos, zero, suc, false, Ok, sym, ap, subst, ◌∙◌, arith}
use Rattle.std.proofs.Math.Logic.{∥∥₁_map}
use Rattle.std.proofs.Math.Numerals.{add-one}
use Rattle.ti_types.specs.Frames.{Trace}
use Rattle.ti_types.specs.declared.answer.Answer.{Answer}
use Rattle.ti_types.specs.declared.answer.Answer.TheVariants as answer
use Rattle.ti_types.specs.declared.call.Call.{Call}
use Rattle.ti_types.specs.declared.call.Call.TheVariants as call
use Rattle.ti_types.specs.declared.numbers.ThreadNo.{ThreadNo}
use Rattle.ti_slot.specs.declared.asked.Asked.TheVariants.{Answered}
use Rattle.ti_agent.specs.Env.{Environment}
use Rattle.ti_agent.specs.Posts.{Posts}
use Rattle.ti_service.specs.Memberships.{AgentValue}
use Rattle.ti_jdwp.specs.Ids.{frame_id}
use Rattle.ti_debugger.specs.declared.asked.Asked.TheVariants as asked
use Rattle.ti_debugger.specs.declared.popping.Popping.{Popping}
use Rattle.ti_debugger.specs.declared.desk.Desk.{Desk}
use Rattle.ti_debugger.specs.declared.stacks.Part.{Part}
use Rattle.ti_debugger.specs.Gone.{AreGone}
use Rattle.ti_debugger.specs.Pops.{CanPop, IsPopped, IsToPop, Pops, PopsAll, PopsFrames, PopsSome, any_native}
use Rattle.ti_debugger.specs.StackReplies.{HasDepth}

pub pops_more : (t : ThreadNo) (n : ℕ) (old mid new : Environment) → Pops t n old mid → Posts mid new t call.Pop (Answered answer.Done) → Pops t (n + 1) old new
pops_more t n old mid new before one = subst (λ (k : ℕ). Pops t k old new) (sym (add-one n)) (mid, before, one)

-- pops after others
gone_more : (t : ThreadNo) (m n : ℕ) (old new : Environment) → AreGone t m → Pops t n old new → AreGone t (n + m)
gone_more t m zero old new gone pops =
    let same : m ≡ 0 + m = omega arith in
    subst (λ (k : ℕ). AreGone t k) same gone
gone_more t m (suc n) old new gone pops =
    let same : suc (n + m) ≡ suc n + m = omega arith in
    subst (λ (k : ℕ). AreGone t k) same (gone_more t m n old pops.0 gone pops.1, pops.0, new, pops.2)

pub gone_first : (t : ThreadNo) (depth left : ℕ) → left ≡ depth + 1 → ∥ AreGone t (depth + 1 - left) ∥₁
gone_first t depth left is =
    let none : 0 ≡ depth + 1 - left = omega (arith, is) in
    subst (λ (n : ℕ). ∥ AreGone t n ∥₁) none ∣ tt ∣₁

-- those that went before, and now
pub gone_rest : (t : ThreadNo) (depth left done rest : ℕ) (old new : Environment) → left ≤ depth + 1 → done ≤ left → rest ≡ left - done → ∥ AreGone t (depth + 1 - left) ∥₁ → Pops t done old new → ∥ AreGone t (depth + 1 - rest) ∥₁
gone_rest t depth left done rest old new within fewer is gone pops =
    let all : done + (depth + 1 - left) ≡ depth + 1 - rest = omega (arith, within, fewer, is) in
    subst (λ (n : ℕ). ∥ AreGone t n ∥₁) all (∥∥₁_map gone (λ (g : AreGone t (depth + 1 - left)). gone_more t (depth + 1 - left) done old new g pops))

pub gone_all : (t : ThreadNo) (depth left : ℕ) (old new : Environment) → left ≤ depth + 1 → ∥ AreGone t (depth + 1 - left) ∥₁ → Pops t left old new → ∥ AreGone t (depth + 1) ∥₁
gone_all t depth left old new within gone pops =
    let none : 0 ≡ left - left = omega arith in
    let same : left ≤ left = omega arith in
    let whole : depth + 1 - 0 ≡ depth + 1 = omega arith in
    subst (λ (n : ℕ). ∥ AreGone t n ∥₁) whole (gone_rest t depth left left 0 old new within same none gone pops)

-- what was told of the frames that go, and of their caller
pub can_pop_told : (old mid new : Desk) (thread depth : ℕ) (count : ℤ) (p : Part) (c : Call) (a : Answer) (t : Trace) → HasDepth old mid thread count → IsPopped count depth (Ok p)
    → c ≡ call.Trace p.start p.count → Posts mid.agent.env new.agent.env (record { 0 = thread }) c (Answered a) → a ≡ answer.Trace t → any_native t.frames ≡ false → CanPop old new thread depth
can_pop_told old mid new thread depth count p c a t has is call_is asked trace_is java =
    let reads : c ≡ call.Trace (pos 0) (pos (depth + 2)) = call_is ∙ (ap (λ (x : ℤ). call.Trace x p.count) is.0 ∙ ap (λ (x : ℤ). call.Trace (pos 0) x) is.1) in
    let told = subst (λ (x : Answer). Posts mid.agent.env new.agent.env (record { 0 = thread }) c (Answered x)) trace_is asked in
    record {
      counted = mid;
      count = count;
      has = has;
      deep = is.2;
      trace = t;
      told = subst (λ (x : Call). Posts mid.agent.env new.agent.env (record { 0 = thread }) x (Answered (answer.Trace t))) reads told;
      java = java;
    }

-- so many were popped, and what is left is kept
pub pops_some : (old mid new : Desk) (p q : Popping) (done : ℕ) → done < p.left → Pops (record { 0 = p.thread }) done old.agent.env mid.agent.env → new.agent ≡ mid.agent → new.asked ≡ asked.Popping q
    → q.thread ≡ p.thread → q.depth ≡ p.depth → q.left ≡ p.left - done → PopsSome old new p
pops_some old mid new p q done fewer pops same keeps thread depth left = record {
  done = done;
  fewer = fewer;
  pops = subst (λ (a : AgentValue). Pops (record { 0 = p.thread }) done old.agent.env a.env) (sym same) pops;
  rest = q;
  thread = thread;
  depth = depth;
  left = left;
  keeps = keeps;
}

-- all were popped
pub pops_all : (old told new : Desk) (thread frame : ℕ) (p : Popping) → p.thread ≡ thread → frame_id thread p.depth ≡ frame → IsToPop old told p → PopsAll told new p → PopsFrames old new thread frame
pops_all old told new thread frame p of at is all = record {
  told = told;
  popping = p;
  of = of;
  at = at;
  is = is;
  all = all;
  gone = subst (λ (n : ℕ). ∥ AreGone (record { 0 = n }) (p.depth + 1) ∥₁) of (gone_all (record { 0 = p.thread }) p.depth p.left told.agent.env new.agent.env p.within p.gone all);
}
