-- The rows of a stack, one more at a time.
use Rattle.std.proofs.Common.{◌≡◌, ◌+◌, ◌<◌, ◌≤◌, ℕ, ℤ, zero, suc, List, [], ◌∷◌, ◌++◌, Option, Some, None, Result, Ok, Err, Vec, Global, length, take, get_or, slice_get, refl, sym, ap, subst, ◌∙◌, arith}
use Rattle.std.specs.Prelude.{IfOk, IsSomeAnd}
use Rattle.std.specs.Int.{w32, cast_unsigned}
use Rattle.std.proofs.Math.Numerals.{add-one}
use mathlib.Core.List.{IsPrefix}
use Rattle.ti_types.specs.Frames.{Trace}
use Rattle.ti_types.specs.declared.answer.Answer.{Answer}
use Rattle.ti_types.specs.declared.answer.Answer.TheVariants as answer
use Rattle.ti_types.specs.declared.call.Call.{Call}
use Rattle.ti_types.specs.declared.call.Call.TheVariants as call
use Rattle.ti_types.specs.declared.place.Frame.{Frame}
use Rattle.ti_types.specs.declared.numbers.MethodNo.{MethodNo}
use Rattle.ti_jdwp.specs.declared.lists.FrameRow.{FrameRow}
use Rattle.ti_methods.specs.Classes.{IsDeclaredBy, count, first_of}
use Rattle.ti_methods.specs.declared.info.ClassInfo.{ClassInfo}
use Rattle.ti_methods.specs.declared.info.ClassNo.{ClassNo}
use Rattle.ti_methods.proofs.Lists.{first_grows, prefix_get}
use Rattle.ti_slot.specs.declared.asked.Asked.TheVariants.{Answered}
use Rattle.ti_agent.specs.Posts.{Posts}
use Rattle.ti_service.specs.Classes.{classes_of}
use Rattle.ti_debugger.specs.declared.desk.Desk.{Desk}
use Rattle.ti_debugger.specs.declared.refusal.Refusal.{Refusal}
use Rattle.ti_debugger.specs.declared.stacks.Part.{Part}
use Rattle.ti_debugger.specs.Stacks.{IsPart}
use Rattle.ti_debugger.specs.StackReplies.{AreRowsOf, HasDepth, IsRowOf, IsWanted, TellsFrames, TellsRows, TellsTrace, deeper}

-- the depth so many frames below one
abbrev pub below : ℕ → ℕ → ℕ
below depth zero = depth
below depth (suc n) = below (deeper depth) n

below_one : (depth n : ℕ) → below depth (suc n) ≡ deeper (below depth n)
below_one depth zero = refl
below_one depth (suc n) = below_one (deeper depth) n

pub next_below : (depth i next new : ℕ) → next ≡ below depth i → new ≡ deeper next → new ≡ below depth (i + 1)
next_below depth i next new was is = is ∙ (ap deeper was ∙ (sym (below_one depth i) ∙ ap (below depth) (sym (add-one i))))

some_length : (log : List ClassInfo) (k : ℕ) (c : ClassInfo) → slice_get log k ≡ Some c → k ≤ length log
some_length [] k c at = absurd (cc at)
some_length (x ∷ log) zero c at = omega arith
some_length (x ∷ log) (suc k) c at = let rest = some_length log k c at in omega (arith, rest)

-- a class that declares a method goes on to do so
still : (o : Option ClassInfo) (a b : List ClassInfo) (method : MethodNo) (class : ClassNo) → slice_get a class.0 ≡ o → IsPrefix a b
    → IsSomeAnd o (λ c. (first_of a class.0 ≤ method.0) × (method.0 < first_of a class.0 + count c)) → IsDeclaredBy b method class
still None a b method class at pre there = absurd there
still (Some c) a b method class at pre there =
    let first = first_grows a b class.0 pre (some_length a class.0 c at) in
    let found = prefix_get a b class.0 c pre at in
    let range : (first_of b class.0 ≤ method.0) × (method.0 < first_of b class.0 + count c) =
    subst (λ (f : ℕ). (f ≤ method.0) × (method.0 < f + count c)) first there in
    record { there = subst (λ (o : Option ClassInfo). IsSomeAnd o (λ c. (first_of b class.0 ≤ method.0) × (method.0 < first_of b class.0 + count c))) (sym found) range }

pub declared_still : (a b : List ClassInfo) (method : MethodNo) (class : ClassNo) → IsPrefix a b → IsDeclaredBy a method class → IsDeclaredBy b method class
declared_still a b method class pre is = still (slice_get a class.0) a b method class refl pre is.there

rows_still : (a b : List ClassInfo) (depth : ℕ) (frames : List Frame) (rows : List FrameRow) → IsPrefix a b → AreRowsOf a depth frames rows → AreRowsOf b depth frames rows
rows_still a b depth [] [] pre are = tt
rows_still a b depth [] (r ∷ rows) pre are = absurd are
rows_still a b depth (f ∷ frames) [] pre are = absurd are
rows_still a b depth (f ∷ frames) (r ∷ rows) pre are =
    let one = are.0 in (
      record { at = one.at; method = one.method; index = one.index; class = declared_still a b f.method (record { 0 = r.class }) pre one.class },
      rows_still a b (deeper depth) frames rows pre are.1,
    )

add_row : (log : List ClassInfo) (depth : ℕ) (frames : List Frame) (i : ℕ) (d : Frame) (rows : List FrameRow) (row : FrameRow) → i < length frames
    → AreRowsOf log depth (take i frames) rows → IsRowOf log (below depth i) (get_or frames i d) row → AreRowsOf log depth (take (suc i) frames) (rows ++ row ∷ [])
add_row log depth [] i d rows row within are is = absurd (omega arith)
add_row log depth (f ∷ frames) zero d [] row within are is = (is, tt)
add_row log depth (f ∷ frames) zero d (r ∷ rows) row within are is = absurd are
add_row log depth (f ∷ frames) (suc i) d [] row within are is = absurd are
add_row log depth (f ∷ frames) (suc i) d (r ∷ rows) row within are is = (are.0, add_row log (deeper depth) frames i d rows row (omega arith) are.1 is)

-- the rows of the frames so far go on by the next one
pub rows_more : (old new : List ClassInfo) (depth : ℕ) (frames : List Frame) (i : ℕ) (d : Frame) (next : ℕ) (was mid rows : List FrameRow) (row : FrameRow) → IsPrefix old new
    → i < length frames → next ≡ below depth i → AreRowsOf old depth (take i frames) was → IsRowOf new next (get_or frames i d) row → mid ≡ was → rows ≡ mid ++ row ∷ []
    → AreRowsOf new depth (take (i + 1) frames) rows
rows_more old new depth frames i d next was mid rows row pre within at are is kept added =
    let one = subst (λ (n : ℕ). IsRowOf new n (get_or frames i d) row) at is in
    let all = add_row new depth frames i d was row within (rows_still old new depth (take i frames) was pre are) one in
    let there : was ++ row ∷ [] ≡ rows = sym (added ∙ ap (λ (l : List FrameRow). l ++ row ∷ []) kept) in
    subst (λ (n : ℕ). AreRowsOf new depth (take n frames) rows) (sym (add-one i)) (subst (λ (l : List FrameRow). AreRowsOf new depth (take (suc i) frames) l) there all)

-- what was told of a part of a stack
pub trace_told : (r : Result (Vec ℕ Global) Refusal) (old mid new : Desk) (thread depth : ℕ) (c : Call) (a : Answer) (t : Trace)
    → Posts old.agent.env mid.agent.env (record { 0 = thread }) c (Answered a) → a ≡ answer.Trace t
    → IfOk r (λ v. TellsRows (classes_of new.agent) thread depth t.frames v.items) → IfOk r (λ v. TellsTrace old new thread depth c v.items)
trace_told (Ok v) old mid new thread depth c a t asked is rows =
    record { told = mid; trace = t; asked = subst (λ (x : Answer). Posts old.agent.env mid.agent.env (record { 0 = thread }) c (Answered x)) is asked; rows = rows }
trace_told (Err e) old mid new thread depth c a t asked is rows = tt

pub part_told : (r : Result (Vec ℕ Global) Refusal) (old mid new : Desk) (thread depth : ℕ) (start length count wanted : ℤ) (p : Part) (c : Call) → HasDepth old mid thread count
    → IsWanted count start length wanted → IsPart count start wanted (Ok (Some p)) → c ≡ call.Trace p.start p.count → depth ≡ cast_unsigned w32 start
    → IfOk r (λ v. TellsTrace mid new thread depth c v.items) → IfOk r (λ v. TellsFrames old new thread start length v.items)
part_told (Ok v) old mid new thread depth start length count wanted p c has is_wanted is_part is at told =
    let here = subst (λ (d : ℕ). TellsTrace mid new thread d c v.items) at told in
    let tells = subst (λ (x : Call). TellsTrace mid new thread (cast_unsigned w32 start) x v.items) is here in
    record { counted = mid; count = count; wanted = wanted; part = Some p; depth = has; is_wanted = is_wanted; is_part = is_part; tells = tells }
part_told (Err e) old mid new thread depth start length count wanted p c has is_wanted is_part is at told = tt
