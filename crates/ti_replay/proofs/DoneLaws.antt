-- A call changes the view only where it is done.
use Rattle.std.proofs.Common.{◌≡◌, Bool, true, false, if◌then◌else◌, refl, ap, sym, arith}
use Rattle.ti_types.specs.declared.call.Call.TheVariants.{State, FrameCount, Trace, Location, Suspend, Resume, GetWord, SetWord, Pop}
use Rattle.ti_types.specs.declared.view.ThreadView.{ThreadView}
use Rattle.ti_replay.specs.Answers.{done_or, pop_refusal}
use Rattle.ti_replay.specs.Laws.{is_done, CallsChangeWhereDone}
use Rattle.std.proofs.Common.{Option, Some, None, is_none}
use Rattle.ti_types.specs.declared.error.TiError.{TiError}

-- the flag set as it is
flag_same : (v : ThreadView) (b : Bool) → v.suspended ≡ b → record v { suspended = b } ≡ v
flag_same v b h = ap (λ (c : Bool). record v { suspended = c }) (sym h)

-- an answer is done where there is no refusal
done_by : (r : Option TiError) → is_done (done_or r) ≡ is_none r
done_by None = refl
done_by (Some error) = refl

done_where : (v : ThreadView) → is_done (done_or (pop_refusal v.suspended v.frames)) ≡ is_none (pop_refusal v.suspended v.frames)
done_where v = done_by (pop_refusal v.suspended v.frames)

same_if : (b : Bool) (v : ThreadView) → v ≡ (if b then v else v)
same_if true v = refl
same_if false v = refl

pub change_where_done : CallsChangeWhereDone
change_where_done v env State = refl
change_where_done v env FrameCount = same_if _ v
change_where_done v env (Trace start max_count) = same_if _ v
change_where_done v env (Location depth) = same_if _ v
change_where_done v env Suspend = grind (arith, flag_same v true)
change_where_done v env Resume = grind (arith, flag_same v false)
change_where_done v env GetWord = same_if _ v
change_where_done v env (SetWord word) = grind arith
change_where_done v env Pop = grind (arith, done_where v)
