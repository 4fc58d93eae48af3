-- The steps that lead from one stack to another. Frames are listed newest first.
use Rattle.std.specs.Prelude.{ℕ, ◌≡◌, ◌≤◌, ◌-◌, ◌==◌, Bool, true, false, ◌&&◌, if◌then◌else◌, List, [], ◌∷◌, ◌++◌, length, take, drop, reverse, is_none}
use Rattle.std.specs.List.{fold, common_prefix_len}
use Rattle.ti_types.specs.declared.place.Frame.{Frame}
use Rattle.ti_types.specs.declared.place.Place.{Place}
use Rattle.ti_types.specs.declared.place.Place.TheVariants.{Java, Native}
use Rattle.ti_types.specs.declared.step.Step.{Step}
use Rattle.ti_types.specs.declared.step.Step.TheVariants.{Enter, EnterNative, At, Leave}
use Rattle.ti_types.specs.Steps.{frames_after, step_refusal}

abbrev pub is_same_place : Place → Place → Bool
is_same_place (Java p) (Java q) = p == q
is_same_place Native Native = true
is_same_place _ _ = false

abbrev pub is_same_frame : Frame → Frame → Bool
is_same_frame f g = (f.method.0 == g.method.0) && is_same_place f.place g.place

-- the frames after one step after another
abbrev pub frames_after_all : List Frame → List Step → List Frame
frames_after_all frames steps = fold frames_after frames steps

-- whether each step may be made at its place, when there may be this many frames
abbrev pub are_accepted : (depth : ℕ) → List Frame → List Step → Bool
are_accepted depth frames [] = true
are_accepted depth frames (step ∷ steps) = is_none (step_refusal depth frames step) && are_accepted depth (frames_after frames step) steps

-- each of the frames is left
abbrev pub leaves : List Frame → List Step
leaves [] = []
leaves (frame ∷ frames) = Leave ∷ leaves frames

-- the steps that enter a frame at a place
abbrev pub entry_at : Frame → Place → List Step
entry_at f Native = EnterNative f.method ∷ []
entry_at f (Java position) = if position == 0 then Enter f.method ∷ [] else Enter f.method ∷ At position ∷ []

-- each of the frames is entered, the oldest first
abbrev pub entries : List Frame → List Step
entries [] = []
entries (frame ∷ frames) = entries frames ++ entry_at frame frame.place

-- the steps that leave all but the oldest `keep` frames, and enter others
abbrev pub steps_keeping : (keep : ℕ) (old newest : List Frame) → List Step
steps_keeping keep old newest = leaves (take (length old - keep) old) ++ entries newest

-- these frames over the oldest `keep` of the old ones
abbrev pub frames_keeping : (keep : ℕ) (old newest : List Frame) → List Frame
frames_keeping keep old newest = newest ++ drop (length old - keep) old

-- how many of the oldest frames two stacks share
abbrev pub shared : (old new : List Frame) → ℕ
shared old new = common_prefix_len is_same_frame (reverse old) (reverse new)

-- the frames of a stack that are not among its oldest `keep`
abbrev pub newest_past : (keep : ℕ) → List Frame → List Frame
newest_past keep frames = take (length frames - keep) frames

-- the steps from a stack to another: what both share stays
abbrev pub steps_between : (old new : List Frame) → List Step
steps_between old new = steps_keeping (shared old new) old (newest_past (shared old new) new)

-- what steps make of frames, when each of them is accepted
pub record Lead (depth : ℕ) (old : List Frame) (steps : List Step) (new : List Frame) : Type 0 where
  pub accepted : are_accepted depth old steps ≡ true
  pub made : frames_after_all old steps ≡ new

-- the steps that keep the oldest frames lead to these with the others over them
abbrev pub KeepingLeads : Type 0
KeepingLeads =
    (depth keep : ℕ) (old newest : List Frame) → length (frames_keeping keep old newest) ≤ depth →
    Lead depth old (steps_keeping keep old newest) (frames_keeping keep old newest)

-- the steps between two stacks lead from the one to the other
abbrev pub StepsLead : Type 0
StepsLead = (depth : ℕ) (old new : List Frame) → length new ≤ depth → Lead depth old (steps_between old new) new
