-- Pops of frames: an environment is told the same beside another one.
use Rattle.std.proofs.Common.{◌≡◌, List, [], ◌∷◌, ◌++◌, Some, None, refl}
use Rattle.ti_types.specs.declared.numbers.EnvNo.{EnvNo}
use Rattle.ti_types.specs.declared.numbers.ThreadNo.{ThreadNo}
use Rattle.ti_types.specs.declared.place.Frame.{Frame}
use Rattle.ti_types.specs.declared.place.Place.TheVariants.{Java}
use Rattle.ti_stops.specs.declared.call.StopCall.TheVariants.{Enable, NotifyFramePop, Next, Leaves}
use Rattle.ti_stops.specs.declared.call.StopReply.TheVariants.{Told}
use Rattle.ti_stops.specs.declared.kind.StopKind.TheVariants.{FramePop}
use Rattle.ti_stops.specs.declared.stop.Stop.{Stop}
use Rattle.std.specs.Prelude.{Ok, true, false}
use Rattle.ti_stops.specs.Stops.{outcome}
use Rattle.ti_stops.specs.Shares.{Happens, Made, all_happened}

abbrev e : EnvNo
e = record { 0 = 0 }

abbrev f : EnvNo
f = record { 0 = 1 }

abbrev t : ThreadNo
t = record { 0 = 0 }

abbrev here : Frame
here = record { method = record { 0 = 7 }; place = Java 3 }

-- e asks for the pop of frame 2 while it hears of no pops
abbrev first : List Happens
first = Made (Some e) (NotifyFramePop t 2) ∷ []

-- the frame is left; e enables pops, and the thread leaves another frame of that depth
abbrev then : List Happens
then = Made None (Leaves t here 2) ∷ Made (Some e) (Enable FramePop None) ∷ Made None (Leaves t here 2) ∷ []

-- f asks for the same pop, and hears of it
abbrev with_f : List Happens
with_f = Made (Some e) (NotifyFramePop t 2) ∷ Made (Some f) (Enable FramePop None) ∷ Made (Some f) (NotifyFramePop t 2) ∷ []

abbrev popped : Stop
popped = record { thread = t; at = here; breakpoint = false; single_step = false; frame_pop = true }

-- alone, e is told of the second frame's pop: its request stays until it is told
alone_told : outcome (all_happened (first ++ then)) (Some e) Next ≡ Ok (Told (Some popped))
alone_told = refl

-- and so it is beside f
beside_told : outcome (all_happened (with_f ++ then)) (Some e) Next ≡ Ok (Told (Some popped))
beside_told = refl
