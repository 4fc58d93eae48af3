-- What a thread told of its state and its stack, and the bodies that say so.
use Rattle.std.specs.Prelude.{⊤, ℕ, ℤ, pos, negsuc, ◌≡◌, ◌≢◌, ◌^◌, ◌+◌, ◌-◌, ◌-ℤ◌, ◌++◌, ◌⊎◌, true, false, List, [], ◌∷◌, Option, Some, None, Ok, min, slice_get, if◌then◌else◌}
use Rattle.std.specs.Int.{w32, cast_signed, cast_unsigned}
use Rattle.ti_types.specs.Frames.{Trace}
use Rattle.ti_types.specs.declared.answer.Answer.{Answer}
use Rattle.ti_types.specs.declared.answer.Answer.TheVariants as answer
use Rattle.ti_types.specs.declared.call.Call.{Call}
use Rattle.ti_types.specs.declared.call.Call.TheVariants as call
use Rattle.ti_types.specs.declared.place.Frame.{Frame}
use Rattle.ti_slot.specs.declared.asked.Asked.TheVariants.{Answered}
use Rattle.ti_agent.specs.Posts.{Posts}
use Rattle.ti_jdwp.specs.Bodies.{flag, frame_list, signed}
use Rattle.ti_jdwp.specs.Fields.{int}
use Rattle.ti_jdwp.specs.declared.lists.FrameRow.{FrameRow}
use Rattle.ti_methods.specs.Classes.{IsDeclaredBy}
use Rattle.ti_methods.specs.declared.info.ClassInfo.{ClassInfo}
use Rattle.ti_service.specs.Classes.{classes_of}
use Rattle.ti_debugger.specs.declared.desk.Desk.{Desk}
use Rattle.ti_debugger.specs.declared.stacks.Part.{Part}
use Rattle.ti_debugger.specs.declared.watched.Watched.{Watched}
use Rattle.ti_debugger.specs.Crowds.{IsGone}
use Rattle.ti_debugger.specs.Stacks.{IsPart, index_of}
use Rattle.ti_debugger.specs.Status.{is_suspended, is_terminated, status_of}

-- the thread with this number is watched
pub record IsWatched (list : List Watched) (thread : ℕ) (one : Watched) : Type 0 where
  pub place : ℕ
  pub at : slice_get list place ≡ Some one
  pub number : one.thread.0 ≡ thread

-- the bits of a thread that told its state, if it has not ended
abbrev pub bits_in : Answer → Option ℕ
bits_in (answer.State bits) = if is_terminated bits then None else Some bits
bits_in _ = None

abbrev pub state_text : Option ℕ → List ℕ
state_text None = signed (pos 0) ++ int (flag false)
state_text (Some bits) = signed (status_of bits) ++ int (flag (is_suspended bits))

-- a thread that is watched has ended, or it is not watched any more, or it was asked for its state, and told these bits
abbrev pub HasState : Desk → Desk → ℕ → Option ℕ → Type 0
HasState old new thread bits =
    ((one : Watched) × IsWatched old.crowd.list.items thread one × (one.ended ≡ true) × (bits ≡ None))
    ⊎ ((a : Answer) × Posts old.agent.env new.agent.env (record { 0 = thread }) call.State (Answered a) × (bits ≡ bits_in a))
    ⊎ (IsGone old.crowd.list.items thread × (bits ≡ None))

abbrev pub TellsState : Desk → Desk → ℕ → List ℕ → Type 0
TellsState old new thread body = (bits : Option ℕ) × HasState old new thread bits × (body ≡ state_text bits)

-- how many frames a thread told
abbrev pub count_in : Answer → Option ℕ
count_in (answer.Count frames) = Some frames
count_in _ = None

-- A thread that is suspended told its state, and then how many frames it has. The protocol counts up to 2^31 - 1.
pub record HasDepth (old new : Desk) (thread : ℕ) (count : ℤ) : Type 0 where
  pub told : Desk
  pub bits : ℕ
  pub answer : Answer
  pub frames : ℕ
  pub state : HasState old told thread (Some bits)
  pub suspended : is_suspended bits ≡ true
  pub asked : Posts told.agent.env new.agent.env (record { 0 = thread }) call.FrameCount (Answered answer)
  pub has : count_in answer ≡ Some frames
  pub counted : count ≡ cast_signed w32 (min frames (2 ^ 31 - 1))

abbrev pub TellsDepth : Desk → Desk → ℕ → List ℕ → Type 0
TellsDepth old new thread body = (count : ℤ) × HasDepth old new thread count × (body ≡ signed count)

-- how many frames are asked for from a start on: -1 stands for all that are left
pub record IsWanted (count start length wanted : ℤ) : Type 0 where
  pub all : length ≡ negsuc 0 → wanted ≡ count -ℤ start
  pub some : length ≢ negsuc 0 → wanted ≡ length

-- the row of a frame at a depth: its method, the class that declares it, and where in it the frame is
pub record IsRowOf (log : List ClassInfo) (depth : ℕ) (frame : Frame) (row : FrameRow) : Type 0 where
  pub at : row.depth ≡ depth
  pub method : row.method ≡ frame.method.0
  pub index : row.index ≡ index_of frame.place
  pub class : IsDeclaredBy log frame.method (record { 0 = row.class })

-- depths count up to 2^32 - 1
abbrev pub deeper : ℕ → ℕ
deeper depth = min (depth + 1) (2 ^ 32 - 1)

-- the rows of frames, the newest of which is at a depth
abbrev pub AreRowsOf : List ClassInfo → ℕ → List Frame → List FrameRow → Type 0
AreRowsOf log depth [] [] = ⊤
AreRowsOf log depth [] (row ∷ rows) = ⊥
AreRowsOf log depth (frame ∷ frames) [] = ⊥
AreRowsOf log depth (frame ∷ frames) (row ∷ rows) = IsRowOf log depth frame row × AreRowsOf log (deeper depth) frames rows

abbrev pub TellsRows : List ClassInfo → ℕ → ℕ → List Frame → List ℕ → Type 0
TellsRows log thread depth frames body = (rows : List FrameRow) × AreRowsOf log depth frames rows × (body ≡ frame_list thread rows)

-- a thread told a part of its stack, and the body has the rows of its frames, the newest of which is at a depth
pub record TellsTrace (old new : Desk) (thread depth : ℕ) (c : Call) (body : List ℕ) : Type 0 where
  pub told : Desk
  pub trace : Trace
  pub asked : Posts old.agent.env told.agent.env (record { 0 = thread }) c (Answered (answer.Trace trace))
  pub rows : TellsRows (classes_of new.agent) thread depth trace.frames body

-- where no frame is asked for, the body has none
abbrev pub TellsPart : Desk → Desk → ℕ → ℕ → Option Part → List ℕ → Type 0
TellsPart old new thread depth None body = body ≡ frame_list thread []
TellsPart old new thread depth (Some p) body = TellsTrace old new thread depth (call.Trace p.start p.count) body

-- a suspended thread told how many frames it has, and then the part of its stack that was asked for
pub record TellsFrames (old new : Desk) (thread : ℕ) (start length : ℤ) (body : List ℕ) : Type 0 where
  pub counted : Desk
  pub count : ℤ
  pub wanted : ℤ
  pub part : Option Part
  pub depth : HasDepth old counted thread count
  pub is_wanted : IsWanted count start length wanted
  pub is_part : IsPart count start wanted (Ok part)
  pub tells : TellsPart counted new thread (cast_unsigned w32 start) part body
