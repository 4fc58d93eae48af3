-- The commands that are served, each with the layout of its data (JDWP of Java 8).
use Rattle.std.specs.Prelude.{ℕ, ℤ, ◌&&◌, List, [], ◌∷◌, Option, Some, None, ◌==◌, if◌then◌else◌}
use Rattle.ti_jdwp.specs.declared.request.Request.{Request}
use Rattle.ti_jdwp.specs.declared.request.Request.TheVariants as request

-- What the data of a request has:
pub data Layout : Type 0 where
  -- nothing
  no_fields : Request → Layout
  -- an id
  of_id : (ℕ → Request) → Layout
  -- two ids
  of_two_ids : (ℕ → ℕ → Request) → Layout
  -- an id, where a part begins, and how long it is
  of_part : (ℕ → ℤ → ℤ → Request) → Layout
  -- a signature
  of_signature : Layout
  -- how many objects, and an id and a number of references for each
  of_objects : Layout
  -- a kind of event, a policy, how many modifiers, and these
  of_event : Layout
  -- a kind of event, and an event request
  of_clear : Layout
  -- a thread, a frame, how many variables, and a slot and a tag for each
  of_slots : Layout

pub record Row : Type 0 where
  pub set : ℕ
  pub command : ℕ
  pub layout : Layout

abbrev row : ℕ → ℕ → Layout → Row
row set command layout = record { set = set; command = command; layout = layout }

abbrev pub rows : List Row
rows =
    row 1 1 (no_fields request.Version)
    ∷ row 1 2 of_signature
    ∷ row 1 4 (no_fields request.AllThreads)
    ∷ row 1 5 (no_fields request.TopLevelThreadGroups)
    ∷ row 1 6 (no_fields request.Dispose)
    ∷ row 1 7 (no_fields request.IdSizes)
    ∷ row 1 8 (no_fields request.SuspendAll)
    ∷ row 1 9 (no_fields request.ResumeAll)
    ∷ row 1 12 (no_fields request.Capabilities)
    ∷ row 1 13 (no_fields request.ClassPaths)
    ∷ row 1 14 of_objects
    ∷ row 1 15 (no_fields request.HoldEvents)
    ∷ row 1 16 (no_fields request.ReleaseEvents)
    ∷ row 1 17 (no_fields request.CapabilitiesNew)
    ∷ row 1 20 (no_fields request.AllClasses)
    ∷ row 2 1 (of_id (λ id. request.Signature id))
    ∷ row 2 2 (of_id (λ id. request.ClassLoader id))
    ∷ row 2 3 (of_id (λ id. request.Modifiers id))
    ∷ row 2 7 (of_id (λ id. request.SourceFile id))
    ∷ row 2 9 (of_id (λ id. request.ClassStatus id))
    ∷ row 2 10 (of_id (λ id. request.Interfaces id))
    ∷ row 2 13 (of_id (λ id. request.SignatureWithGeneric id))
    ∷ row 2 14 (of_id (λ id. request.Fields id))
    ∷ row 2 15 (of_id (λ id. request.MethodsWithGeneric id))
    ∷ row 3 1 (of_id (λ id. request.Superclass id))
    ∷ row 6 1 (of_two_ids (λ class method. request.LineTable class method))
    ∷ row 6 2 (of_two_ids (λ class method. request.VariableTable class method))
    ∷ row 6 4 (of_two_ids (λ class method. request.IsObsolete class method))
    ∷ row 6 5 (of_two_ids (λ class method. request.VariableTableWithGeneric class method))
    ∷ row 9 1 (of_id (λ id. request.ReferenceType id))
    ∷ row 9 9 (of_id (λ id. request.IsCollected id))
    ∷ row 10 1 (of_id (λ id. request.TextValue id))
    ∷ row 11 1 (of_id (λ id. request.ThreadName id))
    ∷ row 11 2 (of_id (λ id. request.Suspend id))
    ∷ row 11 3 (of_id (λ id. request.Resume id))
    ∷ row 11 4 (of_id (λ id. request.ThreadStatus id))
    ∷ row 11 5 (of_id (λ id. request.ThreadGroup id))
    ∷ row 11 6 (of_part (λ id start len. request.Frames id start len))
    ∷ row 11 7 (of_id (λ id. request.FrameCount id))
    ∷ row 11 12 (of_id (λ id. request.SuspendCount id))
    ∷ row 12 1 (of_id (λ id. request.GroupName id))
    ∷ row 12 2 (of_id (λ id. request.GroupParent id))
    ∷ row 12 3 (of_id (λ id. request.GroupChildren id))
    ∷ row 13 1 (of_id (λ id. request.TableLength id))
    ∷ row 13 2 (of_part (λ id start len. request.TableEntries id start len))
    ∷ row 15 1 of_event
    ∷ row 15 2 of_clear
    ∷ row 16 1 of_slots
    ∷ row 16 3 (of_two_ids (λ thread frame. request.ThisObject thread frame))
    ∷ row 16 4 (of_two_ids (λ thread frame. request.PopFrames thread frame))
    ∷ []

abbrev pub layout_in : ℕ → ℕ → List Row → Option Layout
layout_in set command [] = None
layout_in set command (r ∷ rs) = if (set == r.set) && (command == r.command) then Some r.layout else layout_in set command rs

-- the layout of a command's data, if the command is served
abbrev pub layout_of : ℕ → ℕ → Option Layout
layout_of set command = layout_in set command rows
