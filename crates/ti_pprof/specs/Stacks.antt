-- The stacks of a trie.
use Rattle.std.specs.Prelude.{ℕ, ◌≡◌, ◌<◌, ◌≤◌, ◌&&◌, ◌==◌, Bool, List, [], ◌∷◌, ◌++◌, drop, fold, get_or, length}
use Rattle.ti_pprof.specs.declared.stacks.Frame.{Frame}
use Rattle.ti_pprof.specs.declared.stacks.Node.{Node}

-- the stack of this number; its newest frame comes first
abbrev pub stack_at : List (List Frame) → ℕ → List Frame
stack_at stacks n = get_or stacks n []

-- a node adds one stack: its frame on an earlier one
abbrev pub with_stack : List (List Frame) → Node → List (List Frame)
with_stack stacks node = stacks ++ (node.frame ∷ stack_at stacks node.rest) ∷ []

-- the stacks of these nodes, by number: number 0 is the empty one, and then comes one for each node
unfoldable pub stacks_of : List Node → List (List Frame)
stacks_of nodes = fold with_stack ([] ∷ []) nodes

-- each node's frame is on a stack of a number that is not above the node's place
abbrev pub AreOnEarlier : List Node → Type 0
AreOnEarlier nodes = (i : ℕ) (d : Node) → i < length nodes → (get_or nodes i d).rest ≤ i

-- no node is there twice
abbrev pub AreDifferent : List Node → Type 0
AreDifferent nodes = (i j : ℕ) (d : Node) → i < length nodes → j < length nodes → get_or nodes i d ≡ get_or nodes j d → i ≡ j

-- nodes are added behind those that were there
abbrev pub Grows : List Node → List Node → Type 0
Grows old new = (more : List Node) × (new ≡ old ++ more)

-- one of the stacks has these frames
abbrev pub HasStack : List Node → List Frame → Type 0
HasStack nodes frames = (n : ℕ) × (n ≤ length nodes) × (stack_at (stacks_of nodes) n ≡ frames)

-- each node that was added is a frame of this stack, on the frames that are older
abbrev pub AreAsked : List Node → List Node → List Frame → Type 0
AreAsked old new frames =
    (n : ℕ) → length old < n → n ≤ length new → (k : ℕ) × (k < length frames) × (stack_at (stacks_of new) n ≡ drop k frames)

-- whether two frames are of one function and one line
abbrev pub is_same_frame : Frame → Frame → Bool
is_same_frame a b = (a.function == b.function) && (a.line == b.line)
