-- Which stacks are there, and which nodes a stack adds.
use Rattle.std.proofs.Common.{◌≡◌, ℕ, zero, suc, ◌+◌, ◌-◌, ◌<◌, ◌≤◌, ◌⊎◌, false, List, [], ◌∷◌, ◌++◌, Option, Some, None, drop, length, length-append, get_or, arith, ap, sym, ◌∙◌, subst, inl, inr}
use Rattle.std.specs.List.{list_any}
use Rattle.std.specs.Prelude.{IfNone}
use Rattle.std.proofs.lemmas.List.{append_assoc, drop_more, get_or_default}
use Rattle.std.proofs.lemmas.Bool.{cases_lt}
use Rattle.ti_pprof.specs.declared.stacks.Frame.{Frame}
use Rattle.ti_pprof.specs.declared.stacks.Node.{Node}
use Rattle.ti_pprof.specs.Stacks.{stack_at, stacks_of, AreAsked, AreDifferent, AreOnEarlier, Grows, HasStack}
use Rattle.ti_pprof.proofs.TrieLaws.{is_same_node, absent_at, stack_at-different, stack_at-Grows, stack_at-node, stack_at-zero}

-- a stack of these frames is its newest frame's node on another stack
record Top (nodes : List Node) (frame : Frame) (rest : List Frame) : Type 0 where
  place : ℕ
  node : Node
  within : place < length nodes
  at : get_or nodes place node ≡ node
  frames : node.frame ≡ frame
  below : stack_at (stacks_of nodes) node.rest ≡ rest

top : (nodes : List Node) (frame : Frame) (rest : List Frame) → AreOnEarlier nodes → HasStack nodes (frame ∷ rest) → Top nodes frame rest
top nodes frame rest earlier (zero, within, is) = let clash : [] ≡ frame ∷ rest = sym (stack_at-zero nodes) ∙ is in absurd (cc)
top nodes frame rest earlier (suc i, within, is) =
    let d : Node = record { rest = 0; frame = frame } in
    let node = get_or nodes i d in
    let at : get_or nodes i node ≡ node = get_or_default nodes i node d (omega arith) in
    let up : i + 1 ≡ suc i = omega arith in
    let whole : node.frame ∷ stack_at (stacks_of nodes) node.rest ≡ frame ∷ rest =
    sym (stack_at-node nodes i node earlier (omega arith) at) ∙ ap (stack_at (stacks_of nodes)) up ∙ is in
    record { place = i; node = node; within = omega arith; at = at; frames = cc; below = cc }

-- below a stack is a stack
below_top : (nodes : List Node) (frame : Frame) (rest : List Frame) → AreOnEarlier nodes → HasStack nodes (frame ∷ rest) → HasStack nodes rest
below_top nodes frame rest earlier has =
    let t = top nodes frame rest earlier has in
    let low : t.node.rest ≤ t.place = omega (arith, ap (λ (n : Node). n.rest) t.at, earlier t.place t.node t.within) in
    (t.node.rest, omega (arith, t.within), t.below)

pub has_drop : (nodes : List Node) (frames : List Frame) (k : ℕ) → AreOnEarlier nodes → HasStack nodes frames → HasStack nodes (drop k frames)
has_drop nodes frames zero earlier has = has
has_drop nodes [] (suc k) earlier has = has
has_drop nodes (frame ∷ rest) (suc k) earlier has = has_drop nodes rest k earlier (below_top nodes frame rest earlier has)

has_grown : (old new : List Node) (frames : List Frame) → Grows old new → HasStack old frames → HasStack new frames
has_grown old new frames grows has =
    let longer : length new ≡ length old + length grows.0 = ap length grows.1 ∙ length-append old grows.0 in
    (has.0, omega (arith, has.1), stack_at-Grows old new has.0 grows has.1 ∙ has.2)

-- where the node of a frame is not there, its stack is not
pub no_child : (nodes : List Node) (node : Node) → AreOnEarlier nodes → AreDifferent nodes → node.rest ≤ length nodes → list_any (is_same_node node) nodes ≡ false → ¬ (HasStack nodes (node.frame ∷ stack_at (stacks_of nodes) node.rest))
no_child nodes node earlier different here absent has =
    let t = top nodes node.frame (stack_at (stacks_of nodes) node.rest) earlier has in
    let low : t.node.rest ≤ t.place = omega (arith, ap (λ (n : Node). n.rest) t.at, earlier t.place t.node t.within) in
    let rests : t.node.rest ≡ node.rest = stack_at-different nodes earlier different t.node.rest node.rest (omega (arith, t.within)) here t.below in
    let same : t.node ≡ node = λ j. record { rest = rests j; frame = t.frames j } in
    absent_at nodes node t.place t.node absent t.within (t.at ∙ same)

-- where the oldest frames are not there, the stack is not
pub nowhere : (old mid : List Node) (frames part : List Frame) (k : ℕ) → AreOnEarlier old → Grows old mid → part ≡ drop k frames → ¬ (HasStack mid part) → ¬ (HasStack old frames)
nowhere old mid frames part k earlier grows is not has =
    not (subst (HasStack mid) (sym is) (has_grown old mid (drop k frames) grows (has_drop old frames k earlier has)))

-- one more frame adds nodes of the stack
pub asked_more : (old mid new : List Node) (frames part : List Frame) (k : ℕ) → Grows mid new → k < length frames → part ≡ drop k frames → AreAsked old mid frames → ((n : ℕ) → length mid < n → n ≤ length new → stack_at (stacks_of new) n ≡ part) → AreAsked old new frames
asked_more old mid new frames part k grows within is before added = λ n behind inside. by_place n behind inside (cases_lt (length mid) n)
  where
    by_place : (n : ℕ) → length old < n → n ≤ length new → (length mid < n) ⊎ (n ≤ length mid) → (k : ℕ) × (k < length frames) × (stack_at (stacks_of new) n ≡ drop k frames)
    by_place n behind inside (inl later) = (k, within, added n later inside ∙ is)
    by_place n behind inside (inr earlier) =
        let was = before n behind earlier in
        (was.0, was.1, stack_at-Grows mid new n grows earlier ∙ was.2)

-- nodes that grow twice grow
pub grows_on : (a b c : List Node) → Grows a b → Grows b c → Grows a c
grows_on a b c g h = (g.0 ++ h.0, h.1 ∙ ap (λ (n : List Node). n ++ h.0) g.1 ∙ append_assoc a g.0 h.0)

-- the frames from one on are that frame and those behind it
pub one_more : (frames part : List Frame) (d : Frame) (left : ℕ) → 0 < left → left ≤ length frames → part ≡ drop left frames → get_or frames (left - 1) d ∷ part ≡ drop (left - 1) frames
one_more frames part d left some within is =
    let up : left ≡ left - 1 + 1 = omega arith in
    ap (λ (p : List Frame). get_or frames (left - 1) d ∷ p) (is ∙ ap (λ (n : ℕ). drop n frames) up) ∙ sym (drop_more frames (left - 1) d (omega arith))

pub on_none : {X P : Type 0} (o : Option X) → P → IfNone o P
on_none None p = p
on_none (Some x) p = tt
