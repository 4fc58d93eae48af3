use Rattle.std.proofs.Common.{◌≡◌, ℕ, zero, suc, ◌+◌, ◌-◌, ◌<◌, ◌≤◌, ◌&&◌, ◌||◌, Bool, true, false, true≢false, List, [], ◌∷◌, ◌++◌, length, get_or, take, drop, fold, map, if◌then◌else◌, arith, refl, ap, sym, ◌∙◌, subst, ◌⊎◌, inl, inr}
use Rattle.std.specs.List.{list_any}
use Rattle.std.specs.Prelude.{Result, Ok, Err, IfOk, IsOk}
use Rattle.std.specs.HashSet.{HashSet}
use Rattle.indexmap.specs.IndexSet.{insert_key}
use Rattle.std.proofs.lemmas.List.{append-nil, append_assoc, length_push, get_or_append_left, get_or_push, get_or_default, take-append-drop, drop_more, length-take-le}
use Rattle.std.proofs.lemmas.List.Sums.{fold_push}
use Rattle.std.proofs.Math.Dec.{eqb}
use Rattle.std.proofs.lemmas.Bool.{cases_lt, eq-eqb, eqb-true}
use Rattle.ti_pprof.specs.declared.stacks.Frame.{Frame}
use Rattle.ti_pprof.specs.declared.stacks.Node.{Node}
use Rattle.ti_pprof.specs.Stacks.{stack_at, with_stack, stacks_of, AreDifferent, AreOnEarlier, Grows}

-- both tests of an `&&` that passes pass
pub both : (a b : Bool) → (a && b) ≡ true → (a ≡ true) × (b ≡ true)
both true b h = (refl, h)
both false b h = absurd (cc)

-- frames that pass for the same are the same
pub same_frame : (a b : Frame) → (eqb a.function b.function && eqb a.line b.line) ≡ true → a ≡ b
same_frame a b h =
    let t = both (eqb a.function b.function) (eqb a.line b.line) h in
    let f = eqb-true a.function b.function t.0 in
    let l = eqb-true a.line b.line t.1 in
    λ j. record { function = f j; line = l j }

-- nodes that pass for the same are the same
pub same_node : (a b : Node) → (eqb a.rest b.rest && (eqb a.frame.function b.frame.function && eqb a.frame.line b.frame.line)) ≡ true → a ≡ b
same_node a b h =
    let t = both (eqb a.rest b.rest) (eqb a.frame.function b.frame.function && eqb a.frame.line b.frame.line) h in
    let r = eqb-true a.rest b.rest t.0 in
    let f = same_frame a.frame b.frame t.1 in
    λ j. record { rest = r j; frame = f j }

-- one more node adds one stack
pub stacks_of-push : (nodes : List Node) (node : Node) → stacks_of (nodes ++ node ∷ []) ≡ with_stack (stacks_of nodes) node
unfolding stacks_of
stacks_of-push nodes node = fold_push with_stack ([] ∷ []) nodes node

length-with_stacks : (stacks : List (List Frame)) (nodes : List Node) → length (fold with_stack stacks nodes) ≡ length stacks + length nodes
length-with_stacks stacks [] = omega arith
length-with_stacks stacks (node ∷ nodes) =
    let one : length (with_stack stacks node) ≡ length stacks + 1 = length_push stacks (node.frame ∷ stack_at stacks node.rest) in
    omega (arith, length-with_stacks (with_stack stacks node) nodes, one)

-- there is one stack more than there are nodes
pub length-stacks_of : (nodes : List Node) → length (stacks_of nodes) ≡ length nodes + 1
unfolding stacks_of
length-stacks_of nodes = omega (arith, length-with_stacks ([] ∷ []) nodes)

-- the newest stack is that of the newest node
pub stack_at-newest : (nodes : List Node) (node : Node) → stack_at (stacks_of (nodes ++ node ∷ [])) (length nodes + 1) ≡ node.frame ∷ stack_at (stacks_of nodes) node.rest
stack_at-newest nodes node =
    ap (λ s. stack_at s (length nodes + 1)) (stacks_of-push nodes node)
    ∙ get_or_push (stacks_of nodes) (node.frame ∷ stack_at (stacks_of nodes) node.rest) [] (length nodes + 1) (length-stacks_of nodes)

-- a stack stays as it is when a node is added
stack_at-push : (nodes : List Node) (node : Node) (i : ℕ) → i ≤ length nodes → stack_at (stacks_of (nodes ++ node ∷ [])) i ≡ stack_at (stacks_of nodes) i
stack_at-push nodes node i h =
    ap (λ s. stack_at s i) (stacks_of-push nodes node)
    ∙ get_or_append_left (stacks_of nodes) ((node.frame ∷ stack_at (stacks_of nodes) node.rest) ∷ []) [] i (omega (arith, length-stacks_of nodes))

-- and when nodes are
pub stack_at-append : (nodes more : List Node) (i : ℕ) → i ≤ length nodes → stack_at (stacks_of (nodes ++ more)) i ≡ stack_at (stacks_of nodes) i
stack_at-append nodes [] i h = ap (λ n. stack_at (stacks_of n) i) (append-nil nodes)
stack_at-append nodes (node ∷ more) i h =
    ap (λ n. stack_at (stacks_of n) i) (sym (append_assoc nodes (node ∷ []) more))
    ∙ stack_at-append (nodes ++ node ∷ []) more i (omega (arith, length_push nodes node))
    ∙ stack_at-push nodes node i h

-- nodes are those before one, that one, and those behind it
split_at : (nodes : List Node) (i : ℕ) (node : Node) → i < length nodes → get_or nodes i node ≡ node → nodes ≡ (take i nodes ++ node ∷ []) ++ drop (i + 1) nodes
split_at nodes i node within at =
    sym (take-append-drop i nodes)
    ∙ ap (λ r. take i nodes ++ r) (drop_more nodes i node within)
    ∙ ap (λ n. take i nodes ++ n ∷ drop (i + 1) nodes) at
    ∙ sym (append_assoc (take i nodes) (node ∷ []) (drop (i + 1) nodes))

-- the first stack is empty
pub stack_at-zero : (nodes : List Node) → stack_at (stacks_of nodes) 0 ≡ []
unfolding stacks_of
stack_at-zero nodes = stack_at-append [] nodes 0 (omega arith)

-- the stack of a node is its frame on the stack below
pub stack_at-node : (nodes : List Node) (i : ℕ) (node : Node) → AreOnEarlier nodes → i < length nodes → get_or nodes i node ≡ node
    → stack_at (stacks_of nodes) (i + 1) ≡ node.frame ∷ stack_at (stacks_of nodes) node.rest
stack_at-node nodes i node earlier within at =
    let below : node.rest ≤ i = omega (arith, ap (λ (n : Node). n.rest) at, earlier i node within) in
    let front = take i nodes in
    let back = drop (i + 1) nodes in
    let count : length front ≡ i = length-take-le i nodes (omega arith) in
    let whole = split_at nodes i node within at in
    let here : stack_at (stacks_of (front ++ node ∷ [])) (i + 1) ≡ node.frame ∷ stack_at (stacks_of front) node.rest =
    subst (λ k. stack_at (stacks_of (front ++ node ∷ [])) (k + 1) ≡ node.frame ∷ stack_at (stacks_of front) node.rest) count (stack_at-newest front node) in
    let up : stack_at (stacks_of nodes) (i + 1) ≡ stack_at (stacks_of (front ++ node ∷ [])) (i + 1) =
    ap (λ n. stack_at (stacks_of n) (i + 1)) whole ∙ stack_at-append (front ++ node ∷ []) back (i + 1) (omega (arith, length_push front node)) in
    let down : stack_at (stacks_of nodes) node.rest ≡ stack_at (stacks_of front) node.rest =
    ap (λ n. stack_at (stacks_of n) node.rest) (sym (take-append-drop i nodes)) ∙ stack_at-append front (drop i nodes) node.rest (omega arith) in
    up ∙ here ∙ ap (λ s. node.frame ∷ s) (sym down)

-- what f makes of the frames of a stack that is not empty: of the newest, and of those below
pub map-stack_at : {X : Type 0} (f : Frame → X) (nodes : List Node) (number : ℕ) (node : Node) → AreOnEarlier nodes → 0 < number → number ≤ length nodes
    → get_or nodes (number - 1) node ≡ node → map f (stack_at (stacks_of nodes) number) ≡ f node.frame ∷ map f (stack_at (stacks_of nodes) node.rest)
map-stack_at f nodes number node earlier some within at =
    let back : number - 1 + 1 ≡ number = omega arith in
    subst (λ n. map f (stack_at (stacks_of nodes) n) ≡ f node.frame ∷ map f (stack_at (stacks_of nodes) node.rest)) back
    (ap (map f) (stack_at-node nodes (number - 1) node earlier (omega arith) at))

-- a node on an earlier stack may be added
pub AreOnEarlier-push : (nodes : List Node) (node : Node) → AreOnEarlier nodes → node.rest ≤ length nodes → AreOnEarlier (nodes ++ node ∷ [])
AreOnEarlier-push nodes node earlier below = λ i d within. place i d within (cases_lt i (length nodes))
  where
    place : (i : ℕ) (d : Node) → i < length (nodes ++ node ∷ []) → (i < length nodes) ⊎ (length nodes ≤ i) → (get_or (nodes ++ node ∷ []) i d).rest ≤ i
    place i d within (inl before) =
        let same = get_or_append_left nodes (node ∷ []) d i before in
        omega (arith, ap (λ (n : Node). n.rest) same, earlier i d before)
    place i d within (inr behind) =
        let last : length nodes ≡ i = omega (arith, length_push nodes node) in
        omega (arith, ap (λ (n : Node). n.rest) (get_or_push nodes node d i last))

-- a stack stays when nodes grow
pub stack_at-Grows : (a b : List Node) (i : ℕ) → Grows a b → i ≤ length a → stack_at (stacks_of b) i ≡ stack_at (stacks_of a) i
stack_at-Grows a b i g h = ap (λ n. stack_at (stacks_of n) i) g.1 ∙ stack_at-append a g.0 i h

-- whether two nodes are the same
abbrev pub is_same_node : Node → Node → Bool
is_same_node a b = eqb a.rest b.rest && (eqb a.frame.function b.frame.function && eqb a.frame.line b.frame.line)

-- a key that is not there goes last
pub insert_key-new : {T : Type 0} (eq : T → T → Bool) (ks : List T) (k : T) → list_any (eq k) ks ≡ false → insert_key eq ks k ≡ ks ++ k ∷ []
insert_key-new eq ks k new = ap (λ b. if b then ks else ks ++ k ∷ []) new

-- a key that is not there, and for which there is room, is the last one after its insertion
pub keys_after : {T E S : Type 0} (r : Result (ℕ × Bool) E) (eq : T → T → Bool) (old new : HashSet T S) (k : T)
    → list_any (eq k) old.keys ≡ false → IsOk r → IfOk r (λ x. new.keys ≡ insert_key eq old.keys k)
    → new.keys ≡ old.keys ++ k ∷ []
keys_after (Ok x) eq old new k absent ok done = done ∙ insert_key-new eq old.keys k absent
keys_after (Err e) eq old new k absent ok done = absurd (cc)

-- a node is the same as itself
is_same_node-refl : (node : Node) → is_same_node node node ≡ true
is_same_node-refl node =
    let r = eq-eqb node.rest node.rest refl in
    let f = eq-eqb node.frame.function node.frame.function refl in
    let l = eq-eqb node.frame.line node.frame.line refl in
    λ j. r j && (f j && l j)

-- neither test of an `||` that fails passes
pub neither : (a b : Bool) → (a || b) ≡ false → (a ≡ false) × (b ≡ false)
neither false b h = (refl, h)
neither true b h = absurd (cc)

-- what no test finds is nowhere
pub absent_at : (nodes : List Node) (node : Node) (i : ℕ) (d : Node) → list_any (is_same_node node) nodes ≡ false → i < length nodes → get_or nodes i d ≡ node → ⊥
absent_at [] node i d absent within at = omega arith
absent_at (n ∷ nodes) node zero d absent within at =
    let h = neither (is_same_node node n) (list_any (is_same_node node) nodes) absent in
    true≢false (sym (ap (is_same_node node) at ∙ is_same_node-refl node) ∙ h.0)
absent_at (n ∷ nodes) node (suc i) d absent within at =
    absent_at nodes node i d (neither (is_same_node node n) (list_any (is_same_node node) nodes) absent).1 (omega arith) at

-- a node that is not there may be added
pub AreDifferent-push : (nodes : List Node) (node : Node) → AreDifferent nodes → list_any (is_same_node node) nodes ≡ false → AreDifferent (nodes ++ node ∷ [])
AreDifferent-push nodes node different absent = λ i j d in_i in_j same. place i j d in_i in_j same (cases_lt i (length nodes)) (cases_lt j (length nodes))
  where
    left : (i : ℕ) (d : Node) → i < length nodes → get_or (nodes ++ node ∷ []) i d ≡ get_or nodes i d
    left i d h = get_or_append_left nodes (node ∷ []) d i h

    last : (i : ℕ) (d : Node) → i < length (nodes ++ node ∷ []) → length nodes ≤ i → get_or (nodes ++ node ∷ []) i d ≡ node
    last i d within behind = get_or_push nodes node d i (omega (arith, length_push nodes node))

    place : (i j : ℕ) (d : Node) → i < length (nodes ++ node ∷ []) → j < length (nodes ++ node ∷ []) → get_or (nodes ++ node ∷ []) i d ≡ get_or (nodes ++ node ∷ []) j d
        → (i < length nodes) ⊎ (length nodes ≤ i) → (j < length nodes) ⊎ (length nodes ≤ j) → i ≡ j
    place i j d in_i in_j same (inl a) (inl b) = different i j d a b (sym (left i d a) ∙ same ∙ left j d b)
    place i j d in_i in_j same (inl a) (inr b) = absurd (absent_at nodes node i d absent a (sym (left i d a) ∙ same ∙ last j d in_j b))
    place i j d in_i in_j same (inr a) (inl b) = absurd (absent_at nodes node j d absent b (sym (left j d b) ∙ sym same ∙ last i d in_i a))
    place i j d in_i in_j same (inr a) (inr b) = omega (arith, length_push nodes node)

-- stacks of different numbers differ
stack_at-different_below : (nodes : List Node) → AreOnEarlier nodes → AreDifferent nodes → (most m n : ℕ) → m < most → m ≤ length nodes → n ≤ length nodes
    → stack_at (stacks_of nodes) m ≡ stack_at (stacks_of nodes) n → m ≡ n
stack_at-different_below nodes earlier different zero m n below in_m in_n same = absurd (omega arith)
stack_at-different_below nodes earlier different (suc most) zero zero below in_m in_n same = refl
stack_at-different_below nodes earlier different (suc most) zero (suc k) below in_m in_n same =
    let d : Node = record { rest = 0; frame = record { function = 0; line = 0 } } in
    let node = get_or nodes k d in
    let there : get_or nodes k node ≡ node = get_or_default nodes k node d (omega arith) in
    let top = stack_at-node nodes k node earlier (omega arith) there in
    let up : k + 1 ≡ suc k = omega arith in
    let clash : [] ≡ node.frame ∷ stack_at (stacks_of nodes) node.rest = sym (stack_at-zero nodes) ∙ same ∙ ap (stack_at (stacks_of nodes)) (sym up) ∙ top in
    absurd (cc)
stack_at-different_below nodes earlier different (suc most) (suc i) zero below in_m in_n same =
    let d : Node = record { rest = 0; frame = record { function = 0; line = 0 } } in
    let node = get_or nodes i d in
    let there : get_or nodes i node ≡ node = get_or_default nodes i node d (omega arith) in
    let top = stack_at-node nodes i node earlier (omega arith) there in
    let up : i + 1 ≡ suc i = omega arith in
    let clash : [] ≡ node.frame ∷ stack_at (stacks_of nodes) node.rest = sym (stack_at-zero nodes) ∙ sym same ∙ ap (stack_at (stacks_of nodes)) (sym up) ∙ top in
    absurd (cc)
stack_at-different_below nodes earlier different (suc most) (suc i) (suc k) below in_m in_n same =
    let d : Node = record { rest = 0; frame = record { function = 0; line = 0 } } in
    let a = get_or nodes i d in
    let b = get_or nodes k d in
    let at_a : get_or nodes i a ≡ a = get_or_default nodes i a d (omega arith) in
    let at_b : get_or nodes k b ≡ b = get_or_default nodes k b d (omega arith) in
    let up_i : i + 1 ≡ suc i = omega arith in
    let up_k : k + 1 ≡ suc k = omega arith in
    let tops : a.frame ∷ stack_at (stacks_of nodes) a.rest ≡ b.frame ∷ stack_at (stacks_of nodes) b.rest =
    sym (stack_at-node nodes i a earlier (omega arith) at_a) ∙ ap (stack_at (stacks_of nodes)) up_i ∙ same ∙ ap (stack_at (stacks_of nodes)) (sym up_k) ∙ stack_at-node nodes k b earlier (omega arith) at_b in
    let frames : a.frame ≡ b.frame = cc in
    let below_a = earlier i d (omega arith) in
    let below_b = earlier k d (omega arith) in
    let rests : a.rest ≡ b.rest = stack_at-different_below nodes earlier different most a.rest b.rest (omega arith) (omega arith) (omega arith) (cc) in
    let nodes_same : a ≡ b = λ j. record { rest = rests j; frame = frames j } in
    ap suc (different i k d (omega arith) (omega arith) nodes_same)

pub stack_at-different : (nodes : List Node) → AreOnEarlier nodes → AreDifferent nodes → (m n : ℕ) → m ≤ length nodes → n ≤ length nodes
    → stack_at (stacks_of nodes) m ≡ stack_at (stacks_of nodes) n → m ≡ n
stack_at-different nodes earlier different m n = stack_at-different_below nodes earlier different (m + 1) m n (omega arith)
