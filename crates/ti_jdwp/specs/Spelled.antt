-- What a debugger writes for a request: the bytes of each layout.
use Rattle.std.specs.Prelude.{◌≡◌, ℕ, ℤ, ◌*◌, ◌^◌, ◌<◌, ◌≤◌, List, [], ◌∷◌, ◌++◌, length, Some}
use Rattle.std.specs.Int.{w32, cast_signed}
use Rattle.ti_jdwp.specs.declared.request.EventKind.{EventKind}
use Rattle.ti_jdwp.specs.declared.request.Policy.{Policy}
use Rattle.ti_jdwp.specs.declared.request.Request.{Request}
use Rattle.ti_jdwp.specs.declared.request.Request.TheVariants as request
use Rattle.ti_jdwp.specs.Fields.{int, long, text}
use Rattle.ti_jdwp.specs.Events.{kind_number, policy_number}
use Rattle.ti_jdwp.specs.Patterns.{AreModifiers}
use Rattle.ti_jdwp.specs.Commands.{Layout, no_fields, of_id, of_two_ids, of_part, of_signature, of_objects, of_event, of_clear, of_slots, layout_of}

abbrev pub AreTwoIds : (ℕ → ℕ → Request) → List ℕ → Request → Type 0
AreTwoIds s bytes r = (first second : ℕ) × (first < 2 ^ 64) × (second < 2 ^ 64) × (bytes ≡ long first ++ long second) × (r ≡ s first second)

abbrev pub IsPart : (ℕ → ℤ → ℤ → Request) → List ℕ → Request → Type 0
IsPart s bytes r = (id start len : ℕ) × (id < 2 ^ 64) × (start < 2 ^ 32) × (len < 2 ^ 32) × (bytes ≡ long id ++ int start ++ int len) × (r ≡ s id (cast_signed w32 start) (cast_signed w32 len))

abbrev pub IsSignature : List ℕ → Request → Type 0
IsSignature bytes r = (signature : List ℕ) × (length signature < 2 ^ 31) × (bytes ≡ text signature) × (r ≡ request.ClassesBySignature (record { start = 4; end = length bytes }))

-- twelve bytes for each object
abbrev pub IsObjects : List ℕ → Request → Type 0
IsObjects bytes r = (n : ℕ) × (rest : List ℕ) × (n < 2 ^ 32) × (bytes ≡ int n ++ rest) × (length rest ≡ 12 * n) × (r ≡ request.DisposeObjects (record { start = 4; end = length bytes }))

-- at most 64 modifiers, which are all of the rest
abbrev pub IsEvent : List ℕ → Request → Type 0
IsEvent bytes r = (k : EventKind) × (p : Policy) × (count : ℕ) × (rest : List ℕ) × (count ≤ 64) × (bytes ≡ kind_number k ∷ policy_number p ∷ int count ++ rest) × AreModifiers count 6 rest
    × (r ≡ request.SetEvent k p (record { start = 6; end = length bytes }) count)

abbrev pub IsClear : List ℕ → Request → Type 0
IsClear bytes r = (kind number : ℕ) × (number < 2 ^ 32) × (bytes ≡ kind ∷ int number) × (r ≡ request.ClearEvent kind (cast_signed w32 number))

-- at most 4,096 variables, and five bytes for each
abbrev pub AreValues : List ℕ → Request → Type 0
AreValues bytes r = (thread frame n : ℕ) × (rest : List ℕ) × (thread < 2 ^ 64) × (frame < 2 ^ 64) × (n ≤ 4096) × (bytes ≡ long thread ++ long frame ++ int n ++ rest) × (length rest ≡ 5 * n)
    × (r ≡ request.FrameValues thread frame (record { start = 20; end = length bytes }))

abbrev pub Spells : Layout → List ℕ → Request → Type 0
Spells (no_fields s) bytes r = (bytes ≡ []) × (r ≡ s)
Spells (of_id s) bytes r = (id : ℕ) × (id < 2 ^ 64) × (bytes ≡ long id) × (r ≡ s id)
Spells (of_two_ids s) bytes r = AreTwoIds s bytes r
Spells (of_part s) bytes r = IsPart s bytes r
Spells of_signature bytes r = IsSignature bytes r
Spells of_objects bytes r = IsObjects bytes r
Spells of_event bytes r = IsEvent bytes r
Spells of_clear bytes r = IsClear bytes r
Spells of_slots bytes r = AreValues bytes r

-- the command is served, and the bytes are a request's by its layout
abbrev pub IsRequest : ℕ → ℕ → List ℕ → Request → Type 0
IsRequest set command bytes r = (l : Layout) × (layout_of set command ≡ Some l) × Spells l bytes r
