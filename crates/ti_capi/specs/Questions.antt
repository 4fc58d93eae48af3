-- Questions of a door for debuggers, and their answers, as C uses them.
use Rattle.std.specs.Prelude.{ℕ, ◌≡◌, ◌==◌, ⊤, true, false, Bool, All, List, [], ◌∷◌, Option, None, Some, Result, Ok, Err, if◌then◌else◌}
use Rattle.std.specs.Int.{w64, cast_signed}
use Rattle.std.specs.List.{AllZip}
use Rattle.ti_jdwp.specs.declared.error.JdwpError.{JdwpError}
use Rattle.ti_jdwp.specs.declared.error.JdwpError.TheVariants as wire
use Rattle.ti_types.specs.TiError.{number_of}
use Rattle.ti_types.specs.declared.error.TiError.TheVariants.{NotAvailable}
use Rattle.ti_debugger.specs.Debuggers.{DebuggerValue}
use Rattle.ti_debugger.specs.Pops.{may_say_pops, with_pops}
use Rattle.ti_debugger.specs.Questions.{question_in, read_answer}
use Rattle.ti_debugger.specs.VariableReplies as debugger
use Rattle.ti_debugger.specs.declared.question.Content.{Content}
use Rattle.ti_debugger.specs.declared.question.Content.TheVariants as content
use Rattle.ti_debugger.specs.declared.question.Question.{Question}
use Rattle.ti_debugger.specs.declared.question.Question.TheVariants as question
use Rattle.ti_debugger.specs.declared.question.TellError.{TellError}
use Rattle.ti_debugger.specs.declared.question.TellError.TheVariants as error
use Rattle.ti_debugger.specs.declared.question.Told.{Told}
use Rattle.ti_debugger.specs.declared.question.Variable.{Variable}
use Rattle.ti_capi.specs.Codes.{none_told}
use Rattle.ti_capi.specs.declared.any_door.AnyDoor.{AnyDoor}
use Rattle.ti_capi.specs.declared.any_door.AnyDoor.TheVariants as any
use Rattle.ti_capi.specs.declared.door_questions.CqQuestion.{CqQuestion}
use Rattle.ti_capi.specs.declared.door_questions.CqValue.{CqValue}

abbrev pub question_out : Option Question → CqQuestion
question_out None = record { kind = 0; method = 0; thread = 0; depth = 0 }
question_out (Some (question.Variables method)) = record { kind = 1; method = method; thread = 0; depth = 0 }
question_out (Some (question.Values thread depth)) = record { kind = 2; method = 0; thread = thread; depth = depth }

abbrev pub truth : ℕ → Result Content TellError
truth bits = if bits == 0 then Ok (content.Boolean false) else (if bits == 1 then Ok (content.Boolean true) else Err error.IllegalArgument)

-- the kinds of values
abbrev pub content_of : CqValue → Result Content TellError
content_of v =
    if v.kind == 0 then Ok content.Nil
    else (if v.kind == 1 then truth v.bits
    else (if v.kind == 2 then Ok (content.Integer (cast_signed w64 v.bits))
    else (if v.kind == 3 then Ok (content.Number v.bits)
    else (if v.kind == 4 then Ok (content.Text v.bits)
    else (if v.kind == 5 then Ok (content.Table v.bits)
    else (if v.kind == 6 then Ok (content.Entry v.bits)
    else Err error.IllegalArgument))))))

-- a value with its slot
abbrev pub IsTold : CqValue → Told → Type 0
IsTold v t = (t.slot ≡ v.slot) × (content_of v ≡ Ok t.content)

-- there is such a kind, and a boolean is 0 or 1
abbrev pub HasContent : CqValue → Type 0
HasContent v = (c : Content) × (content_of v ≡ Ok c)

-- each of them, in this order
abbrev pub AreTold : List CqValue → List Told → Type 0
AreTold values told = AllZip IsTold values told

abbrev pub HaveTold : List CqValue → Type 0
HaveTold values = All HasContent values

abbrev pub untold : ℕ → JdwpError
untold code = if code == 13 then wire.ThreadNotSuspended else (if code == 110 then wire.OutOfMemory else wire.AbsentInformation)

abbrev pub told_code : Result ⊤ TellError → ℕ
told_code (Ok u) = 0
told_code (Err error.IllegalArgument) = 103
told_code (Err error.OutOfMemory) = 110
told_code (Err error.NotAsked) = none_told

-- a door for HTTP tells nothing of it
abbrev pub SaysTells : Bool → AnyDoor → AnyDoor → ℕ → Type 0
SaysTells tells (any.Http d) (any.Http n) code = (code ≡ 0) × (n ≡ d)
SaysTells tells (any.Debugger d) (any.Debugger n) code = (code ≡ 0) × (n ≡ record d { tells = tells })
SaysTells tells _ _ code = ⊥

-- A debugger's agent may pop frames from now on, or may not. It is refused if the service's environments cannot have that
-- capability
pub data SaysPopsAs (pops : Bool) (d n : DebuggerValue) (code : ℕ) : Type 0 where
  PopsSaid : code ≡ 0 → may_say_pops d.agent pops ≡ true → n ≡ record d { agent = with_pops d.agent pops } → SaysPopsAs pops d n code
  PopsRefused : code ≡ number_of NotAvailable → may_say_pops d.agent pops ≡ false → n ≡ d → SaysPopsAs pops d n code

abbrev pub SaysPops : Bool → AnyDoor → AnyDoor → ℕ → Type 0
SaysPops pops (any.Http d) (any.Http n) code = (code ≡ 0) × (n ≡ d)
SaysPops pops (any.Debugger d) (any.Debugger n) code = SaysPopsAs pops d n code
SaysPops pops _ _ code = ⊥

-- the runtime waits for its first debugger from now on, or does not
abbrev pub SaysStarts : Bool → AnyDoor → AnyDoor → ℕ → Type 0
SaysStarts suspended (any.Http d) (any.Http n) code = (code ≡ 0) × (n ≡ d)
SaysStarts suspended (any.Debugger d) (any.Debugger n) code = (code ≡ 0) × (n ≡ record d { starts = suspended })
SaysStarts suspended _ _ code = ⊥

abbrev pub question_at : AnyDoor → Option Question
question_at (any.Http d) = None
question_at (any.Debugger d) = question_in d.asked

abbrev pub GivesQuestion : CqQuestion → AnyDoor → AnyDoor → ℕ → Type 0
GivesQuestion q d n code = (code ≡ 0) × (n ≡ d) × (q ≡ question_out (question_at d))

-- the code of an answer that came to this
abbrev pub Answers : (AnyDoor → AnyDoor → Result ⊤ TellError → Type 0) → AnyDoor → AnyDoor → ℕ → Type 0
Answers tells d n code = (r : Result ⊤ TellError) × tells d n r × (code ≡ told_code r)

-- at a door for HTTP there is no question
abbrev pub AsksNothing : AnyDoor → AnyDoor → Result ⊤ TellError → Type 0
AsksNothing d n r = (r ≡ Err error.NotAsked) × (n ≡ d)

abbrev pub TellsVariables : List Variable → List ℕ → AnyDoor → AnyDoor → Result ⊤ TellError → Type 0
TellsVariables variables names (any.Debugger d) (any.Debugger n) (Ok u) = debugger.TellsThese variables names d.asked n.asked × (n ≡ record d { asked = n.asked })
TellsVariables variables names (any.Debugger d) (any.Debugger n) (Err e) = debugger.RefusesThese variables names d.asked e × (n ≡ d)
TellsVariables variables names (any.Http d) n r = AsksNothing (any.Http d) n r
TellsVariables variables names _ _ _ = ⊥

abbrev pub TellsTold : List Told → List ℕ → AnyDoor → AnyDoor → Result ⊤ TellError → Type 0
TellsTold values texts (any.Debugger d) (any.Debugger n) (Ok u) = debugger.TellsValuesOf values texts d n × (n ≡ record d { asked = n.asked; objects = n.objects; numbers = n.numbers })
TellsTold values texts (any.Debugger d) (any.Debugger n) (Err e) = debugger.RefusesValues values texts d e × (n ≡ d)
TellsTold values texts (any.Http d) n r = AsksNothing (any.Http d) n r
TellsTold values texts _ _ _ = ⊥

abbrev pub TellsValues : List CqValue → List ℕ → AnyDoor → AnyDoor → Result ⊤ TellError → Type 0
TellsValues values texts (any.Debugger d) (any.Debugger n) (Ok u) = (told : List Told) × AreTold values told × debugger.TellsValuesOf told texts d n × (n ≡ record d { asked = n.asked; objects = n.objects; numbers = n.numbers })
TellsValues values texts (any.Debugger d) (any.Debugger n) (Err error.NotAsked) = (debugger.asks_values (question_in d.asked) ≡ false) × (n ≡ d)
TellsValues values texts (any.Debugger d) (any.Debugger n) (Err error.IllegalArgument) = ((told : List Told) → AreTold values told → read_answer d.numbers told texts ≡ None) × (n ≡ d)
TellsValues values texts (any.Debugger d) (any.Debugger n) (Err error.OutOfMemory) = n ≡ d
TellsValues values texts (any.Http d) n r = AsksNothing (any.Http d) n r
TellsValues values texts _ _ _ = ⊥

abbrev pub TellsNone : JdwpError → AnyDoor → AnyDoor → Result ⊤ TellError → Type 0
TellsNone e (any.Debugger d) (any.Debugger n) (Ok u) = debugger.TellsNone e d.asked n.asked × (n ≡ record d { asked = n.asked })
TellsNone e (any.Debugger d) (any.Debugger n) (Err x) = (x ≡ error.NotAsked) × (question_in d.asked ≡ None) × (n ≡ d)
TellsNone e (any.Http d) n r = AsksNothing (any.Http d) n r
TellsNone e _ _ _ = ⊥
