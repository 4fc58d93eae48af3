-- Composite events.
use Rattle.std.specs.Prelude.{ℕ, ◌<◌, ◌^◌, length, List, [], ◌∷◌, ◌++◌}
use Rattle.ti_jdwp.specs.declared.event_text.EventRow.{EventRow}
use Rattle.ti_jdwp.specs.declared.event_text.Occurrence.{Occurrence}
use Rattle.ti_jdwp.specs.declared.event_text.Occurrence.TheVariants as occurrence
use Rattle.ti_jdwp.specs.declared.request.EventKind.{EventKind}
use Rattle.ti_jdwp.specs.declared.request.EventKind.TheVariants as kind
use Rattle.ti_jdwp.specs.declared.request.Policy.{Policy}
use Rattle.ti_jdwp.specs.Events.{kind_number, policy_number}
use Rattle.ti_jdwp.specs.Fields.{int, long, text}
use Rattle.ti_jdwp.specs.Ids.{id_from, first_thread, first_class, first_method}
use Rattle.ti_jdwp.specs.Bodies.{signed, list}

abbrev pub kind_of_occurrence : Occurrence → EventKind
kind_of_occurrence (occurrence.ThreadStart thread) = kind.ThreadStart
kind_of_occurrence (occurrence.ThreadDeath thread) = kind.ThreadDeath
kind_of_occurrence (occurrence.ClassPrepare thread class signature) = kind.ClassPrepare
kind_of_occurrence (occurrence.SingleStep thread class method index) = kind.SingleStep
kind_of_occurrence (occurrence.Breakpoint thread class method index) = kind.Breakpoint
kind_of_occurrence (occurrence.ClassUnload signature) = kind.ClassUnload
kind_of_occurrence (occurrence.VmStart thread) = kind.VmStart
kind_of_occurrence occurrence.VmDeath = kind.VmDeath

-- a thread, a tag for a class, its id, its signature, and a status
abbrev pub prepared_fields : ℕ → ℕ → List ℕ → List ℕ
prepared_fields thread class signature = long (id_from first_thread thread) ++ 1 ∷ long (id_from first_class class) ++ text signature ++ int 7

-- a thread, and a location: a tag for a class, the ids of the class and of the method, and the index
abbrev pub location_fields : ℕ → ℕ → ℕ → ℕ → List ℕ
location_fields thread class method index = long (id_from first_thread thread) ++ 1 ∷ long (id_from first_class class) ++ long (id_from first_method method) ++ long index

abbrev pub occurrence_fields : Occurrence → List ℕ
occurrence_fields (occurrence.ThreadStart thread) = long (id_from first_thread thread)
occurrence_fields (occurrence.ThreadDeath thread) = long (id_from first_thread thread)
occurrence_fields (occurrence.ClassPrepare thread class signature) = prepared_fields thread class signature.now
occurrence_fields (occurrence.SingleStep thread class method index) = location_fields thread class method index
occurrence_fields (occurrence.Breakpoint thread class method index) = location_fields thread class method index
occurrence_fields (occurrence.ClassUnload signature) = text signature.now
occurrence_fields (occurrence.VmStart thread) = long (id_from first_thread thread)
occurrence_fields occurrence.VmDeath = []

-- its signature, if it has one, has fewer than 2 ^ 31 bytes
abbrev pub HasShortText : Occurrence → Type 0
HasShortText (occurrence.ThreadStart thread) = Unit {0}
HasShortText (occurrence.ThreadDeath thread) = Unit {0}
HasShortText (occurrence.ClassPrepare thread class signature) = length signature.now < 2 ^ 31
HasShortText (occurrence.SingleStep thread class method index) = Unit {0}
HasShortText (occurrence.Breakpoint thread class method index) = Unit {0}
HasShortText (occurrence.ClassUnload signature) = length signature.now < 2 ^ 31
HasShortText (occurrence.VmStart thread) = Unit {0}
HasShortText occurrence.VmDeath = Unit {0}

-- the kind, the event request, and what the kind has
abbrev pub event_row : EventRow → List ℕ
event_row r = kind_number (kind_of_occurrence r.occurrence) ∷ signed r.request ++ occurrence_fields r.occurrence

abbrev pub composite : Policy → List EventRow → List ℕ
composite policy rows = policy_number policy ∷ list event_row rows
