-- What C reads of an answer.
use Rattle.std.specs.Prelude.{ℕ, ◌≡◌, List, map, length}
use Rattle.ti_types.specs.declared.answer.Answer.{Answer}
use Rattle.ti_types.specs.declared.answer.Answer.TheVariants as answer
use Rattle.ti_types.specs.declared.place.Frame.{Frame}
use Rattle.ti_types.specs.TiError.{number_of}
use Rattle.ti_capi.specs.declared.values.CqAnswer.{CqAnswer}
use Rattle.ti_capi.specs.declared.values.CqFrame.{CqFrame}
use Rattle.ti_capi.specs.declared.values.CqTicket.{CqTicket}
use Rattle.ti_capi.specs.Values.{frame_written, over}

abbrev pub with_number : CqAnswer → ℕ → CqAnswer
with_number a n = record { number = n; frame = a.frame; ticket = a.ticket }

abbrev pub with_frame : CqAnswer → CqFrame → CqAnswer
with_frame a f = record { number = a.number; frame = f; ticket = a.ticket }

abbrev pub with_ticket : CqAnswer → CqTicket → CqAnswer
with_ticket a k = record { number = a.number; frame = a.frame; ticket = k }

-- a number is written, and nothing else
abbrev pub IsNumber : ℕ → ℕ → CqAnswer → CqAnswer → List CqFrame → List CqFrame → Type 0
IsNumber n code a b f g = (code ≡ 0) × (b ≡ with_number a n) × (g ≡ f)

-- frames are written, as many as there is room for, and how many there are
abbrev pub AreFrames : List Frame → ℕ → CqAnswer → CqAnswer → List CqFrame → List CqFrame → Type 0
AreFrames frames code a b f g = (code ≡ 0) × (b ≡ with_number a (length frames)) × (g ≡ over (map frame_written frames) f)

-- What is written of an answer: its code, and the caller's answer and frames before and after
abbrev pub IsWritten : Answer → ℕ → CqAnswer → CqAnswer → List CqFrame → List CqFrame → Type 0
IsWritten answer.Done code a b f g = (code ≡ 0) × (b ≡ a) × (g ≡ f)
IsWritten (answer.State n) code a b f g = IsNumber n code a b f g
IsWritten (answer.Count n) code a b f g = IsNumber n code a b f g
IsWritten (answer.Word n) code a b f g = IsNumber n code a b f g
IsWritten (answer.Caps c) code a b f g = IsNumber c.bits code a b f g
IsWritten (answer.Trace t) code a b f g = AreFrames t.frames code a b f g
IsWritten (answer.Stack s t) code a b f g = AreFrames t.frames code a b f g
IsWritten (answer.Location l) code a b f g = (code ≡ 0) × (b ≡ with_frame a (frame_written l)) × (g ≡ f)
IsWritten (answer.Refused e) code a b f g = (code ≡ number_of e) × (b ≡ a) × (g ≡ f)
