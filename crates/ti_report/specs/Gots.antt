-- What an entry got, with its frames among those of a book.
use Rattle.std.specs.Prelude.{List, Option, Some, None, take, drop}
use Rattle.ti_types.specs.declared.place.Frame.{Frame}
use Rattle.ti_types.specs.declared.answer.Answer.{Answer}
use Rattle.ti_types.specs.declared.answer.Answer.TheVariants as answer
use Rattle.ti_types.specs.Frames.{bare_trace}
use Rattle.ti_report.specs.declared.packed_reply.Span.{Span}
use Rattle.ti_report.specs.declared.packed_reply.Got.{Got}
use Rattle.ti_report.specs.declared.packed_reply.Got.TheVariants.{Nothing, Done, State, Count, Trace, Location, Word, Caps, Stack, Refused}

abbrev pub spanned : List Frame → Span → List Frame
spanned frames span = take span.count (drop span.first frames)

-- the answer without the room of its buffer; these are all frames of the book
abbrev pub told_in : List Frame → Got → Option Answer
told_in frames Nothing = None
told_in frames Done = Some answer.Done
told_in frames (State bits) = Some (answer.State bits)
told_in frames (Count n) = Some (answer.Count n)
told_in frames (Trace span) = Some (answer.Trace (bare_trace (spanned frames span)))
told_in frames (Location frame) = Some (answer.Location frame)
told_in frames (Word word) = Some (answer.Word word)
told_in frames (Caps caps) = Some (answer.Caps caps)
told_in frames (Stack state span) = Some (answer.Stack state (bare_trace (spanned frames span)))
told_in frames (Refused error) = Some (answer.Refused error)
