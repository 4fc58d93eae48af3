-- Whole packets that go to a debugger.
use Rattle.std.specs.Prelude.{ℕ, ◌+◌, List, [], ◌∷◌, ◌++◌, length, Result, Ok, Err}
use Rattle.std.specs.Borrow.{Bor}
use Rattle.std.specs.Int.{w16, to_be_bytes}
use Rattle.ti_jdwp.specs.declared.error.JdwpError.{JdwpError}
use Rattle.ti_jdwp.specs.declared.sending.Kind.{Kind}
use Rattle.ti_jdwp.specs.Errors.{number_of}
use Rattle.ti_jdwp.specs.Fields.{int}

abbrev pub kind_bytes : Kind → List ℕ
kind_bytes k = k.flags ∷ k.first ∷ k.second ∷ []

-- the length of the whole packet, the id, three bytes that tell its kind, and the body
abbrev pub packet : ℕ → List ℕ → List ℕ → List ℕ
packet id kind body = int (11 + length body) ++ int id ++ kind ++ body

-- a body, or the number of an error
abbrev pub answered : Result (Bor (List ℕ)) JdwpError → Result (List ℕ) ℕ
answered (Ok body) = Ok body.now
answered (Err e) = Err (number_of e)

-- flags of 128, and the error, which is 0 where there is none
abbrev pub reply_packet : ℕ → Result (List ℕ) ℕ → List ℕ
reply_packet id (Ok body) = packet id (128 ∷ to_be_bytes w16 0) body
reply_packet id (Err e) = packet id (128 ∷ to_be_bytes w16 e) []

-- the command Event.Composite, 64/100
abbrev pub event_packet : ℕ → List ℕ → List ℕ
event_packet id body = packet id (0 ∷ 64 ∷ 100 ∷ []) body
