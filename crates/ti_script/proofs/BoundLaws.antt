-- Lengths that texts do not exceed.
use Rattle.std.proofs.Common.{ℕ, zero, suc, ◌+◌, ◌*◌, ◌/◌, ◌%◌, ◌==◌, ◌≤◌, List, [], ◌∷◌, ◌++◌, length, Bool, true, false, cond, arith, codes, decimal, Option, None, Some, slice_get, unwrap_or, length-append}
use Rattle.std.specs.Fmt.{digits, digits_onto, digit_glyph}
use Rattle.ti_types.specs.declared.place.Place.{Place}
use Rattle.ti_types.specs.declared.place.Place.TheVariants.{Java, Native}
use Rattle.ti_types.specs.declared.place.Frame.{Frame}
use Rattle.ti_types.specs.declared.caps.Caps.{Caps}
use Rattle.ti_types.specs.Caps.{has_all}
use Rattle.ti_types.specs.declared.answer.Answer.{Answer}
use Rattle.ti_types.specs.declared.answer.Answer.TheVariants as answer
use Rattle.ti_types.specs.declared.event.Outcome.{Outcome}
use Rattle.ti_types.specs.declared.event.Outcome.TheVariants as outcome
use Rattle.ti_types.specs.declared.error.TiError.{TiError}
use Rattle.ti_types.specs.TiError.{number_of}
use Rattle.ti_script.specs.Texts.{place_text, frame_text, frames_text, held_text, caps_text, bits_text, error_text, answer_text, outcome_text, line_text}
use Rattle.ti_script.specs.Bounds.{AreNamesWithin, frames_told, frames_in_line}

either_within : (b : Bool) (xs ys : List ℕ) (m : ℕ) → length xs ≤ m → length ys ≤ m → length (cond b xs ys) ≤ m
either_within true xs ys m p q = p
either_within false xs ys m p q = q

digits_within : (k base n : ℕ) (acc : List ℕ) → length (digits_onto k base false n acc) ≤ k + length acc
digits_within zero base n acc = omega arith
digits_within (suc k) base n acc =
    let glyph = digit_glyph false (n % base) in
    let more = digits_within k base (n / base) (glyph ∷ acc) in
    either_within (n / base == 0) (glyph ∷ acc) (digits_onto k base false (n / base) (glyph ∷ acc)) (suc k + length acc) (omega arith) (omega (arith, more))

-- a number has at most 64 digits, whatever it is
pub number_within : (base n : ℕ) → length (digits base false n) ≤ 64
unfolding digits
number_within base n = let all = digits_within 64 base n [] in omega (arith, all)

place_within : (place : Place) → length (place_text place) ≤ 64
place_within (Java place) = number_within 10 place
place_within Native = omega arith

frame_within : (methods : List (List ℕ)) (longest : ℕ) (frame : Frame) → AreNamesWithin longest methods → length (frame_text methods frame) ≤ longest + 65
frame_within methods longest frame names =
    let name = unwrap_or (slice_get methods frame.method.0) [] in
    let place = place_text frame.place in
    omega (arith, length-append name (codes "@" ++ place), names frame.method.0, place_within frame.place)

pub frames_within : (methods : List (List ℕ)) (longest : ℕ) (frames : List Frame) → AreNamesWithin longest methods → length (frames_text methods frames) ≤ length frames * (longest + 66)
frames_within methods longest [] names = omega arith
frames_within methods longest (frame ∷ frames) names =
    let text = frame_text methods frame in
    let rest = frames_text methods frames in
    omega (arith, length-append (codes " " ++ text) rest, frame_within methods longest frame names, frames_within methods longest frames names)

held_within : (held : Caps) (bit : ℕ) (name : List ℕ) → length (held_text held bit name) ≤ 1 + length name
unfolding held_text
held_within held bit name = either_within (has_all held (record { bits = bit })) (codes " " ++ name) [] (1 + length name) (omega arith) (omega arith)

caps_within : (held : Caps) → length (caps_text held) ≤ 64
caps_within held =
    let first = held_text held 1 (codes "can_suspend") in
    let second = held_text held 2 (codes "can_pop_frame") in
    let third = held_text held 4 (codes "can_tag_objects") in
    omega (arith, held_within held 1 (codes "can_suspend"), held_within held 2 (codes "can_pop_frame"), held_within held 4 (codes "can_tag_objects"), length-append first (second ++ third), length-append second third)

error_within : (e : TiError) → length (error_text e) ≤ 160
error_within e = let number = number_within 10 (number_of e) in omega (arith, number)

pub answer_within : (methods : List (List ℕ)) (longest : ℕ) (a : Answer) → AreNamesWithin longest methods → length (answer_text methods a) ≤ frames_told a * (longest + 66) + 160
answer_within methods longest answer.Done names = omega arith
answer_within methods longest (answer.State bits) names = let number = number_within 16 bits in omega (arith, number)
answer_within methods longest (answer.Count n) names = let number = number_within 10 n in omega (arith, number)
answer_within methods longest (answer.Trace trace) names = let frames = frames_within methods longest trace.frames names in omega (arith, frames)
answer_within methods longest (answer.Location frame) names = let text = frame_within methods longest frame names in omega (arith, text)
answer_within methods longest (answer.Word word) names = let number = number_within 10 word in omega (arith, number)
answer_within methods longest (answer.Caps held) names = let caps = caps_within held in omega (arith, caps)
answer_within methods longest (answer.Stack bits trace) names =
    let frames = frames_within methods longest trace.frames names in
    let number = number_within 16 bits in
    omega (arith, frames, number, length-append (bits_text bits) (frames_text methods trace.frames))
answer_within methods longest (answer.Refused e) names = let text = error_within e in omega (arith, text)

outcome_within : (methods : List (List ℕ)) (longest : ℕ) (o : Option Outcome) → AreNamesWithin longest methods → length (outcome_text methods o) ≤ frames_in_line o * (longest + 66) + 160
outcome_within methods longest None names = omega arith
outcome_within methods longest (Some outcome.Done) names = omega arith
outcome_within methods longest (Some outcome.Clear) names = omega arith
outcome_within methods longest (Some outcome.Went) names = omega arith
outcome_within methods longest (Some outcome.Held) names = omega arith
outcome_within methods longest (Some (outcome.Refused e)) names = let text = error_within e in omega (arith, text)
outcome_within methods longest (Some (outcome.Gave a)) names = answer_within methods longest a names
outcome_within methods longest (Some (outcome.Posted ticket)) names = omega arith

pub line_within : (methods : List (List ℕ)) (index longest : ℕ) (o : Option Outcome) → AreNamesWithin longest methods → length (line_text methods index o) ≤ frames_in_line o * (longest + 66) + 256
line_within methods index longest o names =
    let number = number_within 10 index in
    let text = outcome_text methods o in
    omega (arith, number, length-append (decimal index) (codes " " ++ (text ++ codes "\n")), length-append text (codes "\n"), outcome_within methods longest o names)
