-- Lengths that the lines of a live run do not exceed.
use Rattle.std.proofs.Common.{◌≡◌, ℕ, ◌+◌, ◌*◌, ◌≤◌, List, [], ◌∷◌, ◌++◌, length, arith, codes, decimal, Option, None, Some, length-append, ap, ◌∙◌}
use Rattle.std.specs.Prelude.{IfSome}
use Rattle.std.proofs.lemmas.List.Sums.{sum_by-append}
use Rattle.ti_live.specs.declared.reply.Reply.{Reply}
use Rattle.ti_live.specs.declared.reply.Reply.TheVariants.{Plain, Codes, Stacks}
use Rattle.ti_types.specs.declared.stack.StackInfo.{StackInfo}
use Rattle.ti_script.specs.Texts.{bits_text, frames_text}
use Rattle.ti_script.specs.LiveTexts.{name_text, numbered_text, info_text, infos_text, codes_text, reply_text}
use Rattle.ti_script.specs.Bounds.{AreNamesWithin}
use Rattle.ti_script.specs.LiveBounds.{frames_listed, frames_replied, parts_replied, AreRepliesWithin, AreRefusalsWithin, AreVerdictsWithin}
use Rattle.ti_script.proofs.BoundLaws.{number_within, frames_within, answer_within}

times_sum : (a b c : ℕ) → (a + b) * c ≡ a * c + b * c
times_sum a b c = grind arith

info_within : (threads methods : List (List ℕ)) (name method : ℕ) (info : StackInfo) → AreNamesWithin name threads → AreNamesWithin method methods
    → length (info_text threads methods info) ≤ name + length info.frames.frames * (method + 66) + 67
info_within threads methods name method info t m =
    let bits = number_within 16 info.state in
    let frames = frames_within methods method info.frames.frames m in
    let first = name_text threads info.thread.0 in
    let rest = bits_text info.state ++ frames_text methods info.frames.frames in
    omega (arith, bits, frames, t info.thread.0, length-append first (codes " " ++ rest), length-append (bits_text info.state) (frames_text methods info.frames.frames))

infos_within : (threads methods : List (List ℕ)) (name method : ℕ) (infos : List StackInfo) → AreNamesWithin name threads → AreNamesWithin method methods
    → length (infos_text threads methods infos) ≤ frames_listed infos * (method + 66) + length infos * (name + 128)
infos_within threads methods name method [] t m = omega arith
infos_within threads methods name method (info ∷ infos) t m =
    let one = info_text threads methods info in
    let rest = infos_text threads methods infos in
    let text : length (infos_text threads methods (info ∷ infos)) ≡ 3 + (length one + length rest) = omega (arith, length-append one rest) in
    let all : frames_listed (info ∷ infos) ≡ length info.frames.frames + frames_listed infos =
    sum_by-append (λ (x : StackInfo). length x.frames.frames) (info ∷ []) infos ∙ grind arith in
    let frames = ap (λ k. k * (method + 66)) all ∙ times_sum (length info.frames.frames) (frames_listed infos) (method + 66) in
    let parts = times_sum 1 (length infos) (name + 128) in
    omega (arith, text, frames, parts, info_within threads methods name method info t m, infos_within threads methods name method infos t m)

codes_within : (name : ℕ) (numbers : List ℕ) → length (codes_text numbers) ≤ length numbers * (name + 128)
codes_within name [] = omega arith
codes_within name (n ∷ numbers) =
    let one = number_within 10 n in
    omega (arith, one, length-append (codes " " ++ decimal n) (codes_text numbers), codes_within name numbers)

reply_within : (threads methods : List (List ℕ)) (name method : ℕ) (reply : Reply) → AreNamesWithin name threads → AreNamesWithin method methods
    → length (reply_text threads methods reply) ≤ frames_replied reply * (method + 66) + parts_replied reply * (name + 128) + 160
reply_within threads methods name method (Plain answer) t m = let a = answer_within methods method answer m in omega (arith, a)
reply_within threads methods name method (Codes numbers) t m = let c = codes_within name numbers in omega (arith, c)
reply_within threads methods name method (Stacks infos) t m = let i = infos_within threads methods name method infos t m in omega (arith, i)

numbered_within : (text : List ℕ) (number most : ℕ) → length text ≤ most → length (numbered_text text number) ≤ most + 65
numbered_within text number most h = let n = number_within 10 number in omega (arith, n, h, length-append text (codes " " ++ decimal number))

-- the line of a reply
pub line_of_reply : (name method : ℕ) (reply : Reply) (most : ℕ) → most ≡ frames_replied reply * (method + 66) + ((parts_replied reply + 1) * (name + 128) + 128) → AreRepliesWithin name method reply most
line_of_reply name method reply most is threads methods agent number t m a =
    let text = reply_text threads methods reply in
    omega (arith, is, length-append (numbered_text agent number) (codes " " ++ (text ++ codes "\n")), length-append text (codes "\n"), numbered_within agent number name a, reply_within threads methods name method reply t m)

pub refusals_within : (name most : ℕ) → most ≡ name + 256 → AreRefusalsWithin name most
refusals_within name most is thread refusal t =
    let number = number_within 10 refusal.error in
    omega (arith, is, number, length-append (numbered_text thread refusal.operation) (codes " error " ++ (decimal refusal.error ++ codes "\n")), length-append (decimal refusal.error) (codes "\n"), numbered_within thread refusal.operation name t)

pub verdicts_within : (name most : ℕ) → most ≡ name + 256 → AreVerdictsWithin name most
verdicts_within name most is thread None t = omega (arith, is, t, length-append thread (codes " legal\n"))
verdicts_within name most is thread (Some at) t =
    let number = number_within 10 at in
    omega (arith, is, t, number, length-append thread (codes " illegal " ++ (decimal at ++ codes "\n")), length-append (decimal at) (codes "\n"))

-- what is known of a number that is there
pub some_is : {X : Type 0} (r : Option X) {P Q : X → Type 0} → IfSome r P → ((x : X) → P x → Q x) → IfSome r Q
some_is None h k = tt
some_is (Some x) h k = k x h
