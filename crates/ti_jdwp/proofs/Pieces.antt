-- Packets at the front of an input, and what becomes of both sides' bytes.
use Rattle.std.proofs.Common.{◌≡◌, ℕ, ◌+◌, ◌-◌, ◌≤◌, List, [], ◌∷◌, ◌++◌, length, take, drop, Result, refl, sym, ap, subst, ◌∙◌, append_assoc, append-nil, arith, length-append}
use Rattle.std.specs.List.{flat_map}
use Rattle.std.proofs.lemmas.List.{take-append-drop, length-take}
use Rattle.std.proofs.Math.Seq.{take-append-add}
use Rattle.ti_jdwp.specs.declared.front.First.{First}
use Rattle.ti_jdwp.specs.declared.packet.Head.TheVariants as head
use Rattle.ti_jdwp.specs.Fields.{int}
use Rattle.ti_jdwp.specs.Lines.{Bytes, with_reply, with_output, without_input, handshake}
use Rattle.ti_jdwp.specs.Packets.{request_head, BeginsWith, BeginsWithHead}
use Rattle.ti_jdwp.specs.SessionRuns.{Deed, Greets, Replies, Passes, Tells, reads, sends, IsDeed, IsRequest, AreDeeds}
use Rattle.ti_jdwp.proofs.Parts.{int_len}

head_len : (len id flags set command : ℕ) → length (request_head len id flags set command) ≡ 11
head_len len id flags set command =
    omega (arith, length-append (int len ++ int id) (flags ∷ set ∷ command ∷ []), length-append (int len) (int id), int_len len, int_len id)

-- a head that stands first in an input stands first in a front of it that has all of the head
head_taken : (n len id flags set command : ℕ) (input : List ℕ) → 11 ≤ n → BeginsWithHead input len id flags set command → BeginsWithHead (take n input) len id flags set command
head_taken n len id flags set command input some h =
    let front = request_head len id flags set command in
    let size : length front + (n - 11) ≡ n = omega (arith, head_len len id flags set command) in
    (take (n - 11) h.0, ap (take n) h.1 ∙ ap (λ k. take k (front ++ h.0)) (sym size) ∙ take-append-add front h.0 (n - 11))

-- and stands first when more comes
head_more : (len id flags set command : ℕ) (input more : List ℕ) → BeginsWithHead input len id flags set command → BeginsWithHead (input ++ more) len id flags set command
head_more len id flags set command input more h =
    (h.0 ++ more, ap (λ l. l ++ more) h.1 ∙ append_assoc (request_head len id flags set command) h.0 more)

taken_len : (n : ℕ) (input : List ℕ) → n ≤ length input → length (take n input) ≡ n
taken_len n input h = omega (arith, length-take n input, h)

-- the request that stands first in an input is there whole
pub record Stands (f : First) (input : List ℕ) : Type 0 where
  pub begins : BeginsWith input (head.Request f.id f.set f.command f.length)
  pub within : f.length ≤ length input
  pub some : 11 ≤ f.length

pub stands_more : (f : First) (input more : List ℕ) → Stands f input → Stands f (input ++ more)
stands_more f input more h =
    let b = h.begins in
    record {
      begins = (b.0, head_more f.length f.id b.0 f.set f.command input more b.1, b.2, b.3, b.4);
      within = omega (arith, length-append input more, h.within);
      some = h.some;
    }

pub packet_of : (f : First) (input : List ℕ) → Stands f input → IsRequest f.id (take f.length input)
packet_of f input h =
    let b = h.begins in (
      f.set,
      f.command,
      subst (λ n. BeginsWith (take f.length input) (head.Request f.id f.set f.command n)) (sym (taken_len f.length input h.within))
          (b.0, head_taken f.length f.length f.id b.0 f.set f.command input h.some b.1, b.2, b.3, b.4),
    )

pub reply_of : (n : ℕ) (input : List ℕ) → BeginsWith input (head.Reply n) → n ≤ length input → BeginsWith (take n input) (head.Reply (length (take n input)))
reply_of n input h within =
    subst (λ k. BeginsWith (take n input) (head.Reply k)) (sym (taken_len n input within))
    (h.0, h.1, h.2, h.3, head_taken n n h.0 h.1 h.2 h.3 input (h.5).0 h.4, h.5, h.6, h.7)

-- what deeds make of both sides' bytes, while these came and those were taken
pub record Goes-well (old new : Bytes) (more took : List ℕ) : Type 0 where
  pub deeds : List Deed
  pub are : AreDeeds deeds
  pub input : old.input ++ more ≡ flat_map reads deeds ++ new.input
  pub output : old.output ++ flat_map sends deeds ≡ took ++ new.output

-- nothing goes over the connection
pub quietly : (b : Bytes) → Goes-well b b [] []
quietly b = record { deeds = []; are = tt; input = append-nil b.input; output = append-nil b.output }

pub comes : (b : Bytes) (more : List ℕ) → Goes-well b (record b { input = b.input ++ more }) more []
comes b more = record { deeds = []; are = tt; input = refl; output = append-nil b.output }

pub goes_out : (b : Bytes) (n : ℕ) → Goes-well b (record b { output = drop n b.output }) [] (take n b.output)
goes_out b n = record { deeds = []; are = tt; input = append-nil b.input; output = append-nil b.output ∙ sym (take-append-drop n b.output) }

-- one deed is done
pub done : (old new : Bytes) (d : Deed) → IsDeed d → old.input ≡ reads d ++ new.input → new.output ≡ old.output ++ sends d → Goes-well old new [] []
done old new d is input output = record {
  deeds = d ∷ [];
  are = (is, tt);
  input = append-nil old.input ∙ input ∙ ap (λ l. l ++ new.input) (sym (append-nil (reads d)));
  output = ap (λ l. old.output ++ l) (append-nil (sends d)) ∙ sym output;
}

pub replies : (b : Bytes) (f : First) (a : Result (List ℕ) ℕ) → Stands f b.input → Goes-well b (with_reply b f.length f.id a) [] []
replies b f a h = done b (with_reply b f.length f.id a) (Replies f.id (take f.length b.input) a) (packet_of f b.input h) (sym (take-append-drop f.length b.input)) refl

pub passes : (b : Bytes) (n : ℕ) → BeginsWith b.input (head.Reply n) → n ≤ length b.input → Goes-well b (without_input b n) [] []
passes b n h within = done b (without_input b n) (Passes (take n b.input)) (reply_of n b.input h within) (sym (take-append-drop n b.input)) (sym (append-nil b.output))

pub tells : (b : Bytes) (id : ℕ) (body packet : List ℕ) → packet ≡ sends (Tells id body) → Goes-well b (with_output b packet) [] []
tells b id body packet is = done b (with_output b packet) (Tells id body) tt refl (ap (λ l. b.output ++ l) is)

pub greets : (b : Bytes) → take 14 b.input ≡ handshake → Goes-well b (with_output (without_input b 14) handshake) [] []
greets b is = done b (with_output (without_input b 14) handshake) Greets tt (sym (take-append-drop 14 b.input) ∙ ap (λ l. l ++ drop 14 b.input) is) refl

deeds_both : (ds es : List Deed) → AreDeeds ds → AreDeeds es → AreDeeds (ds ++ es)
deeds_both [] es h k = k
deeds_both (d ∷ ds) es h k = (h.0, deeds_both ds es h.1 k)

both : (f : Deed → List ℕ) (ds es : List Deed) → flat_map f (ds ++ es) ≡ flat_map f ds ++ flat_map f es
both f [] es = refl
both f (d ∷ ds) es = ap (λ l. f d ++ l) (both f ds es) ∙ sym (append_assoc (f d) (flat_map f ds) (flat_map f es))

-- one after the other
pub and_then : (a b c : Bytes) (more later took went : List ℕ) → Goes-well a b more took → Goes-well b c later went → Goes-well a c (more ++ later) (took ++ went)
and_then a b c more later took went g h = record {
  deeds = g.deeds ++ h.deeds;
  are = deeds_both g.deeds h.deeds g.are h.are;
  input =
      sym (append_assoc a.input more later) ∙ ap (λ l. l ++ later) g.input ∙ append_assoc (flat_map reads g.deeds) b.input later
      ∙ ap (λ l. flat_map reads g.deeds ++ l) h.input ∙ sym (append_assoc (flat_map reads g.deeds) (flat_map reads h.deeds) c.input)
      ∙ ap (λ l. l ++ c.input) (sym (both reads g.deeds h.deeds));
  output =
      ap (λ l. a.output ++ l) (both sends g.deeds h.deeds) ∙ sym (append_assoc a.output (flat_map sends g.deeds) (flat_map sends h.deeds))
      ∙ ap (λ l. l ++ flat_map sends h.deeds) g.output ∙ append_assoc took b.output (flat_map sends h.deeds)
      ∙ ap (λ l. took ++ l) h.output ∙ sym (append_assoc took went c.output);
}
