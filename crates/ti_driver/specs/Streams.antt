-- What a reader gave and what a writer took, if that is known.
use Rattle.std.specs.Prelude.{◌≡◌, ◌≤◌, ◌<◌, ℕ, List, ◌++◌, Option, Result, IfSome, IfErr, OnOk}
use Rattle.std.specs.Io.KnownBytes.{Appends}
use Rattle.ti_script.specs.Texts.{Written}
use Rattle.ti_driver.specs.declared.fault.Fault.{Fault}
use Rattle.ti_driver.specs.declared.fault.Fault.TheVariants.{Write}

-- the bytes are all that the reader had
abbrev pub IsAllOf : Option (List ℕ) → List ℕ → Type 0
IsAllOf known bytes = IfSome known (λ xs. xs ≡ bytes)

-- the writer took a prefix of the text
pub record TakesFront (old new : Option (List ℕ)) (text : List ℕ) : Type 0 where
  pub front : List ℕ
  pub rest : List ℕ
  pub split : text ≡ front ++ rest
  pub taken : Appends old new front

-- the writer took what comes before the part that is left
pub record Sends (old new : Option (List ℕ)) (all left : List ℕ) : Type 0 where
  pub sent : List ℕ
  pub split : all ≡ sent ++ left
  pub taken : Appends old new sent

-- A text was put after one that waits, and the writer took their front. What is left waits, and is shorter than a chunk. Or
-- the writer failed, and took a prefix of both.
pub record Puts {T : Type 0} (result : Result T Fault) (old new : Option (List ℕ)) (waited waits : Written) (text : List ℕ) : Type 0 where
  pub ok : OnOk result (Sends old new (waited.bytes ++ text) waits.bytes)
  pub short : OnOk result (waits.len < 65536)
  pub room : waited.room ≤ waits.room
  pub err : IfErr result (λ e. e ≡ Write)
  pub front : TakesFront old new (waited.bytes ++ text)
