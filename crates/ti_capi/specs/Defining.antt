-- Classes that C defines: parts of a text and of a list of line entries.
use Rattle.std.specs.Prelude.{ℕ, ◌≡◌, ◌==◌, ◌+◌, ◌≤◌, ◌⊎◌, false, All, IsUtf8, List, Option, Some, None, drop, length, map, take}
use Rattle.std.specs.List.{AllZip}
use Rattle.std.specs.Option.{option_map}
use Rattle.std.specs.String.{string_bytes}
use Rattle.ti_types.specs.declared.error.TiError.{TiError}
use Rattle.ti_types.specs.declared.error.TiError.TheVariants.{IllegalArgument, OutOfMemory}
use Rattle.ti_methods.specs.declared.info.ClassInfo.{ClassInfo}
use Rattle.ti_methods.specs.declared.info.LineEntry.{LineEntry}
use Rattle.ti_methods.specs.declared.info.Lines.{Lines}
use Rattle.ti_methods.specs.declared.info.Lines.TheVariants.{Absent, Locations, Table}
use Rattle.ti_methods.specs.declared.info.MethodInfo.{MethodInfo}
use Rattle.ti_capi.specs.declared.class_values.CqClassRanges.{CqClassRanges}
use Rattle.ti_capi.specs.declared.class_values.CqLineEntry.{CqLineEntry}
use Rattle.ti_capi.specs.declared.class_values.CqMethodRanges.{CqMethodRanges}
use Rattle.ti_capi.specs.declared.class_values.CqRange.{CqRange}

abbrev pub line_read : CqLineEntry → LineEntry
line_read e = record { start_location = e.start_location; line = e.line_number }

abbrev pub line_written : LineEntry → CqLineEntry
line_written e = record { start_location = e.start_location; line_number = e.line }

-- a range lies within so many
abbrev pub IsWithin : ℕ → CqRange → Type 0
IsWithin n r = r.start + r.length ≤ n

abbrev pub ranged : {X : Type 0} → List X → CqRange → List X
ranged l r = take r.length (drop r.start l)

-- the part of this range
abbrev pub IsPart : {X : Type 0} → List X → CqRange → List X → Type 0
IsPart l r part = IsWithin (length l) r × (part ≡ ranged l r)

-- there is a text at this range
abbrev pub HasText : List ℕ → CqRange → Type 0
HasText text r = IsWithin (length text) r × IsUtf8 (ranged text r)

-- the name of a source file, which is none if it has no bytes
abbrev pub IsFile : List ℕ → CqRange → Option (List ℕ) → Type 0
IsFile text r None = r.length ≡ 0
IsFile text r (Some name) = ((r.length == 0) ≡ false) × IsPart text r name

abbrev pub HasFile : List ℕ → CqRange → Type 0
HasFile text r = (r.length ≡ 0) ⊎ HasText text r

abbrev pub IsTable : List CqLineEntry → CqRange → List LineEntry → Type 0
IsTable lines r table = IsWithin (length lines) r × (table ≡ map line_read (ranged lines r))

-- the lines of a method, by their kind. Only a table has a range
abbrev pub AreLines : List CqLineEntry → CqMethodRanges → Lines → Type 0
AreLines lines m Absent = (m.lines_kind ≡ 0) ⊎ (m.lines_kind ≡ 3)
AreLines lines m Locations = m.lines_kind ≡ 1
AreLines lines m (Table t) = (m.lines_kind ≡ 2) × IsTable lines m.lines t.items

abbrev pub HasLines : List CqLineEntry → CqMethodRanges → Type 0
HasLines lines m = (m.lines_kind ≤ 3) × (m.lines_kind ≡ 2 → IsWithin (length lines) m.lines)

pub record IsMethod (text : List ℕ) (lines : List CqLineEntry) (m : CqMethodRanges) (info : MethodInfo) : Type 0 where
  pub name : IsPart text m.name (string_bytes info.name)
  pub signature : IsPart text m.signature (string_bytes info.signature)
  pub first_line : info.first_line ≡ m.first_line
  pub lines_are : AreLines lines m info.lines
  pub is_native : info.is_native ≡ (m.lines_kind == 3)

pub record HasMethod (text : List ℕ) (lines : List CqLineEntry) (m : CqMethodRanges) : Type 0 where
  pub name : HasText text m.name
  pub signature : HasText text m.signature
  pub has_lines : HasLines lines m

-- each of them, in this order
abbrev pub AreMethods : List ℕ → List CqLineEntry → List CqMethodRanges → List MethodInfo → Type 0
AreMethods text lines methods infos = AllZip (IsMethod text lines) methods infos

abbrev pub HaveMethods : List ℕ → List CqLineEntry → List CqMethodRanges → Type 0
HaveMethods text lines methods = All (HasMethod text lines) methods

-- What C gives for a class
pub record Given : Type 0 where
  pub text : List ℕ
  pub class : CqClassRanges
  pub methods : List CqMethodRanges
  pub lines : List CqLineEntry

abbrev pub given : List ℕ → CqClassRanges → List CqMethodRanges → List CqLineEntry → Given
given text class methods lines = record { text = text; class = class; methods = methods; lines = lines }

-- the class that it describes
pub record IsClass (g : Given) (info : ClassInfo) : Type 0 where
  pub signature : IsPart g.text g.class.signature (string_bytes info.signature)
  pub source_file : IsFile g.text g.class.source_file (option_map (λ f. string_bytes f) info.source_file)
  pub methods : AreMethods g.text g.lines g.methods info.methods.items

-- it describes one: all ranges lie within, all texts are UTF-8, and there are such kinds of lines
pub record HasClass (g : Given) : Type 0 where
  pub signature : HasText g.text g.class.signature
  pub source_file : HasFile g.text g.class.source_file
  pub methods : HaveMethods g.text g.lines g.methods

-- why something is not read: it is not there, or there is no memory for it
abbrev pub Lacks : Type 0 → TiError → Type 0
Lacks IsThere e = ((e ≡ IllegalArgument) × (IsThere → ⊥)) ⊎ (e ≡ OutOfMemory)
