-- The line of a location.
use Rattle.std.specs.Prelude.{nat_le, zero, suc}
use Rattle.std.proofs.Common.{◌≡◌, ℕ, ◌<◌, Bool, true, false, List, [], ◌∷◌, length, get_or, refl, ap, ◌∙◌, arith, cond}
use Rattle.std.specs.List.{AllWithin}
use Rattle.ti_methods.specs.declared.info.LineEntry.{LineEntry}
use Rattle.ti_monitor.specs.Lines.{line_after}

abbrev pub Reaches : ℕ → Bool → LineEntry → Type 0
Reaches location answer e = nat_le e.start_location location ≡ answer

-- an entry that begins behind the location, or does not
skips : (line : ℕ) (e : LineEntry) (entries : List LineEntry) (location : ℕ) → Reaches location false e → line_after line (e ∷ entries) location ≡ line_after line entries location
skips line e entries location h = ap (λ (b : Bool). line_after (cond b e.line line) entries location) h

takes : (line : ℕ) (e : LineEntry) (entries : List LineEntry) (location : ℕ) → Reaches location true e → line_after line (e ∷ entries) location ≡ line_after e.line entries location
takes line e entries location h = ap (λ (b : Bool). line_after (cond b e.line line) entries location) h

-- no entry reaches the location
pub line_before : (line : ℕ) (entries : List LineEntry) (location : ℕ) → AllWithin (Reaches location false) entries 0 (length entries) → line_after line entries location ≡ line
line_before line [] location none = refl
line_before line (e ∷ entries) location none =
    skips line e entries location (none 0 e (omega arith) (omega arith))
    ∙ line_before line entries location (λ k d low high. none (suc k) d (omega arith) (omega arith))

-- the entries up to a place reach it, and those from there on do not
pub line_found : (line : ℕ) (entries : List LineEntry) (location i : ℕ) (d : LineEntry) → i < length entries → AllWithin (Reaches location true) entries 0 (suc i) → AllWithin (Reaches location false) entries (suc i) (length entries)
    → line_after line entries location ≡ (get_or entries i d).line
line_found line [] location i d within all none = absurd (omega arith)
line_found line (e ∷ entries) location zero d within all none =
    takes line e entries location (all 0 e (omega arith) (omega arith))
    ∙ line_before e.line entries location (λ k x low high. none (suc k) x (omega arith) (omega arith))
line_found line (e ∷ entries) location (suc i) d within all none =
    takes line e entries location (all 0 e (omega arith) (omega arith))
    ∙ line_found e.line entries location i d (omega arith) (λ k x low high. all (suc k) x (omega arith) (omega arith)) (λ k x low high. none (suc k) x (omega arith) (omega arith))
