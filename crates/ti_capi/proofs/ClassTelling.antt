-- Lists that are written as far as there is room, with their lengths.
use Rattle.std.proofs.Common.{◌≡◌, ℕ, List, map, length, Result, Ok, Err, sym, ap, ◌∙◌}
use Rattle.std.proofs.Math.ListN.{length-map}
use Rattle.std.specs.Global.{Global}
use Rattle.std.specs.Prelude.{IfErr, IfOk, String, string_bytes}
use Rattle.ti_methods.specs.Errors.{number_of as class_number_of}
use Rattle.ti_methods.specs.declared.error.ClassError.{ClassError}
use Rattle.ti_methods.specs.declared.info.ClassInfo.{ClassInfo}
use Rattle.ti_service.specs.Classes.{SeesClasses, classes_of}
use Rattle.ti_service.specs.Memberships.{AgentValue}
use Rattle.ti_capi.specs.Classes.{ClassTold, ClassUntold, IsListWritten, ToldOf}
use Rattle.ti_capi.specs.Values.{over}

module _ {X : Type 0} (f : X → ℕ) (items : List X) (told l0 l1 : List ℕ) (n1 : ℕ) where
  -- numbers, of which it is told what they are
  pub numbers_written : l1 ≡ over (map f items) l0 → n1 ≡ length items → map f items ≡ told → IsListWritten told l0 l1 n1
  numbers_written written count is =
      record { items = written ∙ ap (λ (l : List ℕ). over l l0) is; count = count ∙ (sym (length-map items f) ∙ ap (λ (l : List ℕ). length l) is) }

-- a text, or why there is none
module _ (Q : List ClassInfo → List ℕ → Type 0) (W : List ClassInfo → ClassError → Type 0) (s n : AgentValue) (code : ℕ) (l0 l1 : List ℕ) (n0 n1 : ℕ) where
  pub text_told : (r : Result (String Global) ClassError) → SeesClasses s n → IfOk r (λ t. Q (classes_of n) (string_bytes t)) → IfErr r (λ e. W (classes_of n) e)
      → IfOk r (λ t. (code ≡ 0) × IsListWritten (string_bytes t) l0 l1 n1) → IfErr r (λ e. (code ≡ class_number_of e) × (l1 ≡ l0) × (n1 ≡ n0))
      → ToldOf (λ log. (text : List ℕ) × Q log text × IsListWritten text l0 l1 n1) W ((l1 ≡ l0) × (n1 ≡ n0)) s n code
  text_told (Ok t) sees told untold written unwritten = ClassTold written.0 sees (string_bytes t, told, written.1)
  text_told (Err e) sees told untold written unwritten = ClassUntold e unwritten.0 sees untold (unwritten.1, unwritten.2)
