-- A handle and its parts own what a box at the same types owns.
use mathlib.Core.List.{[]}
use mir.Syntax.{impl, tnil, dnil}
use denote.Signature.{Slot, plain}
use Rattle.std_alloc.proofs.BoxSteps.Form.{Bx}
use Rattle.std_heap.specs.contracts.Global as Heap
use Rattle.std_heap.specs.contracts.GlobalAllocator.TheImpl.{ghosts, dict}
use Rattle.std_heap.proofs.Global.TheLaws as heap
use Rattle.ti_capi.specs.contracts.held.Held as Core
use Rattle.ti_capi.proofs.held.Held.TheLaws as core
use Rattle.ti_capi.specs.contracts.parts.Parts as Parts
use Rattle.ti_capi.specs.contracts.held_at.HeldAt as CoreAt

abbrev pub E : Bx
E = record { row = Core.the_row; laws = core.the_row_laws; al = record { row = Heap.the_row; laws = heap.the_row_laws; g = ghosts; d = dict; drops = impl [] tnil dnil } }

abbrev pub FromParts : Slot 0
FromParts = plain (λ _. Parts.the_row Core.the_row Heap.the_row ghosts)

abbrev pub FromAt : Slot 0
FromAt = plain (λ _. CoreAt.the_row)

abbrev pub FromHeap : Slot 0
FromHeap = plain (λ _. Heap.the_row)
