use base.Shift.{Keyless}
use mir.Raw.{raw}
use denote.Memory.{lone}
use denote.RawPtr.{Ptr}
use denote.Struct.Struct.{exits_of}
use denote.Struct.Owning.{shape, fields, to}
use denote.Param.Send.{IsSend, AllSend, owning_send, struct_send, sendable}
use Rattle.std.proofs.Common.{Option, Some, None}
use Rattle.std.proofs.Crossing as heap
use Rattle.std.specs.Global.{Global}
use Rattle.std_alloc.proofs.SendSync.{quiet, lies}
use Rattle.std_heap.proofs.Global.TheSendSync as handle
use Rattle.ti_capi.specs.contracts.held.Held as Held
use Rattle.ti_capi.proofs.held.Held.TheSendSync.{the_send as send_inside}
use Rattle.ti_capi.specs.Owning.{held_owns}
use Rattle.ti_capi.specs.contracts.held_at.HeldAt.{the_row, the_type}

crosses : (alloc : Global) (p : Ptr) (o : Option Held.the_row.Denot) → Keyless (held_owns alloc p o)
crosses alloc p None = tt
crosses alloc p (Some x) = (lies Held.the_row send_inside p x, heap.frees.frees alloc (raw (lone Held.the_row.mir)) p)

pub send : IsSend the_row
send =
    let all : AllSend (fields the_type) = (search sendable, (handle.the_field_send, tt)) in
    owning_send the_type all (λ d. crosses d.alloc d.at d.held)
    (λ k. quiet (to the_type) (exits_of k (fields the_type)) ((struct_send (shape the_type) all).leaving k))
