use Rattle.std.proofs.Common.{◌-◌, ◌≡◌, ◌∙◌, get_or, arith, ap}
use Rattle.std.proofs.lemmas.List.{get_or-map}
use Rattle.ti_pprof.specs.Profile.{location_of, node_location}
use Rattle.ti_pprof.specs.declared.stacks.Node.{Node}
use Rattle.ti_pprof.proofs.FrameLaws.{locations-step, locations-end}
use Rattle.ti_pprof.proofs.places.Places.write_locations_of_frames.Goals as goal

pub loop-number-preserved : goal.loop-number-preserved
loop-number-preserved c =
    let d : Node = record { rest = 0; frame = record { function = 0; line = 0 } } in
    let self = c.args.self.now in
    let nodes = self.nodes.now in
    let number = c.loop-number.number in
    let below = self.earlier (number - 1) d (omega arith) in
    let e = c.index.result.now in
    let id : get_or self.ids.items (number - 1) e ≡ location_of self.frames.keys (get_or nodes (number - 1) d).frame =
    ap (λ ids. get_or ids (number - 1) e) self.each ∙ get_or-map (node_location self.frames.keys) nodes (number - 1) d e (omega arith) in
    record {
      there = omega arith;
      rest = locations-step self.frames.keys nodes c.loop-number.ids.items c.push.new.self.items _ number _ d self.earlier (omega arith) c.loop-number.invariant.there
          c.in_ok-push.ensures.items (c.index.ensures ∙ id) c.loop-number.invariant.rest;
    }

pub returns : goal.returns
returns c = locations-end c.args.self.now.frames.keys c.args.self.now.nodes.now c.loop-number.ids.items _ c.loop-number.number (omega arith) c.loop-number.invariant.rest
