use Rattle.std.proofs.Common.{◌∙◌, ◌++◌, ap}
use Rattle.ti_pprof.specs.declared.stacks.Trie.{Trie}
use Rattle.ti_pprof.specs.Profile.{frames_of, profile_over}
use Rattle.ti_pprof.specs.Samples.{samples_of}
use Rattle.ti_pprof.specs.Strings.{strings_in}
use Rattle.ti_pprof.proofs.profile.encode.Goals as goal

pub returns : goal.returns
returns c =
    let about = c.args.about.now in
    let names = c.args.names.now in
    let counts = c.args.counts.now in
    let samples = samples_of counts.trie counts.table in
    let parts = profile_over (strings_in c.in_ok-texts.texts) c.in_ok-places.places.frames.keys about names samples counts.no_room in
    let same_frames = c.in_ok-places.ensures.frames ∙ ap frames_of (c.nodes.ensures.nodes ∙ ap (λ (t : Trie). t.nodes.keys) c.trie.ensures.trie) in
    c.in_ok-push_parts.ensures ∙ ap (λ o. o ++ parts) c.new-out.ensures.items
    ∙ (λ j. profile_over (c.in_ok-texts.ensures j) (same_frames j) about names samples counts.no_room)
