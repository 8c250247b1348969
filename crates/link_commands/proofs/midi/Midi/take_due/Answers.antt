use Rattle.std.proofs.Common.{w64}
use Rattle.std.proofs.lemmas.Int.{to_z-of_z}
use Rattle.link_commands.proofs.MidiLemmas.{due_begun, due_more, due_fewer, due_all}
use Rattle.link_commands.proofs.midi.Midi.take_due.Goals as goal

pub loop-init : goal.loop-init
loop-init c m es on = due_begun _ _ _ _ c.args.text.now c.args.at.now _ m es on

pub take_next-requires : goal.take_next-requires
take_next-requires c =
    let has = c.loop.invariant c.requires.0 c.requires.1 c.requires.2 in
    (has.mid, has.rest, has.on)

pub loop-smaller : goal.loop-smaller
loop-smaller c =
    due_fewer _ _ _ _ _ _ _ _ c.args.text.now c.loop.at c.take_next.new.at _ c.requires.0 c.requires.1
    (c.loop.invariant c.requires.0 c.requires.1 c.requires.2) c.loop-test.ensures.taken

pub loop-preserved : goal.loop-preserved
loop-preserved c m es on =
    due_more _ _ _ _ _ _ _ _ c.args.text.now c.loop.at c.take_next.new.at _ m es (c.loop.invariant m es on) c.loop-test.ensures.taken

pub returns : goal.returns
returns c m es on =
    rw (to_z-of_z w64 c.args.time c.ranges.time) at
    (due_all _ _ _ _ _ _ _ _ c.args.text.now c.loop.at c.take_next.new.at _ m es (c.loop.invariant m es on) c.loop-test.ensures.none)
