use Rattle.std.proofs.Common.{◌≡◌, refl}
use Rattle.link_words.proofs.NameLemmas.{begins}
use Rattle.link_words.specs.declared.command_name.CommandName.TheVariants as name
use Rattle.link_daemon.proofs.StatusLemmas.{none_for_memory, one_command}
use Rattle.link_daemon.proofs.top.link_main.Goals as goal

-- words that name `live` begin with it
pub returns-in-Some-Live-clause-aside : goal.returns-in-Some-Live-clause-aside
returns-in-Some-Live-clause-aside g c not_live not_control = absurd (not_live (begins c.args.words.now name.Live (cc)))

pub returns-in-Some-Live-clause-soundless : goal.returns-in-Some-Live-clause-soundless
returns-in-Some-Live-clause-soundless g c not_live = absurd (not_live (begins c.args.words.now name.Live (cc)))

pub returns-in-Some-Live-clause-unwritten : goal.returns-in-Some-Live-clause-unwritten
returns-in-Some-Live-clause-unwritten g c not_live not_control = absurd (not_live (begins c.args.words.now name.Live (cc)))

pub returns-in-Some-Live-clause-load_reads_nothing : goal.returns-in-Some-Live-clause-load_reads_nothing
returns-in-Some-Live-clause-load_reads_nothing g c load =
    let same : name.Live ≡ name.Load = one_command c.args.words.now name.Live name.Load (cc) load in
    absurd (cc same)

-- `live` is given no talk
pub returns-in-Some-Live-clause-unbegun : goal.returns-in-Some-Live-clause-unbegun
returns-in-Some-Live-clause-unbegun g c memory none =
    let stay = c.live_main.ensures.unbegun memory none in
    (stay.0, stay.1, refl, stay.2)

-- words that name `control` begin with it
pub returns-in-Some-Control-clause-aside : goal.returns-in-Some-Control-clause-aside
returns-in-Some-Control-clause-aside g c not_live not_control = absurd (not_control (begins c.args.words.now name.Control (cc)))

pub returns-in-Some-Control-clause-untalked : goal.returns-in-Some-Control-clause-untalked
returns-in-Some-Control-clause-untalked g c not_control = absurd (not_control (begins c.args.words.now name.Control (cc)))

pub returns-in-Some-Control-clause-unwritten : goal.returns-in-Some-Control-clause-unwritten
returns-in-Some-Control-clause-unwritten g c not_live not_control =
    absurd (not_control (begins c.args.words.now name.Control (cc)))

pub returns-in-Some-Control-clause-load_reads_nothing : goal.returns-in-Some-Control-clause-load_reads_nothing
returns-in-Some-Control-clause-load_reads_nothing g c load =
    let same : name.Control ≡ name.Load = one_command c.args.words.now name.Control name.Load (cc) load in
    absurd (cc same)

-- `control` is given no device
pub returns-in-Some-Control-clause-unbegun : goal.returns-in-Some-Control-clause-unbegun
returns-in-Some-Control-clause-unbegun g c memory none =
    let stay = c.control_main.ensures.unbegun memory none in
    (stay.0, refl, stay.1, stay.2)

-- any other command writes nothing where memory is wanting
pub returns-in-Some-Replay-clause-unbegun : goal.returns-in-Some-Replay-clause-unbegun
returns-in-Some-Replay-clause-unbegun g c memory none = (refl, refl, refl, none_for_memory _ _ memory c.replay_main.ensures.unwritten)

pub returns-in-Some-Decode-clause-unbegun : goal.returns-in-Some-Decode-clause-unbegun
returns-in-Some-Decode-clause-unbegun g c memory none = (refl, refl, refl, none_for_memory _ _ memory c.decode_main.ensures.unwritten)

pub returns-in-Some-Filter-clause-unbegun : goal.returns-in-Some-Filter-clause-unbegun
returns-in-Some-Filter-clause-unbegun g c memory none = (refl, refl, refl, none_for_memory _ _ memory c.filter_main.ensures.unwritten)

pub returns-in-Some-Midi-clause-unbegun : goal.returns-in-Some-Midi-clause-unbegun
returns-in-Some-Midi-clause-unbegun g c memory none = (refl, refl, refl, none_for_memory _ _ memory c.midi_main.ensures.unwritten)

pub returns-in-Some-Load-clause-unbegun : goal.returns-in-Some-Load-clause-unbegun
returns-in-Some-Load-clause-unbegun g c memory none = (refl, refl, refl, none_for_memory _ _ memory c.load_main.ensures.unwritten)
