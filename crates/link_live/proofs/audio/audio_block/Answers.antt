use Rattle.std.proofs.Common.{w64}
use Rattle.std.proofs.lemmas.Int.{to_z-of_z}
use Rattle.link_live.proofs.AskLemmas.{moment_fits}
use Rattle.link_live.proofs.AudioLemmas.{played_stored, mapped_push, failed_to_play, has_closed, has_failed}
use Rattle.link_live.proofs.audio.audio_block.Goals as goal

pub returns-in-Closed-clause-run : goal.returns-in-Closed-clause-run
returns-in-Closed-clause-run g c = λ first told playing. has_closed _ _ first _ told _ _ _ _ _ c.in-Closed.ensures.contents playing

pub returns-in-Failed-clause-run : goal.returns-in-Failed-clause-run
returns-in-Failed-clause-run g c = λ first told playing. has_failed _ _ first _ told _ _ _ _ _ c.in-Failed.ensures.contents playing

pub returns-in-Failed-play-clause-run : goal.returns-in-Failed-play-clause-run
returns-in-Failed-play-clause-run g c = λ first told playing.
    failed_to_play _ _ first _ _ told _ _ _ c.in-Block.block c.capture_audio-capture.result _ _ _ _ c.in-Block.ensures.answer c.in-Block.ensures.contents
    c.capture_audio-capture.ensures.read c.push_reserved.ensures.items c.in-Failed-play.ensures.contents playing

pub returns-clause-run : goal.returns-clause-run
returns-clause-run g c = λ first told playing.
    played_stored _ _ _ first _ _ _ told _ _ _ c.in-Block.block c.capture_audio-capture.result _ _ _ _ _ _ _
    (to_z-of_z w64 c.in-Block.block.start (moment_fits _ c.in-Block.ensures.answer.start))
    c.in-Block.ensures.answer c.in-Block.ensures.contents c.capture_audio-capture.ensures.read c.push_reserved.ensures.items
    c.clicks-clicks.ensures.clicks c.in-Done.ensures.contents (mapped_push _ _ _ _ c.push_reserved-2.ensures.items) c.commit_block.ensures.committed playing
