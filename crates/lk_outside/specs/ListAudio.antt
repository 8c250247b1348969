-- What callers see of an audio device in memory.
use Rattle.std.specs.Prelude.{◌≡◌, ℕ, ◌+◌, ◌-◌, ◌^◌, min, List, [], length, map, take, drop, Some}
use Rattle.lk_base.specs.declared.block.Block.{Block}
use Rattle.lk_base.specs.declared.block.Click.{Click}
use Rattle.arrayvec.specs.ArrayVec.{ArrayVec}
use Rattle.lk_outside.specs.Audio.{AudioContents, AudioSeen}
use Rattle.lk_outside.specs.declared.list_audio.ListAudio.{ListAudio}

-- the clicks of each play, as plain data
abbrev pub clicks_in : List (ArrayVec Click) → List (List Click)
clicks_in plays = map (λ clicks. clicks.items) plays

-- the blocks left
abbrev pub rest_of : ListAudio → List Block
rest_of audio = drop audio.taken audio.blocks.items

-- the blocks given
abbrev pub given_of : ListAudio → List Block
given_of audio = take audio.taken audio.blocks.items

-- the clicks of each play
abbrev pub plays_of : ListAudio → List (ArrayVec Click)
plays_of audio = audio.plays.items

-- all three as plain data
abbrev pub contents_of : ListAudio → AudioContents
contents_of audio = record {
  left = rest_of audio;
  given = given_of audio;
  plays = clicks_in (plays_of audio);
}

-- how many plays there is room for in all
abbrev pub room_of : ListAudio → ℕ
room_of audio = length audio.blocks.items

-- how many more plays there is room for
abbrev pub room_left_of : ListAudio → ℕ
room_left_of audio = room_of audio - length (contents_of audio).plays

-- the list of failing calls
abbrev pub failing_of : ListAudio → List (ℕ × ℕ)
failing_of audio = audio.failing.items

-- how often the device was called for its next block, up to the last value of the count's type
abbrev pub asks_of : ListAudio → ℕ
asks_of audio = audio.asks

-- the number of the next of those calls
abbrev pub next_ask_of : ListAudio → ℕ
next_ask_of audio = min (asks_of audio + 1) (2 ^ 64 - 1)

-- how many plays were tried, up to the last value of the count's type
abbrev pub tries_of : ListAudio → ℕ
tries_of audio = audio.tries

-- the number of the next of those calls
abbrev pub next_try_of : ListAudio → ℕ
next_try_of audio = min (tries_of audio + 1) (2 ^ 64 - 1)

-- how many calls failed, up to the last value of the count's type
abbrev pub faults_of : ListAudio → ℕ
faults_of audio = audio.faults

-- what is seen of it, as of a device that always tells
abbrev pub seen_of : ListAudio → AudioSeen
seen_of audio = record { told = Some (contents_of audio); faults = faults_of audio }

-- no call is to fail while there is room
abbrev pub IsQuietAudio : ListAudio → Type 0
IsQuietAudio audio = failing_of audio ≡ []
