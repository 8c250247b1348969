-- Only for proofs: what each kind of step tells: the seat's new view, and what it learned.
use Rattle.std.specs.Prelude.{◌≡◌, ◌≢◌, ℕ, ◌^◌, ◌<◌, ◌≤◌}
use Rattle.atomic_table.specs.Table.{Me, Step}
use Rattle.audio_handoff.specs.Cell.{Grows}
use Rattle.triple_buffer.specs.Word.{number_in, fresh_in, back_in}
use Rattle.triple_buffer.specs.Views.{writer_in, reader_in, after_store, after_show, after_new_look, after_old_look, after_turn, after_load, after_last_load, reader_stepped}
use Rattle.triple_buffer.specs.Rule.{AllAtMost}
use Rattle.triple_buffer.specs.declared.views.View.{View}
use Rattle.triple_buffer.specs.declared.views.View.TheVariants.{Writes, Reads}

-- what a seat knows and holds; here no seat holds anything
abbrev pub Sat : Type 0
Sat = Me (Unit {0}) View

abbrev pub Stored : Step (Unit {0}) → Sat → ℕ → Sat → Type 0
Stored step before word after = (after.0 ≡ Writes (after_store (writer_in before.0) word)) × (after.1 ≡ before.1)

abbrev pub Shown : Step (Unit {0}) → Sat → ℕ → Sat → Type 0
Shown step before found after = (after.0 ≡ Writes (after_show (writer_in before.0) found)) × (after.1 ≡ before.1) × (back_in found < 3)

abbrev pub Looked : Step (Unit {0}) → Sat → ℕ → Sat → Type 0
Looked step before found after =
    (after.1 ≡ before.1)
    × (fresh_in found ≡ 1 → (after.0 ≡ Reads (after_new_look (reader_in before.0) found)) × ((reader_in before.0).number ≤ number_in found) × ((reader_in before.0).told ≤ number_in found))
    × (fresh_in found ≢ 1 → (after.0 ≡ Reads (after_old_look (reader_in before.0))) × ((reader_in before.0).told ≤ (reader_in before.0).number))

abbrev pub Turned : Step (Unit {0}) → Sat → ℕ → Sat → Type 0
Turned step before found after =
    (after.0 ≡ Reads (after_turn (reader_in before.0) found))
    × (after.1 ≡ before.1)
    × (back_in found < 3)
    × (number_in found < 2 ^ 60)
    × ((reader_in before.0).number ≤ number_in found)
    × ((reader_in before.0).told ≤ number_in found)
    × AllAtMost (reader_in before.0).looks (number_in found)

abbrev pub Loaded : Step (Unit {0}) → Sat → ℕ → Sat → Type 0
Loaded step before word after = (after.0 ≡ Reads (after_load (reader_in before.0) word)) × (after.1 ≡ before.1)

abbrev pub Finished : Step (Unit {0}) → Sat → ℕ → Sat → Type 0
Finished step before word after = (after.0 ≡ Reads (after_last_load (reader_in before.0) word)) × (after.1 ≡ before.1)

abbrev pub Checked : Step (Unit {0}) → Sat → ℕ → Sat → Type 0
Checked step before found after =
    (after.0 ≡ Reads (reader_stepped (reader_in before.0)))
    × (after.1 ≡ before.1)
    × Grows (reader_in before.0).heard (reader_in before.0).seen
