-- How long the text of a reading can get (document 01, "One reading, whole"), so that a buffer of a fixed size holds it.
-- Assumes nothing.
use Rattle.std.specs.Prelude.{◌≤◌, ℕ, length, List}
use Rattle.fields.specs.Number.{AreBytes}
use Rattle.replay.specs.Reading.{reading_text}

-- of every run of bytes, whatever they are
abbrev pub TextFits : Type 0
TextFits = (run : List ℕ) → AreBytes run → length (reading_text run) ≤ 262144
