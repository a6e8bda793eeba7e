-- Where a place of a text is, as a reader counts: its line, and the number of the word in the line.
use Rattle.std.specs.Prelude.{ℕ, zero, suc, ◌+◌, ◌-◌, Bool, not, ◌&&◌, ◌||◌, List, ◌==◌, slice_index}
use Rattle.words.specs.Words.{pick}
use Rattle.book.specs.Text.{blank}

-- a word begins at place k
abbrev pub begins : List ℕ → ℕ → Bool
begins s k = not (blank (slice_index s k)) && (k == 0 || blank (slice_index s (k - 1)))

-- the line of place k, from 1 on: one more after each line end
abbrev pub line_at : List ℕ → ℕ → ℕ
line_at s zero = 1
line_at s (suc k) = line_at s k + pick (slice_index s k == 10) 1 0

-- the number that a word which begins at place k has in its line, from 1 on
abbrev pub word_at : List ℕ → ℕ → ℕ
word_at s zero = 1
word_at s (suc k) = pick (slice_index s k == 10) 1 (word_at s k + pick (begins s k) 1 0)
