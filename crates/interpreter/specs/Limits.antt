-- How long a line, a reply buffer, the bytes kept and the text of a line may be (ours: docs/REPLAY.md).
use Rattle.std.specs.Prelude.{ℕ}

-- (ours) the longest line. It lists no more bytes than it is long (`bytes_few`, script/proofs/Readings.antt).
abbrev pub longest : ℕ
longest = 4096

-- (ours) the longest reply buffer that a line may ask for
abbrev pub most_lent : ℕ
most_lent = 1024

-- (ours) the longest reply area that a block may ask for
abbrev pub most_area : ℕ
most_area = 8192

-- (ours) the most bytes that are kept for a long call
abbrev pub most_kept : ℕ
most_kept = 32768

-- (ours) the most bytes that the text of a line has: 151 for each byte of a `byte` line (`line_fits`, interpreter/proofs/LineSizes.antt)
abbrev pub most_text : ℕ
most_text = 618496
