-- How much memory the copies go through.
use Rattle.std.specs.Prelude.{ℕ, ◌*◌}

-- four pages of 8,192 bytes
abbrev pub memory_long : ℕ
memory_long = 4 * 8192
