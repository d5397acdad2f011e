-- The script of the example and what must come of it, byte for byte.
use Rattle.std.specs.Prelude.{ℕ, List, ◌++◌, replicate, codes}

abbrev pub script : List ℕ
script = codes "disk d0 64 8 16\nwrite d0 3 2 ab\nread d0 2 3\nsettle\n"

abbrev pub report : List ℕ
report = codes "done d0 0 write 0\ndone d0 1 read 0 *00 *ab *ab\nsettled\nend lines=4 accepted=2 done=2 pending=0 resets=0 frames=0 status=0\n"

-- 64 blocks of 512 bytes: zeros but for the blocks 3 and 4
abbrev pub image : List ℕ
image = replicate 1536 0 ++ (replicate 1024 171 ++ replicate 30208 0)
