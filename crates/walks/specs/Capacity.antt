-- How many bytes a buffer can hold: two forms of 4,096 bytes under one command, and a few more. Assumes nothing.
use Rattle.std.specs.Prelude.{ℕ}

abbrev pub capacity : ℕ
capacity = 8208
