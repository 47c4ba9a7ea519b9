-- How much a directory has memory for. Assumes nothing.
use Rattle.std.specs.Prelude.{ℕ, min, vec_capacity}
use Rattle.index.specs.Contents.{room as numbers}
use Rattle.settings.specs.declared.directory.Directory.{Directory}

-- how many houses: each takes a place among them, and a number in the index
abbrev pub room : Directory → ℕ
room d = min (vec_capacity d.houses) (numbers d.by_bic)
