-- What contracts see of a `FromReader`.
use Rattle.std.specs.Prelude.{ℕ}
use Rattle.atoi_tool.specs.declared.source.FromReader.{FromReader}

-- The reader that `source.into_inner()` returns.
abbrev pub from_reader_inner : {R : Type 0} → FromReader R → R
from_reader_inner source = source.inner

-- How many calls of `take` were refused so far.
abbrev pub from_reader_failures : {R : Type 0} → FromReader R → ℕ
from_reader_failures source = source.failures
