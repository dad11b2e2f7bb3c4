-- What contracts see of a `ToWriter`.
use Rattle.std.specs.Prelude.{ℕ}
use Rattle.atoi_tool.specs.declared.sink.ToWriter.{ToWriter}

-- The writer that `sink.into_inner()` returns.
abbrev pub to_writer_inner : {W : Type 0} → ToWriter W → W
to_writer_inner sink = sink.inner

-- How many calls of `put` were refused so far.
abbrev pub to_writer_failures : {W : Type 0} → ToWriter W → ℕ
to_writer_failures sink = sink.failures
