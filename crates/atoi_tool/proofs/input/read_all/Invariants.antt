use Rattle.std.proofs.Common.{◌≡◌, ◌-◌, ◌^◌, vec_len}
use Rattle.std.specs.Io.KnownBytes.{Consumes}
use Rattle.atoi_tool.proofs.input.read_all.Given as goal

abbrev pub invariant-loop-len : goal.invariant-loop-len
invariant-loop-len g l = record {
  taken : Consumes (g.S.Source.rest l.fn.input) (g.S.Source.rest l.input) l.bytes.items;
  failures : g.S.Source.failures l.input ≡ g.S.Source.failures l.fn.input;
}

abbrev pub decreases-loop-len : goal.decreases-loop-len
decreases-loop-len g l = 2 ^ 64 - vec_len l.bytes
