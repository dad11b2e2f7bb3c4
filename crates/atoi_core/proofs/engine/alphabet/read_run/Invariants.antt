-- All bytes read so far are digits that spell `number`.
use Rattle.std.proofs.Common.{◌≡◌, ◌<◌, ◌+◌, ◌^◌, take, drop}
use Rattle.atoi_core.specs.Run.{run_len, value}
use Rattle.atoi_core.proofs.engine.alphabet.read_run.Given as goal

abbrev pub invariant-loop-len : goal.invariant-loop-len
invariant-loop-len g l = record {
  digits : l.len + run_len g.A.Alphabet.table (drop l.len l.s) ≡ run_len g.A.Alphabet.table l.s;
  number : l.number ≡ value g.A.Alphabet.table (take l.len l.s);
  small : l.number < 10 ^ l.len;
}
