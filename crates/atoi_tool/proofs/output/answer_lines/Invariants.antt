use Rattle.std.proofs.Common.{◌≡◌, length, ◌++◌, ◌&&◌}
use Rattle.atoi_tool.specs.Output.{output_of, is_good_input}
use Rattle.atoi_tool.specs.Failures.{AppendsUpTo}
use Rattle.atoi_tool.proofs.output.answer_lines.Given as goal

abbrev pub invariant-loop-rest : goal.invariant-loop-rest
invariant-loop-rest g l = record {
  put : AppendsUpTo (g.S.Sink.contents l.fn.output) (g.S.Sink.contents l.output) (output_of l.fn.input) (l.block ++ output_of l.rest);
  good : is_good_input l.fn.input ≡ (l.all_good && is_good_input l.rest);
  failures : g.S.Sink.failures l.output ≡ g.S.Sink.failures l.fn.output;
}

abbrev pub decreases-loop-rest : goal.decreases-loop-rest
decreases-loop-rest g l = length l.rest
