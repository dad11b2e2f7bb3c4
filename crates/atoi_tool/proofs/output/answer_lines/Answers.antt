use Rattle.std.proofs.Common.{◌≡◌, ◌++◌, ◌&&◌, ap, arith}
use Rattle.std.specs.List.{flat_map, list_all}
use Rattle.std.proofs.Math.Bool.{and_assoc}
use Rattle.std.proofs.lemmas.Grind.{common_steps}
use Rattle.atoi_tool.specs.Answer.{is_good_line}
use Rattle.atoi_tool.specs.Output.{line_output, output_of, is_good_input}
use Rattle.atoi_tool.proofs.lemmas.Appended.{AppendsUpTo-next, AppendsPrefix-next, AppendsPrefix-rest, AppendsPrefix-more}
use Rattle.atoi_tool.proofs.output.answer_lines.Goals as goal

pub returns-in-Err-clause-output : goal.returns-in-Err-clause-output
returns-in-Err-clause-output g c =
    let first : output_of c.loop-rest.rest.now ≡ line_output c.first_line.result.0.now ++ output_of c.first_line.result.1.now =
    ap (flat_map line_output) c.first_line.ensures.lines in
    AppendsPrefix-next _ (g.S.Sink.contents c.loop-rest.output) _ (output_of c.args.input.now) c.loop-rest.block
    (line_output c.first_line.result.0.now) (output_of c.first_line.result.1.now)
    (rw first at c.loop-rest.invariant.put) c.in-Err.ensures.output

pub loop-rest-preserved : goal.loop-rest-preserved
loop-rest-preserved g c =
    let first : output_of c.loop-rest.rest.now ≡ line_output c.first_line.result.0.now ++ output_of c.first_line.result.1.now =
    ap (flat_map line_output) c.first_line.ensures.lines in
    let good : is_good_input c.loop-rest.rest.now ≡ (is_good_line c.first_line.result.0.now && is_good_input c.first_line.result.1.now) =
    ap (list_all is_good_line) c.first_line.ensures.lines in
    record {
      put = AppendsUpTo-next _ (g.S.Sink.contents c.loop-rest.output) _ (output_of c.args.input.now) c.loop-rest.block
          (line_output c.first_line.result.0.now) (output_of c.first_line.result.1.now) _
          (rw first at c.loop-rest.invariant.put) c.in-Ok.ensures.output;
      good = let both = and_assoc c.loop-rest.all_good c.in-Ok.is_good (is_good_input c.first_line.result.1.now) in
          cc (c.in-Ok.ensures.good);
      failures = grind (arith, common_steps);
    }

pub returns-in-Err-put_all-clause-output : goal.returns-in-Err-put_all-clause-output
returns-in-Err-put_all-clause-output g c =
    AppendsPrefix-rest _ (g.S.Sink.contents c.loop-rest.output) _
    (output_of c.args.input.now) (c.loop-rest.block ++ output_of c.loop-rest.rest.now)
    c.loop-rest.invariant.put
    (AppendsPrefix-more _ _ c.loop-rest.block (output_of c.loop-rest.rest.now) (rw c.as_bytes.ensures at c.in-Err-put_all.ensures.output))
