use Rattle.std.proofs.Common.{◌≡◌, List, ℕ, ◌∷◌, [], ◌++◌, Option, codes, ap, sym, rules}
use Rattle.std.specs.Option.{option_map_or}
use Rattle.atoi_tool.specs.declared.request.Query.{Query}
use Rattle.atoi_tool.specs.Failures.{AppendsPrefix}
use Rattle.atoi_tool.specs.Answer.{query_text}
use Rattle.atoi_tool.specs.Output.{newline, line_output}
use Rattle.atoi_tool.proofs.lemmas.Appended.{AppendsPrefix-first, AppendsPrefix-then, AppendsUpTo-then}
use Rattle.atoi_tool.proofs.output.put_line.Goals as goal

abbrev output_if : Option (Query × List ℕ) → List ℕ
output_if row = option_map_or (λ row. query_text row.0 row.1) row (codes "bad row") ++ newline ∷ []

pub returns-in_err-put_query-in-Some-clause-output : goal.returns-in_err-put_query-in-Some-clause-output
returns-in_err-put_query-in-Some-clause-output g c =
    let text : line_output c.args.line.now ≡ query_text c.in-Some.query c.in-Some.text.now ++ newline ∷ [] =
    ap output_if (sym c.in-Some.ensures.row) in
    let refused : AppendsPrefix (g.S.Sink.contents c.args.output.now)
    (g.S.Sink.contents c.put_query.new.output) (c.args.block.now ++ line_output c.args.line.now) =
    rw text (AppendsPrefix-first _ (g.S.Sink.contents c.put_query.new.output)
    c.args.block.now (query_text c.in-Some.query c.in-Some.text.now) (newline ∷ [])
    c.in_err-put_query-in-Some.ensures.output) in
    search rules

pub returns-in_err-append-in-Some-clause-output : goal.returns-in_err-append-in-Some-clause-output
returns-in_err-append-in-Some-clause-output g c =
    let text : line_output c.args.line.now ≡ query_text c.in-Some.query c.in-Some.text.now ++ newline ∷ [] =
    ap output_if (sym c.in-Some.ensures.row) in
    let refused : AppendsPrefix (g.S.Sink.contents c.args.output.now)
    (g.S.Sink.contents c.append.new.output) (c.args.block.now ++ line_output c.args.line.now) =
    rw text (AppendsPrefix-then _ (g.S.Sink.contents c.put_query.new.output) (g.S.Sink.contents c.append.new.output) c.args.block.now
    (query_text c.in-Some.query c.in-Some.text.now) (newline ∷ []) c.put_query.new.block
    c.in_ok-put_query-in-Some.ensures.output c.in_err-append-in-Some.ensures.output) in
    search rules

pub returns-in_ok-append-in-Some-clause-output : goal.returns-in_ok-append-in-Some-clause-output
returns-in_ok-append-in-Some-clause-output g c =
    let text : line_output c.args.line.now ≡ query_text c.in-Some.query c.in-Some.text.now ++ newline ∷ [] =
    ap output_if (sym c.in-Some.ensures.row) in
    rw text (AppendsUpTo-then _ (g.S.Sink.contents c.put_query.new.output) (g.S.Sink.contents c.append.new.output) c.args.block.now
    (query_text c.in-Some.query c.in-Some.text.now) (newline ∷ []) c.put_query.new.block
    c.append.new.self c.in_ok-put_query-in-Some.ensures.output c.in_ok-append-in-Some.ensures.output)
