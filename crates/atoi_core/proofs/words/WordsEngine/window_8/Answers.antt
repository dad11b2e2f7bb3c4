-- The window of the word is the window of its bytes.
use Rattle.std.proofs.Common.{◌≡◌, ◌==◌, if◌then◌else◌, arith, rules}
use Rattle.std.proofs.lemmas.Bool.Decides.{nat_tests}
use Rattle.atoi_core.specs.Digit.{decimal_table}
use Rattle.atoi_core.specs.Run.{zeros}
use Rattle.atoi_core.specs.Words.{low_bytes}
use Rattle.atoi_core.proofs.lemmas.WordWindows.{loaded_window}
use Rattle.atoi_core.proofs.words.WordsEngine.window_8.Goals as goal

pub returns-clause-window : goal.returns-clause-window
returns-clause-window c =
    let len = c.check_len_8-len.result in
    let leading : c.if-len-eq8.result ≡ (if len == 8 then zeros decimal_table (low_bytes 8 c.load_8-word.result) else 0) =
    grind (arith, nat_tests, c.if-len-eq8.branch) in
    search (rules, loaded_window c.args.s.now (λ i. (c.type_inv.s i).fits))
