use Rattle.std.proofs.Common.{rules}
use Rattle.std.proofs.lemmas.Str.{IsUtf8-from_ascii}
use Rattle.atoi_column.proofs.error.ColumnErrorDisplay.fmt.Goals as goal

-- The message is ASCII, so it is valid UTF-8.
pub unwrap-requires : goal.unwrap-requires
unwrap-requires g c = search (rules, IsUtf8-from_ascii)
