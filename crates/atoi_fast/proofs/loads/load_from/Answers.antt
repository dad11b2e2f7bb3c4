-- A shift leaves the bytes that `last_bytes` speaks of.
use Rattle.std.proofs.Common.{rules}
use Rattle.atoi_fast.proofs.lemmas.LoadedWords.{last_bytes}
use Rattle.atoi_fast.proofs.loads.load_from.Goals as goal

pub returns-in-Some : goal.returns-in-Some
returns-in-Some c = search (rules, last_bytes)
