-- What a run does to source and sink, by outcome.
use Rattle.std.specs.Prelude.{◌≡◌, ℕ, Bool, List, Option, Result, Ok, Err}
use Rattle.std.specs.Io.KnownBytes.{Consumes, IsAtEnd, Appends, Keeps}
use Rattle.atoi_tool.specs.declared.run.Ended.{Ended}
use Rattle.atoi_tool.specs.declared.status.ToolError.{ToolError}
use Rattle.atoi_tool.specs.declared.status.ToolError.TheVariants.{Memory, Read, Write}
use Rattle.atoi_tool.specs.Failures.{AppendsPrefix}
use Rattle.atoi_tool.specs.Output.{output_of, is_good_input}

-- Whether every line was good, or the error.
abbrev pub outcome_of : {I O : Type 0} → Ended I O → Result Bool ToolError
outcome_of ended = ended.outcome

-- All was read, and the whole output written.
abbrev pub IsAnswered : (rest rest_after contents contents_after : Option (List ℕ)) → Bool → Type 0
IsAnswered rest rest_after contents contents_after is_good =
    (input : List ℕ) × Consumes rest rest_after input × IsAtEnd rest_after
    × Appends contents contents_after (output_of input) × (is_good ≡ is_good_input input)

-- All was read, and a proper prefix of the output written.
abbrev pub IsCutShort : (rest rest_after contents contents_after : Option (List ℕ)) → Type 0
IsCutShort rest rest_after contents contents_after =
    (input : List ℕ) × Consumes rest rest_after input × IsAtEnd rest_after
    × AppendsPrefix contents contents_after (output_of input)

-- What holds after a run that an error stopped.
abbrev pub IsStopped : (rest rest_after contents contents_after : Option (List ℕ)) → ToolError → Type 0
IsStopped rest rest_after contents contents_after Memory = Keeps contents contents_after
IsStopped rest rest_after contents contents_after Read = Keeps contents contents_after
IsStopped rest rest_after contents contents_after Write = IsCutShort rest rest_after contents contents_after

-- How many reads were refused where this is the outcome.
abbrev pub refused_reads : {A : Type 0} → Result A ToolError → ℕ
refused_reads (Ok value) = 0
refused_reads (Err Memory) = 0
refused_reads (Err Read) = 1
refused_reads (Err Write) = 0

-- How many writes were refused where this is the outcome.
abbrev pub refused_writes : {A : Type 0} → Result A ToolError → ℕ
refused_writes (Ok value) = 0
refused_writes (Err Memory) = 0
refused_writes (Err Read) = 0
refused_writes (Err Write) = 1
