-- The exit status, and an error's message.
use Rattle.std.specs.Prelude.{ℕ, List, codes, Bool, true, false, Result, Ok, Err}
use Rattle.atoi_tool.specs.declared.status.ToolError.{ToolError}
use Rattle.atoi_tool.specs.declared.status.ToolError.TheVariants.{Memory, Read, Write}

-- 0 if every line was good, 2 if not.
abbrev pub status_of : Result Bool ToolError → ℕ
status_of (Ok true) = 0
status_of (Ok false) = 2
status_of (Err Memory) = 3
status_of (Err Read) = 4
status_of (Err Write) = 5

-- The message after `atoi_tool: `.
abbrev pub tool_error_text : ToolError → List ℕ
tool_error_text Memory = codes "out of memory"
tool_error_text Read = codes "cannot read input"
tool_error_text Write = codes "cannot write output"
