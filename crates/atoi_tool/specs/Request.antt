-- What a row's words name, and which rows have answers.
use Rattle.std.specs.Prelude.{Option, Some, None, Bool, true, false, List, ℕ, codes, ◌&&◌, not, if◌then◌else◌}
use Rattle.std.specs.Str.{bytes_eq}
use Rattle.atoi_core.specs.IntType.{IntType, u8_type, i8_type, u16_type, i16_type, u32_type, i32_type, u64_type, i64_type, u128_type, i128_type, usize_type, isize_type}
use Rattle.atoi_tool.specs.declared.request.Engine.{Engine}
use Rattle.atoi_tool.specs.declared.request.Engine.TheVariants.{Words, Lanes}
use Rattle.atoi_tool.specs.declared.request.Sign.{Sign}
use Rattle.atoi_tool.specs.declared.request.Sign.TheVariants.{InText, Positive, Negative}
use Rattle.atoi_tool.specs.declared.request.Extent.{Extent}
use Rattle.atoi_tool.specs.declared.request.Extent.TheVariants.{Whole, Prefix}
use Rattle.atoi_tool.specs.declared.request.Integer.{Integer}
use Rattle.atoi_tool.specs.declared.request.Integer.TheVariants.{U8, I8, U16, I16, U32, I32, U64, I64, U128, I128, Usize, Isize}
use Rattle.atoi_tool.specs.declared.request.Flags.{Flags}
use Rattle.atoi_tool.specs.declared.request.Request.{Request}

abbrev pub engine_of : List ℕ → Option Engine
engine_of word =
    if bytes_eq word (codes "w") then Some Words else (if bytes_eq word (codes "l") then Some Lanes
    else None)

abbrev pub call_of : List ℕ → Option (Sign × Extent)
call_of word =
    if bytes_eq word (codes "parse") then Some (InText, Whole) else (if bytes_eq word (codes "pos") then Some (Positive, Whole)
    else (if bytes_eq word (codes "neg") then Some (Negative, Whole) else (if bytes_eq word (codes "prefix") then Some (InText, Prefix)
    else (if bytes_eq word (codes "prefix_pos") then Some (Positive, Prefix)
    else (if bytes_eq word (codes "prefix_neg") then Some (Negative, Prefix) else None)))))

abbrev pub integer_of : List ℕ → Option Integer
integer_of word =
    if bytes_eq word (codes "u8") then Some U8 else (if bytes_eq word (codes "i8") then Some I8
    else (if bytes_eq word (codes "u16") then Some U16 else (if bytes_eq word (codes "i16") then Some I16
    else (if bytes_eq word (codes "u32") then Some U32 else (if bytes_eq word (codes "i32") then Some I32
    else (if bytes_eq word (codes "u64") then Some U64 else (if bytes_eq word (codes "i64") then Some I64
    else (if bytes_eq word (codes "u128") then Some U128 else (if bytes_eq word (codes "i128") then Some I128
    else (if bytes_eq word (codes "usize") then Some Usize
    else (if bytes_eq word (codes "isize") then Some Isize else None)))))))))))

abbrev flags : Bool → Bool → Flags
flags zeroes plus = record { zeroes = zeroes; plus = plus }

-- The flags: `z` or `-` for zeros, `p` or `-` for a plus.
abbrev pub flags_of : List ℕ → Option Flags
flags_of word =
    if bytes_eq word (codes "--") then Some (flags false false)
    else (if bytes_eq word (codes "z-") then Some (flags true false)
    else (if bytes_eq word (codes "-p") then Some (flags false true)
    else (if bytes_eq word (codes "zp") then Some (flags true true) else None)))

-- The facts about a type that its answers depend on.
abbrev pub int_type_of : Integer → IntType
int_type_of U8 = u8_type
int_type_of I8 = i8_type
int_type_of U16 = u16_type
int_type_of I16 = i16_type
int_type_of U32 = u32_type
int_type_of I32 = i32_type
int_type_of U64 = u64_type
int_type_of I64 = i64_type
int_type_of U128 = u128_type
int_type_of I128 = i128_type
int_type_of Usize = usize_type
int_type_of Isize = isize_type

-- A plus needs a sign in the text, and a negative number needs a signed type.
abbrev allows : Sign → (plus signed : Bool) → Bool
allows InText plus signed = true
allows Positive plus signed = not plus
allows Negative plus signed = not plus && signed

-- A row with this request has an answer.
abbrev pub is_known : Request → Bool
is_known request = allows request.sign request.flags.plus (int_type_of request.integer).signed
