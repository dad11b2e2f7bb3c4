-- The digits of EBCDIC.
use Rattle.std.specs.Prelude.{◌-◌, ◌&&◌, nat_le, Some, None, if◌then◌else◌}
use Rattle.atoi_core.specs.Digit.{Table}

-- The bytes 240 to 249 are the digits.
abbrev pub ebcdic_table : Table
ebcdic_table byte = if nat_le 240 byte && nat_le byte 249 then Some (byte - 240) else None
