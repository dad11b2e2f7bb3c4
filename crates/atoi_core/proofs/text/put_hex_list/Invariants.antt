-- Each byte so far takes at most four, with comma and space.
use Rattle.std.proofs.Common.{◌≡◌, ◌+◌, ◌*◌, ◌≤◌, ◌++◌, take, codes, flat_map}
use Rattle.atoi_core.specs.ErrorText.{hex_text}
use Rattle.atoi_core.proofs.text.put_hex_list.Given as goal

abbrev pub invariant-loop-byte : goal.invariant-loop-byte
invariant-loop-byte l = record {
  written : take l.end l.out ≡ take l.initial.end l.initial.out ++ flat_map (λ b. codes ", " ++ hex_text b) (take l.byte-index l.rest);
  fits : l.end ≤ l.initial.end + 4 * l.byte-index;
}
