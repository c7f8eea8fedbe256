use Rattle.std.proofs.Common.{◌≡◌, ◌≤◌, ◌+◌, drop}
use Rattle.line_input.specs.Fields.{digits_from}
use Rattle.line_input.proofs.number_at.Given as goal

abbrev pub invariant-loop-byte : goal.invariant-loop-byte
invariant-loop-byte l =
    record {
      value_bound : l.number.value ≤ 4294967296;
      end_value : l.number.end ≡ l.at + l.byte-index;
      digits_left : digits_from l.base l.number.value l.number.end (drop l.byte-index l.byte-items) ≡ digits_from l.base 0 l.at l.byte-items;
    }
