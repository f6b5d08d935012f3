-- Machinery: words of private contracts.
-- Joining positions, and the rules of a log.
use Rattle.std.specs.Prelude.{ℕ, ◌+◌, ◌-◌, ◌^◌, ◌==◌, min, List, ◌++◌, length, if◌then◌else◌}
use Rattle.bib_source.specs.declared.positions.Position.{Position}
use Rattle.bibkit_core.specs.Objects.{element}
use Rattle.bibkit_core.specs.Sarif.{Rule, rule_object}

-- the position of the end of two texts, one after the other, from that of the first text and that of the second by itself; a sum is at
-- most 2 ^ 64 - 1
abbrev pub joined_position : Position → Position → Position
joined_position first second =
    record {
      line = min (first.line + (second.line - 1)) (2 ^ 64 - 1);
      column = if second.line == 1 then min (first.column + (second.column - 1)) (2 ^ 64 - 1) else second.column;
    }

-- the elements of an array of rules with one more rule, which has no comma before it if it is the first
abbrev pub with_rule : List ℕ → Rule → List ℕ
with_rule rules rule = rules ++ element (length rules == 0) (rule_object rule)
