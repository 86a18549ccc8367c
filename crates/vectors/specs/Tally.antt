-- What one answer more makes of a count.
use Rattle.std.specs.Prelude.{Bool, ◌+◌, ◌%◌, ◌^◌, if◌then◌else◌}
use Rattle.vectors.specs.declared.tally.Count.{Count}

abbrev pub no_answers : Count
no_answers = record { answers = 0; alike = 0 }

-- a count may have had 2 ^ 64 - 1 before
abbrev pub with_one : Count → Bool → Count
with_one count alike = record { answers = (count.answers + 1) % 2 ^ 64; alike = (count.alike + (if alike then 1 else 0)) % 2 ^ 64 }
