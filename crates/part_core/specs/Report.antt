-- The lines and the statuses of faults (choices of this project; those of spq where it has the same fault).
use Rattle.std.specs.Prelude.{ℕ, ◌+◌, List, ◌++◌, codes, decimal}
use Rattle.part_core.specs.declared.fault.PartFault.{PartFault}
use Rattle.part_core.specs.declared.fault.PartFault.TheVariants.{BadLine, Version, Damaged, Memory, Read, Write, Line, Query, Split, Sum, Offset}

abbrev pub status_of : PartFault → ℕ
status_of (BadLine k) = 1
status_of Query = 2
status_of Line = 3
status_of Split = 3
status_of Sum = 3
status_of Offset = 3
status_of Memory = 4
status_of Version = 5
status_of Damaged = 5
status_of Read = 5
status_of Write = 5

-- a line is counted from 1
abbrev pub fault_line : PartFault → List ℕ
fault_line (BadLine k) = codes "error: line " ++ (decimal (k + 1) ++ codes "\n")
fault_line Version = codes "error: version\n"
fault_line Damaged = codes "error: damaged\n"
fault_line Memory = codes "error: memory\n"
fault_line Read = codes "error: input\n"
fault_line Write = codes "error: output\n"
fault_line Line = codes "error: command line\n"
fault_line Query = codes "error: query\n"
fault_line Split = codes "error: split\n"
fault_line Sum = codes "error: split\n"
fault_line Offset = codes "error: split\n"
