-- What the naming of entries leans on: the rows that a sum has passed, and refusal 8 of one entry.
use Rattle.theory.proofs.Times.{named_more, named_bound, times_row, fault_none, fault_found}
use Rattle.table.proofs.Scanning.{scan_laws}

pub ruleset sum_laws = (named_more, named_bound, times_row)

pub ruleset naming_laws = (scan_laws, fault_none, fault_found)
